-- An accepted payload has at most 16 entries, and the rows of entries are put one behind the other.
-- Assumes nothing.
use mathlib.Core.Path.{◌≡◌, ap}
use mathlib.Core.Logic.{◌⊎◌, inl, inr}
use mathlib.Core.List.{List}
use Prim.Native.Nat.{ℕ, ◌≤◌}
use native.Mathlib.Omega.{arith}
use borrow.Author.Tests.{eq-eqb}
use lib.ListN.{length, take}
use lib.Seq.{get_or-take, length-take-le}
use Rattle.folds.proofs.Laws.{join_same}
use Rattle.protocol.specs.declared.Version.{Version}
use Rattle.protocol.specs.declared.Version.TheVariants.{V1, V2}
use Rattle.pairs.specs.Pair.{range_at}
use Rattle.signal_state.specs.SignalState.{count_at, state_at, record_at, read_with, entry_in, zero_entry}
use Rattle.pairs.specs.declared.ZeroSize.{ZeroSize}
use Rattle.signal_state.specs.Claims.{CountFits, Acceptable}
use Rattle.signal_state.specs.declared.SignalState.{SignalState}
use Rattle.signal_state.specs.declared.RsrpSnr.{RsrpSnr}
use Rattle.signal_state.proofs.Acceptance.{accepted}
use Rattle.entry_rows.specs.Signals.{entry_rows, entries_rows, count_of}
use Rattle.std.specs.Prelude.{Ok}

few : (s : List ℕ) → ((range_at s 20).length ≡ 0) ⊎ CountFits (range_at s 20) (count_at s) → count_at s ≤ 16
few s (inl e) = rw (eq-eqb (range_at s 20).length 0 e) (omega arith)
few s (inr f) = f.most

few_at : (v : Version) (z : ZeroSize) (s : List ℕ) → Acceptable v z s → count_of (record_at v s).form ≤ 16
unfolding state_at
few_at V1 z s a = omega arith
few_at V2 z s a = few s a.form.1.1.list

pub few_entries : (v : Version) (z : ZeroSize) (s : List ℕ) {p : SignalState} → (read_with v z s).answer ≡ Ok p → count_of p.form ≤ 16
few_entries v z s {p} e =
    let k = accepted v z s p (read_with v z s).entries (λ i. record { answer = e i; entries = (read_with v z s).entries }) in
    rw k.1.0 (few_at v z s k.0)

-- the rows of the first n entries alone
pub front_entries : (es : List RsrpSnr) (n : ℕ) → n ≤ length es → entries_rows (take n es) (length (take n es)) ≡ entries_rows es n
unfolding entries_rows
front_entries es n h =
    rw (length-take-le n es h)
    (join_same (λ i. entry_rows i (entry_in (take n es) i)) (λ i. entry_rows i (entry_in es i)) n (λ i l. ap (entry_rows i) (get_or-take n es i zero_entry l)))
