-- What a writer stores of an array's first entries, and where.
-- Assumes nothing.
use mathlib.Core.Path.{◌≡◌, sym, ap, ◌∙◌}
use mathlib.Core.Bool.{true, cond}
use mathlib.Core.List.{List, [], ◌++◌}
use Prim.Native.Nat.{ℕ, ◌+◌, ◌-◌, ◌≤◌, ◌<◌}
use native.Mathlib.Omega.{arith}
use lib.Dec.{eqb}
use lib.ListN.{length, take, drop}
use Rattle.std.proofs.lemmas.List.{length-take-le, get_or-take}
use lib.Seq.{sets}
use Rattle.wire.specs.Numbers.{digits}
use Rattle.wire.specs.Output.{over}
use Rattle.wire.proofs.Laws.{sets_over, sets_then, front_filled, part_filled}
use Rattle.protocol.specs.Verdict.{judge}
use Rattle.folds.proofs.Laws.{fault_same, any_at, any_same, join_same, join_next}
use Rattle.pairs.specs.Pair.{placed, range_bytes}
use Rattle.signal_state.specs.declared.RsrpSnr.{RsrpSnr}
use Rattle.signal_state.specs.declared.SignalState.{SignalState}
use Rattle.signal_state.specs.SignalState.{entry_place, entry_rules, entries_verdict, is_known, any_known, entry_in, size_of, number_bytes, entry_bytes, entries_bytes, list_bytes, listed_bytes}
use Rattle.signal_state.proofs.Laws.{length_numbers, length_entry, length_entries, length_listed, list_stored}

-- ---- the first n entries of an array

module _ (es : List RsrpSnr) (n : ℕ) (h : n ≤ length es) where
  pub listed_entries : entries_verdict 28 (entry_in (take n es)) (length (take n es)) ≡ entries_verdict 28 (entry_in es) n
  unfolding entries_verdict
  listed_entries =
      rw (length-take-le n es h) (fault_same (λ i. judge (entry_rules (entry_place 28 i) (entry_in (take n es) i))) (λ i. judge (entry_rules (entry_place 28 i) (entry_in es i))) n
      (λ i l. ap (λ (e : RsrpSnr). judge (entry_rules (entry_place 28 i) e)) (get_or-take n es i _ l)))

  pub listed_known : any_known (entry_in (take n es)) (length (take n es)) ≡ any_known (entry_in es) n
  unfolding any_known
  listed_known = rw (length-take-le n es h) (any_same (λ i. is_known (entry_in (take n es) i)) (λ i. is_known (entry_in es i)) n (λ i l. ap is_known (get_or-take n es i _ l)))

  pub listed_bytes_of : entries_bytes (length (take n es)) (entry_in (take n es)) ≡ entries_bytes n (entry_in es)
  unfolding entries_bytes
  listed_bytes_of = rw (length-take-le n es h) (join_same (λ i. entry_bytes (entry_in (take n es) i)) (λ i. entry_bytes (entry_in es i)) n (λ i l. ap entry_bytes (get_or-take n es i _ l)))

  pub listed_length : n ≡ length (take n es)
  listed_length = sym (length-take-le n es h)

pub known_at : (f : ℕ → RsrpSnr) (n i : ℕ) → i < n → is_known (f i) ≡ true → any_known f n ≡ true
unfolding any_known
known_at f n i h e = any_at (λ j. is_known (f j)) n i h e

-- ---- stores

pub numbers_stored : (p : SignalState) (s : List ℕ) {t : List ℕ} → 20 ≤ length s → t ≡ sets (take 20 s) 0 (number_bytes p) → t ++ drop 20 s ≡ over (number_bytes p) s
numbers_stored p s h q = front_filled (number_bytes p) s 20 (length_numbers p) h q ∙ sets_over (number_bytes p) s (omega (arith, length_numbers p))

-- an entry into its part
pub entry_stored : (e : RsrpSnr) (s : List ℕ) (at i : ℕ) {t : List ℕ} → at ≡ entry_place 28 i → at + 20 ≤ length s → t ≡ sets (take (at + 20 - at) (drop at s)) 0 (entry_bytes e)
    → take at s ++ (t ++ drop (at + 20 - at) (drop at s)) ≡ sets s (entry_place 28 i) (entry_bytes e)
entry_stored e s at i p h q =
    part_filled (entry_bytes e) s at (at + 20 - at) (omega (arith, length_entry e)) (omega arith) q ∙ ap (λ (k : ℕ). sets s k (entry_bytes e)) p

-- one entry more
pub entries_join : (f : ℕ → RsrpSnr) (s : List ℕ) (i : ℕ) {s₁ s₂ : List ℕ} → s₁ ≡ sets s 32 (entries_bytes i f) → s₂ ≡ sets s₁ (entry_place 28 i) (entry_bytes (f i))
    → s₂ ≡ sets s 32 (entries_bytes (i + 1) f)
unfolding entries_bytes
entries_join f s i p q = join_next (λ j. entry_bytes (f j)) i 32 s p (omega (arith, length_entries i f)) q

-- the numbers, the pair with the count, and the first n entries of an array
pub listed_stored : (p : SignalState) (n : ℕ) (es : List RsrpSnr) (s : List ℕ) {t s₂ s₃ : List ℕ} → n ≤ length es → 28 + size_of n ≤ length s
    → t ≡ sets (take 20 s) 0 (number_bytes p) → s₂ ≡ sets (t ++ drop 20 s) 20 (range_bytes (placed 28 (size_of n)) ++ cond (eqb n 0) [] (digits 4 n))
    → s₃ ≡ sets s₂ 32 (entries_bytes (length (take n es)) (entry_in (take n es))) → s₃ ≡ over (listed_bytes p n (entry_in es)) s
unfolding listed_bytes
listed_stored p n es s {s₂ = s₂} h room a b c =
    let f = entry_in es in
    let front = front_filled (number_bytes p) s 20 (length_numbers p) (omega (arith, room)) a in
    let list = list_stored n f _ b (c ∙ ap (sets s₂ 32) (listed_bytes_of es n h)) in
    sets_then (number_bytes p) (list_bytes n f) 0 20 s (length_numbers p) front list
    ∙ sets_over (listed_bytes p n f) s (omega (arith, room, length_listed p n f))
