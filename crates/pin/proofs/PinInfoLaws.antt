-- PIN_INFO: a payload is accepted exactly when it meets the rules in words of fields, and then the record shown is the one at its places; a record
-- is written exactly when its numbers meet them, and reading that returns it.
-- Assumes nothing.
use mathlib.Core.Path.{◌≡◌, refl, sym}
use mathlib.Core.List.{List, []}
use Prim.Native.Nat.{ℕ}
use borrow.Author.Tests.{ltb-false, le-ltb}
use lib.ListN.{length}
use Rattle.wire.specs.Numbers.{u32_at}
use Rattle.wire.proofs.Laws.{num_digits}
use Rattle.protocol.specs.Verdict.{Kept, judge, first_of, exact_length, no_fault, Verdict}
use Rattle.protocol.proofs.Verdicts.{fits_kept, kept_fits, then_kept, kept_then, exact_length_lem, length_exact, written_both, both_written, written_fits, written_front}
use Rattle.pin.specs.declared.pin_info.PinInfo.{PinInfo}
use Rattle.pin.specs.PinInfo.{last_type, record_at, rules, verdict_of, shown, read_of, bytes_of, write_of}
use Rattle.pin.specs.PinInfoClaims.{InfoFits, Acceptable, OfWidth, Accepted, AcceptedExactly, WrittenExactly, RoundTrip}
use Rattle.std.specs.Prelude.{Ok, Err}

info_said : (i : PinInfo) → Kept (rules i) → InfoFits i
unfolding rules
info_said i k = record { type = ltb-false last_type i.pin_type k.0; state = ltb-false 1 i.pin_state k.1.0 }

said_info : (i : PinInfo) → InfoFits i → Kept (rules i)
unfolding rules
said_info i f = (le-ltb last_type i.pin_type f.type, (le-ltb 1 i.pin_state f.state, tt))

shows : (d : Verdict) (i j : PinInfo) → shown d i ≡ Ok j → (d ≡ no_fault) × (i ≡ j)
shows (Ok _) i j e = (refl, cc)
shows (Err r) i j e = absurd cc

-- an accepted payload keeps the rules, and shows the record at its places
pub accepted : Accepted
unfolding read_of verdict_of
accepted s i e =
    let d = shows _ (record_at s) i e in
    let k = then_kept (exact_length 12 (length s)) (rules (record_at s)) d.0 in
    (record { long = exact_length_lem 12 (length s) k.0; info = info_said (record_at s) k.1 }, sym d.1)

pub acceptable : (s : List ℕ) → Acceptable s → read_of s ≡ Ok (record_at s)
unfolding read_of verdict_of
acceptable s a =
    let f : first_of (exact_length 12 (length s)) (judge (rules (record_at s))) ≡ no_fault =
    kept_then (exact_length 12 (length s)) (rules (record_at s)) (length_exact 12 (length s) a.long) (said_info (record_at s) a.info) in
    rw f

pub accepted_exactly : AcceptedExactly
accepted_exactly s = (λ e. (accepted s (record_at s) e).0, acceptable s)

pub said_verdict : (i : PinInfo) → InfoFits i → verdict_of i ≡ no_fault
unfolding verdict_of
said_verdict i f = kept_fits (rules i) (said_info i f)

pub written_exactly : WrittenExactly
unfolding write_of verdict_of bytes_of
written_exactly i s = (
  λ e. let w = written_both (judge (rules i)) (bytes_of i) s 12 e in (info_said i (fits_kept (rules i) w.0), w.1),
  λ w. both_written (judge (rules i)) (bytes_of i) s (kept_fits (rules i) (said_info i w.0)) w.1,
)

-- ---- reading what was written

record_back : (i : PinInfo) → OfWidth i → record_at (bytes_of i) ≡ i
unfolding record_at bytes_of u32_at
record_back i w = λ j. record {
  pin_type = num_digits 4 i.pin_type [] w.type j;
  pin_state = num_digits 4 i.pin_state [] w.state j;
  remaining_attempts = num_digits 4 i.remaining_attempts [] w.attempts j;
}

-- the bytes of a record that fits show the record
pub bytes_read : (i : PinInfo) → OfWidth i → verdict_of i ≡ no_fault → read_of (bytes_of i) ≡ Ok i
unfolding read_of first_of bytes_of
bytes_read i w e = rw (record_back i w, length_exact 12 12 refl, e)

-- what the writer puts into an output shows the record
pub round_trip : RoundTrip
unfolding write_of
round_trip i s n w e = rw (written_front (verdict_of i) (bytes_of i) s n e) (bytes_read i w (written_fits (verdict_of i) (bytes_of i) s n e))

-- and is 12 bytes
pub bytes_long : (i : PinInfo) → length (bytes_of i) ≡ 12
unfolding bytes_of
bytes_long i = refl
