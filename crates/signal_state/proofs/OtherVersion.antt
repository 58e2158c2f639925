-- The other version's reader refuses a writer's bytes by their length: those of 2.00 are too long, those of 1.00 too short.
-- Assumes nothing.
use mathlib.Core.Path.{◌≡◌, ap, ◌∙◌}
use Prim.Native.Nat.{ℕ, ◌+◌}
use native.Mathlib.Omega.{arith}
use Rattle.protocol.specs.Refusal.{refusal, too_short, wrong_length}
use Rattle.protocol.specs.Verdict.{first_of}
use Rattle.protocol.specs.declared.Version.TheVariants.{V1, V2}
use Rattle.protocol.proofs.Verdicts.{length_long, open_short}
use Rattle.pairs.specs.declared.ZeroSize.{ZeroSize}
use Rattle.signal_state.specs.declared.RsrpSnr.{RsrpSnr}
use Rattle.signal_state.specs.declared.SignalForm.{SignalForm}
use Rattle.signal_state.specs.declared.SignalState.{SignalState}
use Rattle.signal_state.specs.SignalState.{head_of, verdict_at, refused, read_with, entry_in, size_of, number_bytes, listed_bytes, bytes_in}
use Rattle.signal_state.proofs.Laws.{length_numbers, length_listed}
use Rattle.signal_state.specs.Claims.{LaterReadEarlier, EarlierReadLater}

listed_long : (choice : ZeroSize) (p : SignalState) (n : ℕ) (f : ℕ → RsrpSnr) → read_with V1 choice (listed_bytes p n f) ≡ refused (refusal wrong_length (28 + size_of n))
unfolding read_with verdict_at first_of
listed_long choice p n f = rw (length_listed p n f, length_long 20 (28 + size_of n) (omega arith))

numbers_short : (choice : ZeroSize) (p : SignalState) → read_with V2 choice (number_bytes p) ≡ refused (refusal too_short 20)
unfolding read_with verdict_at head_of first_of
numbers_short choice p = rw (length_numbers p, open_short 28 20 (omega arith))

pub later_read_earlier : LaterReadEarlier
later_read_earlier choice p es n e = ap (λ (g : SignalForm). read_with V1 choice (bytes_in g p (entry_in es))) e ∙ listed_long choice p n (entry_in es)

pub earlier_read_later : EarlierReadLater
earlier_read_later choice p es e = ap (λ (g : SignalForm). read_with V2 choice (bytes_in g p (entry_in es))) e ∙ numbers_short choice p
