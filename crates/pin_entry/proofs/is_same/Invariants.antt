-- The bytes so far, where the lengths agree.
use mathlib.Core.Path.{◌≡◌}
use lib.ListN.{length, take}
use Rattle.pin_entry.specs.PinTable.{same_text}
use Rattle.pin_entry.proofs.is_same.Given as goal

abbrev pub invariant-loop-i : goal.invariant-loop-i
invariant-loop-i l = length l.pin ≡ l.n → l.same ≡ same_text (take l.i l.secret) (take l.i l.pin)
