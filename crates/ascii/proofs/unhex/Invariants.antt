-- The loop's invariant: the first i bytes stand in the output.
use mathlib.Core.Path.{◌≡◌}
use lib.Seq.{sets}
use Rattle.ascii.specs.Ascii.{unhexed}
use Rattle.ascii.proofs.unhex.Given as goal

abbrev pub invariant-loop-i : goal.invariant-loop-i
invariant-loop-i l = l.out ≡ sets l.initial.out 0 (unhexed l.i l.s)
