-- The loop's invariant: the first i bytes stand in the output.
use mathlib.Core.Path.{◌≡◌}
use lib.Seq.{sets}
use Rattle.wire.specs.Output.{fitted}
use Rattle.wire.proofs.put_each.Given as goal

abbrev pub invariant-loop-i : goal.invariant-loop-i
invariant-loop-i l = l.out ≡ sets l.initial.out l.at (fitted l.i l.t)
