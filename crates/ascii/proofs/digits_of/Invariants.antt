-- The loop's invariant: the digits of what is left and those stored are the whole text.
use Rattle.ascii.specs.Ascii.{decimal}
use Rattle.ascii.proofs.Laws.{Stage}
use Rattle.ascii.proofs.digits_of.Given as goal

abbrev pub invariant-loop-rest : goal.invariant-loop-rest
invariant-loop-rest l = Stage (decimal l.n) l.i l.rest l.bytes

abbrev pub decreases-loop-rest : goal.decreases-loop-rest
decreases-loop-rest l = l.i
