-- By the choice.
use Rattle.pairs.specs.Pair.{if_strict}
use Rattle.pairs.proofs.if_strict.Goals as goal

pub returns-in-Absent : goal.returns-in-Absent
unfolding if_strict
returns-in-Absent c = rw c.in-Absent.is

pub returns-in-Strict : goal.returns-in-Strict
unfolding if_strict
returns-in-Strict c = rw c.in-Strict.is
