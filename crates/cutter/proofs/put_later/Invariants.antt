-- The loop's invariant: some fragments are written, and what is left of them is still to come.
use Rattle.cutter.proofs.Later.{Going}
use Rattle.cutter.proofs.put_later.Given as goal

abbrev pub invariant-loop-number : goal.invariant-loop-number
invariant-loop-number l = Going l.message l.each l.total l.information l.from l.initial.out l.at l.out l.number l.position l.end
