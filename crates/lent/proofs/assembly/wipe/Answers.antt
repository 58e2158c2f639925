-- The front filled with zeros.
use Rattle.lent.proofs.Memory.{front_cleared}
use Rattle.lent.proofs.assembly.wipe.Goals as goal

pub returns-then-size-memory-clause-filled : goal.returns-then-size-memory-clause-filled
returns-then-size-memory-clause-filled c l = rw c.clear.ensures (front_cleared c.args.size c.args.memory.now l)
