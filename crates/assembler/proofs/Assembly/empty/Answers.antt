-- No progress and a buffer of zeros.
use Rattle.assembler.specs.Assembly.{empty}
use Rattle.assembler.proofs.Assembly.empty.Goals as goal

pub returns : goal.returns
unfolding empty
returns c = rw c.none.ensures
