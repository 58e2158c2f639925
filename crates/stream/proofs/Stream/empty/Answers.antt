-- The assembly is empty.
use Rattle.stream.specs.Stream.{empty_stream}
use Rattle.stream.proofs.Stream.empty.Goals as goal

pub returns : goal.returns
unfolding empty_stream
returns c = rw c.empty.ensures
