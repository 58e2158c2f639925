-- Each turn takes some of the chunk.
use Rattle.std.proofs.Common.{length, ◌-◌}
use Rattle.replay.proofs.Session.replay_chunk.Given as goal

abbrev pub decreases-loop-from : goal.decreases-loop-from
decreases-loop-from l = length l.chunk - l.from
