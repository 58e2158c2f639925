-- What came has room.
use Rattle.std.proofs.Common.{◌≤◌, ◌-◌, length}
use Rattle.sample_lines.proofs.tally.read_full.Given as goal

abbrev pub invariant-loop-done : goal.invariant-loop-done
invariant-loop-done l = l.done ≤ length l.into

abbrev pub decreases-loop-done : goal.decreases-loop-done
decreases-loop-done l = length l.into - l.done
