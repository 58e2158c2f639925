-- The place stays within the arguments.
use Rattle.std.proofs.Common.{◌≤◌}
use Rattle.payload_samples.proofs.services.elements_of.Given as goal

abbrev pub invariant-loop-i : goal.invariant-loop-i
invariant-loop-i l = l.place ≤ 65535
