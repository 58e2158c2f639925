-- The words passed are stored.
use Rattle.std.proofs.Common.{◌≡◌}
use lib.Seq.{sets}
use Rattle.services_writer.specs.ServicesWriter.{cid_bytes}
use Rattle.services_writer.proofs.put_fitting.Given as goal

abbrev pub invariant-loop-i : goal.invariant-loop-i
invariant-loop-i l = l.out ≡ sets l.initial.out l.at (cid_bytes l.words l.i)
