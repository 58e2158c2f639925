-- Each size passed fits, and the end is where the next element starts; then, the pairs and elements passed are stored.
use Rattle.std.proofs.Common.{◌≡◌, ◌+◌, ◌*◌, ◌≤◌}
use lib.Seq.{sets}
use Rattle.protocol.specs.Verdict.{no_fault}
use Rattle.folds.specs.Folds.{first_fault, joined}
use Rattle.device_services.specs.DeviceServices.{fixed_part}
use Rattle.services_writer.specs.ServicesWriter.{start_of, size_verdict, pair_bytes, piece}
use Rattle.services_writer.proofs.write_listed.Given as goal

abbrev pub invariant-loop-i : goal.invariant-loop-i
invariant-loop-i l = (first_fault (size_verdict l.list) l.i ≡ no_fault) × (l.end ≡ start_of l.list l.i) × (l.end ≤ 264 + 540 * l.i)

abbrev pub invariant-loop-number : goal.invariant-loop-number
invariant-loop-number l = (l.start ≡ start_of l.list l.number) × (l.out ≡ sets (sets l.initial.out 8 (joined (pair_bytes l.list) l.number)) (fixed_part l.list.device_services_count) (joined (piece l.list) l.number))
