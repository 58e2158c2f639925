-- The elements passed are stored, and where the next one and its CIDs start is known.
use Rattle.std.proofs.Common.{◌≡◌}
use lib.Seq.{sets}
use Rattle.folds.specs.Folds.{joined}
use Rattle.device_services.specs.DeviceServices.{fixed_part}
use Rattle.services_writer.specs.ServicesWriter.{start_of, piece}
use Rattle.services_lists.specs.ServicesLists.{count_of, cids_before, record_of}
use Rattle.services_lists.proofs.put_elements.Given as goal

abbrev pub invariant-loop-i : goal.invariant-loop-i
invariant-loop-i l =
    (l.from ≡ cids_before l.elements.fields.now l.i) × (l.start ≡ start_of (record_of 0 l.elements.fields.now l.cids) l.i)
    × (l.out ≡ sets l.initial.out (fixed_part (count_of l.elements.fields.now)) (joined (piece (record_of 0 l.elements.fields.now l.cids)) l.i))
