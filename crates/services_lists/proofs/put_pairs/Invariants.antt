-- The pairs passed are stored, and the next element's start is known.
use Rattle.std.proofs.Common.{◌≡◌}
use lib.Seq.{sets}
use Rattle.folds.specs.Folds.{joined}
use Rattle.services_writer.specs.ServicesWriter.{start_of, pair_bytes}
use Rattle.services_lists.specs.ServicesLists.{bare_of}
use Rattle.services_lists.proofs.put_pairs.Given as goal

abbrev pub invariant-loop-i : goal.invariant-loop-i
invariant-loop-i l = (l.start ≡ start_of (bare_of l.elements.fields.now) l.i) × (l.out ≡ sets l.initial.out 8 (joined (pair_bytes (bare_of l.elements.fields.now)) l.i))
