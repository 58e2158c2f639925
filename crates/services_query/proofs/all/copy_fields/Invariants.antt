-- The elements passed stand at the front of the list.
use mathlib.Core.Path.{◌≡◌}
use lib.Seq.{sets}
use Rattle.services_query.specs.ServicesQuery.{all_fields}
use Rattle.services_query.proofs.all.copy_fields.Given as goal

abbrev pub invariant-loop-i : goal.invariant-loop-i
invariant-loop-i l = l.fields ≡ sets l.initial.fields 0 (all_fields l.payload l.i)
