-- No element passed is of the service.
use mathlib.Core.Path.{◌≡◌}
use mathlib.Core.Bool.{false}
use Rattle.folds.specs.Folds.{any_of}
use Rattle.services_query.specs.ServicesQuery.{is_of}
use Rattle.services_query.proofs.index_of.Given as goal

abbrev pub invariant-loop-i : goal.invariant-loop-i
invariant-loop-i l = any_of (is_of l.payload l.service) l.i ≡ false
