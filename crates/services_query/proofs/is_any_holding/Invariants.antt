-- No element passed holds both.
use mathlib.Core.Path.{◌≡◌}
use mathlib.Core.Bool.{false}
use Rattle.folds.specs.Folds.{any_of}
use Rattle.services_query.specs.ServicesQuery.{holds}
use Rattle.services_query.proofs.is_any_holding.Given as goal

abbrev pub invariant-loop-i : goal.invariant-loop-i
invariant-loop-i l = any_of (holds l.payload l.service l.cid) l.i ≡ false
