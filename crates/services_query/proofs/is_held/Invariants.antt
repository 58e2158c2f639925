-- No CID passed is the one asked for.
use mathlib.Core.Path.{◌≡◌}
use mathlib.Core.Bool.{false}
use Rattle.folds.specs.Folds.{any_of}
use Rattle.services_query.specs.ServicesQuery.{is_cid}
use Rattle.services_query.proofs.is_held.Given as goal

abbrev pub invariant-loop-k : goal.invariant-loop-k
invariant-loop-k l = any_of (is_cid l.payload l.offset l.cid) l.k ≡ false
