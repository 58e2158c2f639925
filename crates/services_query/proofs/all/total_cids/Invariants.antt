-- The sum of the counts passed; no count is over 32 bits.
use mathlib.Core.Path.{◌≡◌}
use Prim.Native.Nat.{◌*◌, ◌≤◌}
use Rattle.folds.specs.Folds.{sum_of}
use Rattle.services_query.specs.ServicesQuery.{cids_of_element}
use Rattle.services_query.proofs.all.total_cids.Given as goal

abbrev pub invariant-loop-i : goal.invariant-loop-i
invariant-loop-i l = (l.total ≡ sum_of (cids_of_element l.payload) l.i) × (l.total ≤ l.i * 4294967295)
