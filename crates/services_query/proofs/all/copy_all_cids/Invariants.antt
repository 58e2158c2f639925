-- The CIDs of the elements passed stand at the front of the list.
use mathlib.Core.Path.{◌≡◌}
use lib.Seq.{sets}
use Rattle.folds.specs.Folds.{sum_of}
use Rattle.services_query.specs.ServicesQuery.{cids_of_element, all_cids}
use Rattle.services_query.proofs.all.copy_all_cids.Given as goal

abbrev pub invariant-loop-i : goal.invariant-loop-i
invariant-loop-i l = (l.at ≡ sum_of (cids_of_element l.payload) l.i) × (l.cids ≡ sets l.initial.cids 0 (all_cids l.payload l.i))
