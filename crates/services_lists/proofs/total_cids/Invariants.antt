-- Each size passed fits, so the total is small.
use Rattle.std.proofs.Common.{◌≡◌, ◌*◌, ◌≤◌}
use Rattle.protocol.specs.Verdict.{no_fault}
use Rattle.folds.specs.Folds.{first_fault}
use Rattle.services_writer.specs.ServicesWriter.{size_verdict}
use Rattle.services_lists.specs.ServicesLists.{cids_before, bare_of}
use Rattle.services_lists.proofs.total_cids.Given as goal

abbrev pub invariant-loop-i : goal.invariant-loop-i
invariant-loop-i l = (first_fault (size_verdict (bare_of l.elements.fields.now)) l.i ≡ no_fault) × (l.total ≡ cids_before l.elements.fields.now l.i) × (l.total ≤ 128 * l.i)
