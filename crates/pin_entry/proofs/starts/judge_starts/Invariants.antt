-- The rows so far have no fault.
use mathlib.Core.Path.{◌≡◌}
use Rattle.folds.specs.Folds.{first_fault}
use Rattle.protocol.specs.Verdict.{no_fault}
use Rattle.pin_entry.specs.Meaning.{start_verdict}
use Rattle.pin_entry.proofs.starts.judge_starts.Given as goal

abbrev pub invariant-loop-i : goal.invariant-loop-i
invariant-loop-i l = first_fault (start_verdict l.starts.rows) l.i ≡ no_fault
