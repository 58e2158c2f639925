-- The rows so far have no fault.
use mathlib.Core.Path.{◌≡◌}
use Rattle.folds.specs.Folds.{first_fault}
use Rattle.protocol.specs.Verdict.{no_fault}
use Rattle.lent_pins.specs.LentPins.{row_verdict}
use Rattle.lent_pins.proofs.judge_pins.Given as goal

abbrev pub invariant-loop-i : goal.invariant-loop-i
invariant-loop-i l = first_fault (row_verdict l.memory) l.i ≡ no_fault
