-- The rows passed fit, so that those left decide.
use mathlib.Core.Path.{◌≡◌}
use Rattle.texts.proofs.Rows.{verdict_from}
use Rattle.texts.proofs.judge_texts.Given as goal

abbrev pub invariant-loop-i : goal.invariant-loop-i
invariant-loop-i l = verdict_from l.zero_size l.fixed l.payload l.rows 0 ≡ verdict_from l.zero_size l.fixed l.payload l.rows l.i
