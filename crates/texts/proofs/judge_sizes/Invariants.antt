-- The sizes passed fit, so that those left decide.
use mathlib.Core.Path.{◌≡◌}
use Rattle.protocol.specs.Verdict.{judge}
use Rattle.texts.proofs.Rows.{sizes_from}
use Rattle.texts.proofs.judge_sizes.Given as goal

abbrev pub invariant-loop-i : goal.invariant-loop-i
invariant-loop-i l = judge (sizes_from l.rows l.sizes 0) ≡ judge (sizes_from l.rows l.sizes l.i)
