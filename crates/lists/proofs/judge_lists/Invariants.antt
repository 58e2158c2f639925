-- The pairs passed fit, each with its list.
use mathlib.Core.Path.{◌≡◌}
use Rattle.lists.specs.Lists.{there, lists_verdict}
use Rattle.lists.proofs.judge_lists.Given as goal
use Rattle.protocol.specs.Verdict.{no_fault}

abbrev pub invariant-loop-i : goal.invariant-loop-i
invariant-loop-i l = lists_verdict l.zero_size (there l.form) l.fixed l.place l.payload l.first l.i ≡ no_fault
