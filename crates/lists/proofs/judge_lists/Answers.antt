use mathlib.Core.Path.{sym, ◌∙◌}
use native.Mathlib.Omega.{arith}
use Rattle.std.proofs.Common.{rules}
use Rattle.lists.specs.Lists.{there}
use Rattle.lists.proofs.Behind.{list_passed, list_decides}
use Rattle.lists.proofs.judge_lists.Goals as goal

pub returns-in_err-judge_there : goal.returns-in_err-judge_there
returns-in_err-judge_there c =
    let a = c.args in
    let d = list_decides a.zero_size (there a.form) a.fixed a.place a.first c.loop-i.i a.end a.payload.now (omega arith) (omega arith) c.loop-i.invariant (sym c.judge_there.ensures ∙ c.in_err-judge_there.was) in
    rw d (search rules)

pub loop-i-preserved : goal.loop-i-preserved
loop-i-preserved c =
    let a = c.args in
    list_passed a.zero_size (there a.form) a.fixed a.place a.first c.loop-i.i a.payload.now (omega arith) c.loop-i.invariant (sym c.judge_there.ensures ∙ c.in_ok-judge_there.was)
