-- The first run and the last meet.
use mathlib.Core.Path.{sym, ap, ◌∙◌}
use Prim.Native.Nat.{◌-◌}
use native.Mathlib.Omega.{arith}
use lib.ListN.{length}
use lib.Seq.{sets}
use Rattle.wire.proofs.Laws.{fitted_all, sets_all}
use Rattle.wire.proofs.Runs.{ends_none, ends_next, ends_meet}
use Rattle.wire.proofs.copy_few.Goals as goal

pub returns-then-n-lt8 : goal.returns-then-n-lt8
returns-then-n-lt8 c = let a = c.args in c.put_each.ensures ∙ ap (sets a.out.now 0) (fitted_all a.t.now) ∙ sets_all a.t.now a.out.now (sym c.requires.0)

pub returns : goal.returns
returns c = let s = c.args.out.now in let t = c.args.t.now in let b = length t - 8 in let first = c.put_eight.ensures ∙ ap (sets s 0) c.eight_at.ensures in let last = c.put_eight-2.ensures ∙ ap (sets c.put_eight.new.out b) c.eight_at-2.ensures in ends_meet _ t 8 (omega arith) (ends_next s t 0 8 b (omega arith) (omega arith) (ends_none s t c.requires.0) first last)
