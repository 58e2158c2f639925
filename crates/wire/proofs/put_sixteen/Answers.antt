-- One run behind the other.
use mathlib.Core.Path.{ap, ◌∙◌}
use Prim.Native.Nat.{◌+◌}
use native.Mathlib.Omega.{arith}
use lib.Seq.{sets}
use Rattle.wire.proofs.Runs.{run_behind}
use Rattle.wire.proofs.put_sixteen.Goals as goal

pub returns : goal.returns
returns c = let a = c.args in run_behind a.out.now a.t.now a.at 8 8 (omega arith) (c.put_eight.ensures ∙ ap (sets a.out.now a.at) c.eight_at-first.ensures) (c.put_eight-2.ensures ∙ ap (sets c.put_eight.new.out (a.at + 8)) c.eight_at-second.ensures)
