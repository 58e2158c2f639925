-- The first and the last bytes are right, two runs more at each step, until they meet.
use mathlib.Core.Path.{refl}
use Prim.Native.Nat.{◌-◌}
use lib.ListN.{length}
use native.Mathlib.Omega.{arith}
use Rattle.wire.proofs.Runs.{ends_none, ends_next, ends_meet}
use Rattle.wire.proofs.copy_in_runs.Goals as goal

pub returns-then-t-le32 : goal.returns-then-t-le32
returns-then-t-le32 c = let t = c.args.t.now in let r0 = ends_none c.args.out.now t c.requires.0 in let r16 = ends_next _ t 0 16 (length t - 16 - 0) c.requires.1 (omega arith) r0 refl c.put_ends.ensures in ends_meet _ t 16 (omega arith) r16

pub returns : goal.returns
returns c = let t = c.args.t.now in let r0 = ends_none c.args.out.now t c.requires.0 in let r16 = ends_next _ t 0 16 (length t - 16 - 0) c.requires.1 (omega arith) r0 refl c.put_ends.ensures in let r32 = ends_next _ t 16 16 (length t - 16 - 16) (omega arith) (omega arith) r16 refl c.put_ends-2.ensures in ends_meet _ t 32 c.requires.2 r32
