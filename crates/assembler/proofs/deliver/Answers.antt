-- Two stores, one after the other, from the front.
use native.Mathlib.Omega.{arith}
use lib.ListN.{take, length-take}
use Rattle.assembler.proofs.Laws.{information_stored}
use Rattle.assembler.proofs.deliver.Goals as goal

pub returns : goal.returns
returns c = information_stored (take c.args.gathered c.args.bytes.now) c.args.source.now c.args.out.now c.args.gathered (simp length-take (omega arith)) c.requires.1 c.put_bytes.ensures c.put_bytes-2.ensures
