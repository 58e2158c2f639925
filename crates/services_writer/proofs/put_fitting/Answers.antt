-- One word more, in its part of the output.
use Rattle.std.proofs.Common.{◌+◌, ◌*◌, ◌-◌, refl, arith}
use Rattle.wire.specs.Numbers.{digits}
use Rattle.wire.proofs.Laws.{part_filled}
use Rattle.folds.specs.Folds.{joined}
use Rattle.services_writer.proofs.Laws.{cid_next}
use Rattle.services_writer.proofs.put_fitting.Goals as goal

pub loop-i-init : goal.loop-i-init
unfolding joined
loop-i-init c = refl

pub loop-i-preserved : goal.loop-i-preserved
loop-i-preserved c =
    let a = c.args in
    let v = c.loop-i in
    let place = a.at + 4 * v.i in
    cid_next a.words.now a.out.now a.at v.i v.invariant refl (part_filled (digits 4 _) v.out place (place + 4 - place) (omega arith) (omega arith) c.put_u32.ensures)
