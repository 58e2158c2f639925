use Rattle.std.proofs.Common.{arith, length-drop, length-take}
use Rattle.cutter.proofs.Stored.{stored_length}
use Rattle.cutter.proofs.Later.{begin, room, turn, finish}
use Rattle.cutter.proofs.put_later.Goals as goal

pub loop-number-init : goal.loop-number-init
loop-number-init c = begin _ _ _ _ _ _ _ c.requires.from_in_bounds.2 c.requires.from_in_bounds.0 c.requires.from_in_bounds.4

pub put_fragment-requires : goal.put_fragment-requires
put_fragment-requires c =
    let a = c.args in
    let n = c.min-amount.result in
    let room = room a.message a.each a.total a.information.now a.from a.out.now a.at n c.loop-number.invariant c.loop-number-test.true c.min-amount.ensures c.requires.information_in_bounds in
    (simp (length-take, length-drop) (omega (arith, room, c.min-amount.ensures)), simp (length-take, length-drop) (omega (arith, c.min-amount.ensures, c.requires.from_in_bounds.1)))

pub loop-number-preserved : goal.loop-number-preserved
loop-number-preserved c = turn _ _ _ _ _ _ _ c.min-amount.result c.requires.from_in_bounds.1 c.loop-number.invariant c.loop-number-test.true c.min-amount.ensures c.put_fragment.ensures

pub shape_of-out : goal.shape_of-out
shape_of-out c = let a = c.args in stored_length a.out.now a.at c.loop-number.invariant.w c.loop-number.invariant.is

pub returns : goal.returns
returns c = finish _ _ _ _ _ _ _ c.loop-number.invariant c.loop-number-test.false
