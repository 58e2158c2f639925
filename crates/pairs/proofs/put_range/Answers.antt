-- Past the end nothing is stored; else the two numbers, one after the other.
use mathlib.Core.Path.{refl, sym}
use Rattle.wire.specs.Numbers.{digits}
use Rattle.wire.proofs.Laws.{sets_out, sets_then}
use Rattle.pairs.specs.Pair.{range_bytes}
use Rattle.pairs.proofs.put_range.Goals as goal

pub returns-then-out-place : goal.returns-then-out-place
returns-then-out-place c = sym (sets_out (range_bytes c.args.pair) c.args.out.now _ c.if-out-place.true)

pub returns : goal.returns
unfolding range_bytes
returns c = sets_then (digits 4 c.args.pair.start) (digits 4 c.args.pair.length) c.args.place 4 c.args.out.now refl c.put_u32.ensures c.put_u32-2.ensures
