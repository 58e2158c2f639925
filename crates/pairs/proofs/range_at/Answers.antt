-- Both numbers are read from the pair's part where all of it is there; past the end both are zero.
use Prim.Native.Nat.{◌+◌}
use native.Mathlib.Omega.{arith}
use Rattle.wire.specs.Numbers.{u32_at}
use Rattle.wire.proofs.Laws.{num_out, word_in, first_in}
use Rattle.pairs.specs.Pair.{range_at}
use Rattle.pairs.proofs.range_at.Goals as goal

pub returns-then-place-payload : goal.returns-then-place-payload
unfolding range_at
returns-then-place-payload c =
    let s = c.args.payload.now in
    let at = c.args.place in
    rw (first_in s at 8 (omega arith) c.u32_at.ensures, word_in s at 8 4 (omega arith) c.u32_at-then-place-payload.ensures)

pub returns-then-payload-place : goal.returns-then-payload-place
unfolding range_at u32_at
returns-then-payload-place c = rw (num_out 4 c.args.payload.now c.args.place c.if-payload-place.true, num_out 4 c.args.payload.now (c.args.place + 4) (omega arith))

pub returns : goal.returns
unfolding range_at
returns c = rw (c.u32_at-2.ensures, c.u32_at-3.ensures)
