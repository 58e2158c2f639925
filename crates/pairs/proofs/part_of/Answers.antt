-- By the end.
use mathlib.Core.Path.{◌≡◌}
use Prim.Native.Nat.{◌+◌, ◌-◌}
use native.Mathlib.Omega.{arith}
use borrow.Author.Tests.{lt-ltb, le-ltb}
use Rattle.pairs.specs.Pair.{part_of}
use Rattle.pairs.proofs.part_of.Goals as goal

pub returns-then-payload-end : goal.returns-then-payload-end
unfolding part_of
returns-then-payload-end c = rw (lt-ltb _ _ c.if-payload-end.true)

pub returns : goal.returns
unfolding part_of
returns c =
    let r = c.args.range in
    let n : r.start + r.length - r.start ≡ r.length = omega arith in
    rw (le-ltb _ _ c.if-payload-end.false, n)
