-- 0 past the last.
use mathlib.Core.Path.{refl, sym}
use native.Mathlib.Omega.{arith}
use lib.ListN.{get_or-eq_default}
use Rattle.texts.proofs.size_at.Goals as goal

pub overflow_cast-result : goal.overflow_cast-result
overflow_cast-result c = omega (arith, c.shared_slice_known-1.given c.args.number)

pub returns-then-i-sizes : goal.returns-then-i-sizes
returns-then-i-sizes c = (refl, omega (arith, c.shared_slice_known-1.given c.args.number))

pub returns-else-i-sizes : goal.returns-else-i-sizes
returns-else-i-sizes c = (sym (get_or-eq_default c.args.sizes.now 0 c.if-i-sizes.false), omega arith)
