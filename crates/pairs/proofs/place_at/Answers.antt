-- By the size.
use borrow.Author.Tests.{eq-eqb, ne_eqb}
use Rattle.pairs.proofs.place_at.Goals as goal

pub returns-then-size-eq0 : goal.returns-then-size-eq0
returns-then-size-eq0 c = rw (eq-eqb _ _ c.if-size-eq0.true, c.if-size-eq0.true)

pub returns : goal.returns
returns c = rw (ne_eqb _ _ c.if-size-eq0.false)
