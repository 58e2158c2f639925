-- By the limit, then by the kind.
use borrow.Author.Tests.{lt-ltb, le-ltb}
use Rattle.pairs.proofs.is_unfit.Goals as goal

pub returns-then-limit-size : goal.returns-then-limit-size
returns-then-limit-size c = rw (lt-ltb _ _ c.if-limit-size.true)

pub returns-in-Text : goal.returns-in-Text
returns-in-Text c = rw (le-ltb _ _ c.if-limit-size.false, c.in-Text.is)

pub returns-in-List : goal.returns-in-List
returns-in-List c = rw (le-ltb _ _ c.if-limit-size.false, c.in-List.is)
