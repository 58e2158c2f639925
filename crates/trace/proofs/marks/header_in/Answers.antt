-- By how far the listing agrees with the header.
use borrow.Author.Tests.{eq-eqb, ne_eqb}
use native.Mathlib.Omega.{arith}
use Rattle.rows.specs.Rows.{header}
use Rattle.trace.proofs.Laws.{agreement_le}
use Rattle.std.proofs.Common.{rules}
use Rattle.trace.proofs.marks.header_in.Goals as goal

pub returns-then-agree-eq-HEADER_LENGTH : goal.returns-then-agree-eq-HEADER_LENGTH
unfolding header
returns-then-agree-eq-HEADER_LENGTH c = (rw (← c.agree.ensures, eq-eqb _ _ c.if-agree-eq-HEADER_LENGTH.true), omega (arith, c.agree.ensures, c.if-agree-eq-HEADER_LENGTH.true, agreement_le c.args.listing.now header))

pub returns : goal.returns
unfolding header
returns c = (rw (← c.agree.ensures, ne_eqb _ _ c.if-agree-eq-HEADER_LENGTH.false), search rules)
