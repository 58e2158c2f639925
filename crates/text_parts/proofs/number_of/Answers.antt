-- A digit more goes on with the part; where none is taken the part ends.
use Rattle.std.proofs.Common.{sym, ◌∙◌}
use Rattle.text_parts.specs.Decimals.{number_part}
use Rattle.text_parts.proofs.Parts.{last_more, last_stop}
use Rattle.text_parts.proofs.number_of.Goals as goal

pub returns-then-not-takes_digit : goal.returns-then-not-takes_digit
returns-then-not-takes_digit c = last_stop (number_part c.args.most c.args.largest) c.loop-b.number _ c.args.s.now c.loop-b.b-index c.loop-b-test.true (sym c.takes_digit.ensures ∙ c.if-not-takes_digit.true) c.loop-b.invariant

pub loop-b-preserved : goal.loop-b-preserved
loop-b-preserved c = rw c.with_digit-number.ensures (last_more (number_part c.args.most c.args.largest) c.loop-b.number _ c.args.s.now c.loop-b.b-index c.loop-b-test.true (sym c.takes_digit.ensures ∙ c.if-not-takes_digit.false) c.loop-b.invariant)
