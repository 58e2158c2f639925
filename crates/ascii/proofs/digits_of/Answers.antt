use mathlib.Core.Path.{refl, ◌∙◌}
use mathlib.Core.List.{append-nil}
use lib.ListN.{length-set}
use Rattle.ascii.specs.Ascii.{decimal}
use Rattle.ascii.proofs.Laws.{stage_more, stage_last}
use Rattle.std.proofs.Common.{rules}
use Rattle.ascii.proofs.digits_of.Goals as goal

pub loop-rest-init : goal.loop-rest-init
loop-rest-init c = (search rules, search rules, refl, search rules, append-nil (decimal c.args.n))

pub loop-rest-preserved : goal.loop-rest-preserved
loop-rest-preserved c = stage_more c.loop-rest.i c.loop-rest.rest c.loop-rest.bytes (decimal c.args.n) c.loop-rest.invariant c.loop-rest-test.true

pub returns : goal.returns
returns c = (stage_last c.loop-rest.i c.loop-rest.rest c.loop-rest.bytes (decimal c.args.n) c.loop-rest.invariant c.loop-rest-test.false, search rules, length-set c.loop-rest.bytes _ _ ∙ c.loop-rest.invariant.2)
