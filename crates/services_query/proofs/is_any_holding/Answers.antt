-- The element found is among those listed.
use Rattle.std.proofs.Common.{sym}
use Rattle.folds.proofs.Laws.{any_at}
use Rattle.services_query.specs.ServicesQuery.{holds}
use Rattle.services_query.proofs.is_any_holding.Goals as goal

pub returns-then-is_held : goal.returns-then-is_held
unfolding holds
returns-then-is_held c =
    let a = c.args in
    sym (any_at (holds a.payload.now a.service a.cid) a.count c.loop-i.i c.loop-i-test.true (rw (← c.is_of.ensures, c.if-is_of.true, ← c.judged_offset.ensures, ← c.is_held.ensures) c.if-is_held.true))
