-- The CID found is among those of the element.
use Rattle.std.proofs.Common.{sym, eq-eqb}
use Rattle.folds.proofs.Laws.{any_at}
use Rattle.services_query.specs.ServicesQuery.{is_cid, has_cid}
use Rattle.services_query.proofs.is_held.Goals as goal

pub returns-then-judged_cid-cid : goal.returns-then-judged_cid-cid
unfolding has_cid
returns-then-judged_cid-cid c =
    let a = c.args in
    sym (any_at (is_cid a.payload.now a.offset a.cid) _ c.loop-k.k (rw (← c.judged_cid_count-k-end.ensures) c.loop-k-test.true) (rw (← c.judged_cid.ensures) (eq-eqb _ _ c.if-judged_cid-cid.true)))
