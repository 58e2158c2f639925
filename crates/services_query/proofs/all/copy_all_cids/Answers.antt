-- The CIDs of one element more, which are within all.
use Rattle.std.proofs.Common.{◌+◌, arith}
use Rattle.services_query.proofs.OnePass.{words_put, cids_next, total_next, total_within}
use Rattle.services_query.proofs.all.copy_all_cids.Goals as goal

pub overflow_add-next : goal.overflow_add-next
overflow_add-next c = omega (arith, total_within c.args.payload.now c.args.count c.loop-i.i c.loop-i-test.true c.judged_offset-offset.ensures c.judged_cid_count.ensures c.loop-i.invariant.0)

pub offset_bounds-cids-at : goal.offset_bounds-cids-at
offset_bounds-cids-at c = omega (arith, total_within c.args.payload.now c.args.count c.loop-i.i c.loop-i-test.true c.judged_offset-offset.ensures c.judged_cid_count.ensures c.loop-i.invariant.0)

pub slice_bounds-copy_words-end : goal.slice_bounds-copy_words-end
slice_bounds-copy_words-end c = omega (arith, total_within c.args.payload.now c.args.count c.loop-i.i c.loop-i-test.true c.judged_offset-offset.ensures c.judged_cid_count.ensures c.loop-i.invariant.0)

pub loop-i-preserved : goal.loop-i-preserved
loop-i-preserved c =
    let s = c.args.payload.now in
    let v = c.loop-i in
    let o = c.judged_offset-offset in
    let n = c.judged_cid_count in
    let all = total_within s c.args.count v.i c.loop-i-test.true o.ensures n.ensures v.invariant.0 in (
      total_next s v.i o.ensures n.ensures v.invariant.0,
      cids_next s c.args.cids.now v.i o.ensures n.ensures v.invariant.0 v.invariant.1
          (words_put s v.cids (o.result + 28) v.at n.result (omega (arith, all)) (omega arith) c.copy_words.ensures),
    )
