-- One element more: its numbers, and its CIDs, which stand behind those before it and have room.
use mathlib.Core.Path.{◌≡◌, refl, ap, ◌∙◌}
use Prim.Native.Nat.{ℕ, ◌+◌, ◌*◌, ◌-◌, ◌≤◌, ◌<◌}
use native.Mathlib.Nat.{le_antisymm}
use native.Mathlib.Omega.{arith}
use mathlib.Core.List.{List, ◌++◌}
use lib.ListN.{length, take, drop}
use lib.Seq.{sets, length-sets}
use Rattle.folds.specs.Folds.{joined, sum_of}
use Rattle.folds.proofs.Laws.{sum_next}
use Rattle.device_services.specs.DeviceServices.{fixed_part}
use Rattle.services_writer.specs.ServicesWriter.{start_of, piece}
use Rattle.services_writer.proofs.Laws.{piece_next}
use Rattle.services_lists.specs.ServicesLists.{count_of, cids_counted, record_of}
use Rattle.services_lists.proofs.Laws.{start_more, element_inside, cids_inside, element_put, part_length, words_put}
use Rattle.services_lists.proofs.put_elements.Goals as goal

pub loop-i-init : goal.loop-i-init
unfolding joined start_of sum_of
loop-i-init c = (refl, omega (arith, c.pair_place-start.ensures, c.args.elements.counted), refl)

pub cid_count-n-requires : goal.cid_count-n-requires
cid_count-n-requires c = omega (arith, c.loop-i-test.true, c.args.elements.counted)

pub slice_bounds-put_words-end : goal.slice_bounds-put_words-end
slice_bounds-put_words-end c =
    let v = c.loop-i in
    let whole = element_inside c.args.elements.fields.now c.args.cids.now v.i (omega (arith, c.loop-i-test.true, c.args.elements.counted)) v.invariant.1 c.cid_count-n.ensures c.requires.room in
    omega (arith, whole, simp length-sets at (ap length v.invariant.2))

pub slice_bounds-put_words-end-in-loop-i-2 : goal.slice_bounds-put_words-end-in-loop-i-2
slice_bounds-put_words-end-in-loop-i-2 c =
    let v = c.loop-i in
    let f = c.args.elements.fields.now in
    let whole = element_inside f c.args.cids.now v.i (omega (arith, c.loop-i-test.true, c.args.elements.counted)) v.invariant.1 c.cid_count-n.ensures c.requires.room in
    let same = simp length-sets at (ap length v.invariant.2) in
    let numbers = part_length f (7 * v.i) 7 (omega (arith, c.loop-i-test.true, c.args.elements.counted)) in
    let fields = words_put _ v.out v.start 28 (omega (arith, numbers)) (omega (arith, whole, same)) c.put_words.ensures.stored in
    omega (arith, whole, (simp length-sets at (ap length fields)) ∙ same)

pub overflow_add-start : goal.overflow_add-start
overflow_add-start c = let h = element_inside c.args.elements.fields.now c.args.cids.now c.loop-i.i (omega (arith, c.loop-i-test.true, c.args.elements.counted)) c.loop-i.invariant.1 c.cid_count-n.ensures c.requires.room in omega (arith, h)

pub overflow_add-from : goal.overflow_add-from
overflow_add-from c = let h = cids_inside c.args.elements.fields.now (count_of c.args.elements.fields.now) c.loop-i.i (omega (arith, c.loop-i-test.true, c.args.elements.counted)) c.loop-i.invariant.0 c.cid_count-n.ensures c.requires.given in omega (arith, h)

pub offset_bounds-cids-from : goal.offset_bounds-cids-from
offset_bounds-cids-from c = let h = cids_inside c.args.elements.fields.now (count_of c.args.elements.fields.now) c.loop-i.i (omega (arith, c.loop-i-test.true, c.args.elements.counted)) c.loop-i.invariant.0 c.cid_count-n.ensures c.requires.given in omega (arith, h)

pub slice_bounds-put_words-end-in-loop-i : goal.slice_bounds-put_words-end-in-loop-i
slice_bounds-put_words-end-in-loop-i c = cids_inside c.args.elements.fields.now (count_of c.args.elements.fields.now) c.loop-i.i (omega (arith, c.loop-i-test.true, c.args.elements.counted)) c.loop-i.invariant.0 c.cid_count-n.ensures c.requires.given

pub overflow_mul-start : goal.overflow_mul-start
overflow_mul-start c = let h = element_inside c.args.elements.fields.now c.args.cids.now c.loop-i.i (omega (arith, c.loop-i-test.true, c.args.elements.counted)) c.loop-i.invariant.1 c.cid_count-n.ensures c.requires.room in omega (arith, h)

pub overflow_add-start-in-loop-i : goal.overflow_add-start-in-loop-i
overflow_add-start-in-loop-i c = let h = element_inside c.args.elements.fields.now c.args.cids.now c.loop-i.i (omega (arith, c.loop-i-test.true, c.args.elements.counted)) c.loop-i.invariant.1 c.cid_count-n.ensures c.requires.room in omega (arith, h)

pub overflow_add-from-in-loop-i : goal.overflow_add-from-in-loop-i
overflow_add-from-in-loop-i c = let h = cids_inside c.args.elements.fields.now (count_of c.args.elements.fields.now) c.loop-i.i (omega (arith, c.loop-i-test.true, c.args.elements.counted)) c.loop-i.invariant.0 c.cid_count-n.ensures c.requires.given in omega (arith, h)

pub loop-i-preserved : goal.loop-i-preserved
loop-i-preserved c =
    let a = c.args in
    let v = c.loop-i in
    let f = a.elements.fields.now in
    let cids = a.cids.now in
    let n = c.cid_count-n.result in
    let is = c.cid_count-n.ensures in
    let l = c.loop-i-test.true in
    let below : v.i < count_of f = omega (arith, l, c.args.elements.counted) in
    let inside : v.from + n ≤ length cids = cids_inside f (count_of f) v.i below v.invariant.0 is c.requires.given in
    let whole = element_inside f cids v.i below v.invariant.1 is c.requires.room in
    let same = simp length-sets at (ap length v.invariant.2) in
    let numbers = part_length f (7 * v.i) 7 (omega (arith, l, c.args.elements.counted)) in
    let fields = words_put _ v.out v.start 28 (omega (arith, numbers)) (omega (arith, whole, same)) c.put_words.ensures.stored in
    let same₁ = (simp length-sets at (ap length fields)) ∙ same in
    let mid : List ℕ = take v.start v.out ++ (c.put_words.new.out ++ drop (v.start + 28 - v.start) (drop v.start v.out)) in
    let behind = words_put _ mid (v.start + 28) (4 * n) (omega (arith, part_length cids v.from n inside)) (omega (arith, whole, same₁)) c.put_words-in-loop-i.ensures.stored in
    let stored = element_put 0 f cids v.out v.i v.start v.from n below v.invariant.0 is inside fields behind in
    let next = start_more 0 f cids v.i below v.invariant.1 in
    (omega (arith, v.invariant.0, is, sum_next (cids_counted f) v.i), omega (arith, is, next), piece_next (record_of 0 f cids) v.i a.out.now v.invariant.2 v.invariant.1 stored)

pub returns : goal.returns
returns c =
    let a = c.args in
    let f = a.elements.fields.now in
    let n : c.loop-i.i ≡ count_of f = le_antisymm c.loop-i.auto.i-end c.loop-i-test.false ∙ a.elements.counted in
    c.loop-i.invariant.2 ∙ ap (λ (k : ℕ). sets a.out.now (fixed_part (count_of f)) (joined (piece (record_of 0 f a.cids.now)) k)) n
