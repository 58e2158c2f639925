-- Each size is judged, then the length and the room; pairs and elements are put one after the other: a writing.
use Rattle.std.proofs.Common.{◌≡◌, refl, sym, ◌∙◌, arith}
use native.Mathlib.Nat.{le_antisymm}
use borrow.Author.Tests.{ltb-false}
use Rattle.std.proofs.lemmas.Result.{err_from_is_err_and}
use Rattle.protocol.specs.Refusal.{too_long, wrong_size, output_too_small}
use Rattle.protocol.specs.Verdict.{first_of, no_fault}
use Rattle.protocol.proofs.Verdicts.{left_fits, right_fits, not_broken, wrote, refused}
use Rattle.folds.specs.Folds.{first_fault, joined, sum_of}
use Rattle.folds.proofs.Laws.{fits_next}
use Rattle.services_writer.specs.ServicesWriter.{start_of, size_of, length_of, size_verdict, written_verdict, bytes_of, write_of}
use Rattle.services_writer.proofs.Laws.{length_bytes, start_next, start_within, listed_next, all_laid, all_passed, sized_verdict, size_refused, size_within}
use Rattle.services_writer.proofs.write_listed.Goals as goal

pub loop-i-init : goal.loop-i-init
unfolding start_of sum_of first_fault
loop-i-init c = (refl, omega (arith, c.pair_place-end.ensures), omega (arith, c.pair_place-end.ensures, c.requires))

pub returns-in_err-refuse_if : goal.returns-in_err-refuse_if
unfolding write_of
returns-in_err-refuse_if c =
    let p = c.args.list.now in
    let e = err_from_is_err_and c.from_residual.result c.from_residual.ensures.1 in
    let over : size_verdict p c.loop-i.i ≡ _ = rw (← c.pair_place.ensures) (sym c.refuse_if.ensures ∙ c.in_err-refuse_if.was) in
    rw (e.1, e.2) (refused (written_verdict p) (bytes_of p) c.args.out.now (length_of p) _ (length_bytes p) (size_refused p c.loop-i.i _ _ c.requires c.loop-i-test.true c.loop-i.invariant.0 over))

pub loop-i-preserved : goal.loop-i-preserved
loop-i-preserved c =
    let p = c.args.list.now in
    let fits : size_verdict p c.loop-i.i ≡ no_fault = rw (← c.pair_place.ensures) (sym c.refuse_if.ensures ∙ c.in_ok-refuse_if.was) in
    let small = ltb-false 540 (size_of p c.loop-i.i) (not_broken _ wrong_size _ fits) in
    (fits_next (size_verdict p) _ c.loop-i.invariant.0 fits, start_next p c.loop-i.i c.loop-i.invariant.1, omega (arith, small, c.loop-i.invariant.2))

pub returns-in_err-judge_end : goal.returns-in_err-judge_end
unfolding write_of first_of
returns-in_err-judge_end c =
    let p = c.args.list.now in
    let e = err_from_is_err_and c.from_residual-in_err-judge_end.result c.from_residual-in_err-judge_end.ensures.1 in
    let all = all_passed p c.loop-i.i c.loop-i.end c.loop-i.auto.i-end c.loop-i-test.false c.loop-i.invariant.0 c.loop-i.invariant.1 in
    rw (e.1, e.2) (refused (written_verdict p) (bytes_of p) c.args.out.now c.loop-i.end _ (length_bytes p ∙ sym all.1) (rw (sized_verdict p c.loop-i.end c.requires all.0 all.1, ← c.judge_end.ensures) c.in_err-judge_end.was))

pub loop-number-init : goal.loop-number-init
unfolding joined start_of sum_of
loop-number-init c = (omega (arith, c.pair_place-start.ensures), refl)

pub put_listed-start-requires : goal.put_listed-start-requires
put_listed-start-requires c =
    let p = c.args.list.now in
    let v = c.loop-number in
    let all = all_passed p c.loop-i.i c.loop-i.end c.loop-i.auto.i-end c.loop-i-test.false c.loop-i.invariant.0 c.loop-i.invariant.1 in
    let judged = sym c.judge_end.ensures ∙ c.in_ok-judge_end.was in
    let short = ltb-false 4096 c.loop-i.end (not_broken _ too_long 0 (left_fits _ _ judged)) in
    let room = ltb-false _ c.loop-i.end (not_broken _ output_too_small c.loop-i.end (right_fits _ _ judged)) in
    let inside = start_within p v.number v.invariant.0 c.loop-number-test.true in
    let small = size_within p p.device_services_count v.number all.0 c.loop-number-test.true in
    record { few = omega (arith, small); short = omega (arith, inside, all.1, short); room = omega (arith, inside, all.1, room) }

pub loop-number-preserved : goal.loop-number-preserved
loop-number-preserved c =
    let p = c.args.list.now in
    let v = c.loop-number in
    (c.put_listed-start.ensures.value ∙ start_next p v.number v.invariant.0, listed_next p v.number _ c.loop-number-test.true v.invariant.1 v.invariant.0 c.put_listed-start.ensures.out_after)

pub returns : goal.returns
unfolding write_of first_of
returns c =
    let p = c.args.list.now in
    let all = all_passed p c.loop-i.i c.loop-i.end c.loop-i.auto.i-end c.loop-i-test.false c.loop-i.invariant.0 c.loop-i.invariant.1 in
    wrote (written_verdict p) (bytes_of p) c.args.out.now c.loop-i.end (length_bytes p ∙ sym all.1) (rw (sized_verdict p c.loop-i.end c.requires all.0 all.1, ← c.judge_end.ensures) c.in_ok-judge_end.was)
    (all_laid p c.loop-number.number c.args.out.now (le_antisymm c.loop-number.auto.number-end c.loop-number-test.false) c.put_head.ensures c.loop-number.invariant.1)
