-- The walk: each element of the service ends the part judged before it; its CIDs are gone through, or the next part begins behind it.
use Rattle.std.proofs.Common.{◌<◌, refl, sym, ap, ◌∙◌, arith, ne_eqb}
use native.Mathlib.Nat.{min-le_left, le_antisymm}
use Rattle.std.proofs.lemmas.Result.{err_from_is_err_and}
use Rattle.folds.specs.Folds.{any_of}
use Rattle.folds.proofs.Laws.{none_next}
use Rattle.device_services.specs.DeviceServices.{count_of}
use Rattle.services_query.specs.ServicesQuery.{is_cid}
use Rattle.services_ask.specs.ServicesAsk.{first_said}
use Rattle.services_ask.proofs.Laws.{others_more, part_fault, none_left, match_here, none_here}
use Rattle.services_ask.proofs.ask_with.Goals as goal
use Rattle.services_ask.proofs.ask_with.Goals.{then-is_of+in_ok-judge_part+else-loop-k-test, else-is_of}

pub loop-i-init : goal.loop-i-init
unfolding first_said
loop-i-init c = (omega arith, refl, λ j l h. absurd (omega arith))

pub returns-in_err-judge_part : goal.returns-in_err-judge_part
returns-in_err-judge_part c =
    let a = c.args in
    let v = c.loop-i in
    let p = err_from_is_err_and c.from_residual.result c.from_residual.ensures.1 in
    rw (p.1, p.2) (sym (part_fault a.zero_size a.payload.now a.service a.cid v.next v.i _ v.invariant.1 v.invariant.2 (sym c.judge_part.ensures ∙ c.in_err-judge_part.was)))

pub loop-k-init : goal.loop-k-init
unfolding any_of
loop-k-init c = refl

pub loop-k-preserved : goal.loop-k-preserved
loop-k-preserved c =
    let a = c.args in
    none_next (is_cid a.payload.now c.judged_offset-offset.result a.cid) c.loop-k.k c.loop-k.invariant (rw (← c.judged_cid.ensures) (ne_eqb _ _ c.if-judged_cid-cid.false))

pub returns-then-judged_cid-cid : goal.returns-then-judged_cid-cid
returns-then-judged_cid-cid c =
    let a = c.args in
    let v = c.loop-i in
    let below : v.i < count_of a.payload.now = omega (arith, c.loop-i-test.true, c.bounded_count-end.ensures, min-le_left (count_of a.payload.now) 32) in
    sym (match_here a.zero_size a.payload.now a.service a.cid v.next v.i _ _ v.invariant.1 v.invariant.2 v.invariant.0 below (sym c.is_of.ensures ∙ c.if-is_of.true) c.judged_offset-offset.ensures c.judged_cid_count-k-end.ensures
    (sym c.judge_part.ensures ∙ c.in_ok-judge_part.was) c.loop-k.k c.loop-k.invariant c.loop-k-test.true (sym c.judged_cid.ensures ∙ c.if-judged_cid-cid.true))

pub loop-i-preserved : goal.loop-i-preserved
loop-i-preserved c =
    let a = c.args in
    let v = c.loop-i in
    elim c.if-is_of.branch [
      | then-is_of+in_ok-judge_part+else-loop-k-test w ↦
          let below : v.i < count_of a.payload.now = omega (arith, c.loop-i-test.true, c.bounded_count-end.ensures, min-le_left (count_of a.payload.now) 32) in
          rw w.next-is (
            omega arith,
            none_here a.zero_size a.payload.now a.service a.cid v.next v.i _ _ v.invariant.1 v.invariant.2 v.invariant.0 below (sym c.is_of.ensures ∙ w.if-is_of.true) w.judged_offset-offset.ensures w.judged_cid_count-k-end.ensures
                (sym w.judge_part.ensures ∙ w.in_ok-judge_part.was) (ap (any_of (is_cid a.payload.now w.judged_offset-offset.result a.cid)) (le_antisymm w.loop-k-test.false w.loop-k.auto.k-end) ∙ w.loop-k.invariant),
            λ j l h. absurd (omega arith),
          )
      | else-is_of w ↦ rw w.next-is (omega arith, v.invariant.1, others_more a.payload.now a.service v.next v.i v.invariant.2 (sym c.is_of.ensures ∙ w.if-is_of.false))
    ]

pub returns-in_err-judge_part-2 : goal.returns-in_err-judge_part-2
returns-in_err-judge_part-2 c =
    let a = c.args in
    let v = c.loop-i in
    let p = err_from_is_err_and c.from_residual-in_err-judge_part-2.result c.from_residual-in_err-judge_part-2.ensures.1 in
    rw (p.1, p.2) (sym (part_fault a.zero_size a.payload.now a.service a.cid v.next c.bounded_count-end.result _ v.invariant.1 (λ j l h. v.invariant.2 j l (omega (arith, h, c.loop-i-test.false))) (sym c.judge_part-2.ensures ∙ c.in_err-judge_part-2.was)))

pub returns : goal.returns
returns c =
    let a = c.args in
    let v = c.loop-i in
    sym (none_left a.zero_size a.payload.now a.service a.cid v.next c.bounded_count-end.result c.bounded_count-end.ensures v.invariant.1 (λ j l h. v.invariant.2 j l (omega (arith, h, c.loop-i-test.false))) (sym c.judge_part-2.ensures ∙ c.in_ok-judge_part-2.was))
