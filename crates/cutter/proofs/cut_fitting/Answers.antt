-- The length that is compared with the room is that of all fragments, and the stores are theirs.
use Rattle.std.proofs.Common.{◌≡◌, ℕ, ◌+◌, ◌-◌, ◌*◌, ◌≤◌, min, length, take, sym, ap, ◌∙◌, arith, ltb-false}
use Rattle.protocol.specs.Refusal.{output_too_small}
use Rattle.protocol.proofs.Verdicts.{not_broken}
use Rattle.message.specs.Message.{first_length}
use Rattle.cutter.specs.Cut.{Cut, first_bytes, later_count, fragments_of, joined}
use Rattle.cutter.proofs.Stored.{stored_length}
use Rattle.cutter.proofs.Whole.{count_few, many, whole_length, rest_length, all_stored, has_room}
use Rattle.cutter.proofs.cut_fitting.Goals as goal

pub put_later-requires : goal.put_later-requires
put_later-requires c =
    let has : c.first_length-head.result + length c.args.information.now + 20 * c.later_count-later.result ≤ length c.args.out.now = ltb-false _ _ (not_broken _ output_too_small _ (sym c.refuse_if.ensures ∙ c.in_ok-refuse_if.was)) in
    let few = count_few (c.args.size - c.first_length-head.result) (c.args.size - 20) (length c.args.information.now) (omega arith) c.requires.2 in
    let a = c.args in
    let p = c.first_length-head.ensures.value in
    let l : c.later_count-later.result ≡ later_count (a.size - first_length a.message.message_type) (a.size - 20) (length a.information.now) =
    c.later_count-later.ensures ∙ ap (λ (k : ℕ). later_count (a.size - k) (a.size - 20) (length a.information.now)) p in
    let all = whole_length a.message a.size a.information.now c.requires.0 c.requires.2 in
    let rest = rest_length a.message a.size a.information.now _ c.min-amount.result _ (ap (λ (k : ℕ). 1 + k) l) (c.min-amount.ensures ∙ ap (λ (k : ℕ). min (length a.information.now) (a.size - k)) p)
    (ap (λ (k : ℕ). k + c.min-amount.result) p) in
    let same = stored_length a.out.now 0 (first_bytes a.message (1 + c.later_count-later.result) (length a.information.now) (take c.min-amount.result a.information.now)) c.put_first.ensures in
    record { from_in_bounds = (omega (arith, c.min-amount.ensures), omega (arith, c.requires.1), omega arith, omega (arith, c.later_count-later.ensures, few), omega (arith, c.min-amount.ensures, c.requires.1, c.requires.0)); information_in_bounds = omega (arith, all, rest, same, l, p, has) }

pub returns : goal.returns
returns c =
    let a = c.args in
    let has : c.first_length-head.result + length c.args.information.now + 20 * c.later_count-later.result ≤ length c.args.out.now = ltb-false _ _ (not_broken _ output_too_small _ (sym c.refuse_if.ensures ∙ c.in_ok-refuse_if.was)) in
    let p = c.first_length-head.ensures.value in
    let l : c.later_count-later.result ≡ later_count (a.size - first_length a.message.message_type) (a.size - 20) (length a.information.now) =
    c.later_count-later.ensures ∙ ap (λ (k : ℕ). later_count (a.size - k) (a.size - 20) (length a.information.now)) p in
    let n : c.first_length-head.result + length a.information.now + 20 * c.later_count-later.result ≡ length (joined (fragments_of a.message a.size a.information.now)) =
    omega (arith, whole_length a.message a.size a.information.now c.requires.0 c.requires.2, l, p) in
    let count = ap (λ (k : ℕ). 1 + k) l in
    let e = has_room a.message a.size a.information.now a.out.now _ (1 + c.later_count-later.result) n (count ∙ sym (many a.message a.size a.information.now)) has in
    let room : length (joined (fragments_of a.message a.size a.information.now)) ≤ length a.out.now = omega (arith, n, has) in
    record {
      value = sym (ap (λ (r : Cut). r.answer) e);
      out_after = all_stored a.message a.size a.information.now a.out.now _ c.min-amount.result _ room count (c.min-amount.ensures ∙ ap (λ (k : ℕ). min (length a.information.now) (a.size - k)) p)
          (ap (λ (k : ℕ). k + c.min-amount.result) p) c.put_first.ensures c.put_later.ensures
          ∙ sym (ap (λ (r : Cut). r.output) e);
    }
