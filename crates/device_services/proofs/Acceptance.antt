-- A list is accepted exactly when it meets the rules in words of fields, under either choice of the reader, and then the numbers shown
-- are those at their places.
-- Assumes nothing.
use mathlib.Core.Path.{◌≡◌, refl, sym}
use mathlib.Core.Logic.{◌↔◌, inr, ⊎_elim}
use mathlib.Core.Bool.{Bool, true, false, cond}
use mathlib.Core.List.{List, [], ◌∷◌}
use Prim.Native.Nat.{ℕ, ◌≤◌}
use native.Mathlib.Omega.{arith}
use borrow.Author.Tests.{ltb-true, lt-ltb, le-ltb}
use lib.Dec.{ltb}
use lib.ListN.{length}
use Rattle.protocol.specs.Refusal.{too_short, wrong_count}
use Rattle.protocol.specs.Verdict.{rule, first_of, open_length, no_fault, Verdict}
use Rattle.protocol.proofs.Verdicts.{left_fits, right_fits, kept_fits, open_length_lem, length_open}
use Rattle.folds.proofs.Laws.{fits_each, each_fits}
use Rattle.pairs.specs.declared.ZeroSize.{ZeroSize}
use Rattle.pairs.specs.Claims.{Inside}
use Rattle.lists.specs.Claims.{Whole}
use Rattle.lists.proofs.Behind.{behind_said, said_behind}
use Rattle.device_services.specs.declared.DeviceServices.{DeviceServices}
use Rattle.device_services.specs.DeviceServices.{count_of, head_at, pair_place, fixed_part, pair_of, cid_count_at, length_verdict, element_form, content_rules, element_verdict, judged_as, element_judged_with, verdict_with, shown, read_with}
use Rattle.device_services.specs.Claims.{ElementFits, Acceptable, Accepted, AcceptedExactly, NumberedExactly}
use Rattle.device_services.proofs.Laws.{few}
use Rattle.std.specs.Prelude.{Ok, Err}

-- ---- one element

module _ (z : ZeroSize) (s : List ℕ) (fixed i : ℕ) where
  pub element_said : element_verdict z s fixed i ≡ no_fault → ElementFits s fixed i
  unfolding element_verdict content_rules
  element_said e =
      let k = behind_said z element_form fixed (pair_place i) s e in
      let w : Whole element_form (pair_of s i) (cid_count_at s (pair_of s i).start) = ⊎_elim (λ a. cc) (λ w. w) k.1 in
      let there : Inside fixed (length s) (pair_of s i) = ⊎_elim (λ a. absurd (omega (arith, a.empty, w.size))) (λ h. h) k.0.safe in
      record { few = w.most; size = w.size; behind = there.behind; aligned = there.aligned; within = there.within }

  pub said_element : ElementFits s fixed i → element_verdict z s fixed i ≡ no_fault
  unfolding element_verdict content_rules
  said_element f =
      let there : Inside fixed (length s) (pair_of s i) = record { some = omega (arith, f.size); behind = f.behind; aligned = f.aligned; within = f.within } in
      said_behind z element_form fixed (pair_place i) s (record { size = record { small = omega (arith, f.few, f.size); even = tt }; safe = inr there })
      (inr (record { some = omega arith; most = f.few; size = f.size }))

  -- an element fits exactly when its count, its size and its place do
  pub element_exactly : (element_verdict z s fixed i ≡ no_fault) ↔ ElementFits s fixed i
  element_exactly = (element_said, said_element)

-- ---- the list

pub list_said : (z : ZeroSize) (s : List ℕ) → verdict_with z s ≡ no_fault → Acceptable s
unfolding verdict_with length_verdict
list_said z s e =
    let n = length s in
    let fixed = fixed_part (count_of s) in
    let long = left_fits (length_verdict n (count_of s)) _ e in
    let whole = open_length_lem fixed n (right_fits _ (open_length fixed n) long) in
    record {
      few = few n (count_of s) long;
      fixed = whole.0;
      most = whole.1;
      elements = λ i l. element_said z s fixed i (fits_each _ _ (right_fits _ _ e) i l);
    }

pub said_list : (z : ZeroSize) (s : List ℕ) → Acceptable s → verdict_with z s ≡ no_fault
unfolding verdict_with length_verdict first_of
said_list z s a =
    let n = length s in
    let fixed = fixed_part (count_of s) in
    let enough : fixed ≤ n = a.fixed in
    let counted = kept_fits (rule (ltb n 8) too_short n ∷ rule (ltb 32 (count_of s)) wrong_count 0 ∷ []) (le-ltb n 8 (omega arith), (le-ltb 32 (count_of s) a.few, tt)) in
    rw (counted, length_open fixed n enough a.most) (each_fits (element_verdict z s fixed) (count_of s) (λ i h. said_element z s fixed i (a.elements i h)))

-- ---- an element by its number

fits_by : (d e : Verdict) (t : Bool) → judged_as d (cond t (judged_as e (Ok true)) (Ok false)) ≡ (Ok true) → (d ≡ no_fault) × (t ≡ true) × (e ≡ no_fault)
fits_by (Ok _) (Ok _) true h = (refl, refl, refl)
fits_by (Ok _) (Err r) true h = cc
fits_by (Ok _) e false h = cc
fits_by (Err r) e t h = cc

-- fits exactly when the length and the count do, the list has it, and it keeps its rules
pub numbered_exactly : NumberedExactly
unfolding element_judged_with
numbered_exactly z s i = (
  λ e. let k = fits_by (length_verdict (length s) (count_of s)) (element_verdict z s (fixed_part (count_of s)) i) (ltb i (count_of s)) e in
      (k.0, ltb-true i (count_of s) k.1, element_said z s (fixed_part (count_of s)) i k.2),
  λ k. rw (k.0, lt-ltb i (count_of s) k.1, said_element z s (fixed_part (count_of s)) i k.2),
)

-- ---- accepted exactly when the rules hold

shows : (d : Verdict) (p q : DeviceServices) → shown d p ≡ Ok q → (d ≡ no_fault) × (p ≡ q)
shows (Ok _) p q e = (refl, cc)
shows (Err r) p q e = cc

-- an accepted list keeps the rules, and shows the numbers at their places
pub accepted : Accepted
unfolding read_with
accepted z s p e = let d = shows (verdict_with z s) (head_at s) p e in (list_said z s d.0, sym d.1)

pub acceptable : (z : ZeroSize) (s : List ℕ) → Acceptable s → read_with z s ≡ Ok (head_at s)
unfolding read_with
acceptable z s a = rw (said_list z s a)

pub accepted_exactly : AcceptedExactly
accepted_exactly z s = (λ e. (accepted z s (head_at s) e).0, acceptable z s)
