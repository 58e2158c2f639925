-- The question and the full reader, in words of elements: what each answer says, and that nothing else gives it.
-- Assumes nothing.
use mathlib.Core.Path.{◌≡◌, refl, sym, ap, ◌∙◌}
use mathlib.Core.Logic.{◌⊎◌, inl, inr, ⊎_elim}
use mathlib.Core.Bool.{Bool, true, false, cond}
use mathlib.Core.List.{List}
use Prim.Native.Nat.{ℕ, zero, suc, ◌≤◌, ◌<◌}
use native.Mathlib.Nat.{eq-or-lt_of_le}
use native.Mathlib.Omega.{arith}
use borrow.Author.Tests.{eq-eqb, eqb-true}
use lib.ListN.{length}
use Rattle.protocol.specs.declared.Refusal.{Refusal}
use Rattle.protocol.specs.declared.service.ServiceId.{ServiceId}
use Rattle.protocol.specs.Verdict.{first_of, no_fault, Verdict}
use Rattle.protocol.proofs.Tests.{and_both, both_and}
use Rattle.folds.specs.Folds.{any_of, first_index}
use Rattle.folds.proofs.Laws.{any_at, none_each, index_below, index_first, fault_at, each_fits}
use Rattle.pairs.specs.declared.ZeroSize.{ZeroSize}
use Rattle.device_services.specs.DeviceServices.{count_of, fixed_part, offset_of, cid_count_at, length_verdict, element_verdict, verdict_with}
use Rattle.device_services.proofs.Acceptance.{element_said, said_element}
use Rattle.services_query.specs.ServicesQuery.{is_of, is_cid, has_cid, holds}
use Rattle.services_query.specs.Claims.{Held}
use Rattle.services_query.proofs.Answers.{serves_said, said_serves, listed_exactly, not_listed_exactly}
use Rattle.services_ask.specs.declared.Position.{Position}
use Rattle.services_ask.specs.ServicesAsk.{PositionAnswer, position, match_in, judged, element_says, or_else, first_said, position_with}
use Rattle.services_ask.proofs.Laws.{order, silent_each}
use Rattle.services_ask.specs.Claims.{Match, Reached, NoneBefore, AskedExactly, Asked}
use Rattle.std.specs.Prelude.{Some, None, Ok, Err}

-- ---- of any answers

-- where it ends, and what is said there
record Ended (f : ℕ → PositionAnswer) (n : ℕ) (a : PositionAnswer) : Type 0 where
  at : ℕ
  below : at < n
  before : first_said f at ≡ Ok None
  says : f at ≡ a

ended : (f : ℕ → PositionAnswer) (n : ℕ) (a : PositionAnswer) → (a ≡ Ok None → ⊥) → first_said f n ≡ a → Ended f n a
unfolding first_said
ended f zero a some e = absurd (some (sym e))
ended f (suc n) a some e = by_first (ended f n a some) (first_said f n) refl e
  where
    further : Ended f n a → Ended f (suc n) a
    further h = let l : h.at < n = h.below in record { at = h.at; below = omega arith; before = h.before; says = h.says }

    by_first : (first_said f n ≡ a → Ended f n a) → (x : PositionAnswer) → first_said f n ≡ x → or_else x (f n) ≡ a → Ended f (suc n) a
    by_first rest (Ok (Some p)) q e = further (rest (q ∙ e))
    by_first rest (Ok None) q e = record { at = n; below = omega arith; before = q; says = e }
    by_first rest (Err r) q e = further (rest (q ∙ e))

-- ---- of a verdict and an answer behind it

judged_listed : (d : Verdict) (a : PositionAnswer) (i k : ℕ) → judged d a ≡ Ok (Some (position i k)) → (d ≡ no_fault) × (a ≡ Ok (Some (position i k)))
judged_listed (Ok _) a i k e = (refl, e)
judged_listed (Err r) a i k e = cc

judged_none : (d : Verdict) (a : PositionAnswer) → judged d a ≡ Ok None → (d ≡ no_fault) × (a ≡ Ok None)
judged_none (Ok _) a e = (refl, e)
judged_none (Err r) a e = cc

judged_refused : (d : Verdict) (a : PositionAnswer) (r : Refusal) → judged d a ≡ Err r → (d ≡ Err r) ⊎ ((d ≡ no_fault) × (a ≡ Err r))
judged_refused (Ok _) a r e = inr (refl, e)
judged_refused (Err x) a r e = let z : x ≡ r = cc in inl (ap Err z)

fits_fault : {A : Type 0} {d : Verdict} {r : Refusal} → d ≡ no_fault → d ≡ Err r → A
fits_fault e q = cc

-- ---- of an element

module _ (s : List ℕ) (service : ServiceId) (cid : ℕ) where
  abbrev test : ℕ → ℕ → Bool
  test i = is_cid s (offset_of s i) cid

  abbrev first : ℕ → ℕ
  first i = first_index (test i) (cid_count_at s (offset_of s i))

  -- an element with a match holds both
  met : (i k : ℕ) → Match s service cid i k → (holds s service cid i ≡ true) × (test i k ≡ true)
  unfolding holds has_cid
  met i k m =
      let t = eq-eqb _ cid m.is in
      (both_and (is_of s service i) _ (said_serves s service i m.serves) (any_at (test i) (cid_count_at s (offset_of s i)) k m.counted t), t)

  -- an element that says nothing has no match
  no_match : (i : ℕ) → match_in s service cid i ≡ Ok None → (k : ℕ) → Match s service cid i k → ⊥
  unfolding match_in
  no_match i e k m = by_held (met i k m).0 e
    where
      by_held : holds s service cid i ≡ true → cond {A = PositionAnswer} (holds s service cid i) (Ok (Some (position i (first i)))) (Ok None) ≡ Ok None → ⊥
      by_held q e = let y : ◌≡◌ {A = PositionAnswer} (Ok (Some (position i (first i)))) (Ok None) = rw q at e in cc

  record FirstIn (i j k : ℕ) : Type 0 where
    same : i ≡ j
    match : Match s service cid i k
    before : (l : ℕ) → Match s service cid i l → k ≤ l

  -- one that holds both has its first match where its first CID is that
  first_held : (i : ℕ) → i < count_of s → holds s service cid i ≡ true → FirstIn i i (first i)
  unfolding holds has_cid
  first_held i below e =
      let b = and_both (is_of s service i) (has_cid s (offset_of s i) cid) e in
      let h = index_first (test i) (cid_count_at s (offset_of s i)) b.1 in
      record {
        same = refl;
        match = record { serves = serves_said s service i below b.0; counted = index_below (test i) (cid_count_at s (offset_of s i)) b.1; is = eqb-true _ cid h.0 };
        before = λ l x. ⊎_elim (λ y. absurd (earlier l y h.1 (met i l x).1)) (λ y. y) (order l (first i));
      }
    where
      earlier : (l : ℕ) → l < first i → any_of (test i) (first i) ≡ false → test i l ≡ true → ⊥
      earlier l y none t = let n = none_each (test i) (first i) none l y in cc

  -- an element that says a position has its first match there
  first_match : (i j k : ℕ) → i < count_of s → match_in s service cid i ≡ Ok (Some (position j k)) → FirstIn i j k
  unfolding match_in
  first_match i j k below e = by_held (holds s service cid i) refl e
    where
      by_held : (b : Bool) → holds s service cid i ≡ b → cond {A = PositionAnswer} b (Ok (Some (position i (first i)))) (Ok None) ≡ Ok (Some (position j k)) → FirstIn i j k
      by_held true q e = let p : position i (first i) ≡ position j k = cc in let x = ap (λ (p : Position). p.cid_number) p in let y = ap (λ (p : Position). p.element_number) p in let h = first_held i below q in record { same = y; match = rw (← x) h.match; before = rw (← x) h.before }
      by_held false q e = cc

  -- and it never refuses
  no_refusal : (i : ℕ) (r : Refusal) → match_in s service cid i ≡ Err r → ⊥
  unfolding match_in
  no_refusal i r = by_held (holds s service cid i)
    where
      by_held : (b : Bool) → cond {A = PositionAnswer} b (Ok (Some (position i (first i)))) (Ok None) ≡ Err r → ⊥
      by_held true e = cc
      by_held false e = cc

-- ---- what each answer says

module _ (z : ZeroSize) (s : List ℕ) (service : ServiceId) (cid : ℕ) where
  abbrev fixed : ℕ
  fixed = fixed_part (count_of s)

  abbrev verdict : ℕ → Verdict
  verdict = element_verdict z s fixed

  abbrev says : ℕ → PositionAnswer
  says = element_says z s fixed service cid

  abbrev answer : PositionAnswer
  answer = position_with z s service cid

  -- elements that say nothing are good and have no match
  quiet : (n : ℕ) → first_said says n ≡ Ok None → (j : ℕ) → j < n → (verdict j ≡ no_fault) × ((l : ℕ) → Match s service cid j l → ⊥)
  unfolding element_says
  quiet n e j l =
      let k = judged_none (verdict j) (match_in s service cid j) (silent_each says n e j l) in
      (k.0, no_match s service cid j k.1)

  -- the walk ends at element j with its CID k
  ends_at : (j k : ℕ) → length_verdict (length s) (count_of s) ≡ no_fault → first_said says j ≡ Ok None → verdict j ≡ no_fault → Match s service cid j k
      → ((l : ℕ) → Match s service cid j l → k ≤ l) → Reached s service cid j k × NoneBefore s service cid j k
  ends_at j k long e f m first = (
    record { long = long; good = λ i l. ⊎_elim (λ q. rw q (element_said z s fixed j f)) (λ q. element_said z s fixed i (quiet j e i q).0) (eq-or-lt_of_le l); match = m },
    λ i l x. ⊎_elim (λ q. absurd ((quiet j e i q).1 l x)) (λ q. ⊎_elim (λ p. inr (p, first l (rw p x))) inl (eq-or-lt_of_le q)) (order i j),
  )

  listed_said : (i k : ℕ) → answer ≡ Ok (Some (position i k)) → Reached s service cid i k × NoneBefore s service cid i k
  unfolding position_with element_says
  listed_said i k e =
      let d = judged_listed (length_verdict (length s) (count_of s)) (first_said says (count_of s)) i k e in
      let h = ended says (count_of s) (Ok (Some (position i k))) (λ q. cc) d.1 in
      let x = judged_listed (verdict h.at) (match_in s service cid h.at) i k h.says in
      let m = first_match s service cid h.at i k h.below x.1 in
      rw (← m.same) (ends_at h.at k d.0 h.before x.0 m.match m.before)

  none_said : answer ≡ Ok None → (verdict_with z s ≡ no_fault) × ((i k : ℕ) → Match s service cid i k → ⊥)
  unfolding position_with verdict_with first_of
  none_said e =
      let d = judged_none (length_verdict (length s) (count_of s)) (first_said says (count_of s)) e in
      (rw d.0 (each_fits verdict (count_of s) (λ j l. (quiet (count_of s) d.1 j l).0)), λ i k m. (quiet (count_of s) d.1 i m.serves.below).1 k m)

  -- the first faulty element is j
  faulty_at : (j : ℕ) (r : Refusal) → length_verdict (length s) (count_of s) ≡ no_fault → j < count_of s → first_said says j ≡ Ok None → verdict j ≡ Err r
      → (verdict_with z s ≡ Err r) × ((i k : ℕ) → Reached s service cid i k → ⊥)
  unfolding verdict_with first_of
  faulty_at j r long below e q = (
    rw long (fault_at verdict (count_of s) j r (each_fits verdict j (λ i l. (quiet j e i l).0)) below q),
    λ i k h. ⊎_elim (λ l. (quiet j e i l).1 k h.match) (λ l. fits_fault (said_element z s fixed j (h.good j l)) q) (order i j),
  )

  refused_said : (r : Refusal) → answer ≡ Err r → (verdict_with z s ≡ Err r) × ((i k : ℕ) → Reached s service cid i k → ⊥)
  unfolding position_with element_says verdict_with first_of
  refused_said r e =
      ⊎_elim (λ q. (rw q, λ i k h. fits_fault h.long q))
      (λ d. let h = ended says (count_of s) (Err r) (λ q. cc) d.1 in
      ⊎_elim (faulty_at h.at r d.0 h.below h.before) (λ x. absurd (no_refusal s service cid h.at r x.1))
      (judged_refused (verdict h.at) (match_in s service cid h.at) r h.says))
      (judged_refused (length_verdict (length s) (count_of s)) (first_said says (count_of s)) r e)

  held : (i k : ℕ) → Match s service cid i k → Held s service cid
  held i k m = record { element = i; serves = m.serves; number = k; counted = m.counted; is = m.is }

  -- ---- and that nothing else gives it

  -- by which answer it is
  by_answer : {A : Type 0} → ((i k : ℕ) → answer ≡ Ok (Some (position i k)) → A) → (answer ≡ Ok None → A) → ((r : Refusal) → answer ≡ Err r → A) → A
  by_answer {A} if_listed if_none if_refused = go answer refl
    where
      go : (a : PositionAnswer) → answer ≡ a → A
      go (Ok (Some p)) e = if_listed p.element_number p.cid_number e
      go (Ok None) e = if_none e
      go (Err r) e = if_refused r e

  one_position : (i k j l : ℕ) → Reached s service cid i k × NoneBefore s service cid i k → Reached s service cid j l × NoneBefore s service cid j l
      → (i ≡ j) × (k ≡ l)
  one_position i k j l a b =
      ⊎_elim (λ p. ⊎_elim (λ q. absurd (omega arith)) (λ q. absurd (omega (arith, q.0))) (b.1 i k a.0.match))
      (λ p. ⊎_elim (λ q. absurd (omega (arith, p.0))) (λ q. (p.0, omega (arith, p.1, q.1))) (b.1 i k a.0.match))
      (a.1 j l b.0.match)

  pub asked_exactly : AskedExactly z s service cid
  asked_exactly = record {
    accepted = λ f. by_answer
        (λ i k e. rw e (sym ((listed_exactly z s service cid).1 (f, held i k (listed_said i k e).0.match))))
        (λ e. rw e (sym ((not_listed_exactly z s service cid).1 (f, λ h. (none_said e).1 h.element h.number (record { serves = h.serves; counted = h.counted; is = h.is })))))
        (λ r e. fits_fault f (refused_said r e).0);
    reached = λ i k h. by_answer (λ j l e. rw e) (λ e. absurd ((none_said e).1 i k h.match)) (λ r e. absurd ((refused_said r e).1 i k h));
    refused = λ r. (
      refused_said r,
      λ h. by_answer (λ i k e. absurd (h.1 i k (listed_said i k e).0)) (λ e. fits_fault (none_said e).0 h.0)
          (λ x e. let y : ◌≡◌ {A = Verdict} (Err x) (Err r) = sym (refused_said x e).0 ∙ h.0 in let w : x ≡ r = cc in e ∙ ap Err w),
    );
    position = λ i k. (
      listed_said i k,
      λ h. by_answer (λ j l e. let o = one_position j l i k (listed_said j l e) h in e ∙ rw (o.0, o.1)) (λ e. absurd ((none_said e).1 i k h.0.match))
          (λ r e. absurd ((refused_said r e).1 i k h.0)),
    );
    nowhere = (
      none_said,
      λ h. by_answer (λ i k e. absurd (h.1 i k (listed_said i k e).0.match)) (λ e. e) (λ r e. fits_fault h.0 (refused_said r e).0),
    );
  }

pub asked : Asked
asked = asked_exactly
