-- The walk over elements: where each is silent; the elements judged in one go; the element that ends it.
-- Assumes nothing.
use mathlib.Core.Path.{◌≡◌, refl, sym, ap, ◌∙◌}
use mathlib.Core.Logic.{◌⊎◌, inl, inr, ⊎_elim}
use mathlib.Core.Bool.{Bool, true, false}
use mathlib.Core.List.{List}
use Prim.Native.Nat.{ℕ, zero, suc, ◌+◌, ◌-◌, ◌≤◌, ◌<◌, min}
use native.Mathlib.Nat.{min-eq_left, min-le_left, min-le_right, le-min}
use native.Mathlib.Omega.{arith}
use borrow.Author.Tests.{eq-eqb, ltb-true, ltb-false}
use lib.Dec.{ltb}
use lib.ListN.{length}
use Rattle.protocol.specs.Verdict.{first_of, no_fault, Verdict}
use Rattle.protocol.specs.declared.Refusal.{Refusal}
use Rattle.protocol.specs.declared.service.ServiceId.{ServiceId}
use Rattle.protocol.proofs.Verdicts.{left_fits, right_fits}
use Rattle.folds.specs.Folds.{any_of}
use Rattle.folds.proofs.Laws.{last, any_at, index_at, fits_each, fault_of}
use Rattle.pairs.specs.declared.ZeroSize.{ZeroSize}
use Rattle.device_services.specs.DeviceServices.{count_of, fixed_part, offset_of, cid_count_at, cid_at, length_verdict, element_verdict, elements_verdict, part_verdict}
use Rattle.device_services.proofs.Laws.{few}
use Rattle.services_query.specs.ServicesQuery.{is_of, is_cid, has_cid, holds}
use Rattle.services_ask.specs.ServicesAsk.{PositionAnswer, position, NoneOf, match_in, element_says, or_else, first_said, position_with}
use Rattle.std.specs.Prelude.{Some, None, Ok, Err}

-- one number is below another or it isn't
pub order : (l k : ℕ) → (l < k) ⊎ (k ≤ l)
order l k = by_test (ltb l k) refl
  where
    by_test : (b : Bool) → ltb l k ≡ b → (l < k) ⊎ (k ≤ l)
    by_test true q = inl (ltb-true l k q)
    by_test false q = inr (ltb-false l k q)

-- one more that is not of the service
pub others_more : (s : List ℕ) (service : ServiceId) (first i : ℕ) → NoneOf s service first i → is_of s service i ≡ false → NoneOf s service first (i + 1)
others_more s service first i others e j l h = ⊎_elim (others j l) (λ k. ap (is_of s service) (omega arith) ∙ e) (order j i)

-- ---- of any answers

or_none : (a b : PositionAnswer) → or_else a b ≡ Ok None → (a ≡ Ok None) × (b ≡ Ok None)
or_none (Ok (Some p)) b e = cc
or_none (Ok None) b e = (refl, e)
or_none (Err r) b e = cc

-- a walk without an answer is one past silent elements
pub silent_each : (f : ℕ → PositionAnswer) (n : ℕ) → first_said f n ≡ Ok None → (j : ℕ) → j < n → f j ≡ Ok None
unfolding first_said
silent_each f zero e j l = absurd (omega arith)
silent_each f (suc n) e j l =
    let k = or_none (first_said f n) (f n) e in
    last j n l (silent_each f n k.0 j) (λ h. ap f h ∙ k.1)

each_silent : (f : ℕ → PositionAnswer) (n : ℕ) → ((j : ℕ) → j < n → f j ≡ Ok None) → first_said f n ≡ Ok None
unfolding first_said
each_silent f zero h = refl
each_silent f (suc n) h = rw (each_silent f n (λ j l. h j (omega arith))) (h n (omega arith))

-- what says anything stands
abbrev Stays : PositionAnswer → Type 0
Stays a = (b : PositionAnswer) → or_else a b ≡ a

-- the first answer is the answer
said_at : (f : ℕ → PositionAnswer) (n i : ℕ) (a : PositionAnswer) → Stays a → first_said f i ≡ Ok None → i < n → f i ≡ a → first_said f n ≡ a
unfolding first_said
said_at f zero i a stays e l q = absurd (omega arith)
said_at f (suc n) i a stays e l q = last i n l (λ h. rw (said_at f n i a stays e h q) (stays _)) (λ h. rw (← h, e) q)

-- ---- of elements

module _ (z : ZeroSize) (s : List ℕ) (fixed : ℕ) (service : ServiceId) (cid : ℕ) where
  abbrev verdict : ℕ → Verdict
  verdict = element_verdict z s fixed

  abbrev says : ℕ → PositionAnswer
  says = element_says z s fixed service cid

  -- a good element of another service is silent
  other_silent : (j : ℕ) → verdict j ≡ no_fault → is_of s service j ≡ false → says j ≡ Ok None
  unfolding element_says match_in holds
  other_silent j f o = rw (f, o)

  -- and so is one without the CID
  silent_here : (j o n : ℕ) → o ≡ offset_of s j → n ≡ cid_count_at s o → verdict j ≡ no_fault → is_of s service j ≡ true → any_of (is_cid s o cid) n ≡ false → says j ≡ Ok None
  unfolding element_says match_in holds has_cid
  silent_here j o n p q f of none = rw (f, of, ← p, ← q, none)

  -- past good elements of other services
  passed : (next i : ℕ) → first_said says next ≡ Ok None → NoneOf s service next i → ((j : ℕ) → next ≤ j → j < i → verdict j ≡ no_fault) → first_said says i ≡ Ok None
  passed next i e o f = each_silent says i (λ j l. ⊎_elim (silent_each says next e j) (λ h. other_silent j (f j h l) (o j h l)) (order j next))

  -- each of the elements judged in one go fits
  fits_in : (next end : ℕ) → elements_verdict z s fixed next end ≡ no_fault → (j : ℕ) → next ≤ j → j < end → verdict j ≡ no_fault
  fits_in next end e j l h = ap verdict (omega arith) ∙ fits_each (λ i. verdict (next + i)) (end - next) e (j - next) (omega arith)

  -- a fault in one of them is the answer, where those before the last are of other services
  fault_found : (count next end : ℕ) (r : Refusal) → first_said says next ≡ Ok None → NoneOf s service next (end - 1) → end ≤ count
      → elements_verdict z s fixed next end ≡ Err r → first_said says count ≡ Err r
  unfolding element_says
  fault_found count next end r e o l q =
      let h = fault_of (λ i. verdict (next + i)) (end - next) r q in
      let b : h.0 < end - next = h.1.0 in
      let here : next + h.0 - next ≡ h.0 = omega arith in
      let before = passed next (next + h.0) e (λ j m k. o j m (omega arith)) (fits_in next (next + h.0) (rw here h.1.1.0)) in
      said_at says count (next + h.0) (Err r) (λ x. refl) before (omega arith) (rw h.1.1.1)

  -- an element of the service that is the last of those judged
  match_found : (count i k o n : ℕ) → o ≡ offset_of s i → n ≡ cid_count_at s o → first_said says i ≡ Ok None → i < count → verdict i ≡ no_fault → is_of s service i ≡ true
      → any_of (is_cid s o cid) k ≡ false → k < n → cid_at s o k ≡ cid → first_said says count ≡ Ok (Some (position i k))
  unfolding element_says match_in holds has_cid
  match_found count i k o n p q e l f of none h c =
      let t : is_cid s o cid k ≡ true = eq-eqb _ _ c in
      said_at says count i (Ok (Some (position i k))) (λ b. refl) e l
      (rw (f, of, ← p, ← q, any_at (is_cid s o cid) n k h t, index_at (is_cid s o cid) n k none h t))

  none_found : (i o n : ℕ) → o ≡ offset_of s i → n ≡ cid_count_at s o → first_said says i ≡ Ok None → verdict i ≡ no_fault → is_of s service i ≡ true
      → any_of (is_cid s o cid) n ≡ false → first_said says (i + 1) ≡ Ok None
  none_found i o n p q e f of none =
      each_silent says (i + 1) (λ j l. ⊎_elim (silent_each says i e j) (λ h. ap says (omega arith) ∙ silent_here i o n p q f of none) (order j i))

-- ---- of a list

first_fault : (d e : Verdict) (r : Refusal) → first_of d e ≡ Err r → (d ≡ Err r) ⊎ ((d ≡ no_fault) × (e ≡ Err r))
unfolding first_of
first_fault (Ok _) e r q = inr (refl, q)
first_fault (Err x) e r q = inl q

module _ (z : ZeroSize) (s : List ℕ) (service : ServiceId) (cid : ℕ) where
  abbrev long : Verdict
  long = length_verdict (length s) (count_of s)

  abbrev fixed : ℕ
  fixed = fixed_part (count_of s)

  abbrev pub Silent : ℕ → Type 0
  Silent n = first_said (element_says z s fixed service cid) n ≡ Ok None

  -- a part that fits
  part_fits : (next end : ℕ) → part_verdict z s next end ≡ no_fault
      → (long ≡ no_fault) × ((j : ℕ) → next ≤ j → j < min end (count_of s) → element_verdict z s fixed j ≡ no_fault)
  part_fits next end e =
      let m = elements_verdict z s fixed next (min end (count_of s)) in
      (left_fits long m e, fits_in z s fixed service cid next (min end (count_of s)) (right_fits long m e))

  -- a fault in a part is the answer, where those before its last are of other services
  pub part_fault : (next i : ℕ) (r : Refusal) → Silent next → NoneOf s service next i → part_verdict z s next (i + 1) ≡ Err r
      → position_with z s service cid ≡ Err r
  unfolding position_with
  part_fault next i r e o q =
      let m = min (i + 1) (count_of s) in
      let l : m ≤ i + 1 = min-le_left (i + 1) (count_of s) in
      ⊎_elim (λ d. rw d)
      (λ d. rw d.0 (fault_found z s fixed service cid (count_of s) next m r e (λ j h k. o j h (omega (arith, l))) (min-le_right (i + 1) (count_of s)) d.1))
      (first_fault long (elements_verdict z s fixed next m) r q)

  -- the elements before the last of a part that fits are silent
  part_silent : (next i : ℕ) → Silent next → NoneOf s service next i → i ≤ count_of s → part_verdict z s next (i + 1) ≡ no_fault → (long ≡ no_fault) × Silent i
  part_silent next i e o l q =
      let f = part_fits next (i + 1) q in
      (f.0, passed z s fixed service cid next i e o (λ j h k. f.1 j h (le-min {k = suc j} (omega arith) (omega arith))))

  -- what is gone through: all elements, where the count is right
  ends : long ≡ no_fault → min (count_of s) 32 ≡ count_of s
  ends f = min-eq_left (few (length s) (count_of s) f)

  answered : (a : PositionAnswer) → long ≡ no_fault → first_said (element_says z s fixed service cid) (count_of s) ≡ a → position_with z s service cid ≡ a
  unfolding position_with
  answered a l e = rw l e

  -- none is of the service, and all are good
  pub none_left : (next end : ℕ) → end ≡ min (count_of s) 32 → Silent next → NoneOf s service next end → part_verdict z s next (end + 1) ≡ no_fault
      → position_with z s service cid ≡ Ok None
  none_left next end m e o q =
      let f = (part_fits next (end + 1) q).0 in
      let n : end ≡ count_of s = m ∙ ends f in
      let h = part_silent next end e o (omega arith) q in
      answered (Ok None) f (ap (first_said (element_says z s fixed service cid)) (sym n) ∙ h.1)

  -- an element of the service, the last of a part that fits
  module _ (next i o n : ℕ) (silent : Silent next) (others : NoneOf s service next i) (l : next ≤ i) (below : i < count_of s) (of : is_of s service i ≡ true)
      (at : o ≡ offset_of s i) (counted : n ≡ cid_count_at s o) (fits : part_verdict z s next (i + 1) ≡ no_fault) where
    good : element_verdict z s fixed i ≡ no_fault
    good = (part_fits next (i + 1) fits).1 i l (le-min {k = suc i} (omega arith) (omega arith))

    before : (long ≡ no_fault) × Silent i
    before = part_silent next i silent others (omega arith) fits

    pub match_here : (k : ℕ) → any_of (is_cid s o cid) k ≡ false → k < n → cid_at s o k ≡ cid → position_with z s service cid ≡ Ok (Some (position i k))
    match_here k none h c =
        answered (Ok (Some (position i k))) before.0 (match_found z s fixed service cid (count_of s) i k o n at counted before.1 below good of none h c)

    pub none_here : any_of (is_cid s o cid) n ≡ false → Silent (i + 1)
    none_here none = none_found z s fixed service cid i o n at counted before.1 good of none
