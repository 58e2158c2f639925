-- The answers in words of elements, whichever choice the reader makes: a CID is listed exactly when an element holds both; the element
-- shown for a service is its first.
-- Assumes nothing.
use mathlib.Core.Path.{◌≡◌, refl, ap}
use mathlib.Core.Bool.{Bool, true, false, cond}
use mathlib.Core.List.{List}
use Prim.Native.Nat.{ℕ, ◌*◌, ◌≤◌, ◌<◌}
use native.Mathlib.Omega.{arith}
use borrow.Author.Tests.{eq-eqb, eqb-true, lt-ltb, le-ltb, ltb-false}
use Rattle.protocol.specs.declared.service.ServiceId.{ServiceId}
use Rattle.protocol.proofs.Services.{same_said, said_same}
use Rattle.protocol.proofs.Tests.{and_both, both_and}
use Rattle.folds.specs.Folds.{any_of, first_index}
use Rattle.folds.proofs.Laws.{some_of, each_none, any_at, index_at, index_below, index_none}
use Rattle.wire.specs.Output.{over}
use Rattle.protocol.specs.Refusal.{refusal, output_too_small}
use Rattle.device_services.specs.DeviceServices.{count_of, offset_of, cid_count_at, element_at, cids_at, verdict_with}
use Rattle.pairs.specs.declared.ZeroSize.{ZeroSize}
use lib.Dec.{ltb}
use lib.ListN.{length}
use Rattle.services_query.specs.ServicesQuery.{Shown, is_of, is_cid, has_cid, holds, plain, judged, element_shown, chosen_shown, element_with, cids_with, told, listed_with}
use Rattle.services_query.specs.Claims.{Serves, Held, ElementNotListed, CidsNotListed, ListedExactly, NotListedExactly, FirstShown, ElementShown}
use Rattle.std.specs.Prelude.{Ok, Err, Some, None}
use Rattle.protocol.specs.Verdict.{no_fault, Verdict}

-- ---- a service and a CID

pub serves_said : (s : List ℕ) (service : ServiceId) (i : ℕ) → i < count_of s → is_of s service i ≡ true → Serves s service i
unfolding is_of
serves_said s service i l e = record { below = l; is = same_said (element_at s (offset_of s i)).device_service_id service e }

pub said_serves : (s : List ℕ) (service : ServiceId) (i : ℕ) → Serves s service i → is_of s service i ≡ true
unfolding is_of
said_serves s service i h = said_same (element_at s (offset_of s i)).device_service_id service h.is

held_said : (s : List ℕ) (service : ServiceId) (cid : ℕ) → any_of (holds s service cid) (count_of s) ≡ true → Held s service cid
unfolding holds has_cid
held_said s service cid e =
    let i = some_of (holds s service cid) (count_of s) e in
    let b = and_both (is_of s service i.0) (has_cid s (offset_of s i.0) cid) i.1.1 in
    let k = some_of (is_cid s (offset_of s i.0) cid) (cid_count_at s (offset_of s i.0)) b.1 in
    record { element = i.0; serves = serves_said s service i.0 i.1.0 b.0; number = k.0; counted = k.1.0; is = eqb-true _ cid k.1.1 }

said_held : (s : List ℕ) (service : ServiceId) (cid : ℕ) → Held s service cid → any_of (holds s service cid) (count_of s) ≡ true
unfolding holds has_cid
said_held s service cid h =
    any_at (holds s service cid) (count_of s) h.element h.serves.below
    (both_and (is_of s service h.element) _ (said_serves s service h.element h.serves)
    (any_at (is_cid s (offset_of s h.element) cid) (cid_count_at s (offset_of s h.element)) h.number h.counted (eq-eqb _ cid h.is)))

told_listed : (d : Verdict) (b : Bool) → told d b ≡ Ok true → (d ≡ no_fault) × (b ≡ true)
told_listed (Ok _) true e = (refl, refl)
told_listed (Ok _) false e = cc
told_listed (Err r) b e = cc

-- listed exactly when the list is accepted and one of its elements holds both
pub listed_exactly : ListedExactly
unfolding listed_with
listed_exactly z s service cid = (
  λ e. let d = told_listed (verdict_with z s) (any_of (holds s service cid) (count_of s)) e in (d.0, held_said s service cid d.1),
  λ k. rw (k.0, said_held s service cid k.1),
)

told_not : (d : Verdict) (b : Bool) → told d b ≡ Ok false → (d ≡ no_fault) × (b ≡ false)
told_not (Ok _) true e = cc
told_not (Ok _) false e = (refl, refl)
told_not (Err r) b e = cc

-- not listed exactly when the list is accepted and none of its elements holds both
pub not_listed_exactly : NotListedExactly
unfolding listed_with
not_listed_exactly z s service cid = (
  λ e. let d = told_not (verdict_with z s) (any_of (holds s service cid) (count_of s)) e in (d.0, λ h. let y = said_held s service cid h in cc),
  λ k. none (any_of (holds s service cid) (count_of s)) refl k.0 k.1,
)
  where
    none : (b : Bool) → any_of (holds s service cid) (count_of s) ≡ b → verdict_with z s ≡ no_fault → (Held s service cid → ⊥)
        → told (verdict_with z s) (any_of (holds s service cid) (count_of s)) ≡ Ok false
    none true e f h = absurd (h (held_said s service cid e))
    none false e f h = rw (f, e)

-- ---- an element

none_serves : (s : List ℕ) (service : ServiceId) (n : ℕ) → n ≤ count_of s → ((j : ℕ) → j < n → Serves s service j → ⊥) → any_of (is_of s service) n ≡ false
none_serves s service n l h = each_none (is_of s service) n (λ j k. by_test (is_of s service j) j refl k)
  where
    by_test : (b : Bool) (j : ℕ) → is_of s service j ≡ b → j < n → is_of s service j ≡ false
    by_test true j e k = absurd (h j k (serves_said s service j (omega arith) e))
    by_test false j e k = e

-- the element with a number below the count is shown, and no other is listed
pub element_shown_lem : ElementShown
unfolding element_with chosen_shown
element_shown_lem z s i out e l = rw (e, lt-ltb i (count_of s) l)

pub element_none : (z : ZeroSize) (s : List ℕ) (i : ℕ) (out : List ℕ) → verdict_with z s ≡ no_fault → count_of s ≤ i → element_with z s i out ≡ plain (Ok None) out
unfolding element_with chosen_shown
element_none z s i out e l = rw (e, le-ltb i (count_of s) l)

-- the first element of a service is shown
pub first_shown : FirstShown
unfolding cids_with chosen_shown
first_shown z s service i out e f =
    let l : i < count_of s = f.serves.below in
    let x : first_index (is_of s service) (count_of s) ≡ i =
    index_at (is_of s service) (count_of s) i (none_serves s service i (omega arith) f.before) l (said_serves s service i f.serves) in
    rw (e, x, lt-ltb i (count_of s) l)

-- a service that no element is of is not listed
pub first_none : (z : ZeroSize) (s : List ℕ) (service : ServiceId) (out : List ℕ) → verdict_with z s ≡ no_fault → ((j : ℕ) → Serves s service j → ⊥)
    → cids_with z s service out ≡ plain (Ok None) out
unfolding cids_with chosen_shown
first_none z s service out e h =
    let x : first_index (is_of s service) (count_of s) ≡ count_of s =
    index_none (is_of s service) (count_of s) (none_serves s service (count_of s) (omega arith) (λ j k. h j)) in
    rw (e, x, le-ltb (count_of s) (count_of s) (omega arith))

-- ---- 'not listed', exactly

-- an element that is there is shown or has too little room
shown_some : (s : List ℕ) (i : ℕ) (out : List ℕ) → (element_shown s i out).answer ≡ Ok None → ⊥
unfolding element_shown
shown_some s i out = by_room (ltb (length out) (cid_count_at s (offset_of s i)))
  where
    by_room : (b : Bool) → (cond b (plain (Err (refusal output_too_small (4 * cid_count_at s (offset_of s i)))) out) (plain (Ok (Some (element_at s (offset_of s i)))) (over (cids_at s (offset_of s i)) out))).answer ≡ Ok None → ⊥
    by_room true e = cc
    by_room false e = cc

chosen_none : (s : List ℕ) (i : ℕ) (out : List ℕ) → (chosen_shown s i out).answer ≡ Ok None → count_of s ≤ i
unfolding chosen_shown
chosen_none s i out e = by_number (ltb i (count_of s)) refl e
  where
    by_number : (b : Bool) → ltb i (count_of s) ≡ b → (cond b (element_shown s i out) (plain (Ok None) out)).answer ≡ Ok None → count_of s ≤ i
    by_number true q e = absurd (shown_some s i out e)
    by_number false q e = ltb-false i (count_of s) q

judged_none : (d : Verdict) (x : Shown) (out : List ℕ) → (judged d x out).answer ≡ Ok None → (d ≡ no_fault) × (x.answer ≡ Ok None)
judged_none (Ok _) x out e = (refl, e)
judged_none (Err r) x out e = cc

pub element_not_listed_exactly : ElementNotListed
unfolding element_with
element_not_listed_exactly z s i out = (
  λ e. let d = judged_none (verdict_with z s) (chosen_shown s i out) out e in (d.0, chosen_none s i out d.1),
  λ k. ap (λ (x : Shown). x.answer) (element_none z s i out k.0 k.1),
)

pub cids_not_listed_exactly : CidsNotListed
unfolding cids_with
cids_not_listed_exactly z s service out = (
  λ e. let d = judged_none (verdict_with z s) (chosen_shown s (first_index (is_of s service) (count_of s)) out) out e in
      (d.0, λ j h. none_below (any_of (is_of s service) (count_of s)) refl (chosen_none s (first_index (is_of s service) (count_of s)) out d.1) j h),
  λ k. ap (λ (x : Shown). x.answer) (first_none z s service out k.0 k.1),
)
  where
    none_below : (b : Bool) → any_of (is_of s service) (count_of s) ≡ b → count_of s ≤ first_index (is_of s service) (count_of s) → (j : ℕ) → Serves s service j → ⊥
    none_below true e l j h = let x = index_below (is_of s service) (count_of s) e in absurd (omega (arith, x, l))
    none_below false e l j h = let y = any_at (is_of s service) (count_of s) j h.below (said_serves s service j h) in cc
