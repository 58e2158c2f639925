-- Laws of verdicts and of what a writer answers and leaves.
-- Assumes nothing.
use mathlib.Core.Path.{◌≡◌, refl, sym, ap, ◌∙◌}
use mathlib.Core.Logic.{◌⊎◌, inl, inr}
use mathlib.Core.Bool.{Bool, true, false}
use mathlib.Core.List.{List, [], ◌∷◌}
use Prim.Native.Nat.{ℕ, ◌≤◌, ◌<◌}
use native.Mathlib.Omega.{arith}
use borrow.Author.Tests.{ltb-false, lt-ltb, le-ltb, eqb-false}
use lib.Dec.{ltb, eqb}
use lib.ListN.{length, take}
use lib.Seq.{sets}
use Rattle.wire.proofs.Laws.{sets_over, take_over}
use Rattle.protocol.specs.Refusal.{refusal, number_of, too_short, wrong_length, too_long, output_too_small}
use Rattle.protocol.specs.Verdict.{fault_if, first_of, Rule, rule, judge_from, judge, Kept, exact_length, open_length, given, with_room, writing, no_fault, Verdict}
use Rattle.protocol.specs.declared.Refusal.{Refusal}
use Rattle.protocol.specs.declared.Reason.{Reason}
use Rattle.std.specs.Prelude.{Ok, Err}

-- ---- what fits as a whole fits in each part

pub left_fits : (a b : Verdict) → first_of a b ≡ no_fault → a ≡ no_fault
unfolding first_of
left_fits (Ok _) b e = refl
left_fits (Err r) b e = e

pub right_fits : (a b : Verdict) → first_of a b ≡ no_fault → b ≡ no_fault
unfolding first_of
right_fits (Ok _) b e = e
right_fits (Err r) b e = let z : ◌≡◌ {A = ℕ} 0 1 = cc in absurd (omega arith)

-- a last verdict that fits changes nothing
pub last_fits : (a : Verdict) → first_of a no_fault ≡ a
unfolding first_of
last_fits (Ok _) = refl
last_fits (Err r) = refl

pub not_broken : (t : Bool) (n : Reason) (p : ℕ) → fault_if t n p ≡ no_fault → t ≡ false
unfolding fault_if
not_broken true n p e = let z : ◌≡◌ {A = ℕ} 0 1 = cc in absurd (omega arith)
not_broken false n p e = refl

from_kept : (rs : List Rule) (v : Verdict) → judge_from v rs ≡ no_fault → (v ≡ no_fault) × Kept rs
unfolding judge_from
from_kept [] v e = (e, tt)
from_kept (r ∷ rs) v e =
    let k = from_kept rs (first_of v (fault_if r.broken r.reason r.place)) e in
    (left_fits v _ k.0, (not_broken r.broken r.reason r.place (right_fits v _ k.0), k.1))

-- ---- rules fit exactly where each is kept

pub fits_kept : (rs : List Rule) → judge rs ≡ no_fault → Kept rs
fits_kept rs e = (from_kept rs no_fault e).1

pub kept_fits : (rs : List Rule) → Kept rs → judge rs ≡ no_fault
unfolding judge_from fault_if first_of
kept_fits [] k = refl
kept_fits (r ∷ rs) k = rw k.0 (kept_fits rs k.1)

-- no rule changes a refusal
pub fault_stays : (r : Refusal) (rs : List Rule) → judge_from (Err r) rs ≡ Err r
unfolding judge_from first_of
fault_stays r [] = refl
fault_stays r (x ∷ rs) = fault_stays r rs

-- ---- the reason of a refusal tells which rule was the first one broken

-- a rule that has the reason (`same`) may be the one, any other is kept
abbrev pub DecidesHere : (same broken : Bool) → Type 0 → Type 0
DecidesHere true b later = (b ≡ true) ⊎ ((b ≡ false) × later)
DecidesHere false b later = (b ≡ false) × later

abbrev pub Decides : Reason → List Rule → Type 0
Decides n [] = ⊥
Decides n (r ∷ rs) = DecidesHere (eqb (number_of r.reason) (number_of n)) r.broken (Decides n rs)

-- where no later rule has the reason, it is this one
pub decides_here : (b : Bool) {later : Type 0} → (later → ⊥) → DecidesHere true b later → b ≡ true
decides_here b none (inl e) = e
decides_here b none (inr k) = absurd (none k.1)

here_decided : (r : Rule) (rs : List Rule) (n : Reason) (p : ℕ) (b same : Bool) → r.broken ≡ b → eqb (number_of r.reason) (number_of n) ≡ same
    → (judge rs ≡ Err (refusal n p) → Decides n rs)
    → judge_from (fault_if b r.reason r.place) rs ≡ Err (refusal n p) → DecidesHere same r.broken (Decides n rs)
unfolding fault_if
here_decided r rs n p true true e s later f = inl e
here_decided r rs n p true false e s later f =
    let g : ◌≡◌ {A = Verdict} (Err (refusal r.reason r.place)) (Err (refusal n p)) = sym (fault_stays (refusal r.reason r.place) rs) ∙ f in
    let q : refusal r.reason r.place ≡ refusal n p = cc in
    absurd (eqb-false (number_of r.reason) (number_of n) s (ap (λ (x : Refusal). number_of x.reason) q))
here_decided r rs n p false true e s later f = inr (e, later f)
here_decided r rs n p false false e s later f = (e, later f)

pub fault_decided : (rs : List Rule) (n : Reason) (p : ℕ) → judge rs ≡ Err (refusal n p) → Decides n rs
unfolding judge_from first_of
fault_decided [] n p e = let z : ◌≡◌ {A = ℕ} 0 1 = cc in absurd (omega arith)
fault_decided (r ∷ rs) n p e = here_decided r rs n p r.broken (eqb (number_of r.reason) (number_of n)) refl refl (fault_decided rs n p) e

-- a verdict and rules after it fit exactly where both do
pub then_kept : (v : Verdict) (rs : List Rule) → first_of v (judge rs) ≡ no_fault → (v ≡ no_fault) × Kept rs
then_kept v rs e = (left_fits v (judge rs) e, fits_kept rs (right_fits v (judge rs) e))

pub kept_then : (v : Verdict) (rs : List Rule) → v ≡ no_fault → Kept rs → first_of v (judge rs) ≡ no_fault
unfolding first_of
kept_then v rs e k = rw e (kept_fits rs k)

-- a payload has its exact length exactly where the verdict fits
pub exact_length_lem : (fixed n : ℕ) → exact_length fixed n ≡ no_fault → n ≡ fixed
unfolding exact_length
exact_length_lem fixed n e =
    let k = fits_kept (rule (ltb n fixed) too_short n ∷ rule (ltb fixed n) wrong_length n ∷ []) e in
    omega (arith, ltb-false n fixed k.0, ltb-false fixed n k.1.0)

pub length_exact : (fixed n : ℕ) → n ≡ fixed → exact_length fixed n ≡ no_fault
unfolding exact_length
length_exact fixed n e = kept_fits _ (le-ltb n fixed (omega arith), (le-ltb fixed n (omega arith), tt))

-- a payload that is shorter or longer is refused at its length
pub length_short : (fixed n : ℕ) → n < fixed → exact_length fixed n ≡ Err (refusal too_short n)
unfolding exact_length judge_from fault_if first_of
length_short fixed n h = rw (lt-ltb n fixed h)

pub length_long : (fixed n : ℕ) → fixed < n → exact_length fixed n ≡ Err (refusal wrong_length n)
unfolding exact_length judge_from fault_if first_of
length_long fixed n h = let l : fixed ≤ n = omega arith in rw (le-ltb n fixed l, lt-ltb fixed n h)

-- a payload with a fixed part has a length that fits exactly where it has the fixed part and is at most 4,096 bytes long
pub open_length_lem : (fixed n : ℕ) → open_length fixed n ≡ no_fault → (fixed ≤ n) × (n ≤ 4096)
unfolding open_length
open_length_lem fixed n e =
    let k = fits_kept (rule (ltb n fixed) too_short n ∷ rule (ltb 4096 n) too_long 0 ∷ []) e in
    (ltb-false n fixed k.0, ltb-false 4096 n k.1.0)

pub length_open : (fixed n : ℕ) → fixed ≤ n → n ≤ 4096 → open_length fixed n ≡ no_fault
unfolding open_length
length_open fixed n h k = kept_fits _ (le-ltb n fixed h, (le-ltb 4096 n k, tt))

pub open_short : (fixed n : ℕ) → n < fixed → open_length fixed n ≡ Err (refusal too_short n)
unfolding open_length judge_from fault_if first_of
open_short fixed n h = rw (lt-ltb n fixed h)

-- ---- writers

-- what is not refused for its room has it
pub room_there : (v : Verdict) (s : List ℕ) (n : ℕ) → first_of v (fault_if (ltb (length s) n) output_too_small n) ≡ no_fault → n ≤ length s
room_there v s n e = ltb-false (length s) n (not_broken _ output_too_small n (right_fits v _ e))

-- so an accepted writing has room for its bytes
pub has_room : (v : Verdict) (b s : List ℕ) → with_room v b s ≡ no_fault → length b ≤ length s
unfolding with_room
has_room v b s e = room_there v s (length b) e

-- what is written was judged to fit
pub was_fit : (v : Verdict) (b s : List ℕ) → with_room v b s ≡ no_fault → v ≡ no_fault
unfolding with_room
was_fit v b s e = left_fits v _ e

-- the code's judgement of the room, with the bytes' length n
room : (v : Verdict) (b s : List ℕ) (n : ℕ) → length b ≡ n → first_of v (fault_if (ltb (length s) n) output_too_small n) ≡ with_room v b s
unfolding with_room
room v b s n e = rw e

-- a writer that judges the room and then stores the bytes does what `writing` says
pub wrote : (v : Verdict) (b s : List ℕ) (n : ℕ) {t : List ℕ} → length b ≡ n → first_of v (fault_if (ltb (length s) n) output_too_small n) ≡ no_fault
    → t ≡ sets s 0 b → record { value : Ok n ≡ (writing v b s).answer; out_after : t ≡ (writing v b s).output }
unfolding writing given
wrote v b s n e f p =
    let w : with_room v b s ≡ no_fault = sym (room v b s n e) ∙ f in
    record { value = rw (w, e); out_after = rw w (p ∙ sets_over b s (has_room v b s w)) }

pub refused : (v : Verdict) (b s : List ℕ) (n : ℕ) (r : Refusal) → length b ≡ n
    → first_of v (fault_if (ltb (length s) n) output_too_small n) ≡ Err r
    → record { value : Err r ≡ (writing v b s).answer; out_after : s ≡ (writing v b s).output }
unfolding writing given
refused v b s n r e f =
    let w : with_room v b s ≡ Err r = sym (room v b s n e) ∙ f in
    record { value = rw w; out_after = rw w }

-- the answer tells the judgement: a length is that of the bytes, which stand at the front
pub told_length : (d : Verdict) (b s : List ℕ) (n : ℕ) → (given d b s).answer ≡ Ok n → (d ≡ no_fault) × (length b ≡ n)
unfolding given
told_length (Ok _) b s n e = (refl, cc)
told_length (Err r) b s n e = let z : ◌≡◌ {A = ℕ} 0 1 = cc in absurd (omega arith)

pub told_refused : (d : Verdict) (b s : List ℕ) (r : Refusal) → (given d b s).answer ≡ Err r → d ≡ Err r
unfolding given
told_refused (Ok _) b s r e = let z : ◌≡◌ {A = ℕ} 0 1 = cc in absurd (omega arith)
told_refused (Err q) b s r e = cc

pub written_front : (v : Verdict) (b s : List ℕ) (n : ℕ) → (writing v b s).answer ≡ Ok n → take n (writing v b s).output ≡ b
unfolding writing given
written_front v b s n e =
    let t = told_length (with_room v b s) b s n e in
    rw t.0 (take_over b s n t.1)

-- what was written was judged to fit
pub written_fits : (v : Verdict) (b s : List ℕ) (n : ℕ) → (writing v b s).answer ≡ Ok n → v ≡ no_fault
unfolding writing
written_fits v b s n e = was_fit v b s (told_length (with_room v b s) b s n e).0

-- a writer accepts exactly what fits and has room
pub written_both : (v : Verdict) (b s : List ℕ) (n : ℕ) → (writing v b s).answer ≡ Ok n → (v ≡ no_fault) × (length b ≤ length s)
unfolding writing
written_both v b s n e =
    let t = told_length (with_room v b s) b s n e in
    (was_fit v b s t.0, has_room v b s t.0)

pub both_written : (v : Verdict) (b s : List ℕ) → v ≡ no_fault → length b ≤ length s → (writing v b s).answer ≡ Ok (length b)
unfolding writing with_room given first_of fault_if
both_written v b s e h = rw (e, le-ltb (length s) (length b) h)
