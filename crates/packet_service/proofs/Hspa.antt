-- The test of the class says its table: what it takes beside document 01's is 18h, any other number is 9 at 8, and 18h is judged like any class.
-- Assumes nothing.
use mathlib.Core.Path.{◌≡◌, refl, sym, ap, ◌∙◌}
use mathlib.Core.Logic.{inl, inr, ⊎_map, ⊎_elim}
use mathlib.Core.Bool.{Bool, true, false, not}
use mathlib.Core.List.{List, [], ◌∷◌}
use Prim.Native.Nat.{ℕ, ◌≤◌}
use native.Mathlib.Omega.{arith}
use borrow.Author.Tests.{ltb-false, le-ltb, eqb-true, eq-eqb, ne_eqb}
use lib.Dec.{eqb, ltb}
use lib.ListN.{length}
use Rattle.wire.specs.Numbers.{u32_at}
use Rattle.protocol.specs.Refusal.{refusal, too_short, wrong_length, outside_table, contradiction, output_too_small}
use Rattle.protocol.specs.Verdict.{Rule, rule, judge, judge_from, fault_if, first_of, exact_length, given, with_room, writing, Verdict}
use Rattle.protocol.specs.DataClass.{class_bits, sum_of_bits, is_bit, one_class_or_none}
use Rattle.protocol.specs.declared.Refusal.{Refusal}
use Rattle.protocol.specs.declared.Reason.{Reason}
use Rattle.protocol.specs.declared.Version.{Version}
use Rattle.protocol.specs.declared.Version.TheVariants.{V1, V2}
use Rattle.protocol.proofs.Tests.{or_cases, cases_or, not_said}
use Rattle.protocol.proofs.Classes.{none_or_class, class_or_none}
use Rattle.protocol.proofs.Verdicts.{fault_stays, length_exact, told_refused}
use Rattle.packet_service.specs.declared.PacketForm.{PacketForm}
use Rattle.packet_service.specs.declared.PacketForm.TheVariants.{V1 as Form1, V2 as Form2}
use Rattle.packet_service.specs.declared.PacketService.{PacketService}
use Rattle.packet_service.specs.PacketService.{length_of, record_at, hspa, packet_class, unattached, stray_range, later_rules, form_rules, rules, verdict_of, shown, read_of, version_in, class_in, bytes_of, write_of}
use Rattle.packet_service.specs.Claims.{PacketClass, ClassExactly, OnlyHspaAdded, OtherClassRead, OtherClassWritten, HspaFits, HspaUnattached, HspaRanged}
use Rattle.std.specs.Prelude.{Ok, Err}

-- ---- the table

class_said : (v : Version) (class : ℕ) → packet_class v class ≡ true → PacketClass v class
unfolding sum_of_bits
class_said v class e =
    ⊎_elim (λ h. ⊎_map (λ z. z) inl (none_or_class v class h)) (λ h. inr (inr (eqb-true class hspa h))) (or_cases (one_class_or_none v class) (eqb class hspa) e)

said_class : (v : Version) (class : ℕ) → PacketClass v class → packet_class v class ≡ true
unfolding sum_of_bits
said_class v class (inl z) = cases_or (one_class_or_none v class) (eqb class hspa) (inl (class_or_none v class (inl z)))
said_class v class (inr (inl k)) = cases_or (one_class_or_none v class) (eqb class hspa) (inl (class_or_none v class (inr k)))
said_class v class (inr (inr e)) = cases_or (one_class_or_none v class) (eqb class hspa) (inr (eq-eqb class hspa e))

pub class_exactly : ClassExactly
class_exactly v class = (class_said v class, said_class v class)

-- 18h is of no single bit
two_bits : (v : Version) → one_class_or_none v 0x18 ≡ false
unfolding is_bit class_bits
two_bits V1 = refl
two_bits V2 = refl

pub only_hspa_added : OnlyHspaAdded
unfolding sum_of_bits
only_hspa_added v class = (
  λ (t, f). ⊎_elim (λ h. cc) (eqb-true class hspa) (or_cases (one_class_or_none v class) (eqb class hspa) t),
  λ e. (said_class v class (inr (inr e)), ap (one_class_or_none v) e ∙ two_bits v),
)

other_class : (v : Version) (class : ℕ) → (PacketClass v class → ⊥) → packet_class v class ≡ false
other_class v class h = go (packet_class v class) refl
  where
    go : (t : Bool) → packet_class v class ≡ t → packet_class v class ≡ false
    go true e = absurd (h (class_said v class e))
    go false e = e

class_other : (v : Version) (class : ℕ) → packet_class v class ≡ false → PacketClass v class → ⊥
class_other v class f h = let t = said_class v class h in cc

-- ---- 9 at 8

same_fault : (n : Reason) (p : ℕ) (m : Reason) (q : ℕ) → ◌≡◌ {A = Verdict} (Err (refusal n p)) (Err (refusal m q)) → (n ≡ m) × (p ≡ q)
same_fault n p m q e =
    let k : refusal n p ≡ refusal m q = cc in
    (ap (λ (r : Refusal). r.reason) k, ap (λ (r : Refusal). r.place) k)

-- the rules of state and class, and any after them that don't say it
class_first : (a b : Bool) (rest : List Rule) → (judge rest ≡ Err (refusal outside_table 8) → ⊥)
    → judge (rule a outside_table 4 ∷ rule b outside_table 8 ∷ rest) ≡ Err (refusal outside_table 8) → (a ≡ false) × (b ≡ true)
unfolding judge_from fault_if first_of
class_first true b rest none e = absurd (omega (arith, (same_fault outside_table 4 outside_table 8 (sym (fault_stays (refusal outside_table 4) rest) ∙ e)).1))
class_first false true rest none e = (refl, refl)
class_first false false rest none e = absurd (none e)

-- at 1.00 there is none, at 2.00 they say another
none_earlier : judge [] ≡ Err (refusal outside_table 8) → ⊥
unfolding judge_from
none_earlier e = cc

none_later : (c d e : Bool) → judge (rule c outside_table 28 ∷ rule d contradiction 8 ∷ rule e contradiction 28 ∷ []) ≡ Err (refusal outside_table 8) → ⊥
unfolding judge_from fault_if first_of
none_later true d e f = omega (arith, (same_fault outside_table 28 outside_table 8 f).1)
none_later false true e f = cc (same_fault contradiction 8 outside_table 8 f).0
none_later false false true f = cc (same_fault contradiction 28 outside_table 8 f).0
none_later false false false f = none_earlier f

form_first : (state : ℕ) (f : PacketForm) → judge (rule (ltb 4 state) outside_table 4 ∷ form_rules state f) ≡ Err (refusal outside_table 8)
    → (state ≤ 4) × (PacketClass (version_in f) (class_in f) → ⊥)
unfolding form_rules later_rules
form_first state (Form1 class) e =
    let k = class_first (ltb 4 state) (not (packet_class V1 class)) [] none_earlier e in
    (ltb-false 4 state k.0, class_other V1 class (not_said (packet_class V1 class) k.1))
form_first state (Form2 class range) e =
    let k = class_first (ltb 4 state) (not (packet_class V2 class)) _ (none_later (ltb 3 range) (unattached state class) (stray_range class range)) e in
    (ltb-false 4 state k.0, class_other V2 class (not_said (packet_class V2 class) k.1))

first_form : (state : ℕ) (f : PacketForm) → state ≤ 4 → (PacketClass (version_in f) (class_in f) → ⊥)
    → judge (rule (ltb 4 state) outside_table 4 ∷ form_rules state f) ≡ Err (refusal outside_table 8)
unfolding form_rules later_rules judge_from fault_if first_of
first_form state (Form1 class) l h = rw (le-ltb 4 state l, other_class V1 class h)
first_form state (Form2 class range) l h = rw (le-ltb 4 state l, other_class V2 class h)

-- a length that doesn't fit is another refusal
length_first : (a b : Bool) (n q : ℕ) (d : Verdict) → first_of (judge (rule a too_short n ∷ rule b wrong_length n ∷ [])) d ≡ Err (refusal outside_table q)
    → (a ≡ false) × ((b ≡ false) × (d ≡ Err (refusal outside_table q)))
unfolding judge_from fault_if first_of
length_first true b n q d e = cc (same_fault too_short n outside_table q e).0
length_first false true n q d e = cc (same_fault wrong_length n outside_table q e).0
length_first false false n q d e = (refl, (refl, e))

exact_first : (fixed n q : ℕ) (d : Verdict) → first_of (exact_length fixed n) d ≡ Err (refusal outside_table q)
    → (n ≡ fixed) × (d ≡ Err (refusal outside_table q))
unfolding exact_length
exact_first fixed n q d e =
    let k = length_first (ltb n fixed) (ltb fixed n) n q d e in
    (omega (arith, ltb-false n fixed k.0, ltb-false fixed n k.1.0), k.1.1)

refuses : (d : Verdict) (p : PacketService) (r : Refusal) → shown d p ≡ Err r → d ≡ Err r
refuses (Ok _) p r e = cc
refuses (Err q) p r e = cc

fields_first : (v : Version) (s : List ℕ) → verdict_of (record_at v s) ≡ Err (refusal outside_table 8)
    → (u32_at s 4 ≤ 4) × (PacketClass v (u32_at s 8) → ⊥)
unfolding verdict_of rules record_at
fields_first V1 s e = form_first (u32_at s 4) (Form1 (u32_at s 8)) e
fields_first V2 s e = form_first (u32_at s 4) (Form2 (u32_at s 8) (u32_at s 28)) e

first_fields : (v : Version) (s : List ℕ) → u32_at s 4 ≤ 4 → (PacketClass v (u32_at s 8) → ⊥) → verdict_of (record_at v s) ≡ Err (refusal outside_table 8)
unfolding verdict_of rules record_at
first_fields V1 s l h = first_form (u32_at s 4) (Form1 (u32_at s 8)) l h
first_fields V2 s l h = first_form (u32_at s 4) (Form2 (u32_at s 8) (u32_at s 28)) l h

pub other_class_read : OtherClassRead
unfolding read_of first_of
other_class_read v s = (
  λ e. let k = exact_first (length_of v) (length s) 8 (verdict_of (record_at v s)) (refuses _ (record_at v s) _ e) in (k.0, fields_first v s k.1),
  λ (n, (l, h)). rw (length_exact (length_of v) (length s) n, first_fields v s l h),
)

-- a room too small is another refusal
room_last : (d : Verdict) (b : Bool) (n q : ℕ) → first_of d (fault_if b output_too_small n) ≡ Err (refusal outside_table q) → d ≡ Err (refusal outside_table q)
unfolding first_of fault_if
room_last (Ok _) true n q e = cc (same_fault output_too_small n outside_table q e).0
room_last (Ok _) false n q e = e
room_last (Err r) b n q e = e

pub other_class_written : OtherClassWritten
unfolding write_of writing with_room given first_of verdict_of rules
other_class_written p s = (
  λ e. form_first p.packet_service_state p.form
      (room_last (verdict_of p) (ltb (length s) (length (bytes_of p))) (length (bytes_of p)) 8 (told_refused (with_room (verdict_of p) (bytes_of p) s) (bytes_of p) s _ e)),
  λ (l, h). rw (first_form p.packet_service_state p.form l h),
)

-- ---- 18h

hspa_taken : (v : Version) → packet_class v 0x18 ≡ true
hspa_taken v = said_class v 0x18 (inr (inr refl))

pub hspa_fits : HspaFits
unfolding verdict_of rules form_rules later_rules judge_from fault_if first_of
hspa_fits p l (inl f) = rw (f, le-ltb 4 p.packet_service_state l, hspa_taken V1)
hspa_fits p l (inr (f, a)) = rw (f, a, hspa_taken V2)

pub hspa_unattached : HspaUnattached
unfolding verdict_of rules form_rules later_rules judge_from fault_if first_of
hspa_unattached p range f l r h = rw (f, le-ltb 4 p.packet_service_state l, hspa_taken V2, le-ltb 3 range r, ne_eqb p.packet_service_state 2 h)

pub hspa_ranged : HspaRanged
unfolding verdict_of rules form_rules later_rules judge_from fault_if first_of
hspa_ranged p range f a r h = rw (f, a, hspa_taken V2, le-ltb 3 range r, ne_eqb range 0 h)
