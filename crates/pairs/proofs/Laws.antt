-- A pair is accepted exactly where it is absent or lies behind the fixed part, aligned and inside the payload; each fault of an offset
-- has its number; the reader's choices differ by an offset beside size 0 alone; what is shown is safe; a pair that a writer places is
-- accepted; the bytes put there are read back. The choice, fixed part, limit and kind are parameters.
-- Assumes nothing.
use mathlib.Core.Path.{◌≡◌, refl, sym, ap, ◌∙◌}
use mathlib.Core.Logic.{◌⊎◌, inl, inr}
use mathlib.Core.Bool.{Bool, true, false, not, cond, ◌&&◌, ◌||◌}
use mathlib.Core.List.{List, [], ◌∷◌, ◌++◌}
use Prim.Native.Nat.{ℕ, zero, suc, ◌+◌, ◌%◌, ◌≤◌, ◌<◌}
use native.Mathlib.Omega.{arith}
use borrow.Author.Tests.{le-ltb, lt-ltb, ltb-true, ltb-false, eq-eqb, ne_eqb, eqb-true, eqb-false}
use lib.Dec.{ltb, eqb}
use lib.ListN.{length, take, drop}
use Rattle.wire.specs.Output.{fitted}
use Rattle.wire.specs.Numbers.{num, u32_at}
use Rattle.wire.proofs.Laws.{text_at, num_skip, num_digits}
use Rattle.protocol.specs.declared.Reason.{Reason}
use Rattle.protocol.specs.Refusal.{number_of, refusal, offset_in_fixed_part, past_end, wrong_size, misaligned_offset, offset_with_zero_size}
use Rattle.protocol.specs.Verdict.{Rule, rule, Kept, judge, judge_from, fault_if, first_of, no_fault, Verdict}
use Rattle.protocol.specs.declared.Refusal.{Refusal}
use Rattle.protocol.proofs.Tests.{and_both, or_none, none_or, not_said, equal_kept, kept_equal}
use Rattle.protocol.proofs.Verdicts.{fits_kept, kept_fits, Decides, decides_here, fault_decided}
use Rattle.pairs.specs.declared.Range.{Range}
use Rattle.pairs.specs.declared.PairKind.{PairKind}
use Rattle.pairs.specs.declared.PairKind.TheVariants.{Text, List as ListKind}
use Rattle.pairs.specs.declared.ZeroSize.{ZeroSize}
use Rattle.pairs.specs.declared.ZeroSize.TheVariants.{Absent as ZeroAbsent, Strict}
use Rattle.pairs.specs.Pair.{reached, range, range_at, range_bytes, part_of, if_strict, if_sized, odd_for, unfit, offset_without_size, inside_fixed_part, misaligned, rules, verdict_of, padded, placed, as_shown}
use Rattle.pairs.specs.Claims.{Absent, NoOffset, AbsentBy, Inside, Even, SizeFits, PairFits, Safe, OffsetWithZeroSize, OffsetInFixedPart, MisalignedOffset, RefusedBy, in_one_number, RangeOfWidth, shown_in, FitsExactly, ZeroSizeExactly, FixedPartExactly, MisalignedExactly, OnlyNumbersMoved, StrictAsBefore, DefaultAsShown, StrictOfFitting, ShownSafe, StrictShown}
use Rattle.std.specs.Prelude.{Ok, Err}

-- ---- sizes

even_said : (kind : PairKind) (size : ℕ) → odd_for kind size ≡ false → Even kind size
even_said Text size e = equal_kept (size % 2) 0 e
even_said ListKind size e = tt

said_even : (kind : PairKind) (size : ℕ) → Even kind size → odd_for kind size ≡ false
said_even Text size e = kept_equal (size % 2) 0 e
said_even ListKind size e = refl

zero_even : (kind : PairKind) → Even kind 0
zero_even Text = refl
zero_even ListKind = tt

-- a size that fits is within its limit, and even for text
pub size_said : (kind : PairKind) (limit size : ℕ) → unfit kind limit size ≡ false → SizeFits kind limit size
size_said kind limit size e =
    let k = or_none (ltb limit size) (odd_for kind size) e in
    record { small = ltb-false limit size k.0; even = even_said kind size k.1 }

pub said_size : (kind : PairKind) (limit size : ℕ) → SizeFits kind limit size → unfit kind limit size ≡ false
said_size kind limit size f = none_or (ltb limit size) (odd_for kind size) (le-ltb limit size f.small) (said_even kind size f.even)

-- ---- a pair is accepted exactly where it is safe

-- no offset, where the choice asks for that
no_offset : (z : ZeroSize) (start : ℕ) → if_strict z (not (eqb start 0)) ≡ false → NoOffset z start
unfolding if_strict
no_offset ZeroAbsent start e = tt
no_offset Strict start e = equal_kept start 0 e

offset_no : (z : ZeroSize) (start : ℕ) → NoOffset z start → if_strict z (not (eqb start 0)) ≡ false
unfolding if_strict
offset_no ZeroAbsent start h = refl
offset_no Strict start h = kept_equal start 0 h

-- a rule of the strict choice that isn't broken
pub not_strict : (z : ZeroSize) → if_strict z false ≡ false
unfolding if_strict
not_strict ZeroAbsent = refl
not_strict Strict = refl

-- and one that is
strict_said : (z : ZeroSize) (b : Bool) → if_strict z b ≡ true → (z ≡ Strict) × (b ≡ true)
unfolding if_strict
strict_said ZeroAbsent b e = let z : ◌≡◌ {A = ℕ} 0 1 = cc in absurd (omega arith)
strict_said Strict b e = (refl, e)

module _ (z : ZeroSize) (kind : PairKind) (fixed limit place n : ℕ) (p : Range) where
  safe_by : Kept (rules z kind fixed limit place n p) → (t : Bool) → eqb p.length 0 ≡ t → AbsentBy z p ⊎ Inside fixed n p
  unfolding rules
  safe_by k true e = inl (record { nowhere = no_offset z p.start (rw e at k.1.0); empty = eqb-true p.length 0 e })
  safe_by k false e =
      let some : p.length ≡ 0 → ⊥ = eqb-false p.length 0 e in
      let within : ltb n (p.start + p.length) ≡ false = rw e at k.1.1.1.1.0 in
      let behind : ltb p.start fixed ≡ false = rw e at k.1.1.0 in
      inr
      (record {
        some = omega arith;
        behind = ltb-false p.start fixed behind;
        aligned = equal_kept (p.start % 4) 0 (rw e at k.1.1.1.0);
        within = ltb-false n (p.start + p.length) within;
      })

  pub fits_said : verdict_of z kind fixed limit place n p ≡ no_fault → PairFits z kind fixed limit n p
  unfolding verdict_of rules
  fits_said e =
      let k = fits_kept (rules z kind fixed limit place n p) e in
      record { size = size_said kind limit p.length k.0; safe = safe_by k (eqb p.length 0) refl }

  pub said_fits : PairFits z kind fixed limit n p → verdict_of z kind fixed limit place n p ≡ no_fault
  unfolding verdict_of rules
  said_fits f = go f.safe
    where
      fit : unfit kind limit p.length ≡ false
      fit = said_size kind limit p.length f.size

      go : AbsentBy z p ⊎ Inside fixed n p → judge (rules z kind fixed limit place n p) ≡ no_fault
      go (inl a) =
          let e : eqb p.length 0 ≡ true = eq-eqb p.length 0 a.empty in
          kept_fits (rules z kind fixed limit place n p) (fit, (rw e (offset_no z p.start a.nowhere), (rw e refl, (rw e refl, (rw e refl, tt)))))
      go (inr i) =
          let e : eqb p.length 0 ≡ false = ne_eqb p.length 0 (λ z. omega (arith, i.some)) in
          kept_fits (rules z kind fixed limit place n p)
          (fit, (rw e (not_strict z), (rw e (le-ltb p.start fixed i.behind), (rw e (kept_equal (p.start % 4) 0 i.aligned), (rw e (le-ltb n (p.start + p.length) i.within), tt)))))

pub fits_exactly : FitsExactly
fits_exactly z kind fixed limit place n p = (fits_said z kind fixed limit place n p, said_fits z kind fixed limit place n p)

-- ---- an offset beside size 0

-- a size of 0 fits every limit
none_fits : (kind : PairKind) (limit size : ℕ) → size ≡ 0 → SizeFits kind limit size
none_fits kind limit size e = rw e (record { small = omega arith; even = zero_even kind })

pub stray_said : (p : Range) → offset_without_size p ≡ true → OffsetWithZeroSize p
stray_said p e =
    let b = and_both (eqb p.length 0) (not (eqb p.start 0)) e in
    record { empty = eqb-true p.length 0 b.0; somewhere = eqb-false p.start 0 (not_said (eqb p.start 0) b.1) }

pub said_stray : (p : Range) → OffsetWithZeroSize p → offset_without_size p ≡ true
said_stray p f = rw (eq-eqb p.length 0 f.empty, ne_eqb p.start 0 f.somewhere)

-- ---- a pair is refused by 18, 6 and 17 exactly where its offset has that fault

module _ (z : ZeroSize) (kind : PairKind) (fixed limit place n : ℕ) (p : Range) where
  decided : (reason : Reason) → RefusedBy reason z kind fixed limit place n p → Decides reason (rules z kind fixed limit place n p)
  unfolding verdict_of
  decided reason e = fault_decided (rules z kind fixed limit place n p) reason place e

  -- a rule that is broken only where there are bytes
  sized : (t : Bool) → if_sized p.length t ≡ true → (eqb p.length 0 ≡ false) × (t ≡ true)
  sized t e =
      let b = and_both (not (eqb p.length 0)) t e in
      (not_said (eqb p.length 0) b.0, b.1)

  some_there : eqb p.length 0 ≡ false → 0 < p.length
  some_there e = let h : p.length ≡ 0 → ⊥ = eqb-false p.length 0 e in omega arith

  zero_size_said : RefusedBy offset_with_zero_size z kind fixed limit place n p → (z ≡ Strict) × OffsetWithZeroSize p
  unfolding rules number_of
  zero_size_said e =
      let k = decided offset_with_zero_size e in
      let s = strict_said z (offset_without_size p) (decides_here (if_strict z (offset_without_size p)) (λ m. m.1.1.1) k.1) in
      (s.0, stray_said p s.1)

  said_zero_size : (z ≡ Strict) × OffsetWithZeroSize p → RefusedBy offset_with_zero_size z kind fixed limit place n p
  unfolding verdict_of rules if_strict judge_from fault_if first_of
  said_zero_size f = rw (f.0, said_size kind limit p.length (none_fits kind limit p.length f.1.empty), said_stray p f.1)

  fixed_part_said : RefusedBy offset_in_fixed_part z kind fixed limit place n p → OffsetInFixedPart kind fixed limit p
  unfolding rules number_of
  fixed_part_said e =
      let k = decided offset_in_fixed_part e in
      let b = sized (ltb p.start fixed) (decides_here (inside_fixed_part fixed p) (λ m. m.1.1) k.1.1) in
      record {
        size = size_said kind limit p.length k.0;
        some = some_there b.0;
        inside = ltb-true p.start fixed b.1;
      }

  said_fixed_part : OffsetInFixedPart kind fixed limit p → RefusedBy offset_in_fixed_part z kind fixed limit place n p
  unfolding verdict_of rules judge_from fault_if first_of
  said_fixed_part f =
      rw (said_size kind limit p.length f.size, ne_eqb p.length 0 (λ z. omega (arith, f.some)), not_strict z, lt-ltb p.start fixed f.inside)

  misaligned_said : RefusedBy misaligned_offset z kind fixed limit place n p → MisalignedOffset kind fixed limit p
  unfolding rules number_of
  misaligned_said e =
      let k = decided misaligned_offset e in
      let b = sized (not (eqb (p.start % 4) 0)) (decides_here (misaligned p) (λ m. m.1) k.1.1.1) in
      let z : eqb p.length 0 ≡ false = b.0 in
      let behind : ltb p.start fixed ≡ false = rw z at k.1.1.0 in
      record {
        size = size_said kind limit p.length k.0;
        some = some_there z;
        behind = ltb-false p.start fixed behind;
        misaligned = eqb-false (p.start % 4) 0 (not_said (eqb (p.start % 4) 0) b.1);
      }

  said_misaligned : MisalignedOffset kind fixed limit p → RefusedBy misaligned_offset z kind fixed limit place n p
  unfolding verdict_of rules judge_from fault_if first_of
  said_misaligned f =
      rw (
        said_size kind limit p.length f.size,
        ne_eqb p.length 0 (λ z. omega (arith, f.some)),
        not_strict z,
        le-ltb p.start fixed f.behind,
        ne_eqb (p.start % 4) 0 f.misaligned,
      )

pub zero_size_exactly : ZeroSizeExactly
zero_size_exactly z kind fixed limit place n p = (zero_size_said z kind fixed limit place n p, said_zero_size z kind fixed limit place n p)

pub fixed_part_exactly : FixedPartExactly
fixed_part_exactly z kind fixed limit place n p = (fixed_part_said z kind fixed limit place n p, said_fixed_part z kind fixed limit place n p)

pub misaligned_exactly : MisalignedExactly
misaligned_exactly z kind fixed limit place n p = (misaligned_said z kind fixed limit place n p, said_misaligned z kind fixed limit place n p)

-- ---- with one number for the three, a pair is judged as document 01 says

-- the rules by what is tested: as they are, and as 01 has them
abbrev apart : ℕ → (over empty nowhere inside aligned past : Bool) → List Rule
apart place over empty nowhere inside aligned past =
    rule over wrong_size place
    ∷ rule (empty && not nowhere) offset_with_zero_size place
    ∷ rule (not empty && inside) offset_in_fixed_part place
    ∷ rule (not empty && not aligned) misaligned_offset place
    ∷ rule (not empty && past) past_end place
    ∷ []

abbrev together : ℕ → (over empty nowhere inside aligned past : Bool) → List Rule
together place over empty nowhere inside aligned past =
    rule over wrong_size place
    ∷ rule (cond empty (not nowhere) (inside || not aligned)) offset_in_fixed_part place
    ∷ rule (not empty && past) past_end place
    ∷ []

in_one : (place : ℕ) (u z w i a e : Bool) → in_one_number (judge (apart place u z w i a e)) ≡ judge (together place u z w i a e)
unfolding judge_from fault_if first_of number_of
in_one place true z w i a e = refl
in_one place false true true i a e = refl
in_one place false true false i a e = refl
in_one place false false w true a e = refl
in_one place false false w false false e = refl
in_one place false false w false true true = refl
in_one place false false w false true false = refl

pub only_numbers_moved : OnlyNumbersMoved
unfolding verdict_of rules if_strict
only_numbers_moved kind fixed limit place n p =
    in_one place (unfit kind limit p.length) (eqb p.length 0) (eqb p.start 0) (ltb p.start fixed) (eqb (p.start % 4) 0) (ltb n (p.start + p.length))

-- ---- the reader's choices

pub strict_as_before : StrictAsBefore
unfolding verdict_of rules if_strict
strict_as_before kind fixed limit place n p = refl

-- without an offset the choice is no matter
no_choice : (z : ZeroSize) → NoOffset z 0
no_choice ZeroAbsent = tt
no_choice Strict = refl

-- an absent pair fits
pub absent_fits : (z : ZeroSize) (kind : PairKind) (fixed limit place n : ℕ) → verdict_of z kind fixed limit place n (range 0 0) ≡ no_fault
absent_fits z kind fixed limit place n =
    said_fits z kind fixed limit place n (range 0 0) (record { size = none_fits kind limit 0 refl; safe = inl (record { nowhere = no_choice z; empty = refl }) })

-- and by default so does every pair of size 0
pub zero_fits : (kind : PairKind) (fixed limit place n : ℕ) (p : Range) → p.length ≡ 0 → verdict_of ZeroAbsent kind fixed limit place n p ≡ no_fault
zero_fits kind fixed limit place n p e =
    said_fits ZeroAbsent kind fixed limit place n p (record { size = none_fits kind limit p.length e; safe = inl (record { nowhere = tt; empty = e }) })

module _ (kind : PairKind) (fixed limit place n : ℕ) (p : Range) where
  -- with bytes a pair is judged and shown as it stands
  some_judged : (z : ZeroSize) → eqb p.length 0 ≡ false → verdict_of ZeroAbsent kind fixed limit place n p ≡ verdict_of z kind fixed limit place n p
  unfolding verdict_of rules
  some_judged z e = rw (e, not_strict z, not_strict ZeroAbsent)

  shown_by : (z : ZeroSize) (t : Bool) → eqb p.length 0 ≡ t → verdict_of ZeroAbsent kind fixed limit place n p ≡ verdict_of z kind fixed limit place n (as_shown p)
  shown_by z true e =
      let empty : p.length ≡ 0 = eqb-true p.length 0 e in
      zero_fits kind fixed limit place n p empty
      ∙ sym (rw (e, empty) (absent_fits z kind fixed limit place n))
  shown_by z false e = rw e (some_judged z e)

  none_judged : offset_without_size p ≡ false → verdict_of Strict kind fixed limit place n p ≡ verdict_of ZeroAbsent kind fixed limit place n p
  unfolding verdict_of rules
  none_judged e = rw (e, not_strict Strict, not_strict ZeroAbsent)

  of_fitting : verdict_of ZeroAbsent kind fixed limit place n p ≡ no_fault → (b : Bool) → offset_without_size p ≡ b
      → verdict_of Strict kind fixed limit place n p ≡ judge (rule b offset_with_zero_size place ∷ [])
  unfolding judge_from fault_if first_of
  of_fitting f true e = said_zero_size Strict kind fixed limit place n p (refl, stray_said p e)
  of_fitting f false e = none_judged e ∙ f

pub default_as_shown : DefaultAsShown
default_as_shown z kind fixed limit place n p = shown_by kind fixed limit place n p z (eqb p.length 0) refl

pub strict_of_fitting : StrictOfFitting
strict_of_fitting kind fixed limit place n p f = of_fitting kind fixed limit place n p f (offset_without_size p) refl

-- ---- what is shown

shown_empty : (p : Range) → p.length ≡ 0 → Absent (as_shown p)
shown_empty p e = record { nowhere = rw (eq-eqb p.length 0 e); empty = e }

-- with bytes, as it stands
pub shown_some : (p : Range) → 0 < p.length → as_shown p ≡ p
shown_some p h = rw (ne_eqb p.length 0 (λ e. omega (arith, h)))

pub shown_safe : ShownSafe
shown_safe z kind fixed limit n p f = by_place f.safe
  where
    by_place : AbsentBy z p ⊎ Inside fixed n p → Safe fixed n (as_shown p)
    by_place (inl a) = inl (shown_empty p a.empty)
    by_place (inr i) = inr (rw (shown_some p i.some) i)

pub strict_shown : StrictShown
strict_shown kind fixed limit n p f = by_place f.safe
  where
    by_place : AbsentBy Strict p ⊎ Inside fixed n p → as_shown p ≡ p
    by_place (inl a) =
        let nowhere : cond (eqb p.length 0) 0 p.start ≡ p.start = rw (eq-eqb p.length 0 a.empty) (sym a.nowhere) in
        λ i. record { start = nowhere i; length = p.length }
    by_place (inr i) = shown_some p i.some

-- what fits by a choice fits by default
pub fits_by_default : (z : ZeroSize) (kind : PairKind) (fixed limit n : ℕ) (p : Range) → PairFits z kind fixed limit n p → PairFits ZeroAbsent kind fixed limit n p
fits_by_default z kind fixed limit n p f = record { size = f.size; safe = by_place f.safe }
  where
    by_place : AbsentBy z p ⊎ Inside fixed n p → AbsentBy ZeroAbsent p ⊎ Inside fixed n p
    by_place (inl a) = inl (record { nowhere = tt; empty = a.empty })
    by_place (inr i) = inr i

-- a pair that a writer places is shown as it stands
pub placed_shown : (base size : ℕ) → as_shown (placed base size) ≡ placed base size
placed_shown base size = by_size (eqb size 0)
  where
    by_size : (t : Bool) → range (cond t 0 (cond t 0 base)) size ≡ range (cond t 0 base) size
    by_size true = refl
    by_size false = refl

-- ---- a pair that a writer places

module _ (z : ZeroSize) (kind : PairKind) (fixed limit place n base : ℕ) where
  -- is accepted behind the fixed part
  pub placed_fits : (size : ℕ) → unfit kind limit size ≡ false → fixed ≤ base → base % 4 ≡ 0 → base + size ≤ n
      → verdict_of z kind fixed limit place n (placed base size) ≡ no_fault
  placed_fits zero u f a e = absent_fits z kind fixed limit place n
  placed_fits (suc m) u f a e =
      let i : Inside fixed n (range base (suc m)) = record { some = omega arith; behind = f; aligned = a; within = e } in
      rw (ne_eqb (suc m) 0 (omega arith))
      (said_fits z kind fixed limit place n (range base (suc m)) (record { size = size_said kind limit (suc m) u; safe = inr i }))

  -- and refused as one in the fixed part where that reaches further
  pub placed_inside : (size : ℕ) → unfit kind limit size ≡ false → (size ≡ 0 → ⊥) → base < fixed
      → verdict_of z kind fixed limit place n (placed base size) ≡ Err (refusal offset_in_fixed_part place)
  placed_inside size u h l =
      let some : 0 < size = omega (arith, h) in
      rw (ne_eqb size 0 h) (said_fixed_part z kind fixed limit place n (range base size) (record { size = size_said kind limit size u; some = some; inside = l }))

-- its numbers fit their fields
pub placed_sized : (base size : ℕ) → base ≤ 4096 → size ≤ 4096 → RangeOfWidth (placed base size)
placed_sized base zero h k = record { start = omega arith; length = omega arith }
placed_sized base (suc m) h k = record { start = rw (ne_eqb (suc m) 0 (omega arith)) (omega arith); length = omega arith }

-- the bytes put there, with their padding, are those that the range shows
pub placed_back : (before x rest : List ℕ) (base : ℕ) → length before ≡ base
    → shown_in (before ++ (fitted (padded (length x)) x ++ rest)) (placed base (length x)) ≡ x
placed_back before [] rest base e = refl
placed_back before (b ∷ x) rest base e =
    rw (ne_eqb (suc (length x)) 0 (omega arith)) (text_at before (b ∷ x) rest (padded (suc (length x))) base e (omega arith))

-- ---- what a choice decides

-- a choice that finds no fault leaves the verdict as another has it that finds none
pub reached_same : (before pairs others behind : Verdict) → reached before pairs ≡ no_fault → (pairs ≡ no_fault → others ≡ no_fault)
    → first_of before (first_of others behind) ≡ first_of before (first_of pairs behind)
unfolding first_of
reached_same (Ok _) pairs others behind e h = rw (e, h e)
reached_same (Err r) pairs others behind e h = refl

-- the fault that it finds is the whole verdict
pub reached_fault : (before pairs behind : Verdict) (r : Refusal) → reached before pairs ≡ Err r → first_of before (first_of pairs behind) ≡ Err r
unfolding first_of
reached_fault (Ok _) pairs behind r e = rw e
reached_fault (Err q) pairs behind r e = let z : ◌≡◌ {A = ℕ} 0 1 = cc in absurd (omega arith)

-- ---- the bytes of a range

module _ (s : List ℕ) (p : Range) where
  pub part_shown : p.start + p.length ≤ length s → part_of s p ≡ shown_in s p
  unfolding part_of
  part_shown h = rw (le-ltb (length s) (p.start + p.length) h)

  -- past the payload
  pub part_past : length s < p.start + p.length → part_of s p ≡ []
  unfolding part_of
  part_past h = rw (lt-ltb (length s) (p.start + p.length) h)

  -- absent
  pub part_absent : p.length ≡ 0 → part_of s p ≡ []
  unfolding part_of
  part_absent e = by_end (ltb (length s) (p.start + p.length))
    where
      by_end : (b : Bool) → cond b [] (take p.length (drop p.start s)) ≡ []
      by_end true = refl
      by_end false = rw e

pub range_back : (before rest : List ℕ) (p : Range) (at : ℕ) → length before ≡ at → RangeOfWidth p → range_at (before ++ (range_bytes p ++ rest)) at ≡ p
unfolding range_at u32_at range_bytes
range_back before rest p at e z =
    let s = range_bytes p ++ rest in
    let start : num 4 (before ++ s) at ≡ p.start = ap (num 4 (before ++ s)) (omega arith) ∙ num_skip 4 before s 0 ∙ num_digits 4 p.start [] z.start in
    let size : num 4 (before ++ s) (at + 4) ≡ p.length = ap (λ (k : ℕ). num 4 (before ++ s) (k + 4)) (sym e) ∙ num_skip 4 before s 4 ∙ num_digits 4 p.length [] z.length in
    λ i. record { start = start i; length = size i }
