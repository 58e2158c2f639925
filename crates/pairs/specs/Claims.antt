-- What is claimed of a pair, in words, under each choice of the reader. Accepted: absent, or behind the fixed part, at a multiple of 4,
-- and inside the payload. Refused for its offset: which of the three faults of document 02, order 1, each number tells. Between the
-- choices of order 10: an offset beside size 0, and nothing else.
use Rattle.std.specs.Prelude.{ℕ, ◌+◌, ◌%◌, ◌≤◌, ◌<◌, ◌^◌, ◌≡◌, ◌⊎◌, ◌↔◌, not, cond, ◌||◌, List, [], ◌∷◌, ltb, eqb, take, drop, Ok, Err}
use Rattle.protocol.specs.declared.Reason.{Reason}
use Rattle.protocol.specs.Refusal.{refusal, number_of, offset_in_fixed_part, past_end, wrong_size, misaligned_offset, offset_with_zero_size}
use Rattle.protocol.specs.Verdict.{Rule, rule, judge, no_fault, Verdict}
use Rattle.pairs.specs.declared.Range.{Range}
use Rattle.pairs.specs.declared.PairKind.{PairKind}
use Rattle.pairs.specs.declared.PairKind.TheVariants.{Text, List as ListKind}
use Rattle.pairs.specs.declared.ZeroSize.{ZeroSize}
use Rattle.pairs.specs.declared.ZeroSize.TheVariants.{Absent as ZeroAbsent, Strict}
use Rattle.pairs.specs.Pair.{unfit, offset_without_size, inside_fixed_part, misaligned, beyond_payload, verdict_of, as_shown}

-- as it is shown: (0, 0)
pub record Absent (p : Range) : Type 0 where
  pub nowhere : p.start ≡ 0
  pub empty : p.length ≡ 0

-- as it is taken: without a size, and under the strict choice without an offset
abbrev pub NoOffset : ZeroSize → ℕ → Type 0
NoOffset ZeroAbsent start = Unit
NoOffset Strict start = start ≡ 0

pub record AbsentBy (z : ZeroSize) (p : Range) : Type 0 where
  pub nowhere : NoOffset z p.start
  pub empty : p.length ≡ 0

-- the bytes of the pair lie behind the fixed part and inside the n bytes of the payload
pub record Inside (fixed n : ℕ) (p : Range) : Type 0 where
  pub some : 0 < p.length
  pub behind : fixed ≤ p.start
  pub aligned : p.start % 4 ≡ 0
  pub within : p.start + p.length ≤ n

abbrev pub Even : PairKind → ℕ → Type 0
Even Text size = size % 2 ≡ 0
Even ListKind size = Unit

-- within the limit, and even for text
pub record SizeFits (kind : PairKind) (limit size : ℕ) : Type 0 where
  pub small : size ≤ limit
  pub even : Even kind size

-- accepted exactly where this holds (proofs/Laws)
pub record PairFits (z : ZeroSize) (kind : PairKind) (fixed limit n : ℕ) (p : Range) : Type 0 where
  pub size : SizeFits kind limit p.length
  pub safe : AbsentBy z p ⊎ Inside fixed n p

-- a range that may be shown: empty at 0, or inside
abbrev pub Safe : ℕ → ℕ → Range → Type 0
Safe fixed n p = Absent p ⊎ Inside fixed n p

-- ---- the three faults of an offset, of a pair whose size fits its limit

-- the size is 0, and the offset isn't
pub record OffsetWithZeroSize (p : Range) : Type 0 where
  pub empty : p.length ≡ 0
  pub somewhere : p.start ≡ 0 → ⊥

-- the size isn't 0, and the offset is inside the fixed part
pub record OffsetInFixedPart (kind : PairKind) (fixed limit : ℕ) (p : Range) : Type 0 where
  pub size : SizeFits kind limit p.length
  pub some : 0 < p.length
  pub inside : p.start < fixed

-- the size isn't 0, and the offset is behind the fixed part and no multiple of 4
pub record MisalignedOffset (kind : PairKind) (fixed limit : ℕ) (p : Range) : Type 0 where
  pub size : SizeFits kind limit p.length
  pub some : 0 < p.length
  pub behind : fixed ≤ p.start
  pub misaligned : p.start % 4 ≡ 0 → ⊥

-- the pair that stands at `place` is refused for a reason, there
abbrev pub RefusedBy : Reason → ZeroSize → PairKind → ℕ → ℕ → ℕ → ℕ → Range → Type 0
RefusedBy reason z kind fixed limit place n p = verdict_of z kind fixed limit place n p ≡ Err (refusal reason place)

-- ---- the rules before order 10: what the strict choice is

abbrev pub rules_before_choice : PairKind → ℕ → ℕ → ℕ → ℕ → Range → List Rule
rules_before_choice kind fixed limit place n p =
    rule (unfit kind limit p.length) wrong_size place
    ∷ rule (offset_without_size p) offset_with_zero_size place
    ∷ rule (inside_fixed_part fixed p) offset_in_fixed_part place
    ∷ rule (misaligned p) misaligned_offset place
    ∷ rule (beyond_payload n p) past_end place
    ∷ []

-- ---- the same by document 01, where one number stood for all three: "with size 0: offset not 0; else offset in the fixed part or not a
-- multiple of 4"

abbrev pub rules_before : PairKind → ℕ → ℕ → ℕ → ℕ → Range → List Rule
rules_before kind fixed limit place n p =
    rule (unfit kind limit p.length) wrong_size place
    ∷ rule (cond (eqb p.length 0) (not (eqb p.start 0)) (ltb p.start fixed || not (eqb (p.start % 4) 0))) offset_in_fixed_part place
    ∷ rule (beyond_payload n p) past_end place
    ∷ []

-- a verdict with 6 for each of the three
abbrev pub in_one_number : Verdict → Verdict
in_one_number (Ok _) = no_fault
in_one_number (Err r) =
    Err
    (refusal
    (cond
    (eqb (number_of r.reason) (number_of misaligned_offset) || eqb (number_of r.reason) (number_of offset_with_zero_size))
    offset_in_fixed_part
    r.reason)
    r.place)

-- ---- numbers and bytes

-- each number of a pair is of its width
pub record RangeOfWidth (p : Range) : Type 0 where
  pub start : p.start < 2 ^ 32
  pub length : p.length < 2 ^ 32

-- the bytes of the payload s that a range shows
abbrev pub shown_in : List ℕ → Range → List ℕ
shown_in s p = take p.length (drop p.start s)

-- ---- what is proved (proofs/Laws)

abbrev pub FitsExactly : Type 0
FitsExactly =
    (z : ZeroSize) (kind : PairKind) (fixed limit place n : ℕ) (p : Range) → (verdict_of z kind fixed limit place n p ≡ no_fault) ↔ PairFits z kind fixed limit n p

-- by 18: under the strict choice only
abbrev pub ZeroSizeExactly : Type 0
ZeroSizeExactly =
    (z : ZeroSize) (kind : PairKind) (fixed limit place n : ℕ) (p : Range)
    → RefusedBy offset_with_zero_size z kind fixed limit place n p ↔ ((z ≡ Strict) × OffsetWithZeroSize p)

-- by 6
abbrev pub FixedPartExactly : Type 0
FixedPartExactly =
    (z : ZeroSize) (kind : PairKind) (fixed limit place n : ℕ) (p : Range)
    → RefusedBy offset_in_fixed_part z kind fixed limit place n p ↔ OffsetInFixedPart kind fixed limit p

-- by 17
abbrev pub MisalignedExactly : Type 0
MisalignedExactly =
    (z : ZeroSize) (kind : PairKind) (fixed limit place n : ℕ) (p : Range)
    → RefusedBy misaligned_offset z kind fixed limit place n p ↔ MisalignedOffset kind fixed limit p

-- order 1 has changed nothing else
abbrev pub OnlyNumbersMoved : Type 0
OnlyNumbersMoved =
    (kind : PairKind) (fixed limit place n : ℕ) (p : Range)
    → in_one_number (verdict_of Strict kind fixed limit place n p) ≡ judge (rules_before kind fixed limit place n p)

-- the strict choice is what there was before order 10
abbrev pub StrictAsBefore : Type 0
StrictAsBefore =
    (kind : PairKind) (fixed limit place n : ℕ) (p : Range) → verdict_of Strict kind fixed limit place n p ≡ judge (rules_before_choice kind fixed limit place n p)

-- by default the answer is the one for the pair as it is shown: "the one for offset 0"
abbrev pub DefaultAsShown : Type 0
DefaultAsShown =
    (z : ZeroSize) (kind : PairKind) (fixed limit place n : ℕ) (p : Range)
    → verdict_of ZeroAbsent kind fixed limit place n p ≡ verdict_of z kind fixed limit place n (as_shown p)

-- between the choices: a pair that fits by default is refused by 18 where it has an offset beside size 0, and else fits under both
abbrev pub StrictOfFitting : Type 0
StrictOfFitting =
    (kind : PairKind) (fixed limit place n : ℕ) (p : Range) → verdict_of ZeroAbsent kind fixed limit place n p ≡ no_fault
    → verdict_of Strict kind fixed limit place n p ≡ judge (rule (offset_without_size p) offset_with_zero_size place ∷ [])

-- what is shown of an accepted pair may be shown, under either choice
abbrev pub ShownSafe : Type 0
ShownSafe = (z : ZeroSize) (kind : PairKind) (fixed limit n : ℕ) (p : Range) → PairFits z kind fixed limit n p → Safe fixed n (as_shown p)

-- and under the strict choice it is the pair as it stands
abbrev pub StrictShown : Type 0
StrictShown = (kind : PairKind) (fixed limit n : ℕ) (p : Range) → PairFits Strict kind fixed limit n p → as_shown p ≡ p
