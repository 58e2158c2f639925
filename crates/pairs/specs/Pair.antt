-- One offset/size pair of a payload (document 01, numbers 6, 7 and 8 of the table; document 02, order 1, numbers 17 and 18; order 10).
-- 01: "each pair judged 8 (limit, odd), 6, 7"; 02, where 6 stood: "zero size first, then fixed part, then alignment".
-- The reader's choice, the fixed part, the limit and the kind are parameters.
-- In this order: the choice; a pair and its place; the rules; where a writer puts a pair; how a reader shows one.
use Rattle.std.specs.Prelude.{ℕ, ◌+◌, ◌*◌, ◌/◌, ◌%◌, Bool, false, not, cond, ◌&&◌, ◌||◌, List, [], ◌∷◌, ◌++◌, ltb, eqb, length, take, drop, Ok, Err}
use Rattle.wire.specs.Numbers.{u32_at, digits}
use Rattle.protocol.specs.Refusal.{offset_in_fixed_part, past_end, wrong_size, misaligned_offset, offset_with_zero_size}
use Rattle.protocol.specs.Verdict.{Rule, rule, judge, no_fault, Verdict}
use Rattle.pairs.specs.declared.Range.{Range}
use Rattle.pairs.specs.declared.PairKind.{PairKind}
use Rattle.pairs.specs.declared.PairKind.TheVariants.{Text, List as ListKind}
use Rattle.pairs.specs.declared.ZeroSize.{ZeroSize}
use Rattle.pairs.specs.declared.ZeroSize.TheVariants.{Absent, Strict}

-- ---- the choice (02, order 10): "the reader's default is to treat size 0 as absent whatever the offset. The old strictness stays as a
-- named choice"

abbrev pub by_default : ZeroSize
by_default = Absent

-- a rule that is there under the strict choice only
unfoldable pub if_strict : ZeroSize → Bool → Bool
if_strict Absent broken = false
if_strict Strict broken = broken

-- the fault of what a choice decides, where nothing judged before it is at fault
abbrev pub reached : Verdict → Verdict → Verdict
reached (Ok _) w = w
reached (Err r) w = no_fault

-- ---- a pair and its place: the offset, and behind it the size

abbrev pub range : ℕ → ℕ → Range
range start size = record { start = start; length = size }

unfoldable pub range_at : List ℕ → ℕ → Range
range_at s place = range (u32_at s place) (u32_at s (place + 4))

-- the bytes of the payload s that a range shows; none where it ends past the payload
unfoldable pub part_of : List ℕ → Range → List ℕ
part_of s p = cond (ltb (length s) (p.start + p.length)) [] (take p.length (drop p.start s))

-- ---- rules: broken, reason, place; the first broken one decides

-- a rule on the bytes of a pair is broken only where there are bytes
abbrev pub if_sized : ℕ → Bool → Bool
if_sized size broken = not (eqb size 0) && broken

abbrev pub odd_for : PairKind → ℕ → Bool
odd_for Text size = not (eqb (size % 2) 0)
odd_for ListKind size = false

-- number 8: over the limit, or odd for text
abbrev pub unfit : PairKind → ℕ → ℕ → Bool
unfit kind limit size = ltb limit size || odd_for kind size

-- number 18: an offset though the size is 0
abbrev pub offset_without_size : Range → Bool
offset_without_size p = eqb p.length 0 && not (eqb p.start 0)

-- number 6: a size, and the offset in the fixed part
abbrev pub inside_fixed_part : ℕ → Range → Bool
inside_fixed_part fixed p = if_sized p.length (ltb p.start fixed)

-- number 17: a size, and the offset not a multiple of 4
abbrev pub misaligned : Range → Bool
misaligned p = if_sized p.length (not (eqb (p.start % 4) 0))

-- number 7: a size, and offset + size beyond the n bytes of the payload, as whole numbers
abbrev pub beyond_payload : ℕ → Range → Bool
beyond_payload n p = if_sized p.length (ltb n (p.start + p.length))

unfoldable pub rules : ZeroSize → PairKind → ℕ → ℕ → ℕ → ℕ → Range → List Rule
rules z kind fixed limit place n p =
    rule (unfit kind limit p.length) wrong_size place
    ∷ rule (if_strict z (offset_without_size p)) offset_with_zero_size place
    ∷ rule (inside_fixed_part fixed p) offset_in_fixed_part place
    ∷ rule (misaligned p) misaligned_offset place
    ∷ rule (beyond_payload n p) past_end place
    ∷ []

unfoldable pub verdict_of : ZeroSize → PairKind → ℕ → ℕ → ℕ → ℕ → Range → Verdict
verdict_of z kind fixed limit place n p = judge (rules z kind fixed limit place n p)

-- ---- where a writer puts a pair: "each padded with zeros to a multiple of 4"; "size 0 has offset 0"

abbrev pub padded : ℕ → ℕ
padded size = (size + 3) / 4 * 4

-- `size` bytes that come next at `base`
abbrev pub placed : ℕ → ℕ → Range
placed base size = range (cond (eqb size 0) 0 base) size

-- ---- how a reader shows the pair at a place: absent is (0, 0) under either choice, so an offset beside size 0 is left out

abbrev pub as_shown : Range → Range
as_shown p = placed p.start p.length

unfoldable pub shown_at : List ℕ → ℕ → Range
shown_at s place = as_shown (range_at s place)

-- ---- a pair's bytes

unfoldable pub range_bytes : Range → List ℕ
range_bytes p = digits 4 p.start ++ digits 4 p.length
