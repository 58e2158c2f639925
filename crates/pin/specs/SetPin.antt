-- The SET_PIN payload (document 02, order 2): "PinType 0, operation 4, pairs at 8 and 16, fixed part 24, each text at most 32 bytes". One form at both versions.
-- In this order: the fields and their places; the rules, in the order in which they are judged; what a reader answers; what a writer gives.
use Rattle.std.specs.Prelude.{ℕ, List, [], ◌∷◌, ◌++◌, ltb, length, get_or, Ok, Err, Result}
use Rattle.wire.specs.Numbers.{u32_at, digits}
use Rattle.protocol.specs.Refusal.{outside_table}
use Rattle.protocol.specs.Verdict.{Rule, rule, judge, first_of, open_length, Writing, writing, Verdict}
use Rattle.pairs.specs.Pair.{by_default, range}
use Rattle.pairs.specs.declared.Range.{Range}
use Rattle.pairs.specs.declared.ZeroSize.{ZeroSize}
use Rattle.texts.specs.Texts.{row, ranges_at, all_shown, laid, end_of, ranges_bytes, texts_bytes}
use Rattle.texts.specs.Texts as pairs
use Rattle.pin.specs.PinInfo.{last_type}
use Rattle.pin.specs.declared.set_pin.SetPin.{SetPin}
use Rattle.pin.specs.declared.set_pin.SetPinTexts.{SetPinTexts}
use Rattle.protocol.specs.declared.Refusal.{Refusal}

abbrev pub SetPinRead : Type 0
SetPinRead = Result (SetPin × SetPinTexts) Refusal

-- ---- fields and places

abbrev pub fixed_part : ℕ
fixed_part = 24

unfoldable pub record_at : List ℕ → SetPin
record_at s = record { pin_type = u32_at s 0; pin_operation = u32_at s 4 }

-- "pairs at 8 and 16 .. each text at most 32 bytes"
abbrev pub text_rows : List (List ℕ)
text_rows = row 8 32 ∷ row 16 32 ∷ []

-- two ranges in field order
abbrev pub texts_of : List Range → SetPinTexts
texts_of ps = record { pin = get_or ps 0 (range 0 0); new_pin = get_or ps 1 (range 0 0) }

-- the pairs as they stand, and the texts as they are shown
unfoldable pub pairs_at : List ℕ → List Range
pairs_at s = ranges_at s text_rows

unfoldable pub texts_at : List ℕ → SetPinTexts
texts_at s = texts_of (all_shown (pairs_at s))

-- ---- rules: broken, reason, place; the first broken one decides

-- "number tables as in MBIM 1.0": type 0 to 17, operation 0 to 3
unfoldable pub number_rules : SetPin → List Rule
number_rules p = rule (ltb last_type p.pin_type) outside_table 0 ∷ rule (ltb 3 p.pin_operation) outside_table 4 ∷ []

-- the pairs, in n bytes, by the reader's choice
unfoldable pub texts_verdict : ZeroSize → ℕ → List Range → Verdict
texts_verdict z n ps = pairs.texts_verdict z fixed_part n text_rows ps

-- ---- what a reader answers

abbrev pub shown : Verdict → SetPin → SetPinTexts → SetPinRead
shown (Ok _) p t = Ok (p, t)
shown (Err r) p t = Err r

unfoldable pub verdict_with : ZeroSize → List ℕ → Verdict
verdict_with z s =
    first_of (open_length fixed_part (length s))
    (first_of (judge (number_rules (record_at s)))
    (texts_verdict z (length s) (pairs_at s)))

unfoldable pub read_with : ZeroSize → List ℕ → SetPinRead
read_with z s = shown (verdict_with z s) (record_at s) (texts_at s)

abbrev pub read_of : List ℕ → SetPinRead
read_of s = read_with by_default s

-- ---- what a writer gives

-- two sizes or two texts, in field order
abbrev pub two : {A : Type 0} → A → A → List A
two a b = a ∷ b ∷ []

-- the sizes of the texts; a pair that the writer places breaks no other rule (proofs/SetPinTrip)
unfoldable pub size_rules : ℕ → ℕ → List Rule
size_rules pin new = pairs.size_rules text_rows (two pin new)

-- what fits is at most 88 bytes long, so number 5 is never given
unfoldable pub written_verdict : SetPin → ℕ → ℕ → Verdict
written_verdict p pin new = first_of (judge (number_rules p)) (judge (size_rules pin new))

abbrev pub length_of : ℕ → ℕ → ℕ
length_of pin new = end_of fixed_part (two pin new)

unfoldable pub front_bytes : SetPin → List ℕ
front_bytes p = digits 4 p.pin_type ++ digits 4 p.pin_operation

unfoldable pub fixed_bytes : SetPin → List Range → List ℕ
fixed_bytes p ps = front_bytes p ++ ranges_bytes ps

-- where the texts x and y go: straight after the fixed part, in field order
abbrev pub laid_for : List ℕ → List ℕ → List Range
laid_for x y = laid fixed_part (two (length x) (length y))

-- the payload's bytes, with the texts x and y
unfoldable pub bytes_of : SetPin → List ℕ → List ℕ → List ℕ
bytes_of p x y = fixed_bytes p (laid_for x y) ++ texts_bytes (two x y)

-- the answer, and the output at exit
unfoldable pub write_of : SetPin → List ℕ → List ℕ → List ℕ → Writing
write_of p x y s = writing (written_verdict p (length x) (length y)) (bytes_of p x y) s
