-- The end of a line: an even number of hexadecimal digits, at most `most`, and a line feed; and how many of them stand at a place.
use Rattle.std.specs.Prelude.{ℕ, ◌+◌, ◌%◌, ◌≤◌, ◌≡◌, false, cond, List, eqb, ltb, length, get_or, take, drop, Result, Ok, Err}
use Rattle.ascii.specs.Ascii.{line_feed, is_hex, hex_run}
use Rattle.text_parts.specs.Parts.{Part, run_of, one_of, All, Then, End, Reach, whole, stops, reach_then, reach_end}

abbrev pub byte : ℕ → Part
byte x = one_of (λ b. eqb b x)

abbrev pub hex_part : ℕ → Part
hex_part most = run_of is_hex most (λ k. eqb (k % 2) 0)

abbrev pub Ended : List ℕ → Type 0
Ended = Then (byte line_feed) false End

abbrev pub HexLine : ℕ → List ℕ → Type 0
HexLine most = Then (hex_part most) 0 Ended

abbrev pub reach_ended : List ℕ → Reach
reach_ended = reach_then (byte line_feed) false reach_end

abbrev pub reach_hex_line : ℕ → List ℕ → Reach
reach_hex_line most = reach_then (hex_part most) 0 reach_ended

-- the same in words
pub record HexDigits (most : ℕ) (hex : List ℕ) : Type 0 where
  pub spelled : All is_hex hex
  pub even : length hex % 2 ≡ 0
  pub short : length hex ≤ most

-- how many digits stand from a place of s on, at most `most`
unfoldable pub hex_digits_at : ℕ → List ℕ → ℕ → ℕ
hex_digits_at most s from = hex_run (take most (drop from s))

-- how many digits stand before a line's end, or a column
abbrev pub LineEnd : Type 0
LineEnd = Result ℕ ℕ

-- the end of a line from a place of s on: its digits, or the first column where no good line goes on or ends
unfoldable pub line_end_at : ℕ → List ℕ → ℕ → LineEnd
line_end_at most s from =
    cond (eqb (hex_digits_at most s from % 2) 1) (Err (from + hex_digits_at most s from))
    (cond (eqb (get_or s (from + hex_digits_at most s from) 0) line_feed)
    (cond (ltb (from + hex_digits_at most s from + 1) (length s)) (Err (from + hex_digits_at most s from + 1)) (Ok (hex_digits_at most s from)))
    (Err (from + hex_digits_at most s from)))

abbrev pub end_column : LineEnd → Reach
end_column (Ok n) = whole
end_column (Err c) = stops c
