-- Where a line ends, a field's part of it, and tests of each element of a list.
-- Assumes nothing.
use mathlib.Core.Path.{◌≡◌, ap}
use mathlib.Core.List.{List, []}
use Prim.Native.Nat.{ℕ, ◌-◌, ◌/◌, ◌≤◌, ◌<◌}
use native.Mathlib.Omega.{arith}
use lib.ListN.{length, length-drop, take, drop, drop_of_length-le}
use lib.Seq.{length-take-le}
use Rattle.wire.proofs.Laws.{take_rest}
use Rattle.ascii.specs.Ascii.{hex_run, unhexed, through}
use Rattle.ascii.proofs.Laws.{run_le, through_some, through_le}
use Rattle.sample_lines.specs.Lines.{digits_at, field_bytes}

-- ---- where a line ends

-- the part from a place on is the rest
pub rest_through : (text : List ℕ) (from : ℕ) → through (take (length text - from) (drop from text)) 10 ≡ through (drop from text) 10
rest_through text from = ap (λ (x : List ℕ). through x 10) (take_rest from text)

-- a line has bytes, and ends within the text
pub line_some : (text : List ℕ) (from : ℕ) → from < length text → 0 < through (drop from text) 10
line_some text from h = through_some (drop from text) 10 (omega (arith, length-drop from text))

pub line_within : (text : List ℕ) (from : ℕ) → through (drop from text) 10 ≤ length text - from
line_within text from = omega (arith, through_le (drop from text) 10, length-drop from text)

-- ---- a field's part of a line

-- from the end of a line on there is nothing
pub digits_within : (line : List ℕ) (from : ℕ) → digits_at line from ≤ length line - from
unfolding digits_at
digits_within line from = omega (arith, run_le (drop from line), length-drop from line)

pub nothing_at : (line : List ℕ) (from : ℕ) → length line ≤ from → field_bytes line from ≡ []
unfolding field_bytes digits_at hex_run unhexed
nothing_at line from h = rw (drop_of_length-le line h)

-- the part from a place on is the rest
pub rest_digits : (line : List ℕ) (from : ℕ) → hex_run (take (length line - from) (drop from line)) ≡ digits_at line from
unfolding digits_at
rest_digits line from = ap hex_run (take_rest from line)

-- and its first digits are the field
pub rest_bytes : (line : List ℕ) (from : ℕ)
    → unhexed (length (take (digits_at line from) (take (length line - from) (drop from line))) / 2) (take (digits_at line from) (take (length line - from) (drop from line)))
    ≡ field_bytes line from
unfolding field_bytes digits_at
rest_bytes line from =
    let l : length (take (hex_run (drop from line)) (drop from line)) ≡ hex_run (drop from line) = length-take-le (hex_run (drop from line)) (drop from line) (run_le (drop from line)) in
    rw (take_rest from line, l)
