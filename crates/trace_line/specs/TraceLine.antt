-- How a line of a trace is read: by its counter, its sender, and then its bytes.
-- In this order: the classes of bytes; the bytes; what a line says; its column.
use Rattle.std.specs.Prelude.{ℕ, ◌+◌, Bool, cond, ◌||◌, List, ltb, eqb, get_or}
use Rattle.ascii.specs.Ascii.{tab}
use Rattle.text_parts.specs.declared.Number.{Number}
use Rattle.text_parts.specs.Parts.{Reach, whole, stops}
use Rattle.text_parts.specs.Decimals.{number_of}
use Rattle.text_parts.specs.Hex.{line_end_at}
use Rattle.trace_line.specs.Good.{letter, most_decimal, largest, most_digits}
use Rattle.trace_line.specs.declared.Sender.{Sender}
use Rattle.trace_line.specs.declared.Sender.TheVariants.{Host, Device}
use Rattle.trace_line.specs.declared.Line.{Line}
use Rattle.std.specs.Prelude.{Ok, Err}
use Rattle.text_parts.specs.Hex.{LineEnd}
use Rattle.std.specs.Prelude.{Result}

abbrev pub is_sender : ℕ → Bool
is_sender b = eqb b (letter Host) || eqb b (letter Device)

abbrev pub sender_of : ℕ → Sender
sender_of b = cond (eqb b (letter Host)) Host Device

abbrev pub counter_of : List ℕ → Number
counter_of s = number_of most_decimal largest s

-- of a line whose hexadecimal digits stand from `from` on
abbrev pub line_by : ℕ → Sender → ℕ → LineEnd → Result Line ℕ
line_by counter sender from (Ok n) = Ok (record { counter = counter; sender = sender; from = from; digits = n })
line_by counter sender from (Err c) = Err c

unfoldable pub bytes_from : List ℕ → ℕ → Sender → ℕ → Result Line ℕ
bytes_from s counter sender from = line_by counter sender from (line_end_at most_digits s from)

-- of a line whose sender stands at `at`
unfoldable pub sender_from : List ℕ → ℕ → ℕ → Result Line ℕ
sender_from s counter at =
    cond (is_sender (get_or s at 0)) (cond (eqb (get_or s (at + 1) 0) tab) (bytes_from s counter (sender_of (get_or s at 0)) (at + 2)) (Err (at + 1))) (Err at)

unfoldable pub line_of : List ℕ → Result Line ℕ
line_of s =
    cond (ltb 0 (counter_of s).digits)
    (cond (eqb (get_or s (counter_of s).digits 0) tab) (sender_from s (counter_of s).value ((counter_of s).digits + 1)) (Err (counter_of s).digits))
    (Err (counter_of s).digits)

-- ---- the column of an answer

abbrev pub column_of : (Result Line ℕ) → Reach
column_of (Ok line) = whole
column_of (Err c) = stops c
