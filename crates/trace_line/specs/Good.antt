-- A good line of a trace (document 02, order 5), in words of its parts: "fields parted by tabs: a decimal 32-bit millisecond counter .. (1 to 10 digits),
-- H or D for the sender, and the bytes in hex of either case, at most 256 bytes"; it is "ended by a line feed".
use Rattle.std.specs.Prelude.{ℕ, ◌+◌, ◌≡◌, List, [], ◌∷◌, ◌++◌, length}
use Rattle.ascii.specs.Ascii.{tab, line_feed, value_from}
use Rattle.text_parts.specs.Decimals.{Decimal}
use Rattle.text_parts.specs.Hex.{HexDigits}
use Rattle.trace_line.specs.declared.Sender.{Sender}
use Rattle.trace_line.specs.declared.Sender.TheVariants.{Host, Device}

-- H and D
abbrev pub letter : Sender → ℕ
letter Host = 72
letter Device = 68

abbrev pub most_decimal : ℕ
most_decimal = 10

abbrev pub largest : ℕ
largest = 4294967295

-- the digits of 256 bytes
abbrev pub most_digits : ℕ
most_digits = 512

pub record GoodParts (digits hex : List ℕ) : Type 0 where
  pub counter : Decimal most_decimal largest digits
  pub bytes : HexDigits most_digits hex

abbrev pub text_of : List ℕ → Sender → List ℕ → List ℕ
text_of digits sender hex = digits ++ (tab ∷ letter sender ∷ tab ∷ (hex ++ (line_feed ∷ [])))

abbrev pub Good : List ℕ → Type 0
Good s = (digits : List ℕ) × (sender : Sender) × (hex : List ℕ) × GoodParts digits hex × (s ≡ text_of digits sender hex)

-- with this counter and sender, and n hexadecimal digits from a place on
abbrev pub GoodWith : List ℕ → ℕ → Sender → ℕ → ℕ → Type 0
GoodWith s counter sender from n =
    (digits : List ℕ) × (hex : List ℕ) × GoodParts digits hex × (s ≡ text_of digits sender hex) × (counter ≡ value_from 0 digits) × (from ≡ length digits + 3) × (n ≡ length hex)
