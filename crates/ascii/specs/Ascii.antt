-- Numbers and lines in ASCII text. In this order: a text's bytes; decimal; hexadecimal; how far a text goes.
use Rattle.std.specs.Prelude.{ℕ, zero, suc, ◌+◌, ◌*◌, ◌/◌, ◌%◌, ◌-◌, Bool, cond, not, ◌||◌, List, [], ◌∷◌, ◌++◌, ltb, eqb, length, get_or}
use Rattle.std.specs.List.{prefix_len}
use Prim.Native.Char.{code}
use Prim.Native.String.{String, [] as empty, ◌∷◌ as ◌then◌}

-- the bytes of a text of ASCII characters
abbrev pub ascii : String → List ℕ
ascii empty = []
ascii (c then s) = code c ∷ ascii s

abbrev pub tab : ℕ
tab = 9

abbrev pub line_feed : ℕ
line_feed = 10

-- ---- decimal

-- the decimal digits of n, which has at most k of them, highest first and without leading zeros
unfoldable pub decimal_in : ℕ → ℕ → List ℕ
decimal_in zero n = []
decimal_in (suc k) n = cond (ltb n 10) ((48 + n) ∷ []) (decimal_in k (n / 10) ++ ((48 + n % 10) ∷ []))

-- of a number of 64 bits
abbrev pub decimal : ℕ → List ℕ
decimal n = decimal_in 20 n

-- the number that decimal digits spell, behind the number a
unfoldable pub value_from : ℕ → List ℕ → ℕ
value_from a [] = a
value_from a (d ∷ s) = value_from (10 * a + (d - 48)) s

-- ---- hexadecimal, of either case

abbrev pub digit_in : ℕ → ℕ → ℕ → ℕ → ℕ → ℕ
digit_in low high base b other = cond (ltb b low || ltb high b) other (b - base)

-- 0 to 9, A to F, a to f; 16 for any other byte
unfoldable pub hex_digit : ℕ → ℕ
hex_digit b = digit_in 48 57 48 b (digit_in 65 70 55 b (digit_in 97 102 87 b 16))

abbrev pub is_hex : ℕ → Bool
is_hex b = not (eqb (hex_digit b) 16)

abbrev pub hex_value : ℕ → ℕ
hex_value b = hex_digit b % 16

-- how many digits s begins with
unfoldable pub hex_run : List ℕ → ℕ
hex_run s = prefix_len is_hex s

-- the bytes that the first n pairs of digits spell
unfoldable pub unhexed : ℕ → List ℕ → List ℕ
unhexed zero s = []
unhexed (suc n) s = unhexed n s ++ ((16 * hex_value (get_or s (2 * n) 0) + hex_value (get_or s (2 * n + 1) 0)) ∷ [])

-- a digit in lower case, the two digits of a byte, and those of the first n bytes of s
abbrev pub glyph_of : ℕ → ℕ
glyph_of n = cond (ltb n 10) (48 + n) (87 + n)

unfoldable pub hex_pair : ℕ → List ℕ
hex_pair b = glyph_of (b / 16) ∷ glyph_of (b % 16) ∷ []

unfoldable pub hexed_in : ℕ → List ℕ → List ℕ
hexed_in zero s = []
hexed_in (suc n) s = hexed_in n s ++ hex_pair (get_or s n 0)

abbrev pub hexed : List ℕ → List ℕ
hexed s = hexed_in (length s) s

-- ---- how far a text goes

-- how far s and a word agree
unfoldable pub agreement : List ℕ → List ℕ → ℕ
agreement s [] = 0
agreement [] (w ∷ ws) = 0
agreement (b ∷ s) (w ∷ ws) = cond (eqb b w) (suc (agreement s ws)) 0

-- how many bytes s has up to the first x, with it; all where there is none
unfoldable pub through : List ℕ → ℕ → ℕ
through [] x = 0
through (b ∷ s) x = cond (eqb b x) 1 (suc (through s x))
