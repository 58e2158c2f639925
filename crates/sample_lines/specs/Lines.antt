-- Fields of a sample line (docs/samples.md): "A field is bytes, each two hexadecimal digits."
-- In this order: where a line ends; the field at a place of a line; the five fields; what a call left, and what its line says.
use Rattle.std.specs.Prelude.{ℕ, zero, suc, ◌+◌, ◌*◌, ◌/◌, ◌%◌, min, Bool, cond, ◌&&◌, List, leb, eqb, length, get_or, take, drop}
use Rattle.wire.specs.Numbers.{u32_at}
use Rattle.std.specs.List.{list_all, range_with_len}
use Rattle.ascii.specs.Ascii.{hex_run, unhexed, tab, line_feed, through}
use Rattle.sample_lines.specs.declared.answers.Asked.{Asked}

-- ---- where a line ends

-- the line that begins at a place of a text ends behind its line feed, or with the text
unfoldable pub line_end : List ℕ → ℕ → ℕ
line_end text from = min (length text) (from + through (drop from text) line_feed)

-- "A line has at most 16,640 bytes, its line feed included."
abbrev pub most_line : ℕ
most_line = 16640

unfoldable pub ends_line : List ℕ → ℕ → Bool
ends_line line at = leb (length line) most_line && eqb at (length line)

-- ---- the field at a place

-- how many digits it has
unfoldable pub digits_at : List ℕ → ℕ → ℕ
digits_at line from = hex_run (drop from line)

unfoldable pub field_bytes : List ℕ → ℕ → List ℕ
field_bytes line from = unhexed (digits_at line from / 2) (take (digits_at line from) (drop from line))

abbrev pub no_field : ℕ
no_field = 4294967295

-- the place after a field of n digits, which are even in number, and the byte that ends it
unfoldable pub next_after : List ℕ → ℕ → ℕ → ℕ → ℕ
next_after line from n end =
    cond (leb (length line) (from + n)) no_field (cond (eqb (n % 2) 1) no_field (cond (eqb (get_or line (from + n) 0) end) (from + n + 1) no_field))

unfoldable pub field_next : List ℕ → ℕ → ℕ → ℕ
field_next line from end = next_after line from (digits_at line from) end

-- ---- the five fields

-- where the field with a number stands; each but the last ends at a tab
unfoldable pub field_at : List ℕ → ℕ → ℕ
field_at line zero = 0
field_at line (suc k) = field_next line (field_at line k) tab

-- the last ends at a line feed, and the line with it
abbrev pub is_line : List ℕ → Bool
is_line line = ends_line line (field_next line (field_at line 4) line_feed)

-- the bytes of the field with a number
abbrev pub field : List ℕ → ℕ → List ℕ
field line k = field_bytes line (field_at line k)

-- ---- what a call left, and what its line says

-- a byte of the output and a word of the list before a call
abbrev pub untouched : ℕ
untouched = 170

abbrev pub untouched_word : ℕ
untouched_word = 2863311530

-- the first n words are those of s from the word `at` on
unfoldable pub same_words : List ℕ → ℕ → List ℕ → ℕ → Bool
same_words words n s at = list_all (λ k. eqb (get_or words k 0) (u32_at s (4 * (at + k)))) (range_with_len 0 n)

-- the first n bytes are the same
unfoldable pub same_bytes : List ℕ → List ℕ → ℕ → Bool
same_bytes s t n = list_all (λ k. eqb (get_or s k 0) (get_or t k 0)) (range_with_len 0 n)

-- nothing but b from a place on
unfoldable pub filled_with : List ℕ → ℕ → ℕ → Bool
filled_with s from b = list_all (λ x. eqb x b) (drop from s)

-- the list's numbers are those behind the first `count` of the answer, in which nothing else stands; past them the list is as it was
unfoldable pub is_listed : ℕ → ℕ → List ℕ → List ℕ → Bool
is_listed count listed list answer = same_words list listed answer count && (filled_with answer (4 * (count + listed)) 0 && filled_with list listed untouched_word)

-- the output is what the line says, and past it as it was
unfoldable pub is_output : ℕ → List ℕ → List ℕ → Bool
is_output written out output = same_bytes out output written && (filled_with output written 0 && filled_with out written untouched)

unfoldable pub is_answer : Asked → List ℕ → List ℕ → List ℕ → List ℕ → Bool
is_answer asked list out answer output =
    same_words asked.numbers asked.count answer 0 && (is_listed asked.count asked.listed list answer && is_output asked.written out output)
