-- A fixed word and what stands behind it, and words of a table.
-- In this order: one word; a table of words, and how far a text goes by it.
use Rattle.std.specs.Prelude.{ℕ, ◌+◌, max, ◌≡◌, cond, List, [], ◌∷◌, ◌++◌, eqb, length, drop, Result, Ok, Err}
use Rattle.ascii.specs.Ascii.{agreement}
use Rattle.text_parts.specs.Parts.{Reach, stops, further}

-- what a word stands for, or a column
abbrev pub Reached : Type 0 → Type 0
Reached A = Result A ℕ

-- ---- one word

-- the word w, and a text of the kind T behind it
abbrev pub Worded : List ℕ → (List ℕ → Type 0) → List ℕ → Type 0
Worded w T s = (t : List ℕ) × T t × (s ≡ w ++ t)

-- the word stands whole and r is said of the rest, or s agrees with a part of it
abbrev pub worded : List ℕ → List ℕ → Reach → Reach
worded w s r = cond (eqb (agreement s w) (length w)) (further (length w) r) (stops (agreement s w))

-- ---- a table: the words, and what each stands for

pub record WordRow (A : Type 0) : Type 0 where
  pub text : List ℕ
  pub value : A

abbrev pub word : {A : Type 0} → List ℕ → A → WordRow A
word t x = record { text = t; value = x }

-- from a place of s on: a word of the table, or the first column where none goes on
abbrev pub also_word : {A : Type 0} → Reached A → List ℕ → ℕ → WordRow A → Reached A
also_word (Ok k) s at w = Ok k
also_word (Err c) s at w =
    cond (eqb (agreement (drop at s) w.text) (length w.text)) (Ok w.value) (Err (max c (at + agreement (drop at s) w.text)))

abbrev pub reach_from : {A : Type 0} → Reached A → List ℕ → ℕ → List (WordRow A) → Reached A
reach_from r s at [] = r
reach_from r s at (w ∷ ws) = reach_from (also_word r s at w) s at ws
