-- Answers: numbers, bytes of the output, numbers of the list.
use Rattle.std.specs.Prelude.{ℕ, min, List, [], ◌∷◌}
use Rattle.sample_lines.specs.declared.answers.Asked.{Asked}

-- the largest word stands for all numbers that are none
abbrev pub as_word : ℕ → ℕ
as_word n = min n 4294967295

abbrev pub few_numbers : ℕ → ℕ → ℕ → ℕ → ℕ → List ℕ
few_numbers number place a b c =
    number ∷ as_word place ∷ a ∷ b ∷ c ∷ 0 ∷ 0 ∷ 0 ∷ 0 ∷ 0 ∷ 0 ∷ 0 ∷ 0 ∷ 0 ∷ 0 ∷ 0 ∷ []

abbrev pub written_answer : List ℕ → ℕ → Asked
written_answer numbers length = record { numbers = numbers; count = 16; written = length; listed = 0 }

abbrev pub plain_answer : List ℕ → Asked
plain_answer numbers = written_answer numbers 0

-- to what is no question
abbrev pub no_answer : Asked
no_answer = plain_answer (few_numbers 4294967295 0 0 0 0)
