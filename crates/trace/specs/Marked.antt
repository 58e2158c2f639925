-- Rows with a mark in front of each.
use Rattle.std.specs.Prelude.{ℕ, Bool, true, cond, List, [], ◌∷◌, ◌++◌, eqb, drop}
use Rattle.ascii.specs.Ascii.{line_feed, agreement}
use Rattle.rows.specs.Rows.{header}

-- from a place where a row begins, or from inside a row
unfoldable pub marked_from : List ℕ → Bool → List ℕ → List ℕ
marked_from mark begins [] = []
marked_from mark begins (b ∷ s) = cond begins mark [] ++ (b ∷ marked_from mark (eqb b line_feed) s)

abbrev pub marked : List ℕ → List ℕ → List ℕ
marked mark s = marked_from mark true s

-- a listing without its header, which a refused payload's has not
abbrev pub header_in : List ℕ → ℕ
header_in s = cond (eqb (agreement s header) 12) 12 0

abbrev pub without_header : List ℕ → List ℕ
without_header s = drop (header_in s) s
