-- The rows of a listing (document 01, "Cases worked out"): "fields parted by one tab, each line ended by a line feed".
-- In this order: the rows; what a function that puts text leaves.
use Rattle.std.specs.Prelude.{ℕ, ◌+◌, ◌-◌, min, ◌≡◌, List, [], ◌∷◌, ◌++◌, length}
use Rattle.std.proofs.lemmas.List.Edits.{sets}
use Rattle.protocol.specs.declared.Refusal.{Refusal}
use Rattle.protocol.specs.Refusal.{number_of}
use Rattle.ascii.specs.Ascii.{tab, line_feed, ascii, decimal, hexed}

-- ---- the rows

unfoldable pub header : List ℕ
header = ascii "field\tvalue\n"

-- a tab and a number
unfoldable pub field : ℕ → List ℕ
field value = tab ∷ decimal value

unfoldable pub row : List ℕ → ℕ → List ℕ
row name value = name ++ (field value ++ (line_feed ∷ []))

-- a row of entry i of a list
unfoldable pub indexed_row : List ℕ → ℕ → ℕ → List ℕ
indexed_row name i value = name ++ (ascii "[" ++ (decimal i ++ (ascii "]" ++ (field value ++ (line_feed ∷ [])))))

-- "texts are listed in hex"
unfoldable pub text_row : List ℕ → List ℕ → List ℕ
text_row name text = name ++ ((tab ∷ []) ++ (hexed text ++ (line_feed ∷ [])))

-- a refusal's number and place behind a name; "a refusal is one line: refused, number, place"
unfoldable pub refusal_line : List ℕ → Refusal → List ℕ
refusal_line name r = name ++ (field (number_of r.reason) ++ (field r.place ++ (line_feed ∷ [])))

abbrev pub refused_line : Refusal → List ℕ
refused_line r = refusal_line (ascii "refused") r

-- ---- what a function that puts text leaves

-- the output s became t with the text at a place of it, as far as it has room; `next` is the place behind what was put
pub record Put (s : List ℕ) (at : ℕ) (text t : List ℕ) (next : ℕ) : Type 0 where
  pub stored : t ≡ sets s at text
  pub ends : next ≡ at + min (length text) (length s - at)
