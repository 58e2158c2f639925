-- Bars from an RSSI (document 01, "Decibels and bars"; source 000, the default mapping).
use Rattle.std.specs.Prelude.{ℕ, cond, List, [], ◌∷◌, ltb, leb, eqb, get_or, Ok, Err, Some, None, Option, Result}
use Rattle.protocol.specs.Refusal.{refusal, outside_table}
use Rattle.protocol.specs.declared.Refusal.{Refusal}

-- no bars where the RSSI is unknown
abbrev pub Bars : Type 0
Bars = Result (Option ℕ) Refusal

-- "at least 17, 12, 7, 4, 2 give 5, 4, 3, 2, 1": the highest row first
unfoldable pub bars_table : List (List ℕ)
bars_table = (17 ∷ 5 ∷ []) ∷ (12 ∷ 4 ∷ []) ∷ (7 ∷ 3 ∷ []) ∷ (4 ∷ 2 ∷ []) ∷ (2 ∷ 1 ∷ []) ∷ []

abbrev pub from : List ℕ → ℕ
from row = get_or row 0 0

abbrev pub count : List ℕ → ℕ
count row = get_or row 1 0

-- the bars of the first row that is reached; "lower gives 0"
unfoldable pub reached : List (List ℕ) → ℕ → ℕ
reached [] rssi = 0
reached (row ∷ rows) rssi = cond (leb (from row) rssi) (count row) (reached rows rssi)

-- "99 gives no reading; others, and codes outside their table, 9 at 0"
unfoldable pub bars_of : ℕ → Bars
bars_of rssi = cond (eqb rssi 99) (Ok None) (cond (ltb 31 rssi) (Err (refusal outside_table 0)) (Ok (Some (reached bars_table rssi))))
