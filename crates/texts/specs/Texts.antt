-- The texts of a record: a row (place, limit) for each pair, in field order. In document 01 so: "pairs ProviderId 20, ProviderName 28,
-- RoamingText 36 with limits 12, 40 and 126 bytes". How many there are is free.
-- In this order: the rows; the rules, in the order in which they are judged; where a writer puts the texts; their bytes.
use Rattle.std.specs.Prelude.{ℕ, ◌+◌, List, [], ◌∷◌, ◌++◌, length, get_or, take}
use Rattle.wire.specs.Output.{fitted}
use Rattle.protocol.specs.Refusal.{wrong_size}
use Rattle.protocol.specs.Verdict.{Rule, rule, first_of, no_fault, Verdict}
use Rattle.pairs.specs.Pair.{range_at, unfit, verdict_of, padded, placed, as_shown, range_bytes}
use Rattle.pairs.specs.declared.Range.{Range}
use Rattle.pairs.specs.declared.ZeroSize.{ZeroSize}
use Rattle.pairs.specs.declared.PairKind.TheVariants.{Text}

-- ---- rows

abbrev pub row : ℕ → ℕ → List ℕ
row place limit = place ∷ limit ∷ []

abbrev pub place_of : List ℕ → ℕ
place_of x = get_or x 0 0

abbrev pub limit_of : List ℕ → ℕ
limit_of x = get_or x 1 0

-- the pair of each row, at its place of the payload s
abbrev pub ranges_at : List ℕ → List (List ℕ) → List Range
ranges_at s [] = []
ranges_at s (x ∷ xs) = range_at s (place_of x) ∷ ranges_at s xs

-- and as a reader shows them
abbrev pub all_shown : List Range → List Range
all_shown [] = []
all_shown (p ∷ ps) = as_shown p ∷ all_shown ps

-- ---- rules: pair by pair; the first fault decides

-- v, then the others
abbrev pub first_from : Verdict → List Verdict → Verdict
first_from v [] = v
first_from v (w ∷ ws) = first_of v (first_from w ws)

abbrev pub in_turn : List Verdict → Verdict
in_turn [] = no_fault
in_turn (v ∷ vs) = first_from v vs

-- each pair by its own row, in n bytes, by the reader's choice
abbrev pub each_verdict : ZeroSize → ℕ → ℕ → List (List ℕ) → List Range → List Verdict
each_verdict z fixed n [] ps = []
each_verdict z fixed n (x ∷ xs) [] = []
each_verdict z fixed n (x ∷ xs) (p ∷ ps) = verdict_of z Text fixed (limit_of x) (place_of x) n p ∷ each_verdict z fixed n xs ps

abbrev pub texts_verdict : ZeroSize → ℕ → ℕ → List (List ℕ) → List Range → Verdict
texts_verdict z fixed n rows ps = in_turn (each_verdict z fixed n rows ps)

-- what is left of them for a writer, who sets the offsets: the sizes of the texts
abbrev pub size_rules : List (List ℕ) → List ℕ → List Rule
size_rules [] ks = []
size_rules (x ∷ xs) [] = []
size_rules (x ∷ xs) (k ∷ ks) = rule (unfit Text (limit_of x) k) wrong_size (place_of x) ∷ size_rules xs ks

-- ---- where a writer puts texts of these sizes: one behind another from `base` on, "each padded with zeros to a multiple of 4"

abbrev pub laid : ℕ → List ℕ → List Range
laid base [] = []
laid base (k ∷ ks) = placed base k ∷ laid (base + padded k) ks

-- where they end
abbrev pub end_of : ℕ → List ℕ → ℕ
end_of base [] = base
end_of base (k ∷ ks) = end_of (base + padded k) ks

-- text i: behind the first i, and its pair
abbrev pub start_of : ℕ → List ℕ → ℕ → ℕ
start_of base ks i = end_of base (take i ks)

abbrev pub laid_at : ℕ → List ℕ → ℕ → Range
laid_at base ks i = placed (start_of base ks i) (get_or ks i 0)

-- ---- bytes

-- pairs that stand one behind another
abbrev pub ranges_bytes : List Range → List ℕ
ranges_bytes [] = []
ranges_bytes (p ∷ ps) = range_bytes p ++ ranges_bytes ps

abbrev pub text_bytes : List ℕ → List ℕ
text_bytes t = fitted (padded (length t)) t

abbrev pub texts_bytes : List (List ℕ) → List ℕ
texts_bytes [] = []
texts_bytes (t ∷ ts) = text_bytes t ++ texts_bytes ts

abbrev pub sizes_of : List (List ℕ) → List ℕ
sizes_of [] = []
sizes_of (t ∷ ts) = length t ∷ sizes_of ts
