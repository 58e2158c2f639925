-- What is claimed of the texts of a record, row by row.
use Rattle.std.specs.Prelude.{ℕ, ◌+◌, ◌≡◌, ◌↔◌, cond, List, [], ◌∷◌, eqb}
use Rattle.protocol.specs.Refusal.{refusal, offset_in_fixed_part, offset_with_zero_size}
use Rattle.protocol.specs.Verdict.{Rule, rule, judge, no_fault}
use Rattle.protocol.specs.declared.Refusal.{Refusal}
use Rattle.pairs.specs.declared.Range.{Range}
use Rattle.pairs.specs.declared.PairKind.TheVariants.{Text}
use Rattle.pairs.specs.declared.ZeroSize.{ZeroSize}
use Rattle.pairs.specs.declared.ZeroSize.TheVariants.{Absent, Strict}
use Rattle.pairs.specs.Pair.{offset_without_size}
use Rattle.pairs.specs.Claims.{SizeFits, PairFits, RangeOfWidth, shown_in}
use Rattle.texts.specs.Texts.{place_of, limit_of, texts_verdict}

-- each pair is accepted
abbrev pub TextsFit : ZeroSize → ℕ → ℕ → List (List ℕ) → List Range → Type 0
TextsFit z fixed n [] ps = Unit
TextsFit z fixed n (x ∷ xs) [] = Unit
TextsFit z fixed n (x ∷ xs) (p ∷ ps) = PairFits z Text fixed (limit_of x) n p × TextsFit z fixed n xs ps

-- the one rule that the strict choice has beside the default: no offset beside size 0
abbrev pub stray_rules : List (List ℕ) → List Range → List Rule
stray_rules [] ps = []
stray_rules (x ∷ xs) [] = []
stray_rules (x ∷ xs) (p ∷ ps) = rule (offset_without_size p) offset_with_zero_size (place_of x) ∷ stray_rules xs ps

-- each size is one that a writer takes
abbrev pub SizesFit : List (List ℕ) → List ℕ → Type 0
SizesFit [] ks = Unit
SizesFit (x ∷ xs) [] = Unit
SizesFit (x ∷ xs) (k ∷ ks) = SizeFits Text (limit_of x) k × SizesFit xs ks

-- each range shows its text
abbrev pub TextsShown : List ℕ → List Range → List (List ℕ) → Type 0
TextsShown s [] ts = Unit
TextsShown s (p ∷ ps) [] = Unit
TextsShown s (p ∷ ps) (t ∷ ts) = (shown_in s p ≡ t) × TextsShown s ps ts

-- the pairs stand one behind another from `at` on
abbrev pub Adjoining : ℕ → List (List ℕ) → Type 0
Adjoining at [] = Unit
Adjoining at (x ∷ xs) = (place_of x ≡ at) × Adjoining (at + 8) xs

abbrev pub RangesOfWidth : List Range → Type 0
RangesOfWidth [] = Unit
RangesOfWidth (p ∷ ps) = RangeOfWidth p × RangesOfWidth ps

-- what a reader with a longer fixed part refuses of texts of these sizes: the first that there is; r where there is none
abbrev pub first_inside : Refusal → List (List ℕ) → List ℕ → Refusal
first_inside r [] ks = r
first_inside r (x ∷ xs) [] = r
first_inside r (x ∷ xs) (k ∷ ks) = cond (eqb k 0) (first_inside r xs ks) (refusal offset_in_fixed_part (place_of x))

-- ---- what is proved (proofs/Rows)

abbrev pub TextsExactly : Type 0
TextsExactly =
    (z : ZeroSize) (fixed n : ℕ) (rows : List (List ℕ)) (ps : List Range) → (texts_verdict z fixed n rows ps ≡ no_fault) ↔ TextsFit z fixed n rows ps

-- of pairs that fit by default the strict choice refuses the first that has an offset beside size 0, and nothing else
abbrev pub StrictOfTexts : Type 0
StrictOfTexts = (fixed n : ℕ) (rows : List (List ℕ)) (ps : List Range) → texts_verdict Absent fixed n rows ps ≡ no_fault
    → texts_verdict Strict fixed n rows ps ≡ judge (stray_rules rows ps)
