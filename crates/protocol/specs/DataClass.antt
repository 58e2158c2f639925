-- Data classes (document 01, "Payload layouts"): "bits 0 to 5, 16 to 22 and 31 at 1.00; also 40h and 80h at 2.00".
-- In this order: the table; the tests of a field by the table. The masks 807F003Fh and 807F00FFh are the table's sums (proofs/Classes).
use Rattle.std.specs.Prelude.{ℕ, ◌+◌, ◌^◌, ◌<◌, ◌≡◌, Bool, false, ◌||◌, eqb, leb}
use mathlib.Core.List.{List, [], ◌∷◌, ◌++◌, Memᴰ}
use Rattle.std.specs.Int.Bits.{bit_and}
use Rattle.protocol.specs.declared.Version.{Version}
use Rattle.protocol.specs.declared.Version.TheVariants.{V1, V2}
use Rattle.std.specs.Int.Count.{ones}

-- ---- the table: the numbers of the bits that are classes

abbrev pub later_bits : Version → List ℕ
later_bits V1 = []
later_bits V2 = 6 ∷ 7 ∷ []

unfoldable pub class_bits : Version → List ℕ
class_bits v = later_bits v ++ (0 ∷ 1 ∷ 2 ∷ 3 ∷ 4 ∷ 5 ∷ 16 ∷ 17 ∷ 18 ∷ 19 ∷ 20 ∷ 21 ∷ 22 ∷ 31 ∷ [])

-- the bits of a list as one number
unfoldable pub sum_of_bits : List ℕ → ℕ
sum_of_bits [] = 0
sum_of_bits (k ∷ ks) = 2 ^ k + sum_of_bits ks

unfoldable pub mask_of : Version → ℕ
mask_of v = sum_of_bits (class_bits v)

-- ---- the tests

-- c is one of the bits
unfoldable pub is_bit : List ℕ → ℕ → Bool
is_bit [] c = false
is_bit (k ∷ ks) c = eqb c (2 ^ k) || is_bit ks c

-- every bit of c is a class
abbrev pub only_classes : Version → ℕ → Bool
only_classes v c = eqb (bit_and c (mask_of v)) c

abbrev pub one_class : Version → ℕ → Bool
one_class v c = is_bit (class_bits v) c

abbrev pub one_class_or_none : Version → ℕ → Bool
one_class_or_none v c = eqb c 0 || one_class v c

-- the same in words: c is 2 to the power of one of the table's bits
abbrev pub IsClass : Version → ℕ → Type 0
IsClass v c = (k : ℕ) × (Memᴰ k (class_bits v) × (c ≡ 2 ^ k))

-- ---- what is proved (proofs/Classes)

-- under the mask, at most one digit is what the table says
abbrev pub Counted : Type 0
Counted = (v : Version) (c : ℕ) → c < 2 ^ 32 → bit_and c (mask_of v) ≡ c → leb (ones c) 1 ≡ one_class_or_none v c

-- under the mask, exactly one digit is what the table says
abbrev pub CountedOne : Type 0
CountedOne = (v : Version) (c : ℕ) → c < 2 ^ 32 → bit_and c (mask_of v) ≡ c → eqb (ones c) 1 ≡ one_class v c

-- a bit outside the mask is of no class
abbrev pub Outside : Type 0
Outside = (v : Version) (c : ℕ) → (bit_and c (mask_of v) ≡ c → ⊥) → one_class_or_none v c ≡ false

-- a bit outside the mask is no class
abbrev pub OutsideOne : Type 0
OutsideOne = (v : Version) (c : ℕ) → (bit_and c (mask_of v) ≡ c → ⊥) → one_class v c ≡ false

-- the masks that document 01 prints
abbrev pub Masks : Type 0
Masks = (mask_of V1 ≡ 0x807F003F) × (mask_of V2 ≡ 0x807F00FF)
