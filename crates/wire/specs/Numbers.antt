-- Numbers in bytes: "all numbers are little-endian" (document 01). A byte past the end reads as zero.
-- In this order: numbers of any width; the widths that are used.
use Rattle.std.specs.Prelude.{ℕ, zero, suc, ◌+◌, ◌*◌, ◌/◌, ◌%◌, List, [], ◌∷◌, get_or}

-- the number in the n bytes from `at`, lowest first
abbrev pub num : ℕ → List ℕ → ℕ → ℕ
num zero s at = 0
num (suc n) s at = get_or s at 0 + 256 * num n s (suc at)

-- the n bytes of v, lowest first
abbrev pub digits : ℕ → ℕ → List ℕ
digits zero v = []
digits (suc n) v = v % 256 ∷ digits n (v / 256)

unfoldable pub u16_at : List ℕ → ℕ → ℕ
u16_at s at = num 2 s at

unfoldable pub u32_at : List ℕ → ℕ → ℕ
u32_at s at = num 4 s at

unfoldable pub u64_at : List ℕ → ℕ → ℕ
u64_at s at = num 8 s at
