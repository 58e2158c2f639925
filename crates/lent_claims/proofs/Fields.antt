-- Numbers of 16 bits one after another: read back from what was written, and written back from what was read; versions as numbers.
-- Assumes nothing.
use mathlib.Core.Path.{◌≡◌, refl, sym, ap, ◌∙◌}
use mathlib.Core.Logic.{◌⊎◌, inl, inr}
use mathlib.Core.Bool.{Bool, true, false, ◌&&◌}
use mathlib.Core.List.{List, [], ◌∷◌, ◌++◌}
use Prim.Native.Nat.{ℕ, zero, suc, ◌+◌, ◌*◌, ◌%◌, ◌≤◌, ◌<◌}
use native.Mathlib.Omega.{arith}
use borrow.Author.Tests.{ltb-true}
use lib.Dec.{ltb}
use lib.ListN.{length, take, drop}
use lib.Seq.{sets}
use Rattle.wire.specs.Numbers.{u16_at, digits}
use Rattle.wire.specs.Output.{over}
use Rattle.wire.proofs.Laws.{sets_over, num_digits, num_skip}
use Rattle.protocol.specs.declared.Version.{Version}
use Rattle.protocol.specs.declared.Version.TheVariants.{V1, V2}
use Rattle.protocol.proofs.Tests.{and_both}
use Rattle.version_info.specs.VersionInfo.{is_extension}
use Rattle.handshake.specs.Versions.{number_of, version_of, above}
use Rattle.handshake_claims.proofs.Bounded.{extension_cases}
use Rattle.lent.proofs.Memory.{lowest}
use Rattle.lent_claims.specs.Given.{Bytes}

-- ---- read back from what was written

pub first : (a : ℕ) (t : List ℕ) → a < 65536 → u16_at (digits 2 a ++ t) 0 ≡ a
unfolding u16_at
first a t l = num_digits 2 a t (omega (arith, l))

-- the number behind the first
pub behind : (a : ℕ) (t : List ℕ) (i : ℕ) → u16_at (digits 2 a ++ t) (2 + i) ≡ u16_at t i
unfolding u16_at
behind a t i = num_skip 2 (digits 2 a) t i

-- stores at the front of memory that has the room
pub stored : (b m : List ℕ) {n : ℕ} → length b ≡ n → n ≤ length m → sets m 0 b ≡ b ++ drop n m
unfolding over
stored b m e room = sets_over b m (omega (arith, e, room)) ∙ ap (λ (k : ℕ). b ++ drop k m) e

-- ---- written back from what was read

two_digits : (a b : ℕ) → a < 256 → b < 256 → digits 2 (a + 256 * (b + 256 * 0)) ≡ a ∷ b ∷ []
two_digits a b la lb =
    let e : (b + 256 * 0) % 256 ≡ b = omega (arith, lb) in
    lowest 1 a (b + 256 * 0) la ∙ ap (λ (x : ℕ). a ∷ x ∷ []) e

-- the n numbers from a place on, one after another
abbrev pub pairs_from : ℕ → List ℕ → ℕ → List ℕ
pairs_from zero m at = []
pairs_from (suc n) m at = digits 2 (u16_at m at) ++ pairs_from n m (suc (suc at))

abbrev twice : ℕ → ℕ
twice zero = zero
twice (suc n) = suc (suc (twice n))

skip_pair : (n x y at : ℕ) (t : List ℕ) → pairs_from n (x ∷ y ∷ t) (suc (suc at)) ≡ pairs_from n t at
unfolding u16_at
skip_pair zero x y at t = refl
skip_pair (suc n) x y at t = ap (λ (s : List ℕ). digits 2 (u16_at t at) ++ s) (skip_pair n x y (suc (suc at)) t)

-- memory of bytes begins with the numbers that are read from it
pub front_of : (n : ℕ) (m : List ℕ) → Bytes m → twice n ≤ length m → take (twice n) m ≡ pairs_from n m 0
unfolding u16_at
front_of zero m b l = refl
front_of (suc n) [] b l = absurd (omega arith)
front_of (suc n) (x ∷ []) b l = absurd (omega arith)
front_of (suc n) (x ∷ y ∷ t) b l =
    (λ i. x ∷ y ∷ front_of n t (λ (j : ℕ). b (suc (suc j))) (omega (arith, l)) i)
    ∙ (λ i. sym (two_digits x y (b 0) (b 1)) i ++ sym (skip_pair n x y 0 t) i)

-- ---- lists of bytes that are written out

abbrev pub all_bytes : List ℕ → Bool
all_bytes [] = true
all_bytes (x ∷ xs) = ltb x 256 && all_bytes xs

pub bytes_of_lem : (s : List ℕ) → all_bytes s ≡ true → Bytes s
bytes_of_lem [] e i = omega arith
bytes_of_lem (x ∷ xs) e zero = ltb-true x 256 (and_both (ltb x 256) (all_bytes xs) e).0
bytes_of_lem (x ∷ xs) e (suc i) = bytes_of_lem xs (and_both (ltb x 256) (all_bytes xs) e).1 i

-- ---- versions as numbers

pub small : (v : Version) → number_of v < 65536
small V1 = omega arith
small V2 = omega arith

pub known : (v : Version) → is_extension (number_of v) ≡ true
known V1 = refl
known V2 = refl

-- the number of a version, and the version's number again
pub number_back : (n : ℕ) → is_extension n ≡ true → number_of (version_of n) ≡ n
number_back n e = go (extension_cases n e)
  where
    go : (n ≡ 0x0100) ⊎ (n ≡ 0x0200) → number_of (version_of n) ≡ n
    go (inl p) = rw p
    go (inr p) = rw p

pub ordered : (n a : Version) → above a n ≡ false → ltb (number_of n) (number_of a) ≡ false
ordered V1 V1 e = refl
ordered V1 V2 e = e
ordered V2 V1 e = refl
ordered V2 V2 e = refl
