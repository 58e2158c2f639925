-- The table of data classes and the count of ones say the same of a field, and the masks are the table's.
-- Assumes nothing.
use mathlib.Core.Path.{◌≡◌, refl, sym, ap, ◌∙◌, subst}
use mathlib.Core.Logic.{◌⊎◌, inl, inr, ⊎_elim}
use mathlib.Core.Bool.{Bool, true, false, ◌&&◌, ◌||◌}
use mathlib.Core.List.{List, [], ◌∷◌, Memᴰ}
use Prim.Native.Nat.{ℕ, zero, suc, ◌*◌, ◌/◌, ◌%◌, ◌^◌, ◌≤◌, ◌<◌}
use native.Mathlib.Nat.{one-mul, zero-mul}
use native.Mathlib.Omega.{arith}
use borrow.Author.Tests.{eqb-true, eqb-false, eq-eqb, ne_eqb, leb-true, leb-false, lt-leb}
use lib.Dec.{T, eqb, leb, eqb→eq}
use lib.Pow.{pow_pos}
use lib.Bits.{bit_and, and_step, and_zero_l, and_le_r}
use lib.Count.{ones}
use Rattle.protocol.specs.declared.Version.{Version}
use Rattle.protocol.specs.declared.Version.TheVariants.{V1, V2}
use Rattle.protocol.specs.DataClass.{class_bits, sum_of_bits, mask_of, is_bit, one_class, one_class_or_none, IsClass, Counted, CountedOne, Outside, OutsideOne, Masks}
use Rattle.protocol.proofs.Tests.{or_cases, cases_or}
use Rattle.protocol.proofs.Bits.{ones_none, ones_one, ones_power, and_power}

-- a test passes at each number below n, and at each of a list
all_below : (ℕ → Bool) → ℕ → Bool
all_below f zero = true
all_below f (suc n) = f zero && all_below (λ k. f (suc k)) n

all_of : (ℕ → Bool) → List ℕ → Bool
all_of f [] = true
all_of f (k ∷ ks) = f k && all_of f ks

both_left : (a b : Bool) → T (a && b) → T a
both_left true b t = tt
both_left false b t = t

both_right : (a b : Bool) → T (a && b) → T b
both_right true b t = t
both_right false b t = absurd t

is_true : (b : Bool) → T b → b ≡ true
is_true true t = refl
is_true false t = absurd t

below_at : (f : ℕ → Bool) (n : ℕ) → T (all_below f n) → (k : ℕ) → k < n → f k ≡ true
unfolding all_below
below_at f zero t k h = absurd (omega arith)
below_at f (suc n) t zero h = is_true (f zero) (both_left (f zero) _ t)
below_at f (suc n) t (suc k) h = below_at (λ j. f (suc j)) n (both_right (f zero) _ t) k (omega arith)

-- a digit of the mask below 32 is in the table, and each of the table is a digit of the mask
digit : Version → ℕ → Bool
digit v k = eqb (mask_of v / 2 ^ k % 2) 0 || is_bit (class_bits v) (2 ^ k)

masked : Version → ℕ → Bool
masked v k = eqb (mask_of v / 2 ^ k % 2) 1

digits_ok : (v : Version) → T (all_below (digit v) 32)
unfolding all_below digit mask_of sum_of_bits class_bits is_bit
digits_ok V1 = tt
digits_ok V2 = tt

masked_ok : (v : Version) → T (all_of (masked v) (class_bits v))
unfolding all_of masked mask_of sum_of_bits class_bits
masked_ok V1 = tt
masked_ok V2 = tt

-- a power of two stays under a mask exactly where the mask has its digit
power_kept : (k m : ℕ) → m / 2 ^ k % 2 ≡ 1 → bit_and (2 ^ k) m ≡ 2 ^ k
power_kept k m e = and_power k m ∙ ap (λ (x : ℕ). x * 2 ^ k) e ∙ one-mul (2 ^ k)

power_lost : (k m : ℕ) → m / 2 ^ k % 2 ≡ 0 → bit_and (2 ^ k) m ≡ 2 ^ k → ⊥
power_lost k m e h = omega (arith, sym h ∙ and_power k m ∙ ap (λ (x : ℕ). x * 2 ^ k) e ∙ zero-mul (2 ^ k), pow_pos k)

-- more than one digit, or one that the mask lacks: none of the table
many : (ks : List ℕ) (c : ℕ) → 1 < ones c → is_bit ks c ≡ false
unfolding is_bit
many [] c h = refl
many (k ∷ ks) c h = rw (ne_eqb c (2 ^ k) (λ e. omega (arith, ap ones e ∙ ones_power k)), many ks c h)

lost : (ks : List ℕ) (c m : ℕ) → T (all_of (λ k. eqb (m / 2 ^ k % 2) 1) ks) → (bit_and c m ≡ c → ⊥) → is_bit ks c ≡ false
unfolding is_bit all_of
lost [] c m t h = refl
lost (k ∷ ks) c m t h =
    let bit = eqb (m / 2 ^ k % 2) 1 in
    let others = all_of (λ j. eqb (m / 2 ^ j % 2) 1) ks in
    rw (
      ne_eqb c (2 ^ k) (λ e. h (ap (λ (x : ℕ). bit_and x m) e ∙ power_kept k m (eqb→eq (m / 2 ^ k % 2) 1 (both_left bit others t)) ∙ sym e)),
      lost ks c m (both_right bit others t) h,
    )

-- a power of two under the mask is of the table
found : (v : Version) (k : ℕ) → k < 32 → bit_and (2 ^ k) (mask_of v) ≡ 2 ^ k → is_bit (class_bits v) (2 ^ k) ≡ true
unfolding digit
found v k b h = rw (ne_eqb (mask_of v / 2 ^ k % 2) 0 (λ e. power_lost k (mask_of v) e h)) at (below_at (digit v) 32 (digits_ok v) k b)

power_class : (v : Version) (k : ℕ) → k < 32 → bit_and (2 ^ k) (mask_of v) ≡ 2 ^ k → one_class_or_none v (2 ^ k) ≡ true
power_class v k b h = rw (ne_eqb (2 ^ k) 0 (λ e. omega (arith, pow_pos k)), found v k b h)

few : (v : Version) (c : ℕ) → c < 2 ^ 32 → bit_and c (mask_of v) ≡ c → ones c ≤ 1 → one_class_or_none v c ≡ true
few v c b h o =
    ⊎_elim (λ z. rw (eq-eqb c 0 z))
    (λ w. subst (λ (x : ℕ). one_class_or_none v x ≡ true) (sym w.2) (power_class v w.0 w.1 (subst (λ (x : ℕ). bit_and x (mask_of v) ≡ x) w.2 h))) (ones_one 32 c b o)

none : (v : Version) (c : ℕ) → 1 < ones c → one_class_or_none v c ≡ false
unfolding ones
none v c h = rw (ne_eqb c 0 (λ e. omega (arith, ap ones e)), many (class_bits v) c h)

-- under the mask, at most one digit is what the table says
pub counted : Counted
counted v c b h = go (leb (ones c) 1) refl
  where
    go : (t : Bool) → leb (ones c) 1 ≡ t → leb (ones c) 1 ≡ one_class_or_none v c
    go true e = e ∙ sym (few v c b h (leb-true (ones c) 1 e))
    go false e = e ∙ sym (none v c (leb-false (ones c) 1 e))

-- a bit outside the mask is of no class
pub outside : Outside
unfolding masked
outside v c h = rw (ne_eqb c 0 (λ e. h (ap (λ (x : ℕ). bit_and x (mask_of v)) e ∙ and_zero_l (mask_of v) ∙ sym e)), lost (class_bits v) c (mask_of v) (masked_ok v) h)

-- 0 is none of the bits
zero_none : (ks : List ℕ) → is_bit ks 0 ≡ false
unfolding is_bit
zero_none [] = refl
zero_none (k ∷ ks) = rw (ne_eqb 0 (2 ^ k) (λ e. omega (arith, pow_pos k)), zero_none ks)

-- a field that is not 0 is one class where it is one or none
not_none : (v : Version) (c : ℕ) → (c ≡ 0 → ⊥) → one_class_or_none v c ≡ one_class v c
not_none v c h = rw (ne_eqb c 0 h)

-- a number that is not 0 has one digit where it has at most one
one_of_some : (n : ℕ) → (n ≡ 0 → ⊥) → eqb n 1 ≡ leb n 1
one_of_some zero h = absurd (h refl)
one_of_some (suc zero) h = refl
one_of_some (suc (suc n)) h = ne_eqb (suc (suc n)) 1 (λ e. omega arith) ∙ sym (lt-leb (suc (suc n)) 1 (omega arith))

-- under the mask, exactly one digit is what the table says
pub counted_one : CountedOne
unfolding ones
counted_one v c b h = go (eqb c 0) refl
  where
    go : (t : Bool) → eqb c 0 ≡ t → eqb (ones c) 1 ≡ one_class v c
    go true e = rw (eqb-true c 0 e) (sym (zero_none (class_bits v)))
    go false e = one_of_some (ones c) (λ z. eqb-false c 0 e (ones_none 32 c b z)) ∙ counted v c b h ∙ not_none v c (eqb-false c 0 e)

-- a bit outside the mask is no class
pub outside_one : OutsideOne
outside_one v c h = sym (not_none v c (λ e. h (ap (λ (x : ℕ). bit_and x (mask_of v)) e ∙ and_zero_l (mask_of v) ∙ sym e))) ∙ outside v c h

-- the masks that document 01 prints
pub masks : Masks
unfolding mask_of sum_of_bits class_bits
masks = (refl, refl)

-- ---- what is only classes at 1.00 is so at 2.00

-- each of the d lowest digits of m is one of n
covered : ℕ → ℕ → ℕ → Bool
covered zero m n = true
covered (suc d) m n = leb (m % 2) (n % 2) && covered d (m / 2) (n / 2)

-- a field under a mask is under one that covers it
under : (d c m n : ℕ) → c < 2 ^ d → T (covered d m n) → bit_and c m ≡ c → bit_and c n ≡ c
unfolding covered
under zero c m n b t e = let z : c ≡ 0 = omega arith in ap (λ (x : ℕ). bit_and x n) z ∙ and_zero_l n ∙ sym z
under (suc d) c m n b t e =
    let here : leb (m % 2) (n % 2) ≡ true = is_true _ (both_left (leb (m % 2) (n % 2)) _ t) in
    let rest = under d (c / 2) (m / 2) (n / 2) (omega arith) (both_right (leb (m % 2) (n % 2)) _ t) (omega (arith, and_step c m)) in
    omega (arith, and_step c m, and_step c n, rest, leb-true (m % 2) (n % 2) here)

pub later_classes : (c : ℕ) → bit_and c (mask_of V1) ≡ c → bit_and c (mask_of V2) ≡ c
unfolding covered mask_of sum_of_bits class_bits
later_classes c e = under 32 c (mask_of V1) (mask_of V2) (omega (arith, and_le_r c (mask_of V1))) tt e

-- ---- the tests in words of bits

In : List ℕ → ℕ → Type 0
In ks c = (k : ℕ) × (Memᴰ k ks × (c ≡ 2 ^ k))

bit_in : (ks : List ℕ) (c : ℕ) → is_bit ks c ≡ true → In ks c
unfolding is_bit In
bit_in [] c e = let z : ◌≡◌ {A = ℕ} 0 1 = cc in absurd (omega arith)
bit_in (k ∷ ks) c e =
    ⊎_elim (λ h. (k, (Memᴰ.head refl, eqb-true c (2 ^ k) h))) (λ h. let r = bit_in ks c h in (r.0, (Memᴰ.tail r.1.0, r.1.1)))
    (or_cases (eqb c (2 ^ k)) (is_bit ks c) e)

in_bit : (ks : List ℕ) (c k : ℕ) → Memᴰ k ks → c ≡ 2 ^ k → is_bit ks c ≡ true
unfolding is_bit
in_bit [] c k x e = elim x [ ]
in_bit (x ∷ ks) c k (Memᴰ.head p) e = cases_or (eqb c (2 ^ x)) (is_bit ks c) (inl (eq-eqb c (2 ^ x) (e ∙ ap (λ (j : ℕ). 2 ^ j) p)))
in_bit (x ∷ ks) c k (Memᴰ.tail m) e = cases_or (eqb c (2 ^ x)) (is_bit ks c) (inr (in_bit ks c k m e))

pub class_said : (v : Version) (c : ℕ) → one_class v c ≡ true → IsClass v c
unfolding In
class_said v c e = bit_in (class_bits v) c e

pub said_class : (v : Version) (c : ℕ) → IsClass v c → one_class v c ≡ true
said_class v c (k, (m, e)) = in_bit (class_bits v) c k m e

pub none_or_class : (v : Version) (c : ℕ) → one_class_or_none v c ≡ true → (c ≡ 0) ⊎ IsClass v c
none_or_class v c e = ⊎_elim (λ h. inl (eqb-true c 0 h)) (λ h. inr (class_said v c h)) (or_cases (eqb c 0) (one_class v c) e)

pub class_or_none : (v : Version) (c : ℕ) → (c ≡ 0) ⊎ IsClass v c → one_class_or_none v c ≡ true
class_or_none v c (inl e) = cases_or (eqb c 0) (one_class v c) (inl (eq-eqb c 0 e))
class_or_none v c (inr h) = cases_or (eqb c 0) (one_class v c) (inr (said_class v c h))
