-- Texts compared byte by byte, and a text stored.
-- Assumes nothing.
use Prim.Native.Nat.{ℕ, zero, suc, ◌+◌, ◌≤◌, ◌<◌}
use mathlib.Core.Path.{◌≡◌, refl, sym, ap, ◌∙◌}
use mathlib.Core.Bool.{Bool, true, false, ◌&&◌}
use mathlib.Core.List.{List, [], ◌∷◌}
use native.Mathlib.Omega.{arith}
use borrow.Author.Tests.{eqb-true, eqb-false, eq-eqb}
use lib.Dec.{eqb}
use lib.ListN.{length, get_or, take, drop}
use lib.Seq.{sets, sets-eq, take_at, take_all, length-take-le}
use native.Mathlib.Numerals.{add-one}
use Rattle.pin_entry.specs.PinTable.{same_text}
use Rattle.pin_entry.specs.Claims.{RightExactly}

pub same_is : (a b : List ℕ) → same_text a b ≡ true → a ≡ b
unfolding same_text
same_is [] [] e = refl
same_is [] (y ∷ ys) e = absurd cc
same_is (x ∷ xs) [] e = absurd cc
same_is (x ∷ xs) (y ∷ ys) e = go (eqb x y) refl e (same_is xs ys)
  where
    go : (b : Bool) → eqb x y ≡ b → (b && same_text xs ys) ≡ true → (same_text xs ys ≡ true → xs ≡ ys) → (x ∷ xs) ≡ (y ∷ ys)
    go true p q f = let h = eqb-true x y p in let t = f q in cc
    go false p q f = absurd cc

pub is_same : (a : List ℕ) → same_text a a ≡ true
unfolding same_text
is_same [] = refl
is_same (x ∷ xs) = rw (eq-eqb x x refl) (is_same xs)

pub right_exactly : RightExactly
right_exactly a b = (same_is a b, λ e. rw (← e) (is_same a))

pub unlike : (a b : List ℕ) → (a ≡ b → ⊥) → same_text a b ≡ false
unlike a b n = go (same_text a b) refl
  where
    go : (t : Bool) → same_text a b ≡ t → t ≡ false
    go true e = absurd (n (same_is a b e))
    go false e = refl

-- ---- byte by byte

joined : (x a b : Bool) → (x && (a && b)) ≡ ((x && a) && b)
joined true a b = refl
joined false a b = refl

never : (x : Bool) → (x && false) ≡ false
never true = refl
never false = refl

both_true : (x : Bool) → (x && true) ≡ x
both_true true = refl
both_true false = refl

next : (a b : List ℕ) (i : ℕ) → i < length a → i < length b
    → same_text (take (suc i) a) (take (suc i) b) ≡ (same_text (take i a) (take i b) && eqb (get_or a i 0) (get_or b i 0))
unfolding same_text
next [] b i p q = absurd (omega arith)
next (x ∷ xs) [] i p q = absurd (omega arith)
next (x ∷ xs) (y ∷ ys) zero p q = both_true (eqb x y)
next (x ∷ xs) (y ∷ ys) (suc i) p q = rw (next xs ys i (omega arith) (omega arith)) (joined (eqb x y) (same_text (take i xs) (take i ys)) (eqb (get_or xs i 0) (get_or ys i 0)))

pub none_yet : same_text [] [] ≡ true
unfolding same_text
none_yet = refl

pub one_more : (a b : List ℕ) (i : ℕ) → i < length a → i < length b
    → same_text (take (i + 1) a) (take (i + 1) b) ≡ (same_text (take i a) (take i b) && eqb (get_or a i 0) (get_or b i 0))
one_more a b i p q = rw add-one (next a b i p q)

-- texts of other lengths differ
pub all_seen : (a b : List ℕ) (n : ℕ) (same : Bool) → n ≤ length a → (length b ≡ n → same ≡ same_text (take n a) (take n b))
    → (same && eqb n (length b)) ≡ same_text (take n a) b
all_seen a b n same l h = go (eqb n (length b)) refl
  where
    go : (t : Bool) → eqb n (length b) ≡ t → (same && t) ≡ same_text (take n a) b
    go true e = let z : length b ≡ n = omega (arith, eqb-true n (length b) e) in both_true same ∙ h z ∙ rw (take_all n b (omega arith))
    go false e = never same ∙ sym (unlike (take n a) b (λ z. eqb-false n (length b) e (sym (length-take-le n a l) ∙ ap length z)))

-- ---- a text stored

pub stored : (l s : List ℕ) → length s ≤ length l → take (length s) (sets l 0 s) ≡ s
stored l s h = rw (sets-eq s l 0 (omega arith)) (take_at s (drop (0 + length s) l) (length s) refl)
