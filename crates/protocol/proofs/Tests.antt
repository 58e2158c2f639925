-- What a test that is made of others says of them.
-- Assumes nothing.
use mathlib.Core.Path.{◌≡◌, refl}
use mathlib.Core.Logic.{◌⊎◌, inl, inr}
use mathlib.Core.Bool.{Bool, true, false, not, ◌&&◌, ◌||◌}
use Prim.Native.Nat.{ℕ}
use native.Mathlib.Omega.{arith}
use borrow.Author.Tests.{eqb-true, eq-eqb}
use lib.Dec.{eqb}

pub or_cases : (a b : Bool) → (a || b) ≡ true → (a ≡ true) ⊎ (b ≡ true)
or_cases true b e = inl refl
or_cases false b e = inr e

pub cases_or : (a b : Bool) → (a ≡ true) ⊎ (b ≡ true) → (a || b) ≡ true
cases_or a b (inl e) = rw e
cases_or true b (inr e) = refl
cases_or false b (inr e) = e

pub and_cases : (a b : Bool) → (a && b) ≡ false → (a ≡ false) ⊎ (b ≡ false)
and_cases true b e = inr e
and_cases false b e = inl refl

pub cases_and : (a b : Bool) → (a ≡ false) ⊎ (b ≡ false) → (a && b) ≡ false
cases_and a b (inl e) = rw e
cases_and true b (inr e) = e
cases_and false b (inr e) = refl

pub and_both : (a b : Bool) → (a && b) ≡ true → (a ≡ true) × (b ≡ true)
and_both true b e = (refl, e)
and_both false b e = let z : ◌≡◌ {A = ℕ} 0 1 = cc in absurd (omega arith)

pub both_and : (a b : Bool) → a ≡ true → b ≡ true → (a && b) ≡ true
both_and a b p q = rw (p, q)

pub or_none : (a b : Bool) → (a || b) ≡ false → (a ≡ false) × (b ≡ false)
or_none true b e = let z : ◌≡◌ {A = ℕ} 0 1 = cc in absurd (omega arith)
or_none false b e = (refl, e)

pub none_or : (a b : Bool) → a ≡ false → b ≡ false → (a || b) ≡ false
none_or a b p q = rw (p, q)

pub not_kept : (a : Bool) → not a ≡ false → a ≡ true
not_kept true e = refl
not_kept false e = let z : ◌≡◌ {A = ℕ} 0 1 = cc in absurd (omega arith)

pub kept_not : (a : Bool) → a ≡ true → not a ≡ false
kept_not a e = rw e

pub not_said : (a : Bool) → not a ≡ true → a ≡ false
not_said true e = let z : ◌≡◌ {A = ℕ} 0 1 = cc in absurd (omega arith)
not_said false e = refl

-- a number that has to be another is
pub equal_kept : (a b : ℕ) → not (eqb a b) ≡ false → a ≡ b
equal_kept a b e = eqb-true a b (not_kept (eqb a b) e)

pub kept_equal : (a b : ℕ) → a ≡ b → not (eqb a b) ≡ false
kept_equal a b e = kept_not (eqb a b) (eq-eqb a b e)
