-- What is gathered over the numbers 0 to n - 1, in order: the first fault, whether any does, the first that does, a list, bytes, a sum.
use Rattle.std.specs.Prelude.{ℕ, zero, suc, ◌+◌, Bool, false, cond, ◌||◌, List, [], ◌∷◌, ◌++◌}
use Rattle.protocol.specs.Verdict.{first_of, no_fault, Verdict}

-- the first fault of f 0, f 1, ..
unfoldable pub first_fault : (ℕ → Verdict) → ℕ → Verdict
first_fault f zero = no_fault
first_fault f (suc n) = first_of (first_fault f n) (f n)

-- whether t holds of any
unfoldable pub any_of : (ℕ → Bool) → ℕ → Bool
any_of t zero = false
any_of t (suc n) = any_of t n || t n

-- the first of which t holds, or n where there is none
unfoldable pub first_index : (ℕ → Bool) → ℕ → ℕ
first_index t zero = zero
first_index t (suc n) = cond (any_of t n) (first_index t n) (cond (t n) n (suc n))

-- f 0, f 1, .. as a list
unfoldable pub list_of : {A : Type 0} → (ℕ → A) → ℕ → List A
list_of f zero = []
list_of f (suc n) = list_of f n ++ (f n ∷ [])

-- the bytes of f 0, f 1, .. one after another
unfoldable pub joined : (ℕ → List ℕ) → ℕ → List ℕ
joined f zero = []
joined f (suc n) = joined f n ++ f n

-- the sum of f 0, f 1, ..
unfoldable pub sum_of : (ℕ → ℕ) → ℕ → ℕ
sum_of f zero = 0
sum_of f (suc n) = sum_of f n + f n
