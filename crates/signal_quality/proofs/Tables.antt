-- Two functions agree at each number below n where antt computes that they agree on all of them.
-- Assumes nothing.
use mathlib.Core.Path.{◌≡◌}
use mathlib.Core.List.{List, [], ◌∷◌}
use Prim.Native.Nat.{ℕ, zero, suc, ◌<◌, ◌≤◌}
use native.Mathlib.Nat.{eq-or-lt_of_le, not-suc-le-zero}
use mathlib.Core.Logic.{⊎_elim}
use native.Mathlib.Omega.{arith}

abbrev pub rows : {A : Type 0} → (ℕ → A) → ℕ → List A
rows f zero = []
rows f (suc n) = f n ∷ rows f n

pub agree : {A : Type 0} (f g : ℕ → A) (n : ℕ) → rows f n ≡ rows g n → (k : ℕ) → k < n → f k ≡ g k
agree f g zero e k h = absurd (not-suc-le-zero h)
agree f g (suc n) e k h =
    let last : f n ≡ g n = cc in
    let rest : rows f n ≡ rows g n = cc in
    let l : k ≤ n = omega arith in
    ⊎_elim (λ q. rw q last) (λ (q : k < n). agree f g n rest k q) (eq-or-lt_of_le l)
