-- What stands at a place of a list.
use Rattle.std.specs.Prelude.{ℕ, ◌≡◌, List, ◌++◌, length}

-- s has x at the place `at`
pub record Stands (s : List ℕ) (at : ℕ) (x : List ℕ) : Type 0 where
  pub before : List ℕ
  pub after : List ℕ
  pub is : s ≡ before ++ (x ++ after)
  pub long : length before ≡ at
