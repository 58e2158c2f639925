-- Transaction numbers (document 01, "Messages and fragments"): "run 1 to 4,294,967,295, then wrap to 1; 0 is for indications".
use Rattle.std.specs.Prelude.{ℕ, ◌+◌, cond, ◌==◌}

unfoldable pub next_transaction : ℕ → ℕ
next_transaction n = cond (n == 4294967295) 1 (n + 1)
