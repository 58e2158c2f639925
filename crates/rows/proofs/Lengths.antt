-- How long a row is at most.
-- Assumes nothing.
use mathlib.Core.List.{List}
use Prim.Native.Nat.{ℕ, zero, suc, ◌*◌, ◌≤◌, ◌<◌}
use native.Mathlib.Nat.{mul-zero, mul-suc}
use native.Mathlib.Omega.{arith}
use lib.ListN.{length, length-append}
use Rattle.ascii.specs.Ascii.{ascii}
use Rattle.ascii.proofs.Laws.{length_decimal, length_hexed}
use Rattle.folds.specs.Folds.{joined}
use Rattle.protocol.specs.declared.Refusal.{Refusal}
use Rattle.protocol.specs.Refusal.{number_of}
use Rattle.rows.specs.Rows.{field, row, indexed_row, text_row, refusal_line, refused_line}

pub field_le : (v : ℕ) → length (field v) ≤ 21
unfolding field
field_le v = omega (arith, length_decimal 20 v)

pub row_le : (name : List ℕ) (v : ℕ) → length name ≤ 50 → length (row name v) ≤ 72
unfolding row
row_le name v h = simp length-append (omega (arith, field_le v))

pub indexed_le : (name : List ℕ) (i v : ℕ) → length name ≤ 50 → length (indexed_row name i v) ≤ 94
unfolding indexed_row
indexed_le name i v h = simp length-append (omega (arith, length_decimal 20 i, field_le v))

pub text_le : (name text : List ℕ) → length name ≤ 50 → length text ≤ 126 → length (text_row name text) ≤ 304
unfolding text_row
text_le name text h k = simp length-append (omega (arith, length_hexed (length text) text))

pub refusal_le : (name : List ℕ) (r : Refusal) → length name ≤ 50 → length (refusal_line name r) ≤ 93
unfolding refusal_line
refusal_le name r h = simp length-append (omega (arith, field_le (number_of r.reason), field_le r.place))

pub refused_le : (r : Refusal) → length (refused_line r) ≤ 93
refused_le r = refusal_le (ascii "refused") r (omega arith)

-- texts one behind another, none longer than b
pub joined_le : (f : ℕ → List ℕ) (b n : ℕ) → ((i : ℕ) → i < n → length (f i) ≤ b) → length (joined f n) ≤ b * n
unfolding joined
joined_le f b zero h = omega (arith, mul-zero b)
joined_le f b (suc n) h = omega (arith, mul-suc b n, length-append (joined f n) (f n), joined_le f b n (λ i l. h i (omega arith)), h n (omega arith))
