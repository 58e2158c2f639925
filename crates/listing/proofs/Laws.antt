-- A line's part of a chunk.
-- Assumes nothing.
use mathlib.Core.Path.{◌≡◌, ap, ◌∙◌}
use mathlib.Core.List.{List, []}
use Prim.Native.Nat.{ℕ, ◌+◌, ◌-◌, ◌≤◌, ◌<◌}
use native.Mathlib.Omega.{arith}
use borrow.Author.Tests.{lt-leb}
use lib.Dec.{leb}
use lib.ListN.{length, length-drop, take, drop, drop_of_length-le}
use Rattle.wire.specs.Output.{fitted}
use Rattle.wire.proofs.Laws.{take_rest, fitted_take}
use Rattle.ascii.specs.Ascii.{through}
use Rattle.ascii.proofs.Laws.{by_test, through_le, through_some}
use Rattle.listing.specs.Lines.{line_length, line_bytes, collect_of}
use Rattle.listing.specs.declared.lines.Collected.{Collected}

pub rest_length : (chunk : List ℕ) (from : ℕ) → through (take (length chunk - from) (drop from chunk)) 10 ≡ line_length chunk from
unfolding line_length
rest_length chunk from = ap (λ (x : List ℕ). through x 10) (take_rest from chunk)

pub line_length_lem : (chunk : List ℕ) (from : ℕ) {n : ℕ} → n ≡ through (take (length chunk - from) (drop from chunk)) 10 → n ≡ line_length chunk from
line_length_lem chunk from e = e ∙ rest_length chunk from

pub line_le : (chunk : List ℕ) (from : ℕ) → from < length chunk → from + line_length chunk from ≤ length chunk
unfolding line_length
line_le chunk from h = omega (arith, through_le (drop from chunk) 10, length-drop from chunk)

pub line_some : (chunk : List ℕ) (from : ℕ) → from < length chunk → 0 < line_length chunk from
unfolding line_length
line_some chunk from h = through_some (drop from chunk) 10 (rw (length-drop from chunk) (omega arith))

pub line_put : (chunk : List ℕ) (from : ℕ) → from < length chunk → fitted (line_length chunk from) (take (length chunk - from) (drop from chunk)) ≡ line_bytes chunk from
unfolding line_bytes
line_put chunk from h =
    ap (fitted (line_length chunk from)) (take_rest from chunk)
    ∙ fitted_take (line_length chunk from) (drop from chunk) (rw (length-drop from chunk) (omega (arith, line_le chunk from h)))

-- from the end of a chunk on there is nothing
pub line_none : (chunk : List ℕ) (from : ℕ) → length chunk ≤ from → line_bytes chunk from ≡ []
unfolding line_bytes line_length through
line_none chunk from h = rw (drop_of_length-le chunk h)

-- collecting goes on in the chunk, and keeps no more than there is room for
pub collect_next : (chunk : List ℕ) (from have : ℕ) → from < length chunk → from < (collect_of chunk from have).next
unfolding collect_of
collect_next chunk from have h = rw (lt-leb (length chunk) from h) (omega (arith, line_some chunk from h))

pub collect_have : (chunk : List ℕ) (from have : ℕ) → (collect_of chunk from have).have ≤ 16640
unfolding collect_of
collect_have chunk from have =
    by_test (λ (c : Collected). c.have ≤ 16640) (leb (length chunk) from) (omega arith) (omega arith)
