-- The loop's invariant: what is put, and the rows from i on with their marks, are all of it.
use mathlib.Core.Path.{◌≡◌}
use mathlib.Core.List.{List, ◌++◌}
use Prim.Native.Nat.{ℕ, ◌-◌, ◌≤◌}
use lib.ListN.{length, drop}
use Rattle.rows.specs.Rows.{Put}
use Rattle.trace.specs.Marked.{marked}
use Rattle.trace.proofs.marks.put_marked.Given as goal

abbrev pub invariant-loop-i : goal.invariant-loop-i
invariant-loop-i l =
    (l.i ≤ length l.text) × ((done : List ℕ) × Put l.initial.out l.at done l.out l.next × (done ++ marked l.mark (drop l.i l.text) ≡ marked l.mark l.text))

abbrev pub decreases-loop-i : goal.decreases-loop-i
decreases-loop-i l = length l.text - l.i
