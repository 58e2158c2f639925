-- What comes next goes behind the texts passed.
use mathlib.Core.Path.{◌≡◌}
use Prim.Native.Nat.{◌≤◌, ◌*◌, ◌+◌}
use Rattle.texts.specs.Texts.{start_of}
use Rattle.texts.proofs.start_of.Given as goal

abbrev pub invariant-loop-i : goal.invariant-loop-i
invariant-loop-i l = (l.base ≡ start_of l.fixed l.sizes l.i) × (l.base ≤ 65536 + 65536 * l.i)
