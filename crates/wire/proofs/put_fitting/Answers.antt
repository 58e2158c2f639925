-- The text fills the run, or zeros stand behind it.
use mathlib.Core.Path.{refl, sym, ap, ◌∙◌}
use mathlib.Core.List.{List, [], ◌++◌}
use Prim.Native.Nat.{ℕ, ◌+◌, ◌-◌}
use native.Mathlib.Omega.{arith}
use lib.ListN.{length, take, length-take, length-drop}
use lib.Seq.{sets, length-take-le}
use Rattle.wire.specs.Output.{fitted}
use Rattle.wire.proofs.Laws.{part_copied, sets_then, fitted_take, fitted_all, fitted_rest}
use Rattle.wire.proofs.put_fitting.Goals as goal

pub slice_bounds-copy-end-then-n-t : goal.slice_bounds-copy-end-then-n-t
slice_bounds-copy-end-then-n-t c = sym (length-take-le c.args.n c.args.t.now (omega arith))

pub copy-requires : goal.copy-requires
copy-requires c = simp (length-take, length-drop) (omega arith)

pub returns-then-n-t : goal.returns-then-n-t
returns-then-n-t c = let a = c.args in part_copied (take a.n a.t.now) a.out.now a.at (a.at + a.n - a.at) (length-take-le a.n a.t.now (omega arith) ∙ omega arith) (omega arith) c.copy.ensures ∙ ap (sets a.out.now a.at) (sym (fitted_take a.n a.t.now (omega arith)))

pub returns : goal.returns
returns c = let a = c.args in let t = a.t.now in let filled = part_copied t a.out.now a.at (a.at + length t - a.at) (omega arith) (omega arith) c.copy-2.ensures in sets_then t (fitted (a.n - length t) []) a.at (length t) a.out.now refl filled c.put_zeros.ensures ∙ ap (sets a.out.now a.at) (ap (λ (b : List ℕ). b ++ fitted (a.n - length t) []) (sym (fitted_all t)) ∙ fitted_rest a.n t (omega arith))
