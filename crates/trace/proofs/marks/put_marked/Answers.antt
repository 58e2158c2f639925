use mathlib.Core.Path.{◌≡◌, refl, sym, ap, ◌∙◌}
use mathlib.Core.List.{List, [], ◌++◌}
use Prim.Native.Nat.{ℕ, ◌+◌, ◌-◌, ◌≤◌, ◌<◌}
use native.Mathlib.Omega.{arith}
use lib.ListN.{length, take, drop, length-drop}
use lib.Seq.{length-take-le}
use Rattle.wire.proofs.Laws.{take_rest}
use Rattle.ascii.specs.Ascii.{through}
use Rattle.ascii.proofs.Laws.{through_le, through_some}
use Rattle.rows.proofs.Laws.{put_start, put_then, put_kept}
use Rattle.trace.proofs.Laws.{marked_next, marked_end}
use Rattle.std.proofs.Common.{rules}
use Rattle.trace.proofs.marks.put_marked.Goals as goal

seen : (t : List ℕ) (i : ℕ) {n : ℕ} → n ≡ through (take (length t - i) (drop i t)) 10 → n ≡ through (drop i t) 10
seen t i e = e ∙ ap (λ (x : List ℕ). through x 10) (take_rest i t)

bounds : (t : List ℕ) (i : ℕ) → i < length t → (i + through (drop i t) 10 ≤ length t) × (0 < through (drop i t) 10)
bounds t i l = (omega (arith, through_le (drop i t) 10, length-drop i t), through_some (drop i t) 10 (rw (length-drop i t) (omega arith)))

pub loop-i-init : goal.loop-i-init
loop-i-init c = (search rules, ([], put_start c.args.out.now c.args.at, refl))

pub slice_bounds-put_text-end : goal.slice_bounds-put_text-end
slice_bounds-put_text-end c =
    let t = c.args.text.now in
    let i = c.loop-i.i in
    sym (length-take-le c.length_through-n.result _ (omega (arith, c.length_through-n.ensures, through_le (take (length t - i) (drop i t)) 10)))

pub overflow_add-i : goal.overflow_add-i
overflow_add-i c =
    let t = c.args.text.now in
    let i = c.loop-i.i in
    let n = seen t i c.length_through-n.ensures in
    record { fits = omega (arith, n, bounds t i c.loop-i-test.true, c.well_formed) }

pub loop-i-smaller : goal.loop-i-smaller
loop-i-smaller c =
    let t = c.args.text.now in
    let i = c.loop-i.i in
    let n = seen t i c.length_through-n.ensures in
    let b = bounds t i c.loop-i-test.true in
    omega (arith, n, b.0, b.1)

pub loop-i-preserved : goal.loop-i-preserved
loop-i-preserved c =
    let t = c.args.text.now in
    let i = c.loop-i.i in
    let n = seen t i c.length_through-n.ensures in
    let m = c.args.mark.now in
    let done = c.loop-i.invariant.1.0 in
    let b = bounds t i c.loop-i-test.true in
    let k = c.length_through-n.result in
    let p = put_then c.loop-i.invariant.1.1 (put_then c.put_text-place.ensures c.put_text-next.ensures) in
    (omega (arith, n, b.0), (done ++ (m ++ take k (drop i t)), rw (take_rest i t) at p, marked_next m t done i k c.loop-i-test.true n c.loop-i.invariant.1.2))

pub shape_of-out : goal.shape_of-out
shape_of-out c = put_kept c.loop-i.invariant.1.1

pub returns : goal.returns
returns c = rw (← marked_end c.args.mark.now c.args.text.now c.loop-i.invariant.1.0 c.loop-i.i c.loop-i-test.false c.loop-i.invariant.1.2) c.loop-i.invariant.1.1
