-- The second text stands behind the first.
use mathlib.Core.Path.{refl}
use mathlib.Core.List.{[], ◌∷◌}
use Prim.Native.Nat.{ℕ}
use lib.ListN.{length}
use Rattle.texts.specs.Texts.{start_of}
use Rattle.texts.proofs.Rows.{text_stored}
use Rattle.pin.specs.SetPin.{fixed_part, two}
use Rattle.pin.proofs.set_pin.put_texts.Goals as goal

pub returns : goal.returns
returns c =
    let a = c.args in
    let x = a.pin.now in
    let y = a.new_pin.now in
    let at : ℕ → ℕ = start_of fixed_part (two (length x) (length y)) in
    text_stored x (y ∷ []) (at 0) a.out.now c.put_text.ensures (text_stored y [] (at 1) c.put_text.new.out c.put_text-2.ensures refl)
