-- Three texts, one after the other.
use mathlib.Core.Path.{refl}
use mathlib.Core.List.{[], ◌∷◌}
use Prim.Native.Nat.{ℕ}
use lib.ListN.{length}
use Rattle.texts.specs.Texts.{start_of}
use Rattle.texts.proofs.Rows.{text_stored}
use Rattle.registration.specs.Registration.{three}
use Rattle.registration_writer.proofs.put_texts.Goals as goal

pub returns : goal.returns
returns c =
    let a = c.args in
    let x = a.provider_id.now in
    let y = a.provider_name.now in
    let z = a.roaming_text.now in
    let at : ℕ → ℕ = start_of a.fixed (three (length x) (length y) (length z)) in
    text_stored x (y ∷ (z ∷ [])) (at 0) a.out.now c.put_text.ensures
    (text_stored y (z ∷ []) (at 1) c.put_text.new.out c.put_text-2.ensures (text_stored z [] (at 2) c.put_text-2.new.out c.put_text-3.ensures refl))
