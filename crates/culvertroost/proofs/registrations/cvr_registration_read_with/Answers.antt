-- The numbers judged, then the payload read at the version.
use mathlib.Core.Path.{sym, ap, ◌∙◌}
use Rattle.std.specs.Prelude.{Err}
use Rattle.registration.specs.Registration.{read_with}
use Rattle.c_structs.specs.Choices.{Reading, read_on}
use Rattle.c_structs.specs.Registrations.{answer_of}
use Rattle.culvertroost.proofs.Chosen.{version_told}
use Rattle.culvertroost.proofs.registrations.cvr_registration_read_with.Goals as goal

pub returns-in-Ok : goal.returns-in-Ok
returns-in-Ok c =
    let a = c.args in
    let s = a.payload.now in
    let z = c.in-Ok.choice in
    let told = sym c.reading_at.ensures ∙ c.in-Ok.is in
    c.answer_by.ensures
    ∙ ap answer_of (version_told a.version a.zero_size Err (λ v. read_with v z s) c.in-Ok.field-0-0 z told ∙ sym (ap (λ (r : Reading). read_on r Err (λ v u. read_with v u s)) told))
