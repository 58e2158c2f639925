-- The listing of a REGISTER_STATE payload: texts in hexadecimal, an absent one an empty value.
use Rattle.std.specs.Prelude.{ℕ, List, [], ◌++◌}
use Rattle.ascii.specs.Ascii.{ascii}
use Rattle.pairs.specs.Claims.{shown_in}
use Rattle.registration.specs.declared.RegistrationForm.{RegistrationForm}
use Rattle.registration.specs.declared.RegistrationForm.TheVariants.{V1 as Form1, V2 as Form2}
use Rattle.registration.specs.declared.Registration.{Registration}
use Rattle.registration.specs.declared.RegistrationTexts.{RegistrationTexts}
use Rattle.rows.specs.Rows.{header, row, text_row, refused_line}
use Rattle.payload_rows.specs.Ranges.{Listable}
use Rattle.std.specs.Prelude.{Ok, Err}
use Rattle.registration.specs.Registration.{RegistrationRead}

unfoldable pub class_rows : Registration → List ℕ
class_rows p =
    row (ascii "NwError") p.nw_error
    ++ (row (ascii "RegisterState") p.register_state
    ++ (row (ascii "RegisterMode") p.register_mode
    ++ (row (ascii "AvailableDataClass") p.available_data_class ++ row (ascii "CellularClass") p.cellular_class)))

-- the texts are those of the payload s
unfoldable pub text_rows : List ℕ → RegistrationTexts → List ℕ
text_rows s t =
    text_row (ascii "ProviderId") (shown_in s t.provider_id)
    ++ (text_row (ascii "ProviderName") (shown_in s t.provider_name) ++ text_row (ascii "RoamingText") (shown_in s t.roaming_text))

-- the preferred class, at 2.00
unfoldable pub preferred_rows : RegistrationForm → List ℕ
preferred_rows Form1 = []
preferred_rows (Form2 class) = row (ascii "PreferredDataClass") class

unfoldable pub flag_rows : Registration → List ℕ
flag_rows p = row (ascii "RegistrationFlag") p.registration_flag ++ preferred_rows p.form

unfoldable pub registration_text : List ℕ → RegistrationRead → List ℕ
registration_text s (Err r) = refused_line r
registration_text s (Ok (p, t)) = header ++ (class_rows p ++ (text_rows s t ++ flag_rows p))

-- those of an accepted payload keep to it (proofs/Registrations)
pub record ListableTexts (t : RegistrationTexts) (s : List ℕ) : Type 0 where
  pub id : Listable t.provider_id s
  pub name : Listable t.provider_name s
  pub roaming : Listable t.roaming_text s
