-- The REGISTER_STATE payload's record and answer as plain members.
-- In this order: what the form has; a record shown; an answer; the record that a writer is given.
use Rattle.std.specs.Prelude.{ℕ}
use Rattle.protocol.specs.declared.Version.{Version}
use Rattle.protocol.specs.declared.Version.TheVariants.{V1, V2}
use Rattle.pairs.specs.Pair.{range}
use Rattle.handshake.specs.Versions.{number_of}
use Rattle.registration.specs.Registration.{version_of, texts}
use Rattle.registration.specs.declared.RegistrationForm.{RegistrationForm}
use Rattle.registration.specs.declared.RegistrationForm.TheVariants.{V1 as Form1, V2 as Form2}
use Rattle.registration.specs.declared.Registration.{Registration}
use Rattle.registration.specs.declared.RegistrationTexts.{RegistrationTexts}
use Rattle.c_structs.specs.declared.registrations.RegistrationInfo.{RegistrationInfo}
use Rattle.c_structs.specs.declared.registrations.RegistrationAnswer.{RegistrationAnswer}
use Rattle.c_structs.specs.Answers.{no_refusal, refusal_info}
use Rattle.std.specs.Prelude.{Ok, Err}
use Rattle.registration.specs.Registration.{RegistrationRead}

-- ---- what the form has: 0 at 1.00

abbrev pub preferred_in : RegistrationForm → ℕ
preferred_in Form1 = 0
preferred_in (Form2 class) = class

-- ---- a record shown

unfoldable pub info_of : Registration → RegistrationInfo
info_of p = record {
  version = number_of (version_of p);
  nw_error = p.nw_error;
  register_state = p.register_state;
  register_mode = p.register_mode;
  available_data_class = p.available_data_class;
  cellular_class = p.cellular_class;
  registration_flag = p.registration_flag;
  preferred_data_class = preferred_in p.form;
}

abbrev pub no_info : RegistrationInfo
no_info = record {
  version = 0;
  nw_error = 0;
  register_state = 0;
  register_mode = 0;
  available_data_class = 0;
  cellular_class = 0;
  registration_flag = 0;
  preferred_data_class = 0;
}

abbrev pub no_texts : RegistrationTexts
no_texts = texts (range 0 0) (range 0 0) (range 0 0)

-- ---- an answer: a refused one has all other members 0

unfoldable pub answer_of : RegistrationRead → RegistrationAnswer
answer_of (Ok (p, t)) = record { refusal = no_refusal; info = info_of p; texts = t }
answer_of (Err r) = record { refusal = refusal_info r; info = no_info; texts = no_texts }

-- ---- the record that a writer is given, at a version

abbrev pub form_of : Version → ℕ → RegistrationForm
form_of V1 class = Form1
form_of V2 class = Form2 class

unfoldable pub record_of : Version → RegistrationInfo → Registration
record_of v i = record {
  nw_error = i.nw_error;
  register_state = i.register_state;
  register_mode = i.register_mode;
  available_data_class = i.available_data_class;
  cellular_class = i.cellular_class;
  registration_flag = i.registration_flag;
  form = form_of v i.preferred_data_class;
}
