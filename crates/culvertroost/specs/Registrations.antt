-- REGISTER_STATE for C: the number of the version is judged, then that of the reader's choice, then the payload is read or the record
-- written at that version.
use Rattle.std.specs.Prelude.{ℕ, List}
use Rattle.protocol.specs.Verdict.{Writing}
use Rattle.registration.specs.Registration.{read_with, read_of, write_of}
use Rattle.c_structs.specs.Answers.{at_version, unwritten}
use Rattle.c_structs.specs.Choices.{by_reading}
use Rattle.c_structs.specs.Registrations.{record_of}
use Rattle.c_structs.specs.declared.registrations.RegistrationInfo.{RegistrationInfo}
use Rattle.std.specs.Prelude.{Err}
use Rattle.registration.specs.Registration.{RegistrationRead}

abbrev pub read_at : ℕ → List ℕ → RegistrationRead
read_at n s = at_version n Err (λ v. read_of v s)

abbrev pub read_chosen : ℕ → ℕ → List ℕ → RegistrationRead
read_chosen n k s = by_reading n k Err (λ v z. read_with v z s)

-- with the texts x, y and z
abbrev pub write_at : RegistrationInfo → List ℕ → List ℕ → List ℕ → List ℕ → Writing
write_at i x y z s = at_version i.version (unwritten s) (λ v. write_of (record_of v i) x y z s)
