-- What every function of the C library shares: the number 0 where there is no refusal, a version's number judged first, a writer's answer.
use Rattle.std.specs.Prelude.{ℕ, List, [], Ok, Err}
use Rattle.protocol.specs.Refusal.{number_of}
use Rattle.protocol.specs.Verdict.{Verdict, Written, Writing, given}
use Rattle.protocol.specs.declared.Refusal.{Refusal}
use Rattle.protocol.specs.declared.Version.{Version}
use Rattle.handshake.specs.Versions.{Numbered, numbered}
use Rattle.c_structs.specs.declared.RefusalInfo.{RefusalInfo}
use Rattle.c_structs.specs.declared.WrittenAnswer.{WrittenAnswer}

-- ---- no refusal

abbrev pub no_refusal : RefusalInfo
no_refusal = record { number = 0; place = 0 }

-- ---- a refusal: the number of its reason, and its place

abbrev pub refusal_info : Refusal → RefusalInfo
refusal_info r = record { number = number_of r.reason; place = r.place }

abbrev pub refusal_of : Verdict → RefusalInfo
refusal_of (Ok _) = no_refusal
refusal_of (Err r) = refusal_info r

-- ---- a version's number: "extension not 0100h or 0200h", 12 at 0

abbrev pub go_on : {A : Type 0} → Numbered → (Refusal → A) → (Version → A) → A
go_on (Ok v) stop go = go v
go_on (Err r) stop go = stop r

-- judge the number n, then go on at its version
abbrev pub at_version : {A : Type 0} → ℕ → (Refusal → A) → (Version → A) → A
at_version n stop go = go_on (numbered n) stop go

-- ---- what a writer answers

-- refused before it began: the output s is as it was
abbrev pub unwritten : List ℕ → Refusal → Writing
unwritten s r = given (Err r) [] s

unfoldable pub written_answer : Written → WrittenAnswer
written_answer (Ok n) = record { refusal = no_refusal; length = n }
written_answer (Err r) = record { refusal = refusal_info r; length = 0 }
