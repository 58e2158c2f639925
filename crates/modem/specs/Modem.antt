-- The modem's end of the handshake (document 01, "The handshake").
-- In this order: the end made, opened and closed; answers; each kind of command; any command; any message.
-- One value gives the answer, the next end and the output.
use Rattle.std.specs.Prelude.{ℕ, Bool, true, false, not, cond, ◌&&◌, List, [], ◌∷◌, eqb, ltb, Ok, Err, Result}
use Rattle.protocol.specs.Refusal.{wrong_version, unknown, outside_table}
use Rattle.protocol.specs.Verdict.{Rule, rule, judge, Writing, Verdict, Written}
use Rattle.protocol.specs.MessageType.{COMMAND, QUERY}
use Rattle.protocol.specs.Status.{no_device_support}
use Rattle.protocol.specs.Service.{kind_of, Carried}
use Rattle.protocol.specs.declared.Version.{Version}
use Rattle.protocol.specs.declared.Version.TheVariants.{V1, V2}
use Rattle.protocol.specs.declared.service.ServiceId.{ServiceId}
use Rattle.version_info.specs.VersionInfo.{is_extension, read_of, write_of, VersionInfoRead}
use Rattle.message.specs.declared.MessageHeader.{MessageHeader}
use Rattle.handshake.specs.Versions.{number_of, version_of, info_of, larger, lower}
use Rattle.handshake.specs.Commands.{role_of, version_listed}
use Rattle.modem.specs.declared.ModemStage.{ModemStage}
use Rattle.modem.specs.declared.ModemStage.TheVariants.{Start, Listed, Settled}
use Rattle.modem.specs.declared.Modem.{Modem}
use Rattle.modem.specs.declared.ModemAnswer.{ModemAnswer}
use Rattle.modem.specs.declared.ModemAnswer.TheVariants as answer
use Rattle.modem.specs.declared.ModemStep.{ModemStep}
use Rattle.handshake.specs.declared.Role.{Role}
use Rattle.handshake.specs.declared.Role.TheVariants as role
use Rattle.services_query.specs.ServicesQuery.{ListedAnswer}
use Rattle.protocol.specs.declared.Refusal.{Refusal}

abbrev pub ModemMade : Type 0
ModemMade = Result Modem Refusal

-- ---- made, opened, closed

abbrev pub end : Version → Version → Bool → ModemStage → Modem
end native advertised listed stage = record { native = native; advertised = advertised; lists_version = listed; stage = stage }

abbrev pub at : Modem → ModemStage → Modem
at m stage = end m.native m.advertised m.lists_version stage

-- "extension not 0100h or 0200h, or advertised above native": 12 at 0
unfoldable pub made_rules : ℕ → ℕ → List Rule
made_rules native advertised =
    rule (not (is_extension native)) wrong_version 0
    ∷ rule (not (is_extension advertised)) wrong_version 0
    ∷ rule (ltb native advertised) wrong_version 0
    ∷ []

-- by what its own list of services says of VERSION
abbrev pub listed_by : ListedAnswer → Version → Version → ModemMade
listed_by (Ok listed) native advertised = Ok (end native advertised listed Start)
listed_by (Err r) native advertised = Err r

abbrev pub made_by : Verdict → ℕ → ℕ → List ℕ → ModemMade
made_by (Ok _) native advertised s = listed_by (version_listed s) (version_of native) (version_of advertised)
made_by (Err r) native advertised s = Err r

-- from the numbers of its versions and the list s that it serves: 12, then the list's own refusal
unfoldable pub made_of : ℕ → ℕ → List ℕ → ModemMade
made_of native advertised s = made_by (judge (made_rules native advertised)) native advertised s

-- "OPEN or CLOSE puts either end's handshake back to its start"
abbrev pub start_of : Modem → Modem
start_of m = at m Start

-- the number of the version that it is settled at, 0 where it isn't
abbrev pub settled_number : ModemStage → ℕ
settled_number Start = 0
settled_number Listed = 0
settled_number (Settled v) = number_of v

-- ---- answers

abbrev pub step : Modem → (Result ModemAnswer Refusal) → ModemStep
step m a = record { modem = m; answer = a }

-- "status 9 without any change"
abbrev pub failed : Modem → ModemStep
failed m = step m (Ok (answer.Failed no_device_support))

-- what is to be served; a command of no known service or CID is told apart, with the place of that
abbrev pub served_as : Carried → Result ModemAnswer Refusal
served_as (Ok k) = Ok (answer.Serve k)
served_as (Err r) = Ok (answer.Unknown r.place)

abbrev pub served : Modem → Carried → ModemStep
served m c = step m (served_as c)

pub record Commanding : Type 0 where
  pub step : ModemStep
  pub output : List ℕ

abbrev pub plain : ModemStep → List ℕ → Commanding
plain s out = record { step = s; output = out }

-- ---- DEVICE_SERVICES is served whenever it comes

abbrev pub listed_stage : ModemStage → ModemStage
listed_stage Start = Listed
listed_stage Listed = Listed
listed_stage (Settled v) = Settled v

unfoldable pub services_of : Modem → Carried → ModemStep
services_of m c = served (at m (listed_stage m.stage)) c

-- ---- VERSION

-- "the modem answers the larger of its advertised version and the lower of the two natives"
abbrev pub answer_of : Modem → Version → Version
answer_of m native = larger m.advertised (lower native m.native)

-- it settles at its status 0 answer; too small an output changes nothing
abbrev pub gave_by : Written → Modem → Version → ModemStep
gave_by (Ok n) m v = step (at m (Settled v)) (Ok (answer.Version n))
gave_by (Err r) m v = step m (Err r)

unfoldable pub gave : Writing → Modem → Version → Commanding
gave w m v = record { step = gave_by w.answer m v; output = w.output }

unfoldable pub give_of : Modem → Version → List ℕ → Commanding
give_of m v out = gave (write_of (info_of v) out) m v

unfoldable pub answer_by : Modem → VersionInfoRead → List ℕ → Commanding
answer_by m (Ok i) out = give_of m (answer_of m (version_of i.bcd_mbim_extended_version)) out
answer_by m (Err r) out = plain (failed m) out

abbrev pub is_listed : ModemStage → Bool
is_listed Start = false
is_listed Listed = true
is_listed (Settled v) = false

-- status 9 meets "a VERSION not listed, sent as a set, with a refused payload, or after settling", and one before the list
unfoldable pub can_answer : Modem → ℕ → Bool
can_answer m type = is_listed m.stage && (m.lists_version && eqb type QUERY)

unfoldable pub version_of_command : Modem → ℕ → List ℕ → List ℕ → Commanding
version_of_command m type s out = cond (can_answer m type) (answer_by m (read_of s) out) (plain (failed m) out)

-- ---- any other command

-- "a modem that advertised 2.00 and gets another first command answers status 9 and keeps waiting"; "advertised 1.00" it settles
abbrev pub first_other : Version → Modem → Carried → ModemStep
first_other V1 m c = served (at m (Settled V1)) c
first_other V2 m c = failed m

unfoldable pub other_at : ModemStage → Modem → Carried → ModemStep
other_at Start m c = failed m
other_at Listed m c = first_other m.advertised m c
other_at (Settled v) m c = served m c

-- ---- any command

unfoldable pub command_by : Role → Modem → Carried → ℕ → List ℕ → List ℕ → Commanding
command_by role.Services m c type s out = plain (services_of m c) out
command_by role.Version m c type s out = version_of_command m type s out
command_by role.Other m c type s out = plain (other_at m.stage m c) out

unfoldable pub command_of : Modem → ServiceId → ℕ → ℕ → List ℕ → List ℕ → Commanding
command_of m service cid type s out = command_by (role_of (kind_of service cid)) m (kind_of service cid) type s out

-- ---- any message

-- a message that is no COMMAND, 3 at 0; a COMMAND of transaction 0, 9 at 8: "0 is for indications"
abbrev pub command_rules : MessageHeader → List Rule
command_rules h =
    rule (not (eqb h.message_type COMMAND)) unknown 0
    ∷ rule (eqb h.transaction 0) outside_table 8
    ∷ []

-- a refused one changes nothing
unfoldable pub receive_by : Verdict → Modem → MessageHeader → List ℕ → List ℕ → Commanding
receive_by (Ok _) m h s out = command_of m h.service h.cid h.word s out
receive_by (Err r) m h s out = plain (step m (Err r)) out

unfoldable pub receive_of : Modem → MessageHeader → List ℕ → List ℕ → Commanding
receive_of m h s out = receive_by (judge (command_rules h)) m h s out
