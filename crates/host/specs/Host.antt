-- The host's end of the handshake (document 01, "The handshake").
-- In this order: the end made, opened and closed; what it asks; a reply to DEVICE_SERVICES; a reply to VERSION; any message.
-- One value gives the answer and the next end, or the answer and the output.
use Rattle.std.specs.Prelude.{ℕ, Bool, not, cond, ◌&&◌, List, [], ◌∷◌, eqb, Ok, Err, Result, Option, Some, None}
use Rattle.protocol.specs.Refusal.{above_host, version_not_listed}
use Rattle.protocol.specs.Verdict.{Rule, rule, judge, Writing, Verdict, Written}
use Rattle.protocol.specs.MessageType.{COMMAND_DONE}
use Rattle.protocol.specs.Service.{id_at, extensions, kind_of}
use Rattle.protocol.specs.declared.Reason.{Reason}
use Rattle.protocol.specs.declared.Refusal.{Refusal}
use Rattle.protocol.specs.declared.Version.{Version}
use Rattle.protocol.specs.declared.Version.TheVariants.{V1}
use Rattle.version_info.specs.VersionInfo.{read_of, write_of, VersionInfoRead}
use Rattle.message.specs.declared.MessageHeader.{MessageHeader}
use Rattle.handshake.specs.Versions.{number_verdict, version_of, info_of, larger, above, is_later}
use Rattle.services_ask.specs.ServicesAsk.{without_position, position_of}
use Rattle.handshake.specs.Commands.{version_cid, role_of}
use Rattle.handshake.specs.declared.Role.{Role}
use Rattle.handshake.specs.declared.Role.TheVariants as role
use Rattle.host.specs.declared.HostStage.{HostStage}
use Rattle.host.specs.declared.HostStage.TheVariants.{Closed, Open, AwaitsVersion, Settled}
use Rattle.host.specs.declared.Host.{Host}
use Rattle.host.specs.declared.HostAnswer.{HostAnswer}
use Rattle.host.specs.declared.HostAnswer.TheVariants as answer
use Rattle.host.specs.declared.HostStep.{HostStep}
use Rattle.host.specs.declared.Ask.{Ask}
use Rattle.host.specs.declared.Ask.TheVariants as ask
use Rattle.services_query.specs.ServicesQuery.{ListedAnswer}

abbrev pub end : Version → HostStage → Host
end native stage = record { native = native; stage = stage }

abbrev pub at : Host → HostStage → Host
at h stage = end h.native stage

abbrev pub step : Host → (Result HostAnswer Refusal) → HostStep
step h a = record { host = h; answer = a }

abbrev pub unchanged : Host → HostStep
unchanged h = step h (Ok answer.Unchanged)

-- a refusal leaves the end as it was
abbrev pub refused : Host → Refusal → HostStep
refused h r = step h (Err r)

-- the step of a reply that is taken; else the refusal
abbrev pub unless_refused : Host → Result HostStep Refusal → HostStep
unless_refused h (Ok s) = s
unless_refused h (Err r) = refused h r

abbrev pub settled_at : Host → Version → HostStep
settled_at h v = step (at h (Settled v)) (Ok (answer.Settled v))

abbrev pub HostMade : Type 0
HostMade = Result Host Refusal

-- ---- made, opened, closed

abbrev pub made_by : Verdict → Version → HostMade
made_by (Ok _) v = Ok (end v Closed)
made_by (Err r) v = Err r

-- 12, when the end is made
unfoldable pub made_of : ℕ → HostMade
made_of native = made_by (number_verdict native) (version_of native)

abbrev pub opened_by : Verdict → Host → Version → HostStep
opened_by (Ok _) h v = step (at h (Open v)) (Ok answer.Opened)
opened_by (Err r) h v = refused h r

-- "OPEN or CLOSE puts either end's handshake back to its start"; the advertised version is a given number
unfoldable pub opened_of : Host → ℕ → HostStep
opened_of h advertised = opened_by (number_verdict advertised) h (version_of advertised)

abbrev pub closed_of : Host → Host
closed_of h = at h Closed

-- ---- what it asks

pub record Asking : Type 0 where
  pub answer : Result Ask Refusal
  pub output : List ℕ

abbrev pub plain : (Result Ask Refusal) → List ℕ → Asking
plain a out = record { answer = a; output = out }

abbrev pub query_by : Written → Result Ask Refusal
query_by (Ok n) = Ok (ask.Version n)
query_by (Err r) = Err r

abbrev pub query : Writing → Asking
query w = record { answer = query_by w.answer; output = w.output }

-- "the host reads DEVICE_SERVICES first"; "VERSION, a query that carries its native version, is its first command"; a settled host is free
abbrev pub ask_at : HostStage → Version → List ℕ → Asking
ask_at Closed native out = plain (Ok ask.Nothing) out
ask_at (Open a) native out = plain (Ok ask.Services) out
ask_at (AwaitsVersion a) native out = query (write_of (info_of native) out)
ask_at (Settled v) native out = plain (Ok (ask.Free v)) out

unfoldable pub ask_of : Host → List ℕ → Asking
ask_of h out = ask_at h.stage h.native out

-- ---- a reply to DEVICE_SERVICES

-- "advertised above the host's native: 13; if not, advertised 2.00 with CID 15 not listed: 14"
unfoldable pub list_rules : Version → Version → Bool → List Rule
list_rules native advertised listed =
    rule (above advertised native) above_host 0
    ∷ rule (is_later advertised && not listed) version_not_listed 0
    ∷ []

-- "if the host is 2.00 and CID 15 is listed, VERSION .. is its first command .. Otherwise both run 1.00"
abbrev pub accepted_list : Host → Version → Bool → HostStep
accepted_list h advertised listed =
    cond (is_later h.native && listed)
    (step (at h (AwaitsVersion advertised)) (Ok answer.AsksVersion))
    (settled_at h V1)

abbrev pub judged_list : Verdict → Host → Version → Bool → HostStep
judged_list (Ok _) h advertised listed = accepted_list h advertised listed
judged_list (Err r) h advertised listed = refused h r

-- only a host that waits for its list goes by it
unfoldable pub list_at : HostStage → Host → Bool → HostStep
list_at Closed h listed = unchanged h
list_at (Open a) h listed = judged_list (judge (list_rules h.native a listed)) h a listed
list_at (AwaitsVersion a) h listed = unchanged h
list_at (Settled v) h listed = unchanged h

-- "a refused reply payload gives that refusal and changes nothing"
unfoldable pub list_reply : Host → ListedAnswer → HostStep
list_reply h (Ok listed) = list_at h.stage h listed
list_reply h (Err r) = refused h r

-- 02, order 7: whether the question says that a list received holds VERSION; "the handshake uses the question from now on"
abbrev pub version_asked : List ℕ → ListedAnswer
version_asked s = without_position (position_of s (id_at extensions 0) version_cid)

-- a failed reply shows no list
unfoldable pub services_reply_of : Host → ℕ → List ℕ → HostStep
services_reply_of h status s = cond (eqb status 0) (list_reply h (version_asked s)) (unchanged h)

-- ---- a reply to VERSION

-- "the host takes the larger of advertised and answered"
unfoldable pub answered_at : HostStage → Host → Version → HostStep
answered_at Closed h answered = unchanged h
answered_at (Open a) h answered = unchanged h
answered_at (AwaitsVersion a) h answered = settled_at h (larger a answered)
answered_at (Settled v) h answered = unchanged h

-- "a failed VERSION: the advertised"
unfoldable pub failed_at : HostStage → Host → HostStep
failed_at Closed h = unchanged h
failed_at (Open a) h = unchanged h
failed_at (AwaitsVersion a) h = settled_at h a
failed_at (Settled v) h = unchanged h

unfoldable pub answered_by : Host → VersionInfoRead → HostStep
answered_by h (Ok i) = answered_at h.stage h (version_of i.bcd_mbim_extended_version)
answered_by h (Err r) = refused h r

unfoldable pub version_reply_of : Host → ℕ → List ℕ → HostStep
version_reply_of h status s = cond (eqb status 0) (answered_by h (read_of s)) (failed_at h.stage h)

-- ---- any message

-- only a COMMAND_DONE is a reply
unfoldable pub reply_role : MessageHeader → Role
reply_role m = cond (eqb m.message_type COMMAND_DONE) (role_of (kind_of m.service m.cid)) role.Other

-- with its status and information; what is no reply to DEVICE_SERVICES or VERSION changes nothing
unfoldable pub receive_by : Role → Host → ℕ → List ℕ → HostStep
receive_by role.Services h status s = services_reply_of h status s
receive_by role.Version h status s = version_reply_of h status s
receive_by role.Other h status s = unchanged h

unfoldable pub receive_of : Host → MessageHeader → List ℕ → HostStep
receive_of h m s = receive_by (reply_role m) h m.word s

-- ---- when it refuses

-- the reason of a refusal, none where nothing is refused
abbrev pub refused_with : Result HostAnswer Refusal → Option Reason
refused_with (Ok a) = None
refused_with (Err r) = Some r.reason
