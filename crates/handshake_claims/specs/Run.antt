-- The run of demand 3 (document 01, "The handshake"): "from ends just opened and with room for each output, is that command and its reply,
-- then, unless the host refuses, its first command of another known CID (VERSION exactly where the rule below says so) and the reply".
-- In this order: messages; what is sent; how messages go; one command and its reply; the run; what it comes to.
-- Each call is given its end as the one before left it.
use Rattle.std.specs.Prelude.{ℕ, ◌≤◌, ◌<◌, ◌≡◌, Bool, false, not, cond, ◌&&◌, List, [], length, take, Ok, Err, Result}
use Rattle.protocol.specs.Refusal.{refusal, above_host, version_not_listed}
use Rattle.protocol.specs.MessageType.{COMMAND, COMMAND_DONE, QUERY}
use Rattle.protocol.specs.Service.{id_at, basic_connect, extensions, kind_of}
use Rattle.protocol.specs.declared.Version.{Version}
use Rattle.protocol.specs.declared.Version.TheVariants.{V1}
use Rattle.protocol.specs.declared.service.ServiceId.{ServiceId}
use Rattle.version_info.specs.VersionInfo.{bytes_of}
use Rattle.message.specs.declared.MessageHeader.{MessageHeader}
use Rattle.handshake.specs.Versions.{info_of, larger, lower, above, is_later}
use Rattle.handshake.specs.Commands.{services_cid, version_cid, role_of, version_listed}
use Rattle.host.specs.Host.{end, unchanged, Asking, ask_of, receive_of}
use Rattle.protocol.specs.Status.{no_device_support}
use Rattle.modem.specs.Modem.{Commanding, receive_of as modem_receive_of}
use Rattle.handshake.specs.declared.Role.TheVariants as role
use Rattle.host.specs.declared.HostStage.TheVariants as stage
use Rattle.host.specs.declared.Host.{Host}
use Rattle.host.specs.declared.HostAnswer.{HostAnswer}
use Rattle.host.specs.declared.HostStep.{HostStep}
use Rattle.host.specs.declared.Ask.{Ask}
use Rattle.host.specs.declared.Ask.TheVariants as ask
use Rattle.modem.specs.declared.ModemStage.TheVariants as modem_stage
use Rattle.modem.specs.declared.Modem.{Modem}
use Rattle.modem.specs.declared.ModemAnswer.{ModemAnswer}
use Rattle.modem.specs.declared.ModemAnswer.TheVariants as modem_answer
use Rattle.services_query.specs.ServicesQuery.{ListedAnswer}
use Rattle.protocol.specs.declared.Refusal.{Refusal}
use Rattle.protocol.specs.declared.Reason.{Reason}

-- ---- messages: a header and its information

pub record Message : Type 0 where
  pub header : MessageHeader
  pub information : List ℕ

abbrev pub headed : ℕ → ℕ → ServiceId → ℕ → ℕ → MessageHeader
headed type transaction service cid word = record { message_type = type; transaction = transaction; service = service; cid = cid; word = word }

-- a COMMAND that queries
abbrev pub query : ℕ → ServiceId → ℕ → List ℕ → Message
query transaction service cid s = record { header = headed COMMAND transaction service cid QUERY; information = s }

-- DEVICE_SERVICES, and VERSION with the payload of a version
abbrev pub asks_services : ℕ → Message
asks_services transaction = query transaction (id_at basic_connect 0) services_cid []

abbrev pub asks_version : ℕ → List ℕ → Message
asks_version transaction s = query transaction (id_at extensions 0) version_cid s

-- the COMMAND_DONE of a command
abbrev pub reply_to : MessageHeader → ℕ → List ℕ → Message
reply_to c status s = record { header = headed COMMAND_DONE c.transaction c.service c.cid status; information = s }

-- ---- what is sent

pub data Sent : Type 0 where
  nothing : Sent
  sends : Message → Sent

-- the command that the host asks for, in a transaction, VERSION with the bytes that it wrote; where it is free, the given one
abbrev pub sent_by : (Result Ask Refusal) → List ℕ → ℕ → Message → Sent
sent_by (Ok ask.Nothing) out transaction given = nothing
sent_by (Ok ask.Services) out transaction given = sends (asks_services transaction)
sent_by (Ok (ask.Version n)) out transaction given = sends (asks_version transaction (take n out))
sent_by (Ok (ask.Free v)) out transaction given = sends given
sent_by (Err r) out transaction given = nothing

abbrev pub sent_of : Asking → ℕ → Message → Sent
sent_of a transaction given = sent_by a.answer a.output transaction given

-- what the modem serves here is its list; of other replies the handshake reads no payload. A refused command, for want of room or of a transaction, has no reply
abbrev pub reply_by : (Result ModemAnswer Refusal) → MessageHeader → List ℕ → List ℕ → Sent
reply_by (Ok (modem_answer.Serve k)) c out services = sends (reply_to c 0 services)
reply_by (Ok (modem_answer.Version n)) c out services = sends (reply_to c 0 (take n out))
reply_by (Ok (modem_answer.Unknown place)) c out services = sends (reply_to c no_device_support [])
reply_by (Ok (modem_answer.Failed status)) c out services = sends (reply_to c status [])
reply_by (Err r) c out services = nothing

abbrev pub reply_of : Commanding → MessageHeader → List ℕ → Sent
reply_of d c services = reply_by d.step.answer c d.output services

-- ---- how messages go: what arrives of one that is sent to the modem, and of one that is sent back

pub record Line : Type 0 where
  pub to : Message → Sent
  pub back : Message → Sent

abbrev pub reaches : (Message → Sent) → Sent → Sent
reaches way nothing = nothing
reaches way (sends m) = way m

-- a command and its reply arrive as they were sent
abbrev pub Passes : Line → Message → ℕ → List ℕ → Type 0
Passes l c status s = (l.to c ≡ sends c) × (l.back (reply_to c.header status s) ≡ sends (reply_to c.header status s))

-- ---- one command and its reply

-- both ends, the host's last answer, and the last command
pub record Both : Type 0 where
  pub host : Host
  pub modem : Modem
  pub answer : Result HostAnswer Refusal
  pub sent : Sent

abbrev pub both : HostStep → Modem → Sent → Both
both s m c = record { host = s.host; modem = m; answer = s.answer; sent = c }

unfoldable pub after_reply : Host → Sent → HostStep
after_reply h nothing = unchanged h
after_reply h (sends r) = receive_of h r.header r.information

-- the command c was sent, and d is what the modem did with what arrived of it
unfoldable pub answered : Line → Host → Message → MessageHeader → Commanding → List ℕ → Both
answered l h c arrived d services = both (after_reply h (reaches l.back (reply_of d arrived services))) d.step.modem (sends c)

unfoldable pub taken : Line → Message → Sent → Host → Modem → List ℕ → List ℕ → Both
taken l c nothing h m room services = both (unchanged h) m (sends c)
taken l c (sends a) h m room services = answered l h c a.header (modem_receive_of m a.header a.information room) services

unfoldable pub command_over : Line → Sent → Host → Modem → List ℕ → List ℕ → Both
command_over l nothing h m room services = both (unchanged h) m nothing
command_over l (sends c) h m room services = taken l c (l.to c) h m room services

-- the rooms of a turn: the host's and the modem's lent output
pub record Rooms : Type 0 where
  pub host : List ℕ
  pub modem : List ℕ

-- over a line, in a transaction
unfoldable pub turn : Line → Rooms → ℕ → Message → List ℕ → Host → Modem → Both
turn l w transaction given services h m = command_over l (sent_of (ask_of h w.host) transaction given) h m w.modem services

-- ---- the run

-- unless the host refuses
abbrev pub unless_refused : (Result HostAnswer Refusal) → Both → Both → Both
unless_refused (Ok a) before after = after
unless_refused (Err r) before after = before

abbrev pub and_then : Both → Line → Rooms → ℕ → Message → List ℕ → Both
and_then b l w transaction given services = unless_refused b.answer b (turn l w transaction given services b.host b.modem)

-- the two turns in two transactions, each over a line of its own: a later one may have after_reply more
unfoldable pub run : Line → Line → Rooms → Rooms → ℕ → ℕ → Message → List ℕ → Host → Modem → Both
run l₁ l₂ w₁ w₂ t₁ t₂ given services h m = and_then (turn l₁ w₁ t₁ given services h m) l₂ w₂ t₂ given services

-- ---- what it comes to

pub data Expected : Type 0 where
  refuses : Reason → Expected
  settles : Version → Expected

-- "advertised above the host's native: 13; if not, advertised 2.00 with CID 15 not listed: 14. If the host is 2.00 and CID 15 is listed, .. the larger of
-- its advertised version and the lower of the two natives .. Otherwise both run 1.00"
abbrev pub expected : Version → Version → Version → Bool → Expected
expected host modem advertised listed =
    cond (above advertised host) (refuses above_host)
    (cond (is_later advertised && not listed) (refuses version_not_listed)
    (cond (is_later host && listed) (settles (larger advertised (lower host modem)))
    (settles V1)))

-- "its first command of another known CID (VERSION exactly where the rule below says so)": the last command of a run that settles
abbrev pub first_command : Version → Bool → ℕ → Message → Message
first_command host listed transaction given = cond (is_later host && listed) (asks_version transaction (bytes_of (info_of host))) given

pub record Settles (native_host native_modem version : Version) (command : Message) (b : Both) : Type 0 where
  pub sent : b.sent ≡ sends command
  pub host : b.host.stage ≡ stage.Settled version
  pub modem : b.modem.stage ≡ modem_stage.Settled version
  pub below_host : above version native_host ≡ false
  pub below_modem : above version native_modem ≡ false

-- a host that refuses is as it was opened, the modem still waits, and DEVICE_SERVICES was the last command
pub record Refuses (native advertised : Version) (reason : Reason) (transaction : ℕ) (b : Both) : Type 0 where
  pub sent : b.sent ≡ sends (asks_services transaction)
  pub answer : b.answer ≡ Err (refusal reason 0)
  pub host : b.host ≡ end native (stage.Open advertised)
  pub modem : b.modem.stage ≡ modem_stage.Listed

-- of a run in the transactions t₁ and t₂
abbrev pub Outcome : Expected → Version → Version → Version → Bool → ℕ → ℕ → Message → Both → Type 0
Outcome (refuses r) host modem advertised listed t₁ t₂ given b = Refuses host advertised r t₁ b
Outcome (settles v) host modem advertised listed t₁ t₂ given b = Settles host modem v (first_command host listed t₂ given) b

-- what a list says of VERSION
abbrev pub listed_as : Bool → ListedAnswer
listed_as listed = Ok listed

-- another first command: a COMMAND of a transaction, neither DEVICE_SERVICES nor VERSION
pub record OtherCommand (given : Message) : Type 0 where
  pub commands : given.header.message_type ≡ COMMAND
  pub numbered : 0 < given.header.transaction
  pub other : role_of (kind_of given.header.service given.header.cid) ≡ role.Other

-- what a run is given: a modem that advertises nothing above its own, its services list as accepted bytes that list VERSION or not,
-- another first command, transactions, lines over which the messages of the run arrive as they were sent, and room
pub record Ready (host modem advertised : Version) (listed : Bool) (l₁ l₂ : Line) (room : Rooms) (t₁ t₂ : ℕ) (given : Message) (services : List ℕ) : Type 0 where
  pub below : above advertised modem ≡ false
  pub list : version_listed services ≡ listed_as listed
  pub other : OtherCommand given
  pub first_numbered : 0 < t₁
  pub second_numbered : 0 < t₂
  pub services_passes : Passes l₁ (asks_services t₁) 0 services
  pub version_passes : Passes l₂ (asks_version t₂ (bytes_of (info_of host))) 0 (bytes_of (info_of (larger advertised (lower host modem))))
  pub served_passes : Passes l₂ given 0 services
  pub unknown_passes : Passes l₂ given no_device_support []
  pub room_host : 4 ≤ length room.host
  pub room_modem : 4 ≤ length room.modem
