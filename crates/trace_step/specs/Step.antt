-- One line of a trace (document 02, order 5): "replays a trace through one assembler per sender and lists for each line the milliseconds since the
-- previous line .. the answer, and on completion the fields". In this order: what stands from line to line; elapsed milliseconds; the version;
-- a good line's piece; any line; what a call leaves of it.
use Rattle.std.specs.Prelude.{◌≡◌, ℕ, ◌+◌, ◌-◌, ◌/◌, ◌%◌, ◌^◌, ◌≤◌, Bool, cond, ◌&&◌, List, [], length, take, drop, ◌==◌}
use Rattle.wire.specs.Output.{over}
use Rattle.ascii.specs.Ascii.{unhexed}
use Rattle.protocol.specs.Refusal.{refusal, bad_line}
use Rattle.protocol.specs.MessageType.{COMMAND_DONE}
use Rattle.protocol.specs.Status.{success}
use Rattle.protocol.specs.Service.{extensions, id_at, same_id}
use Rattle.protocol.specs.declared.Version.{Version}
use Rattle.protocol.specs.declared.Version.TheVariants.{V1}
use Rattle.version_info.specs.VersionInfo.{read_of}
use Rattle.handshake.specs.Versions.{version_of}
use Rattle.message.specs.Message.{most_information, is_whole_piece}
use Rattle.message.specs.declared.MessageHeader.{MessageHeader}
use Rattle.assembler.specs.Assembly.{assembly_of, empty}
use Rattle.assembler.specs.Door.{Receiving, receive_of}
use Rattle.assembler.specs.declared.Assembly.{Assembly}
use Rattle.assembler.specs.declared.door.Received.{Received}
use Rattle.assembler.specs.declared.door.Received.TheVariants as received
use Rattle.trace_line.specs.TraceLine.{line_of}
use Rattle.trace_line.specs.declared.Sender.{Sender}
use Rattle.trace_line.specs.declared.Sender.TheVariants.{Host, Device}
use Rattle.trace_line.specs.declared.Line.{Line}
use Rattle.trace_step.specs.declared.Replay.{Replay}
use Rattle.trace_step.specs.declared.Piece.{Piece}
use Rattle.trace_step.specs.declared.Stepped.{Stepped}
use Rattle.std.specs.Prelude.{Ok, Err, Some, None}
use Rattle.version_info.specs.VersionInfo.{VersionInfoRead}
use Rattle.std.specs.Prelude.{Option}
use Rattle.std.specs.Prelude.{Result}
use Rattle.protocol.specs.declared.Refusal.{Refusal}

abbrev pub Previous : Type 0
Previous = Option ℕ

-- ---- what stands from line to line

pub record State : Type 0 where
  pub host : Assembly
  pub device : Assembly
  pub previous : Previous
  pub version : Version

-- before the first line; "before one at 1.00"
abbrev pub start : State
start = record { host = empty; device = empty; previous = None; version = V1 }

-- of two things the one for the sender
abbrev pub by_sender : {A : Type 0} → Sender → A → A → A
by_sender Host for_host for_device = for_host
by_sender Device for_host for_device = for_device

-- "one assembler per sender": the sender's own, and both after the sender's has become a
abbrev pub own_of : Sender → State → Assembly
own_of sender s = by_sender sender s.host s.device

abbrev pub host_after : Sender → Assembly → State → Assembly
host_after sender a s = by_sender sender a s.host

abbrev pub device_after : Sender → Assembly → State → Assembly
device_after sender a s = by_sender sender s.device a

-- ---- "the milliseconds since the previous line (wrapping subtraction, 0 at the first)"

abbrev pub elapsed_of : Previous → ℕ → ℕ
elapsed_of None counter = 0
elapsed_of (Some previous) counter = (counter + (2 ^ 32 - previous)) % 2 ^ 32

-- ---- "the version of D's last accepted VERSION reply"

-- a reply to VERSION of status 0
unfoldable pub is_version_reply : MessageHeader → Bool
is_version_reply m =
    (m.message_type == COMMAND_DONE) && (m.word == success && (same_id m.service (id_at extensions 0) && m.cid == 15))

abbrev pub version_by : Version → VersionInfoRead → Version
version_by v (Ok i) = version_of i.bcd_mbim_extended_version
version_by v (Err r) = v

unfoldable pub version_from : Version → (Result Received Refusal) → List ℕ → Version
version_from v (Ok (received.Complete m n dropped)) information = cond (is_version_reply m) (version_by v (read_of information)) v
version_from v (Ok (received.Whole type transaction word)) information = v
version_from v (Ok (received.Pending type transaction dropped)) information = v
version_from v (Err r) information = v

abbrev pub version_after : Sender → Version → (Result Received Refusal) → List ℕ → Version
version_after sender v x information = by_sender sender v (version_from v x information)

-- ---- the piece of a good line: the state behind it, what it gives, and the information of a message that it completes

pub record Step : Type 0 where
  pub state : State
  pub replayed : Result Piece Refusal
  pub information : List ℕ

-- its fields are read at the version before it; "whole messages, by type, .. touch neither assembler"
abbrev pub piece_by : State → ℕ → Sender → List ℕ → Receiving → Step
piece_by s counter sender piece x = record {
  state = record {
    host = host_after sender x.assembly s;
    device = device_after sender x.assembly s;
    previous = Some counter;
    version = version_after sender s.version x.received x.information;
  };
  replayed = Ok (record { elapsed = (elapsed_of s.previous counter); sender = sender; version = s.version; is_whole = (is_whole_piece piece); received = x.received });
  information = x.information;
}

unfoldable pub piece_step : State → ℕ → Sender → List ℕ → Step
piece_step s counter sender piece = piece_by s counter sender piece (receive_of (own_of sender s) piece most_information)

-- ---- any line: "a bad line is listed as such, changes neither assembler and doesn't count as previous"

unfoldable pub step_by : State → List ℕ → (Result Line ℕ) → Step
step_by s text (Err c) = record { state = s; replayed = Err (refusal bad_line c); information = [] }
step_by s text (Ok line) = piece_step s line.counter line.sender (unhexed (line.digits / 2) (take line.digits (drop line.from text)))

unfoldable pub step_of : State → List ℕ → Step
step_of s text = step_by s text (line_of text)

-- ---- what a call leaves of a step: the state without its buffers, the two buffers, and the output

abbrev pub state_of : Replay → List ℕ → List ℕ → State
state_of r host device = record {
  host = assembly_of r.host host;
  device = assembly_of r.device device;
  previous = r.previous;
  version = r.version;
}

abbrev pub kept : State → Replay
kept s = record { host = s.host.progress; device = s.device.progress; previous = s.previous; version = s.version }

-- the output holds the information of a complete message, at its front
abbrev pub Fronted : (Result Received Refusal) → List ℕ → Type 0
Fronted (Ok (received.Complete m n dropped)) out = n ≤ length out
Fronted (Ok (received.Whole type transaction word)) out = Unit
Fronted (Ok (received.Pending type transaction dropped)) out = Unit
Fronted (Err r) out = Unit

abbrev pub front_for : (Result Received Refusal) → List ℕ → List ℕ
front_for (Ok (received.Complete m n dropped)) out = take n out
front_for (Ok (received.Whole type transaction word)) out = []
front_for (Ok (received.Pending type transaction dropped)) out = []
front_for (Err r) out = []

-- so that its payload can be read there
abbrev pub Held : (Result Received Refusal) → List ℕ → List ℕ → Type 0
Held (Ok (received.Complete m n dropped)) information out = (n ≤ length out) × (take n out ≡ information)
Held (Ok (received.Whole type transaction word)) information out = Unit
Held (Ok (received.Pending type transaction dropped)) information out = Unit
Held (Err r) information out = Unit

abbrev pub Holds : (Result Piece Refusal) → List ℕ → List ℕ → Type 0
Holds (Err r) information out = Unit
Holds (Ok piece) information out = Held piece.received information out

pub record Leaves (x : Step) (r : Stepped) (host device out end : List ℕ) : Type 0 where
  pub answer : r ≡ record { replay = kept x.state; replayed = x.replayed }
  pub hosts : host ≡ x.state.host.bytes
  pub devices : device ≡ x.state.device.bytes
  pub delivered : end ≡ over x.information out
  pub holds : Holds x.replayed x.information end
