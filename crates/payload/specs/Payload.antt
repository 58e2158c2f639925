-- What an assembled message shows (document 01, "Messages and fragments"): "its service, then its CID, is judged only when a payload is read
-- from it", and "a DONE with status other than 0, and a COMMAND other than VERSION, show no payload". Against that (document 02, order 2): "on CID 4 ..
-- a set COMMAND and a DONE of status 2 show their payload".
-- In this order: which way a message goes; the table; any message.
use Rattle.std.specs.Prelude.{ℕ, cond, eqb}
use Rattle.protocol.specs.Refusal.{refusal, unknown}
use Rattle.protocol.specs.MessageType.{COMMAND, COMMAND_DONE, SET, is_fragmented}
use Rattle.protocol.specs.Status.{success, failure}
use Rattle.protocol.specs.Service.{kind_of}
use Rattle.protocol.specs.declared.service.Kind.{Kind}
use Rattle.protocol.specs.declared.service.Kind.TheVariants.{RegisterState, PacketService, SignalState, DeviceServices, VersionInfo, SetPin, PinInfo}
use Rattle.message.specs.declared.MessageHeader.{MessageHeader}
use Rattle.payload.specs.declared.Way.{Way}
use Rattle.payload.specs.declared.Way.TheVariants.{Query, Set, Answer, Failed, Other}
use Rattle.std.specs.Prelude.{Ok, Err, Some, None}
use Rattle.protocol.specs.Service.{Carried}
use Rattle.std.specs.Prelude.{Option, Result}
use Rattle.protocol.specs.declared.Refusal.{Refusal}

abbrev pub Shown : Type 0
Shown = Result (Option Kind) Refusal

-- ---- a COMMAND that is a set, and any other; an answer, which is a DONE of status 0 or an indication; a DONE of status 2, and one of another status

unfoldable pub command_way : ℕ → Way
command_way type = cond (eqb type SET) Set Query

unfoldable pub done_way : ℕ → Way
done_way status = cond (eqb status success) Answer (cond (eqb status failure) Failed Other)

unfoldable pub way_of : MessageHeader → Way
way_of m = cond (eqb m.message_type COMMAND) (command_way m.word) (cond (eqb m.message_type COMMAND_DONE) (done_way m.word) Answer)

-- ---- the table: for each CID, named by the kind that its answers carry, what a query, a set, an answer and a DONE of status 2 show

pub record Row : Type 0 where
  pub query : Option Kind
  pub set : Option Kind
  pub answer : Option Kind
  pub failed : Option Kind

abbrev row : Option Kind → Option Kind → Option Kind → Option Kind → Row
row q s a f = record { query = q; set = s; answer = a; failed = f }

-- a set's SET_PIN is in the row of its CID's answers
abbrev pub row_of : Kind → Row
row_of RegisterState = row None None (Some RegisterState) None
row_of PacketService = row None None (Some PacketService) None
row_of SignalState = row None None (Some SignalState) None
row_of DeviceServices = row None None (Some DeviceServices) None
row_of VersionInfo = row (Some VersionInfo) (Some VersionInfo) (Some VersionInfo) None
row_of SetPin = row None None None None
row_of PinInfo = row None (Some SetPin) (Some PinInfo) (Some PinInfo)

abbrev pub shown_in : Row → Way → Option Kind
shown_in r Query = r.query
shown_in r Set = r.set
shown_in r Answer = r.answer
shown_in r Failed = r.failed
shown_in r Other = None

-- ---- any message

unfoldable pub shown_by : MessageHeader → Carried → Shown
shown_by m (Err r) = Err r
shown_by m (Ok k) = Ok (shown_in (row_of k) (way_of m))

-- a type that has no service is "unknown message type", 3 at 0
unfoldable pub shown_of : MessageHeader → Shown
shown_of m =
    cond (is_fragmented m.message_type) (shown_by m (kind_of m.service m.cid)) (Err (refusal unknown 0))
