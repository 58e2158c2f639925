-- Demand 3: any record, in a reply or an indication, and SET_PIN in a set COMMAND, cut at any transfer size, fed after whatever came before, completes
-- and reads back at its version; at the other version it shows the same fields or is refused.
-- In this order: the records; the messages that carry them; what is read back; the claim. Proved in proofs/Transferred.
use Rattle.std.specs.Prelude.{ℕ, ◌-◌, ◌≤◌, ◌<◌, ◌^◌, ◌≡◌, ◌⊎◌, List, ◌++◌, length, take}
use Rattle.protocol.specs.Refusal.{refusal, too_short, wrong_length}
use Rattle.protocol.specs.Verdict.{Writing}
use Rattle.protocol.specs.MessageType.{COMMAND, COMMAND_DONE, INDICATE_STATUS, SET}
use Rattle.protocol.specs.Status as status
use Rattle.protocol.specs.Service.{basic_connect, extensions, id_at}
use Rattle.protocol.specs.declared.Version.{Version}
use Rattle.protocol.specs.declared.Version.TheVariants.{V1, V2}
use Rattle.protocol.specs.declared.service.ServiceId.{ServiceId}
use Rattle.protocol.specs.declared.service.Kind.{Kind}
use Rattle.protocol.specs.declared.service.Kind.TheVariants as kinds
use Rattle.pairs.specs.Claims.{shown_in}
use Rattle.packet_service.specs.PacketService as packet
use Rattle.packet_service.specs.Claims.{OfWidth as PacketOfWidth}
use Rattle.packet_service.specs.declared.PacketService.{PacketService}
use Rattle.version_info.specs.VersionInfo as version
use Rattle.version_info.specs.declared.VersionInfo.{VersionInfo}
use Rattle.registration.specs.Registration as registration
use Rattle.pairs.specs.declared.ZeroSize.{ZeroSize}
use Rattle.registration.specs.Claims.{Returned, shown_earlier, refused_later}
use Rattle.registration.specs.Claims.{OfWidth as RegistrationOfWidth}
use Rattle.registration.specs.declared.Registration.{Registration}
use Rattle.registration.specs.declared.RegistrationTexts.{RegistrationTexts}
use Rattle.signal_state.specs.SignalState as signal
use Rattle.signal_state.specs.Claims.{kept_in, EntriesOfWidth}
use Rattle.signal_state.specs.Claims.{OfWidth as SignalOfWidth}
use Rattle.signal_state.specs.declared.RsrpSnr.{RsrpSnr}
use Rattle.signal_state.specs.declared.SignalState.{SignalState}
use Rattle.pin.specs.SetPin.{write_of as write_set_pin}
use Rattle.pin.specs.SetPinClaims.{Returned as SetPinReturned, OfWidth as SetPinOfWidth}
use Rattle.pin.specs.declared.set_pin.SetPin.{SetPin}
use Rattle.pin.specs.PinInfo.{read_of as read_pin_info, write_of as write_pin_info}
use Rattle.pin.specs.PinInfoClaims.{OfWidth as PinInfoOfWidth}
use Rattle.pin.specs.declared.pin_info.PinInfo.{PinInfo}
use Rattle.services_writer.specs.ServicesWriter as services
use Rattle.services_writer.specs.declared.ServiceList.{ServiceList}
use Rattle.services_trip.specs.ServicesTrip.{Returned as ServicesReturned, OfWidth as ServicesOfWidth}
use Rattle.message.specs.declared.MessageHeader.{MessageHeader}
use Rattle.cutter.specs.Cut.{fragments_of, joined, cut_of}
use Rattle.assembler.specs.Assembly.{empty, is_pending}
use Rattle.assembler.specs.Run.{Piece, run_of}
use Rattle.payload.specs.Payload.{shown_of}
use Rattle.exchange.specs.Messages.{header_seen, parts, pieces, received}
use Rattle.exchange.specs.Delivery.{then_run}
use Rattle.std.specs.Prelude.{Ok, Err, Some}

-- ---- the records: one of the seven payloads, in either form where it has two, with its texts or its entries

pub data Record : Type 0 where
  register_state : Registration → List ℕ → List ℕ → List ℕ → Record
  packet_service : PacketService → Record
  signal_state : SignalState → List RsrpSnr → Record
  device_services : ServiceList → Record
  version_info : VersionInfo → Record
  set_pin : SetPin → List ℕ → List ℕ → Record
  pin_info : PinInfo → Record

-- what the payload's writer does with an output
unfoldable pub write_of : Record → List ℕ → Writing
write_of (register_state p x y z) s = registration.write_of p x y z s
write_of (packet_service p) s = packet.write_of p s
write_of (signal_state p es) s = signal.write_of p es s
write_of (device_services p) s = services.write_of p s
write_of (version_info i) s = version.write_of i s
write_of (set_pin p x y) s = write_set_pin p x y s
write_of (pin_info i) s = write_pin_info i s

-- each number is of its width, as in every value of the code's types
unfoldable pub OfWidth : Record → Type 0
OfWidth (register_state p x y z) = RegistrationOfWidth p
OfWidth (packet_service p) = PacketOfWidth p
OfWidth (signal_state p es) = SignalOfWidth p × EntriesOfWidth es
OfWidth (device_services p) = ServicesOfWidth p
OfWidth (version_info i) = Unit
OfWidth (set_pin p x y) = SetPinOfWidth p
OfWidth (pin_info i) = PinInfoOfWidth i

-- ---- the messages that carry a record: its own service and CID, on a way that shows it, with a permitted transaction

unfoldable pub service_of : Record → ServiceId
service_of (register_state p x y z) = id_at basic_connect 0
service_of (packet_service p) = id_at basic_connect 0
service_of (signal_state p es) = id_at basic_connect 0
service_of (device_services p) = id_at basic_connect 0
service_of (version_info i) = id_at extensions 0
service_of (set_pin p x y) = id_at basic_connect 0
service_of (pin_info i) = id_at basic_connect 0

unfoldable pub cid_of : Record → ℕ
cid_of (register_state p x y z) = 9
cid_of (packet_service p) = 10
cid_of (signal_state p es) = 11
cid_of (device_services p) = 16
cid_of (version_info i) = 15
cid_of (set_pin p x y) = 4
cid_of (pin_info i) = 4

unfoldable pub kind_of : Record → Kind
kind_of (register_state p x y z) = kinds.RegisterState
kind_of (packet_service p) = kinds.PacketService
kind_of (signal_state p es) = kinds.SignalState
kind_of (device_services p) = kinds.DeviceServices
kind_of (version_info i) = kinds.VersionInfo
kind_of (set_pin p x y) = kinds.SetPin
kind_of (pin_info i) = kinds.PinInfo

-- a set COMMAND
pub record SetCommand (m : MessageHeader) : Type 0 where
  pub command : m.message_type ≡ COMMAND
  pub set : m.word ≡ SET
  pub numbered : 0 < m.transaction

-- a DONE of status 0
pub record Reply (m : MessageHeader) : Type 0 where
  pub done : m.message_type ≡ COMMAND_DONE
  pub success : m.word ≡ status.success
  pub numbered : 0 < m.transaction

-- a DONE of status 2
pub record Failure (m : MessageHeader) : Type 0 where
  pub done : m.message_type ≡ COMMAND_DONE
  pub failure : m.word ≡ status.failure
  pub numbered : 0 < m.transaction

pub record Indication (m : MessageHeader) : Type 0 where
  pub indicates : m.message_type ≡ INDICATE_STATUS
  pub unnumbered : m.transaction ≡ 0

abbrev pub Answer : MessageHeader → Type 0
Answer m = Reply m ⊎ Indication m

-- "on CID 4 .. a set COMMAND and a DONE of status 2 show their payload" (02, order 2): SET_PIN the one, PIN_INFO the other
unfoldable pub WayOf : Record → MessageHeader → Type 0
WayOf (register_state p x y z) m = Answer m
WayOf (packet_service p) m = Answer m
WayOf (signal_state p es) m = Answer m
WayOf (device_services p) m = Answer m
WayOf (version_info i) m = Answer m
WayOf (set_pin p x y) m = SetCommand m
WayOf (pin_info i) m = Answer m ⊎ Failure m

pub record Carries (r : Record) (m : MessageHeader) : Type 0 where
  pub service : m.service ≡ service_of r
  pub cid : m.cid ≡ cid_of r
  pub way : WayOf r m
  pub transaction32 : m.transaction < 2 ^ 32
  pub word32 : m.word < 2 ^ 32

-- ---- what is read back, by the version written at, the version read at and the reader's choice

-- the shared fields and the texts, or 9 at 12; and 6 or 1 the other way
unfoldable pub RegisterStateBack : Version → Version → ZeroSize → Registration → List ℕ → List ℕ → List ℕ → List ℕ → Type 0
RegisterStateBack V1 V1 choice p x y z s = Returned choice p x y z s
RegisterStateBack V2 V2 choice p x y z s = Returned choice p x y z s
RegisterStateBack V2 V1 choice p x y z s =
    (t : RegistrationTexts)
    × ((registration.read_with V1 choice s ≡ shown_earlier p t)
    × ((shown_in s t.provider_id ≡ x) × ((shown_in s t.provider_name ≡ y) × (shown_in s t.roaming_text ≡ z))))
RegisterStateBack V1 V2 choice p x y z s = registration.read_with V2 choice s ≡ Err (refused_later (length x) (length y) (length z))

-- the record, or 2 at 32, or 1 at 28
unfoldable pub PacketServiceBack : Version → Version → PacketService → List ℕ → Type 0
PacketServiceBack V1 V1 p s = packet.read_of V1 s ≡ Ok p
PacketServiceBack V2 V2 p s = packet.read_of V2 s ≡ Ok p
PacketServiceBack V2 V1 p s = packet.read_of V1 s ≡ Err (refusal wrong_length 32)
PacketServiceBack V1 V2 p s = packet.read_of V2 s ≡ Err (refusal too_short 28)

-- the record and its entries, or 2 at the length, or 1 at 20
unfoldable pub SignalStateBack : Version → Version → ZeroSize → SignalState → List RsrpSnr → List ℕ → Type 0
SignalStateBack V1 V1 choice p es s = signal.read_with V1 choice s ≡ record { answer = Ok p; entries = kept_in p.form es }
SignalStateBack V2 V2 choice p es s = signal.read_with V2 choice s ≡ record { answer = Ok p; entries = kept_in p.form es }
SignalStateBack V2 V1 choice p es s = signal.read_with V1 choice s ≡ signal.refused (refusal wrong_length (length s))
SignalStateBack V1 V2 choice p es s = signal.read_with V2 choice s ≡ signal.refused (refusal too_short 20)

-- DEVICE_SERVICES, VERSION, SET_PIN and PIN_INFO have one form at both versions; a payload without pairs is read without a choice
unfoldable pub ReadsBack : Record → Version → ZeroSize → List ℕ → Type 0
ReadsBack (register_state p x y z) v choice s = RegisterStateBack (registration.version_of p) v choice p x y z s
ReadsBack (packet_service p) v choice s = PacketServiceBack (packet.version_of p) v p s
ReadsBack (signal_state p es) v choice s = SignalStateBack (signal.version_of p) v choice p es s
ReadsBack (device_services p) v choice s = ServicesReturned choice p s
ReadsBack (version_info i) v choice s = version.read_of s ≡ Ok i
ReadsBack (set_pin p x y) v choice s = SetPinReturned choice p x y s
ReadsBack (pin_info i) v choice s = read_pin_info s ≡ Ok i

-- ---- the claim

-- the message m with the information s, cut into a stream and fed behind earlier pieces
pub record Transferred (r : Record) (m : MessageHeader) (size : ℕ) (s stream : List ℕ) (earlier : List Piece) (room : ℕ → ℕ) : Type 0 where
  pub count : ℕ
  pub long : ℕ
  -- the cutter accepts
  pub cut : (cut_of m size s stream).answer ≡ Ok (record { count = count; length = long })
  -- and gives the fragments laid down, `size` bytes each but the last
  pub fragments : parts count size (take long (cut_of m size s stream).output) ≡ fragments_of m size s
  -- the last piece completes the message, where it has room, and leaves the empty assembly
  pub run : run_of empty (earlier ++ pieces room 0 (parts count size (take long (cut_of m size s stream).output)))
      ≡ then_run (run_of empty earlier) (received m s (is_pending (run_of empty earlier).end.progress) (room (count - 1)) (count - 1))
  -- the message shows the record's payload
  pub shown : shown_of (header_seen m) ≡ Ok (Some (kind_of r))
  -- and at either version, by either choice of the reader (02, order 10), it reads back
  pub back : (v : Version) (choice : ZeroSize) → ReadsBack r v choice s

-- any record that the writer accepts, any message that carries it, any permitted transfer size, a stream with room for the fragments, any earlier pieces
abbrev pub EveryRecord : Type 0
EveryRecord = (r : Record) → OfWidth r → (out : List ℕ) (n : ℕ) → (write_of r out).answer ≡ Ok n → (m : MessageHeader) → Carries r m → (size : ℕ) → 64 ≤ size → size ≤ 4096
    → (stream : List ℕ) → length (joined (fragments_of m size (take n (write_of r out).output))) ≤ length stream → (earlier : List Piece) (room : ℕ → ℕ)
    → Transferred r m size (take n (write_of r out).output) stream earlier room
