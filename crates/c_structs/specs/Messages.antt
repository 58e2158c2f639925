-- Answers about messages as plain members: a refused one has all other members 0.
use Rattle.std.specs.Prelude.{ℕ, Bool, cond}
use Rattle.protocol.specs.declared.Refusal.{Refusal}
use Rattle.protocol.specs.declared.service.Kind.{Kind}
use Rattle.protocol.specs.declared.service.Kind.TheVariants.{RegisterState, PacketService, SignalState, DeviceServices, VersionInfo, SetPin, PinInfo}
use Rattle.message.specs.declared.MessageHeader.{MessageHeader}
use Rattle.message.specs.declared.Whole.{Whole}
use Rattle.cutter.specs.declared.Fragments.{Fragments}
use Rattle.assembler.specs.declared.door.Received.{Received}
use Rattle.assembler.specs.declared.door.Received.TheVariants.{Whole as WholeMessage, Pending, Complete}
use Rattle.c_structs.specs.declared.messages.WholeInfo.{WholeInfo}
use Rattle.c_structs.specs.declared.messages.CutInfo.{CutInfo}
use Rattle.c_structs.specs.declared.messages.KindInfo.{KindInfo}
use Rattle.c_structs.specs.declared.messages.ReceiveInfo.{ReceiveInfo}
use Rattle.c_structs.specs.Answers.{no_refusal, refusal_info}
use Rattle.c_structs.specs.declared.RefusalInfo.{RefusalInfo}
use Rattle.std.specs.Prelude.{Ok, Err, Some, None}
use Rattle.payload.specs.Payload.{Shown}
use Rattle.std.specs.Prelude.{Result}

abbrev pub flag_of : Bool → ℕ
flag_of b = cond b 1 0

-- ---- a whole message

unfoldable pub whole_info : (Result Whole Refusal) → WholeInfo
whole_info (Ok message) = record { refusal = no_refusal; message_type = message.message_type; transaction = message.transaction; word = message.word }
whole_info (Err r) = record { refusal = refusal_info r; message_type = 0; transaction = 0; word = 0 }

-- ---- a message cut

unfoldable pub cut_info : (Result Fragments Refusal) → CutInfo
cut_info (Ok cut) = record { refusal = no_refusal; count = cut.count; length = cut.length }
cut_info (Err r) = record { refusal = refusal_info r; count = 0; length = 0 }

-- ---- the payload that a message shows: 0 none, 1 registration, 2 packet service, 3 signal state, 4 device services, 5 VERSION, 6 SET_PIN, 7 PIN_INFO

abbrev pub kind_number : Kind → ℕ
kind_number RegisterState = 1
kind_number PacketService = 2
kind_number SignalState = 3
kind_number DeviceServices = 4
kind_number VersionInfo = 5
kind_number SetPin = 6
kind_number PinInfo = 7

unfoldable pub kind_info : Shown → KindInfo
kind_info (Ok (Some k)) = record { refusal = no_refusal; kind = kind_number k }
kind_info (Ok None) = record { refusal = no_refusal; kind = 0 }
kind_info (Err r) = record { refusal = refusal_info r; kind = 0 }

-- ---- a piece received: 1 a whole message, 2 a fragment before others, 3 the last fragment of its message

-- a message of which no more is known
abbrev pub head_of : ℕ → ℕ → ℕ → MessageHeader
head_of type transaction word = record {
  message_type = type;
  transaction = transaction;
  service = record { word0 = 0; word1 = 0; word2 = 0; word3 = 0 };
  cid = 0;
  word = word;
}

abbrev pub received_info : RefusalInfo → ℕ → ℕ → MessageHeader → ℕ → ReceiveInfo
received_info r received dropped m n = record { refusal = r; received = received; dropped = dropped; message = m; length = n }

-- no piece was taken
abbrev pub nothing_received : ReceiveInfo
nothing_received = received_info no_refusal 0 0 (head_of 0 0 0) 0

unfoldable pub receive_info : (Result Received Refusal) → ReceiveInfo
receive_info (Ok (WholeMessage type transaction word)) = received_info no_refusal 1 0 (head_of type transaction word) 0
receive_info (Ok (Pending type transaction d)) = received_info no_refusal 2 (flag_of d) (head_of type transaction 0) 0
receive_info (Ok (Complete m n d)) = received_info no_refusal 3 (flag_of d) m n
receive_info (Err r) = received_info (refusal_info r) 0 0 (head_of 0 0 0) 0
