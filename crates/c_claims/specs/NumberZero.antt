-- Of every exported function whose answer can be a refusal: the number of its answer's refusal is 0 exactly where nothing was refused.
-- `cvr_service_id` and `cvr_transaction_next` refuse nothing. Proved in proofs/Told.
use Rattle.std.specs.Prelude.{ℕ, ◌≡◌, Bool, not, List, eqb}
use Rattle.protocol.specs.declared.service.ServiceId.{ServiceId}
use Rattle.version_info.specs.VersionInfo as version
use Rattle.version_info.specs.declared.VersionInfo.{VersionInfo}
use Rattle.signal_state.specs.declared.SignalStateShown.{SignalStateShown}
use Rattle.device_services.specs.DeviceServices as services
use Rattle.services_query.specs.ServicesQuery as query
use Rattle.services_ask.specs.ServicesAsk as ask
use Rattle.services_ask.specs.ServicesAsk.{PositionAnswer}
use Rattle.services_query.specs.declared.all.AllListed.{AllListed}
use Rattle.services_lists.specs.ServicesLists as lists
use Rattle.services_writer.specs.ServicesWriter as writer
use Rattle.services_writer.specs.declared.ServiceList.{ServiceList}
use Rattle.pin.specs.SetPin as set_pin
use Rattle.pin.specs.declared.set_pin.SetPin.{SetPin}
use Rattle.pin.specs.PinInfo as pin_info
use Rattle.pin.specs.declared.pin_info.PinInfo.{PinInfo}
use Rattle.signal_quality.specs.Decibels.{rsrp_of, snr_of}
use Rattle.signal_quality.specs.Bars.{bars_of}
use Rattle.message.specs.Message.{whole_of, write_whole_of}
use Rattle.message.specs.declared.MessageHeader.{MessageHeader}
use Rattle.message.specs.declared.Whole.{Whole}
use Rattle.cutter.specs.Cut.{cut_of}
use Rattle.cutter.specs.declared.Fragments.{Fragments}
use Rattle.payload.specs.Payload.{shown_of}
use Rattle.assembler.specs.declared.door.Received.{Received}
use Rattle.host.specs.declared.HostAnswer.{HostAnswer}
use Rattle.host.specs.declared.Ask.{Ask}
use Rattle.lent.specs.LentAssembly.{emptied, receive_in}
use Rattle.stream.specs.declared.Said.{Said}
use Rattle.lent_stream.specs.LentStream as stream
use Rattle.lent_host.specs.LentHost as host
use Rattle.lent_modem.specs.LentModem as modem
use Rattle.lent_modem.specs.declared.ModemReply.{ModemReply}
use Rattle.pin_entry.specs.declared.PinAnswer.{PinAnswer}
use Rattle.pin_entry.specs.declared.starts.PinStart.{PinStart}
use Rattle.lent_pins.specs.LentPins as pins
use Rattle.lent_pins.specs.LentModems as pin_modem
use Rattle.lent_pins.specs.declared.modems.PinReply.{PinReply}
use Rattle.c_structs.specs.Answers.{refusal_of, written_answer}
use Rattle.c_structs.specs.Versions as version_answer
use Rattle.c_structs.specs.Packets as packet_answer
use Rattle.c_structs.specs.Registrations as registration_answer
use Rattle.c_structs.specs.Signals as signal_answer
use Rattle.c_structs.specs.Services as services_answer
use Rattle.c_structs.specs.Quality.{reading_info, bars_info}
use Rattle.c_structs.specs.Messages.{whole_info, cut_info, kind_info, receive_info}
use Rattle.c_structs.specs.Streams.{stream_info}
use Rattle.c_structs.specs.Ends.{host_info, ask_info}
use Rattle.c_structs.specs.Pins.{set_pin_answer, pin_info_answer, entry_answer}
use Rattle.c_structs.specs.declared.packets.PacketServiceInfo.{PacketServiceInfo}
use Rattle.c_structs.specs.declared.registrations.RegistrationInfo.{RegistrationInfo}
use Rattle.c_structs.specs.declared.signals.SignalStateInfo.{SignalStateInfo}
use Rattle.culvertroost.specs.Packets as packets
use Rattle.culvertroost.specs.Registrations as registrations
use Rattle.culvertroost.specs.Signals as signals
use Rattle.culvertroost.specs.Services as services_by
use Rattle.culvertroost.specs.Modems.{reply_info}
use Rattle.culvertroost.specs.Pins as set_pin_by
use Rattle.culvertroost.specs.Pins.{pin_reply_info}
use Rattle.c_claims.specs.Refused.{is_refused, said_refused}
use Rattle.signal_quality.specs.Bars.{Bars}
use Rattle.device_services.specs.DeviceServices.{DeviceServicesRead}
use Rattle.services_query.specs.ServicesQuery.{ElementAnswer}
use Rattle.services_query.specs.ServicesQuery.{ListedAnswer}
use Rattle.packet_service.specs.PacketService.{PacketServiceRead}
use Rattle.pin.specs.PinInfo.{PinInfoRead}
use Rattle.signal_quality.specs.Decibels.{ReadingRead}
use Rattle.registration.specs.Registration.{RegistrationRead}
use Rattle.pin.specs.SetPin.{SetPinRead}
use Rattle.payload.specs.Payload.{Shown}
use Rattle.protocol.specs.Verdict.{Verdict}
use Rattle.version_info.specs.VersionInfo.{VersionInfoRead}
use Rattle.protocol.specs.Verdict.{Written}
use Rattle.std.specs.Prelude.{Result}
use Rattle.protocol.specs.declared.Refusal.{Refusal}

-- the number is 0 exactly where nothing was refused
abbrev pub Tells : ℕ → Bool → Type 0
Tells number refused = eqb number 0 ≡ not refused

-- ---- what that says of each kind of answer

abbrev pub VerdictTells : Verdict → Type 0
VerdictTells v = Tells (refusal_of v).number (is_refused v)

abbrev pub WrittenTells : Written → Type 0
WrittenTells w = Tells (written_answer w).refusal.number (is_refused w)

abbrev pub VersionTells : VersionInfoRead → Type 0
VersionTells a = Tells (version_answer.answer_of a).refusal.number (is_refused a)

abbrev pub PacketTells : PacketServiceRead → Type 0
PacketTells a = Tells (packet_answer.answer_of a).refusal.number (is_refused a)

abbrev pub RegistrationTells : RegistrationRead → Type 0
RegistrationTells a = Tells (registration_answer.answer_of a).refusal.number (is_refused a)

abbrev pub SignalTells : SignalStateShown → Type 0
SignalTells a = Tells (signal_answer.answer_of a).refusal.number (is_refused a.answer)

abbrev pub ServicesTells : DeviceServicesRead → Type 0
ServicesTells a = Tells (services_answer.answer_of a).refusal.number (is_refused a)

abbrev pub ElementTells : ElementAnswer → Type 0
ElementTells a = Tells (services_answer.element_info a).refusal.number (is_refused a)

abbrev pub ListedTells : ListedAnswer → Type 0
ListedTells a = Tells (services_answer.listed_info a).refusal.number (is_refused a)

abbrev pub PositionTells : PositionAnswer → Type 0
PositionTells a = Tells (services_answer.position_info a).refusal.number (is_refused a)

abbrev pub AllTells : (Result AllListed Refusal) → Type 0
AllTells a = Tells (services_answer.all_info a).refusal.number (is_refused a)

abbrev pub SetPinTells : SetPinRead → Type 0
SetPinTells a = Tells (set_pin_answer a).refusal.number (is_refused a)

abbrev pub PinInfoTells : PinInfoRead → Type 0
PinInfoTells a = Tells (pin_info_answer a).refusal.number (is_refused a)

abbrev pub ReadingTells : ReadingRead → Type 0
ReadingTells a = Tells (reading_info a).refusal.number (is_refused a)

abbrev pub BarsTells : Bars → Type 0
BarsTells a = Tells (bars_info a).refusal.number (is_refused a)

abbrev pub WholeTells : (Result Whole Refusal) → Type 0
WholeTells a = Tells (whole_info a).refusal.number (is_refused a)

abbrev pub CutTells : (Result Fragments Refusal) → Type 0
CutTells a = Tells (cut_info a).refusal.number (is_refused a)

abbrev pub KindTells : Shown → Type 0
KindTells a = Tells (kind_info a).refusal.number (is_refused a)

abbrev pub ReceivedTells : (Result Received Refusal) → Type 0
ReceivedTells a = Tells (receive_info a).refusal.number (is_refused a)

abbrev pub SaidTells : Said → ℕ → Type 0
SaidTells a n = Tells (stream_info a n).piece.refusal.number (said_refused a)

abbrev pub HostTells : (Result HostAnswer Refusal) → Type 0
HostTells a = Tells (host_info a).refusal.number (is_refused a)

abbrev pub AskTells : (Result Ask Refusal) → Type 0
AskTells a = Tells (ask_info a).refusal.number (is_refused a)

abbrev pub ModemTells : ModemReply → Type 0
ModemTells a = Tells (reply_info a).refusal.number (is_refused a.answer)

abbrev pub EntryTells : (Result PinAnswer Refusal) → Type 0
EntryTells a = Tells (entry_answer a).refusal.number (is_refused a)

abbrev pub PinModemTells : PinReply → Type 0
PinModemTells a = Tells (pin_reply_info a).refusal.number (is_refused a.answer)

-- ---- every function, by its C name

pub record EveryNumberTells : Type 0 where
  pub version_info_read : (s : List ℕ) → VersionTells (version.read_of s)
  pub version_info_write : (i : VersionInfo) (out : List ℕ) → WrittenTells (version.write_of i out).answer
  pub packet_service_read : (n : ℕ) (s : List ℕ) → PacketTells (packets.read_at n s)
  pub packet_service_write : (i : PacketServiceInfo) (out : List ℕ) → WrittenTells (packets.write_at i out).answer
  pub registration_read : (n : ℕ) (s : List ℕ) → RegistrationTells (registrations.read_at n s)
  pub registration_read_with : (n k : ℕ) (s : List ℕ) → RegistrationTells (registrations.read_chosen n k s)
  pub registration_write : (i : RegistrationInfo) (x y z out : List ℕ) → WrittenTells (registrations.write_at i x y z out).answer
  pub signal_state_read : (n : ℕ) (s : List ℕ) → SignalTells (signals.read_at n s)
  pub signal_state_read_with : (n k : ℕ) (s : List ℕ) → SignalTells (signals.read_chosen n k s)
  pub signal_state_write : (i : SignalStateInfo) (out : List ℕ) → WrittenTells (signals.write_at i out).answer
  pub device_services_read : (s : List ℕ) → ServicesTells (services.read_of s)
  pub device_services_read_with : (k : ℕ) (s : List ℕ) → ServicesTells (services_by.read_chosen k s)
  pub device_services_element : (s : List ℕ) (number : ℕ) (cids : List ℕ) → ElementTells (query.element_of s number cids).answer
  pub device_services_element_with : (k : ℕ) (s : List ℕ) (number : ℕ) (cids : List ℕ) → ElementTells (services_by.element_chosen k s number cids).answer
  pub device_services_cids : (s : List ℕ) (service : ServiceId) (cids : List ℕ) → ElementTells (query.cids_of s service cids).answer
  pub device_services_cids_with : (k : ℕ) (s : List ℕ) (service : ServiceId) (cids : List ℕ) → ElementTells (services_by.cids_chosen k s service cids).answer
  pub device_services_listed : (s : List ℕ) (service : ServiceId) (cid : ℕ) → ListedTells (query.listed_of s service cid)
  pub device_services_listed_with : (k : ℕ) (s : List ℕ) (service : ServiceId) (cid : ℕ) → ListedTells (services_by.listed_chosen k s service cid)
  pub device_services_ask : (s : List ℕ) (service : ServiceId) (cid : ℕ) → PositionTells (ask.position_of s service cid)
  pub device_services_ask_with : (k : ℕ) (s : List ℕ) (service : ServiceId) (cid : ℕ) → PositionTells (services_by.position_chosen k s service cid)
  pub device_services_all : (s fields cids : List ℕ) → AllTells (query.all_of s fields cids).answer
  pub device_services_all_with : (k : ℕ) (s fields cids : List ℕ) → AllTells (services_by.all_chosen k s fields cids).answer
  pub device_services_write : (p : ServiceList) (out : List ℕ) → WrittenTells (writer.write_of p out).answer
  pub device_services_write_all : (max : ℕ) (fields cids out : List ℕ) → WrittenTells (lists.write_all_of max fields cids out).answer
  pub set_pin_read : (s : List ℕ) → SetPinTells (set_pin.read_of s)
  pub set_pin_read_with : (k : ℕ) (s : List ℕ) → SetPinTells (set_pin_by.read_chosen k s)
  pub set_pin_write : (i : SetPin) (pin new out : List ℕ) → WrittenTells (set_pin.write_of i pin new out).answer
  pub pin_info_read : (s : List ℕ) → PinInfoTells (pin_info.read_of s)
  pub pin_info_write : (i : PinInfo) (out : List ℕ) → WrittenTells (pin_info.write_of i out).answer
  pub rsrp : (code : ℕ) → ReadingTells (rsrp_of code)
  pub snr : (code : ℕ) → ReadingTells (snr_of code)
  pub bars : (rssi : ℕ) → BarsTells (bars_of rssi)
  pub message_judge : (s : List ℕ) → WholeTells (whole_of s)
  pub message_write : (type transaction word : ℕ) (out : List ℕ) → WrittenTells (write_whole_of type transaction word out).answer
  pub message_cut : (m : MessageHeader) (size : ℕ) (information out : List ℕ) → CutTells (cut_of m size information out).answer
  pub payload_kind : (m : MessageHeader) → KindTells (shown_of m)
  pub assembly_empty : (memory : List ℕ) → VerdictTells (emptied memory).verdict
  pub receive : (memory piece : List ℕ) (room : ℕ) → ReceivedTells (receive_in memory piece room).received
  pub stream_reset : (memory assembly : List ℕ) → VerdictTells (stream.reset_in memory assembly).verdict
  pub stream_feed : (memory assembly chunk : List ℕ) (room : ℕ) → SaidTells (stream.feed_in memory assembly chunk room).fed.said (stream.feed_in memory assembly chunk room).fed.taken
  pub host_make : (memory : List ℕ) (native : ℕ) → VerdictTells (host.make_in memory native).verdict
  pub host_open : (memory : List ℕ) (advertised : ℕ) → HostTells (host.open_in memory advertised).answer
  pub host_close : (memory : List ℕ) → HostTells (host.close_in memory).answer
  pub host_next_command : (memory out : List ℕ) → AskTells (host.ask_in memory out).answer
  pub host_receive : (memory : List ℕ) (m : MessageHeader) (information : List ℕ) → HostTells (host.receive_in memory m information).answer
  pub modem_make : (memory : List ℕ) (native advertised : ℕ) (services : List ℕ) → VerdictTells (modem.make_in memory native advertised services).verdict
  -- both opening and closing
  pub modem_restart : (memory : List ℕ) → VerdictTells (modem.restart_in memory).verdict
  pub modem_receive : (memory : List ℕ) (m : MessageHeader) (information out : List ℕ) → ModemTells (modem.receive_in memory m information out).reply
  pub pin_make : (memory : List ℕ) (rows : List PinStart) → VerdictTells (pins.make_in memory rows).verdict
  pub pin_enter : (memory s : List ℕ) → EntryTells (pins.enter_in memory s).answer
  pub pin_receive : (memory table : List ℕ) (m : MessageHeader) (information out : List ℕ) → PinModemTells (pin_modem.receive_in memory table m information out).reply
