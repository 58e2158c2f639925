-- No reason has the number 0, so the number of an answer is 0 exactly where it is no refusal: by the cases of each answer's type.
-- Assumes nothing.
use Rattle.std.proofs.Common.{◌≡◌, ℕ, false, refl}
use Rattle.std.specs.Prelude.{eqb, Result, Ok, Err, Some, None, true}
use Rattle.protocol.specs.Refusal.{number_of}
use Rattle.protocol.specs.Verdict.{Verdict, Written}
use Rattle.protocol.specs.declared.Refusal.{Refusal}
use Rattle.protocol.specs.declared.Reason.{Reason}
use Rattle.protocol.specs.declared.Reason.TheVariants.{TooShort, WrongLength, Unknown, WrongFragment, TooLong, OffsetInFixedPart, PastEnd, WrongSize, OutsideTable, Contradiction, OutputTooSmall, WrongVersion, AboveHost, VersionNotListed, WrongCount, WrongTransferSize, MisalignedOffset, OffsetWithZeroSize, BadLine}
use Rattle.version_info.specs.VersionInfo.{VersionInfoRead}
use Rattle.packet_service.specs.PacketService.{PacketServiceRead}
use Rattle.registration.specs.Registration.{RegistrationRead}
use Rattle.signal_state.specs.SignalState.{SignalStateRead}
use Rattle.signal_state.specs.declared.SignalStateShown.{SignalStateShown}
use Rattle.device_services.specs.DeviceServices.{DeviceServicesRead}
use Rattle.services_query.specs.ServicesQuery.{ElementAnswer, ListedAnswer}
use Rattle.services_query.specs.declared.all.AllListed.{AllListed}
use Rattle.services_ask.specs.ServicesAsk.{PositionAnswer}
use Rattle.pin.specs.SetPin.{SetPinRead}
use Rattle.pin.specs.PinInfo.{PinInfoRead}
use Rattle.signal_quality.specs.Bars.{Bars}
use Rattle.signal_quality.specs.Decibels.{ReadingRead}
use Rattle.signal_quality.specs.declared.Reading.TheVariants.{Dbm, Db, BelowRange, Unknown as UnknownReading}
use Rattle.message.specs.declared.Whole.{Whole}
use Rattle.cutter.specs.declared.Fragments.{Fragments}
use Rattle.payload.specs.Payload.{Shown}
use Rattle.assembler.specs.declared.door.Received.{Received}
use Rattle.assembler.specs.declared.door.Received.TheVariants as received
use Rattle.stream.specs.declared.Said.{Said}
use Rattle.stream.specs.declared.Said.TheVariants as said
use Rattle.host.specs.declared.HostAnswer.{HostAnswer}
use Rattle.host.specs.declared.HostAnswer.TheVariants as host
use Rattle.host.specs.declared.Ask.{Ask}
use Rattle.host.specs.declared.Ask.TheVariants as ask
use Rattle.modem.specs.declared.ModemAnswer.{ModemAnswer}
use Rattle.modem.specs.declared.ModemAnswer.TheVariants as modem
use Rattle.modem.specs.declared.ModemStage.{ModemStage}
use Rattle.pin_entry.specs.declared.PinAnswer.{PinAnswer}
use Rattle.pin_entry.specs.declared.PinAnswer.TheVariants as entry
use Rattle.pin_modem.specs.declared.PinModemAnswer.{PinModemAnswer}
use Rattle.pin_modem.specs.declared.PinModemAnswer.TheVariants as pin_modem
use Rattle.lent_modem.specs.declared.ModemReply.{ModemReply}
use Rattle.lent_pins.specs.declared.modems.PinReply.{PinReply}
use Rattle.c_structs.specs.Answers.{written_answer}
use Rattle.c_structs.specs.Versions.{answer_of as version_answer}
use Rattle.c_structs.specs.Packets.{answer_of as packet_answer}
use Rattle.c_structs.specs.Registrations.{answer_of as registration_answer}
use Rattle.c_structs.specs.Signals.{answer_by as signal_answer}
use Rattle.c_structs.specs.Services.{answer_of as services_answer, element_info, listed_info, position_info, all_info}
use Rattle.c_structs.specs.Quality.{reading_info, shown, bars_info}
use Rattle.c_structs.specs.Messages.{whole_info, cut_info, kind_info, receive_info}
use Rattle.c_structs.specs.Streams.{stream_info}
use Rattle.c_structs.specs.Ends.{host_info, ask_info, modem_info}
use Rattle.c_structs.specs.Pins.{set_pin_answer, pin_info_answer, entry_answer, pin_modem_info}
use Rattle.c_claims.specs.Refused.{is_refused}
use Rattle.c_claims.specs.NumberZero.{Tells, VerdictTells, WrittenTells, VersionTells, PacketTells, RegistrationTells, SignalTells, ServicesTells, ElementTells, ListedTells, PositionTells, AllTells, SetPinTells, PinInfoTells, ReadingTells, BarsTells, WholeTells, CutTells, KindTells, ReceivedTells, SaidTells, HostTells, AskTells, ModemTells, EntryTells, PinModemTells}

-- no reason has the number 0
numbered : (r : Reason) → eqb (number_of r) 0 ≡ false
unfolding number_of
numbered TooShort = refl
numbered WrongLength = refl
numbered Unknown = refl
numbered WrongFragment = refl
numbered TooLong = refl
numbered OffsetInFixedPart = refl
numbered PastEnd = refl
numbered WrongSize = refl
numbered OutsideTable = refl
numbered Contradiction = refl
numbered OutputTooSmall = refl
numbered WrongVersion = refl
numbered AboveHost = refl
numbered VersionNotListed = refl
numbered WrongCount = refl
numbered WrongTransferSize = refl
numbered MisalignedOffset = refl
numbered OffsetWithZeroSize = refl
numbered BadLine = refl

pub verdict_told : (a : Verdict) → VerdictTells a
verdict_told (Ok _) = refl
verdict_told (Err r) = numbered r.reason

pub written_told : (a : Written) → WrittenTells a
unfolding written_answer
written_told (Ok n) = refl
written_told (Err r) = numbered r.reason

-- ---- payloads

pub version_told : (a : VersionInfoRead) → VersionTells a
unfolding version_answer
version_told (Ok i) = refl
version_told (Err r) = numbered r.reason

pub packet_told : (a : PacketServiceRead) → PacketTells a
unfolding packet_answer
packet_told (Ok p) = refl
packet_told (Err r) = numbered r.reason

pub registration_told : (a : RegistrationRead) → RegistrationTells a
unfolding registration_answer
registration_told (Ok (p, t)) = refl
registration_told (Err r) = numbered r.reason

pub signal_told : (a : SignalStateShown) → SignalTells a
unfolding signal_answer
signal_told a = by_answer a.answer
  where
    by_answer : (x : SignalStateRead) → Tells (signal_answer x a.entries).refusal.number (is_refused x)
    by_answer (Ok p) = refl
    by_answer (Err r) = numbered r.reason

pub services_told : (a : DeviceServicesRead) → ServicesTells a
unfolding services_answer
services_told (Ok i) = refl
services_told (Err r) = numbered r.reason

pub element_told : (a : ElementAnswer) → ElementTells a
unfolding element_info
element_told (Ok (Some e)) = refl
element_told (Ok None) = refl
element_told (Err r) = numbered r.reason

pub listed_told : (a : ListedAnswer) → ListedTells a
unfolding listed_info
listed_told (Ok true) = refl
listed_told (Ok false) = refl
listed_told (Err r) = numbered r.reason

pub position_told : (a : PositionAnswer) → PositionTells a
unfolding position_info
position_told (Ok (Some p)) = refl
position_told (Ok None) = refl
position_told (Err r) = numbered r.reason

pub all_told : (a : (Result AllListed Refusal)) → AllTells a
unfolding all_info
all_told (Ok listed) = refl
all_told (Err r) = numbered r.reason

pub set_pin_told : (a : SetPinRead) → SetPinTells a
unfolding set_pin_answer
set_pin_told (Ok (p, t)) = refl
set_pin_told (Err r) = numbered r.reason

pub pin_info_told : (a : PinInfoRead) → PinInfoTells a
unfolding pin_info_answer
pin_info_told (Ok i) = refl
pin_info_told (Err r) = numbered r.reason

pub reading_told : (a : ReadingRead) → ReadingTells a
unfolding reading_info shown
reading_told (Ok (Dbm x)) = refl
reading_told (Ok (Db x)) = refl
reading_told (Ok (BelowRange x)) = refl
reading_told (Ok UnknownReading) = refl
reading_told (Err r) = numbered r.reason

pub bars_told : (a : Bars) → BarsTells a
unfolding bars_info
bars_told (Ok (Some n)) = refl
bars_told (Ok None) = refl
bars_told (Err r) = numbered r.reason

-- ---- messages

pub whole_told : (a : (Result Whole Refusal)) → WholeTells a
unfolding whole_info
whole_told (Ok message) = refl
whole_told (Err r) = numbered r.reason

pub cut_told : (a : (Result Fragments Refusal)) → CutTells a
unfolding cut_info
cut_told (Ok cut) = refl
cut_told (Err r) = numbered r.reason

pub kind_told : (a : Shown) → KindTells a
unfolding kind_info
kind_told (Ok (Some k)) = refl
kind_told (Ok None) = refl
kind_told (Err r) = numbered r.reason

pub received_told : (a : (Result Received Refusal)) → ReceivedTells a
unfolding receive_info
received_told (Ok (received.Whole type transaction word)) = refl
received_told (Ok (received.Pending type transaction dropped)) = refl
received_told (Ok (received.Complete m n dropped)) = refl
received_told (Err r) = numbered r.reason

pub said_told : (a : Said) (n : ℕ) → SaidTells a n
unfolding stream_info receive_info
said_told said.Nothing n = refl
said_told (said.Piece x) n = received_told x
said_told (said.Ended r) n = numbered r.reason
said_told (said.Refused r) n = numbered r.reason

-- ---- the ends

pub host_told : (a : (Result HostAnswer Refusal)) → HostTells a
unfolding host_info
host_told (Ok host.Unchanged) = refl
host_told (Ok host.Opened) = refl
host_told (Ok host.AsksVersion) = refl
host_told (Ok (host.Settled v)) = refl
host_told (Err r) = numbered r.reason

pub ask_told : (a : (Result Ask Refusal)) → AskTells a
unfolding ask_info
ask_told (Ok ask.Nothing) = refl
ask_told (Ok ask.Services) = refl
ask_told (Ok (ask.Version n)) = refl
ask_told (Ok (ask.Free v)) = refl
ask_told (Err r) = numbered r.reason

modem_by : (x : Result ModemAnswer Refusal) (g : ModemStage) → Tells (modem_info x g).refusal.number (is_refused x)
unfolding modem_info
modem_by (Ok (modem.Serve k)) g = refl
modem_by (Ok (modem.Version n)) g = refl
modem_by (Ok (modem.Failed status)) g = refl
modem_by (Ok (modem.Unknown place)) g = refl
modem_by (Err r) g = numbered r.reason

pub modem_told : (a : ModemReply) → ModemTells a
modem_told a = modem_by a.answer a.stage

-- ---- PINs

pub entry_told : (a : (Result PinAnswer Refusal)) → EntryTells a
unfolding entry_answer
entry_told (Ok (entry.Info status i)) = refl
entry_told (Ok (entry.Failed status)) = refl
entry_told (Err r) = numbered r.reason

pub pin_modem_told : (a : PinReply) → PinModemTells a
unfolding pin_modem_info
pin_modem_told a = by_answer a.answer
  where
    by_answer : (x : Result PinModemAnswer Refusal) → Tells (pin_modem_info x a.stage).refusal.number (is_refused x)
    by_answer (Ok (pin_modem.Modem y)) = modem_by (Ok y) a.stage
    by_answer (Ok (pin_modem.Pin status n)) = refl
    by_answer (Err r) = modem_by (Err r) a.stage
