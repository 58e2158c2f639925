-- What is claimed of the structs: nothing is lost between a record and its plain members.
use Rattle.packet_service.specs.declared.PacketService.{PacketService}
use Rattle.std.specs.Prelude.{◌≡◌, List}
use Rattle.c_structs.specs.Packets.{info_of as packet_info, record_of as packet_of}
use Rattle.packet_service.specs.PacketService.{version_of as packet_version}
use Rattle.registration.specs.declared.Registration.{Registration}
use Rattle.c_structs.specs.Registrations.{info_of as registration_info, record_of as registration_of}
use Rattle.registration.specs.Registration.{version_of as registration_version}
use Rattle.signal_state.specs.declared.RsrpSnr.{RsrpSnr}
use Rattle.signal_state.specs.declared.SignalState.{SignalState}
use Rattle.c_structs.specs.Signals.{info_of as signal_info, record_of as signal_of}
use Rattle.signal_state.specs.SignalState.{version_of as signal_version}
use Rattle.protocol.specs.declared.Version.{Version}
use Rattle.handshake.specs.Versions.{number_of, numbered}
use Rattle.std.specs.Prelude.{Ok}

abbrev pub PacketBack : Type 0
PacketBack = (p : PacketService) → packet_of (packet_version p) (packet_info p) ≡ p

abbrev pub RegistrationBack : Type 0
RegistrationBack = (p : Registration) → registration_of (registration_version p) (registration_info p) ≡ p

abbrev pub SignalBack : Type 0
SignalBack = (p : SignalState) (es : List RsrpSnr) → signal_of (signal_version p) (signal_info p es) ≡ p

-- a version's number is judged to be that version
abbrev pub NumberBack : Type 0
NumberBack = (v : Version) → numbered (number_of v) ≡ Ok v
