-- A record that a program holds has numbers of their width: laws of the types' own values.
-- Assumes nothing.
use Prim.Native.Nat.{zero, suc}
use mathlib.Core.List.{List, [], ◌∷◌}
use native.Mathlib.Omega.{arith}
use mir.Val.{Val}
use denote.Array.{each}
use denote.Shadow.{shadow}
use denote.Struct.Declared.{field}
use denote.Enum.Declared.{field as enum}
use borrow.Kind.Array.{e_struct}
use Rattle.packet_service.specs.contracts.PacketForm as PacketForms
use Rattle.packet_service.specs.contracts.PacketService as Packets
use Rattle.packet_service.specs.declared.PacketForm.{PacketForm}
use Rattle.packet_service.specs.declared.PacketForm.TheVariants as packet
use Rattle.packet_service.specs.declared.PacketService.{PacketService}
use Rattle.packet_service.specs.Claims.{FormOfWidth as PacketFormOfWidth, OfWidth as PacketOfWidth}
use Rattle.registration.specs.contracts.RegistrationForm as RegistrationForms
use Rattle.registration.specs.contracts.Registration as Registrations
use Rattle.registration.specs.declared.RegistrationForm.{RegistrationForm}
use Rattle.registration.specs.declared.RegistrationForm.TheVariants as registration
use Rattle.registration.specs.declared.Registration.{Registration}
use Rattle.registration.specs.Claims.{FormOfWidth as RegistrationFormOfWidth, OfWidth as RegistrationOfWidth}
use Rattle.signal_state.specs.contracts.RsrpSnr as Entries
use Rattle.signal_state.proofs.RsrpSnr.TheLaws.{the_laws, the_copy}
use Rattle.signal_state.specs.contracts.SignalState as Signals
use Rattle.signal_state.specs.declared.RsrpSnr.{RsrpSnr}
use Rattle.signal_state.specs.declared.SignalState.{SignalState}
use Rattle.signal_state.specs.Claims.{OfWidth as SignalOfWidth, EntryOfWidth, EntriesOfWidth}
use Rattle.pin.specs.contracts.set_pin.SetPin as SetPins
use Rattle.pin.specs.declared.set_pin.SetPin.{SetPin}
use Rattle.pin.specs.SetPinClaims.{OfWidth as SetPinOfWidth}
use Rattle.pin.specs.contracts.pin_info.PinInfo as PinInfos
use Rattle.pin.specs.declared.pin_info.PinInfo.{PinInfo}
use Rattle.pin.specs.PinInfoClaims.{OfWidth as PinInfoOfWidth}

packet_form : (f : PacketForm) (vs : List Val) → shadow ((enum PacketForms.the_type).row.own_val ((PacketForms.the_type).to f) vs) → PacketFormOfWidth f
packet_form (packet.V1 class) vs p = omega (arith, p)
packet_form (packet.V2 class range) vs p = (omega (arith, p), omega (arith, p))

pub packet_of_width : (p : PacketService) (vs : List Val) → shadow ((field Packets.the_type).row.own_val ((Packets.the_type).to p) vs) → PacketOfWidth p
packet_of_width p vs w = record {
  error = omega (arith, w.1.1);
  state = omega (arith, w.1.1);
  up = omega (arith, w.1.1);
  down = omega (arith, w.1.1);
  form = packet_form p.form _ w.1.1.1.1.1.1.0;
}

registration_form : (f : RegistrationForm) (vs : List Val) → shadow ((enum RegistrationForms.the_type).row.own_val ((RegistrationForms.the_type).to f) vs)
    → RegistrationFormOfWidth f
registration_form registration.V1 vs p = tt
registration_form (registration.V2 class) vs p = omega (arith, p)

pub registration_of_width : (p : Registration) (vs : List Val) → shadow ((field Registrations.the_type).row.own_val ((Registrations.the_type).to p) vs) → RegistrationOfWidth p
registration_of_width p vs w = record {
  error = omega (arith, w.1.1);
  state = omega (arith, w.1.1);
  mode = omega (arith, w.1.1);
  available = omega (arith, w.1.1);
  cellular = omega (arith, w.1.1);
  flag = omega (arith, w.1.1);
  form = registration_form p.form _ w.1.1.1.1.1.1.1.1.0;
}

pub signal_of_width : (p : SignalState) (vs : List Val) → shadow ((field Signals.the_type).row.own_val ((Signals.the_type).to p) vs) → SignalOfWidth p
signal_of_width p vs w = record {
  rssi = omega (arith, w.1.1);
  rate = omega (arith, w.1.1);
  interval = omega (arith, w.1.1);
  strength = omega (arith, w.1.1);
  errors = omega (arith, w.1.1);
}

entry_of_width : (e : RsrpSnr) (vs : List Val) → shadow ((field Entries.the_type).row.own_val ((Entries.the_type).to e) vs) → EntryOfWidth e
entry_of_width e vs w = record {
  rsrp = omega (arith, w.1.1);
  snr = omega (arith, w.1.1);
  strength = omega (arith, w.1.1);
  ratio = omega (arith, w.1.1);
  system = omega (arith, w.1.1);
}

-- of an array, whatever its length: there is no entry past its end, and zeros stand for it
pub entries_of_width : (es : List RsrpSnr) (us : List Val)
    → shadow (each (e_struct Entries.the_type the_laws the_copy).ty.Denot (e_struct Entries.the_type the_laws the_copy).ty.own_val es us) → EntriesOfWidth es
entries_of_width [] us w i = record { rsrp = omega arith; snr = omega arith; strength = omega arith; ratio = omega arith; system = omega arith }
entries_of_width (e ∷ es) [] w i = absurd w
entries_of_width (e ∷ es) (u ∷ us) w zero = entry_of_width e (u ∷ []) w.0
entries_of_width (e ∷ es) (u ∷ us) w (suc i) = entries_of_width es us w.1 i

pub set_pin_of_width : (p : SetPin) (vs : List Val) → shadow ((field SetPins.the_type).row.own_val ((SetPins.the_type).to p) vs) → SetPinOfWidth p
set_pin_of_width p vs w = record { type = omega (arith, w.1.1); operation = omega (arith, w.1.1) }

pub pin_info_of_width : (i : PinInfo) (vs : List Val) → shadow ((field PinInfos.the_type).row.own_val ((PinInfos.the_type).to i) vs) → PinInfoOfWidth i
pin_info_of_width i vs w = record { type = omega (arith, w.1.1); state = omega (arith, w.1.1); attempts = omega (arith, w.1.1) }
