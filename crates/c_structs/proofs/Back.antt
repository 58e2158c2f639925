-- Plain members lose nothing: a record shown and given back at its version is the record, and its number is judged to be that version.
-- Assumes nothing.
use mathlib.Core.Path.{◌≡◌, refl}
use Rattle.protocol.specs.Verdict.{judge_from, first_of, fault_if}
use Rattle.protocol.specs.declared.Version.TheVariants.{V1, V2}
use Rattle.handshake.specs.Versions.{number_verdict, numbered}
use Rattle.packet_service.specs.PacketService.{version_in as packet_in}
use Rattle.packet_service.specs.declared.PacketForm.{PacketForm}
use Rattle.packet_service.specs.declared.PacketForm.TheVariants as packet
use Rattle.registration.specs.Registration.{version_in as registration_in}
use Rattle.registration.specs.declared.RegistrationForm.{RegistrationForm}
use Rattle.registration.specs.declared.RegistrationForm.TheVariants as registration
use Rattle.signal_state.specs.SignalState.{version_in as signal_in}
use Rattle.signal_state.specs.declared.SignalForm.{SignalForm}
use Rattle.signal_state.specs.declared.SignalForm.TheVariants as signal
use Rattle.c_structs.specs.Packets.{info_of as packet_info, record_of as packet_of, form_of as packet_form, highest_in, current_in, range_in}
use Rattle.c_structs.specs.Registrations.{info_of as registration_info, record_of as registration_of, form_of as registration_form, preferred_in}
use Rattle.c_structs.specs.Signals.{info_of as signal_info, record_of as signal_of, form_of as signal_form, count_in}
use Rattle.c_structs.specs.Claims.{PacketBack, RegistrationBack, SignalBack, NumberBack}

-- a version's number is judged to be that version
pub number_back : NumberBack
unfolding numbered number_verdict judge_from first_of fault_if
number_back V1 = refl
number_back V2 = refl

pub packet_back : PacketBack
unfolding packet_of packet_info
packet_back p = λ i. record {
  nw_error = p.nw_error;
  packet_service_state = p.packet_service_state;
  uplink_speed = p.uplink_speed;
  downlink_speed = p.downlink_speed;
  form = by_form p.form i;
}
  where
    by_form : (f : PacketForm) → packet_form (packet_in f) (highest_in f) (current_in f) (range_in f) ≡ f
    by_form (packet.V1 class) = refl
    by_form (packet.V2 class range) = refl

pub registration_back : RegistrationBack
unfolding registration_of registration_info
registration_back p = λ i. record {
  nw_error = p.nw_error;
  register_state = p.register_state;
  register_mode = p.register_mode;
  available_data_class = p.available_data_class;
  cellular_class = p.cellular_class;
  registration_flag = p.registration_flag;
  form = by_form p.form i;
}
  where
    by_form : (f : RegistrationForm) → registration_form (registration_in f) (preferred_in f) ≡ f
    by_form registration.V1 = refl
    by_form (registration.V2 class) = refl

pub signal_back : SignalBack
unfolding signal_of signal_info
signal_back p es = λ i. record {
  rssi = p.rssi;
  error_rate = p.error_rate;
  signal_strength_interval = p.signal_strength_interval;
  rssi_threshold = p.rssi_threshold;
  error_rate_threshold = p.error_rate_threshold;
  form = by_form p.form i;
}
  where
    by_form : (f : SignalForm) → signal_form (signal_in f) (count_in f) ≡ f
    by_form signal.V1 = refl
    by_form (signal.V2 n) = refl
