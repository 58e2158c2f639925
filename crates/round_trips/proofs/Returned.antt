-- What a writer accepts reads back, and a refusal says nothing of its output.
-- Assumes nothing.
use Prim.Native.Nat.{ℕ}
use mathlib.Core.Path.{◌≡◌, sym}
use mathlib.Core.List.{List}
use Rattle.packet_service.specs.PacketService as packet
use Rattle.packet_service.specs.Claims.{OfWidth as PacketOfWidth}
use Rattle.packet_service.specs.declared.PacketService.{PacketService}
use Rattle.packet_service.proofs.RoundTrip as packet_trip
use Rattle.registration.specs.Registration as registration
use Rattle.registration.specs.Claims.{OfWidth as RegistrationOfWidth}
use Rattle.registration.specs.declared.Registration.{Registration}
use Rattle.registration.proofs.RoundTrip as registration_trip
use Rattle.signal_state.specs.SignalState as signal
use Rattle.signal_state.specs.Claims.{OfWidth as SignalOfWidth, EntriesOfWidth}
use Rattle.signal_state.specs.declared.RsrpSnr.{RsrpSnr}
use Rattle.signal_state.specs.declared.SignalState.{SignalState}
use Rattle.signal_state.proofs.RoundTrip as signal_trip
use Rattle.pin.specs.SetPin as set_pin
use Rattle.pin.specs.SetPinClaims.{OfWidth as SetPinOfWidth}
use Rattle.pin.specs.declared.set_pin.SetPin.{SetPin}
use Rattle.pin.proofs.SetPinTrip as set_pin_trip
use Rattle.pin.specs.PinInfo as pin_info
use Rattle.pin.specs.PinInfoClaims.{OfWidth as PinInfoOfWidth}
use Rattle.pin.specs.declared.pin_info.PinInfo.{PinInfo}
use Rattle.pin.proofs.PinInfoLaws as pin_info_laws
use Rattle.round_trips.specs.Back.{PacketBack, RegistrationBack, SignalBack, SetPinBack, PinInfoBack}
use Rattle.std.specs.Prelude.{Ok, Err}
use Rattle.protocol.specs.Verdict.{Written}

pub packet_returned : (p : PacketService) → PacketOfWidth p → (s : List ℕ) (a : Written) (out : List ℕ) → a ≡ (packet.write_of p s).answer → out ≡ (packet.write_of p s).output
    → PacketBack a p out
packet_returned p z s (Ok n) out e q = rw q (packet_trip.round_trip p s n z (sym e))
packet_returned p z s (Err r) out e q = tt

pub registration_returned : (p : Registration) (x y z : List ℕ) → RegistrationOfWidth p → (s : List ℕ) (a : Written) (out : List ℕ)
    → a ≡ (registration.write_of p x y z s).answer → out ≡ (registration.write_of p x y z s).output → RegistrationBack a p x y z out
registration_returned p x y z w s (Ok n) out e q = λ choice. rw q (registration_trip.round_trip choice p x y z s n w (sym e))
registration_returned p x y z w s (Err r) out e q = tt

pub signal_returned : (p : SignalState) (es : List RsrpSnr) → SignalOfWidth p → EntriesOfWidth es → (s : List ℕ) (a : Written) (out : List ℕ)
    → a ≡ (signal.write_of p es s).answer → out ≡ (signal.write_of p es s).output → SignalBack a p es out
signal_returned p es z zs s (Ok n) out e q = λ choice. rw q (signal_trip.round_trip choice p es z zs s n (sym e))
signal_returned p es z zs s (Err r) out e q = tt

pub set_pin_returned : (p : SetPin) (x y : List ℕ) → SetPinOfWidth p → (s : List ℕ) (a : Written) (out : List ℕ)
    → a ≡ (set_pin.write_of p x y s).answer → out ≡ (set_pin.write_of p x y s).output → SetPinBack a p x y out
set_pin_returned p x y w s (Ok n) out e q = λ choice. rw q (set_pin_trip.round_trip choice p x y s n w (sym e))
set_pin_returned p x y w s (Err r) out e q = tt

pub pin_info_returned : (i : PinInfo) → PinInfoOfWidth i → (s : List ℕ) (a : Written) (out : List ℕ) → a ≡ (pin_info.write_of i s).answer → out ≡ (pin_info.write_of i s).output
    → PinInfoBack a i out
pin_info_returned i w s (Ok n) out e q = rw q (pin_info_laws.round_trip i s n w (sym e))
pin_info_returned i w s (Err r) out e q = tt
