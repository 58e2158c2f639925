-- What was written reads back: of n bytes at the front of an output, the reader shows the record, at its version where it has two forms, and by either choice.
use Rattle.std.specs.Prelude.{ℕ, ◌≡◌, List, take, Ok, Err}
use Rattle.packet_service.specs.PacketService as packet
use Rattle.packet_service.specs.declared.PacketService.{PacketService}
use Rattle.pairs.specs.declared.ZeroSize.{ZeroSize}
use Rattle.registration.specs.Claims.{Returned}
use Rattle.registration.specs.declared.Registration.{Registration}
use Rattle.signal_state.specs.SignalState as signal
use Rattle.signal_state.specs.Claims.{kept_in}
use Rattle.signal_state.specs.declared.RsrpSnr.{RsrpSnr}
use Rattle.signal_state.specs.declared.SignalState.{SignalState}
use Rattle.pin.specs.SetPinClaims.{Returned as SetPinReturned}
use Rattle.pin.specs.declared.set_pin.SetPin.{SetPin}
use Rattle.pin.specs.PinInfo as pin_info
use Rattle.pin.specs.declared.pin_info.PinInfo.{PinInfo}
use Rattle.protocol.specs.Verdict.{Written}

abbrev pub PacketBack : Written → PacketService → List ℕ → Type 0
PacketBack (Ok n) p s = packet.read_of (packet.version_of p) (take n s) ≡ Ok p
PacketBack (Err r) p s = Unit

-- with its three texts
abbrev pub RegistrationBack : Written → Registration → List ℕ → List ℕ → List ℕ → List ℕ → Type 0
RegistrationBack (Ok n) p x y z s = (choice : ZeroSize) → Returned choice p x y z (take n s)
RegistrationBack (Err r) p x y z s = Unit

-- with its entries, zero past the count
abbrev pub SignalBack : Written → SignalState → List RsrpSnr → List ℕ → Type 0
SignalBack (Ok n) p es s =
    (choice : ZeroSize) → signal.read_with (signal.version_of p) choice (take n s) ≡ record { answer = Ok p; entries = kept_in p.form es }
SignalBack (Err r) p es s = Unit

-- with its two texts
abbrev pub SetPinBack : Written → SetPin → List ℕ → List ℕ → List ℕ → Type 0
SetPinBack (Ok n) p x y s = (choice : ZeroSize) → SetPinReturned choice p x y (take n s)
SetPinBack (Err r) p x y s = Unit

abbrev pub PinInfoBack : Written → PinInfo → List ℕ → Type 0
PinInfoBack (Ok n) i s = pin_info.read_of (take n s) ≡ Ok i
PinInfoBack (Err r) i s = Unit
