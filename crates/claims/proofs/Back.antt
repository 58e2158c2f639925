-- What a writer gives reads back at either version and by either choice, and is no longer than a message can carry.
-- Assumes nothing.
use mathlib.Core.Path.{◌≡◌, refl, sym, ap, ◌∙◌}
use mathlib.Core.List.{List}
use Prim.Native.Nat.{ℕ, ◌+◌, ◌≤◌}
use native.Mathlib.Omega.{arith}
use lib.ListN.{length, take}
use Rattle.protocol.specs.declared.Version.{Version}
use Rattle.protocol.specs.declared.Version.TheVariants.{V1, V2}
use Rattle.protocol.proofs.Verdicts.{written_front, written_fits}
use Rattle.packet_service.specs.PacketService as packet
use Rattle.packet_service.specs.Claims.{OfWidth as PacketOfWidth}
use Rattle.packet_service.specs.declared.PacketService.{PacketService}
use Rattle.packet_service.proofs.RoundTrip as packet_trip
use Rattle.packet_service.proofs.OtherVersion as packet_other
use Rattle.packet_service.proofs.Laws as packet_laws
use Rattle.version_info.proofs.RoundTrip as version_trip
use Rattle.version_info.proofs.Acceptance as version_accepted
use Rattle.registration.specs.Registration as registration
use Rattle.pairs.specs.Pair.{by_default}
use Rattle.pairs.specs.declared.ZeroSize.{ZeroSize}
use Rattle.registration.specs.Claims.{Returned}
use Rattle.registration.specs.Claims.{OfWidth as RegistrationOfWidth}
use Rattle.registration.specs.declared.Registration.{Registration}
use Rattle.registration.proofs.RoundTrip as registration_trip
use Rattle.registration.proofs.OtherVersion as registration_other
use Rattle.registration.proofs.Acceptance as registration_accepted
use Rattle.signal_state.specs.SignalState as signal
use Rattle.signal_state.specs.Claims.{EntriesOfWidth}
use Rattle.signal_state.specs.Claims.{OfWidth as SignalOfWidth, Acceptable as SignalAcceptable}
use Rattle.registration.specs.Registration.{write_of as registration_write}
use Rattle.packet_service.specs.PacketService.{write_of as packet_write}
use Rattle.signal_state.specs.SignalState.{write_of as signal_write}
use Rattle.services_trip.specs.ServicesTrip.{head_of}
use Rattle.signal_state.specs.declared.RsrpSnr.{RsrpSnr}
use Rattle.signal_state.specs.declared.SignalForm.{SignalForm}
use Rattle.signal_state.specs.declared.SignalForm.TheVariants.{V1 as Form1, V2 as Form2}
use Rattle.signal_state.specs.declared.SignalState.{SignalState}
use Rattle.signal_state.proofs.RoundTrip as signal_trip
use Rattle.signal_state.proofs.OtherVersion as signal_other
use Rattle.signal_state.proofs.Laws as signal_laws
use Rattle.signal_state.proofs.Acceptance as signal_accepted
use Rattle.pin.proofs.SetPinTrip as set_pin_trip
use Rattle.pin.proofs.SetPinLaws as set_pin_laws
use Rattle.pin.proofs.PinInfoLaws as pin_info_laws
use Rattle.services_trip.proofs.RoundTrip as services_trip
use Rattle.device_services.proofs.Acceptance as services_accepted
use Rattle.claims.specs.Transfer.{Record, register_state, packet_service, signal_state, device_services, version_info, set_pin, pin_info, write_of, OfWidth, RegisterStateBack, PacketServiceBack, SignalStateBack, ReadsBack}
use Rattle.std.specs.Prelude.{Ok}
use Rattle.protocol.specs.Verdict.{no_fault}

-- ---- the bytes of each payload

packet_service_back : (p : PacketService) → PacketOfWidth p → packet.verdict_of p ≡ no_fault → (w v : Version) → packet.version_of p ≡ w → PacketServiceBack w v p (packet.bytes_of p)
unfolding PacketServiceBack
packet_service_back p z f V1 V1 e = rw e at (packet_trip.bytes_read p z f)
packet_service_back p z f V2 V2 e = rw e at (packet_trip.bytes_read p z f)
packet_service_back p z f V2 V1 e = packet_other.later_read_earlier p e
packet_service_back p z f V1 V2 e = packet_other.earlier_read_later p e

register_state_back : (choice : ZeroSize) (p : Registration) (x y z : List ℕ) → RegistrationOfWidth p → registration.written_verdict p (length x) (length y) (length z) ≡ no_fault
    → Returned choice p x y z (registration.bytes_of p x y z) → (w v : Version) → registration.version_of p ≡ w → RegisterStateBack w v choice p x y z (registration.bytes_of p x y z)
unfolding RegisterStateBack
register_state_back choice p x y z s f b V1 V1 e = b
register_state_back choice p x y z s f b V2 V2 e = b
register_state_back choice p x y z s f b V2 V1 e =
    let t = registration_trip.texts_read p x y z f in
    (registration.laid_for p x y z, (registration_other.later_read_earlier choice p x y z e s f, t))
register_state_back choice p x y z s f b V1 V2 e = registration_other.earlier_read_later choice p x y z e s f

signal_state_back : (choice : ZeroSize) (p : SignalState) (es : List RsrpSnr) → SignalOfWidth p → EntriesOfWidth es → signal.written_verdict p es ≡ no_fault → (g : SignalForm) (v : Version) → p.form ≡ g
    → SignalStateBack (signal.version_in g) v choice p es (signal.bytes_of p es)
unfolding SignalStateBack
signal_state_back choice p es z zs f Form1 V1 e =
    ap (λ (g : SignalForm). signal.read_with (signal.version_in g) choice (signal.bytes_of p es)) (sym e) ∙ signal_trip.bytes_read choice p es z zs f
signal_state_back choice p es z zs f Form1 V2 e = signal_other.earlier_read_later choice p es e
signal_state_back choice p es z zs f (Form2 n) V2 e =
    ap (λ (g : SignalForm). signal.read_with (signal.version_in g) choice (signal.bytes_of p es)) (sym e) ∙ signal_trip.bytes_read choice p es z zs f
signal_state_back choice p es z zs f (Form2 n) V1 e =
    let l : length (signal.bytes_of p es) ≡ 28 + signal.size_of n = ap (λ (g : SignalForm). length (signal.bytes_in g p (signal.entry_in es))) e ∙ signal_laws.length_listed p n (signal.entry_in es) in
    rw l (signal_other.later_read_earlier choice p es n e)

-- ---- what a writer puts into an output

pub reads_back : (r : Record) → OfWidth r → (out : List ℕ) (n : ℕ) → (write_of r out).answer ≡ Ok n → (v : Version) (choice : ZeroSize)
    → ReadsBack r v choice (take n (write_of r out).output)
unfolding OfWidth write_of ReadsBack registration_write packet_write signal_write
reads_back (register_state p x y z) s out n e v choice =
    let d = registration.written_verdict p (length x) (length y) (length z) in
    let b = registration.bytes_of p x y z in
    let front : take n (registration_write p x y z out).output ≡ b = written_front d b out n e in
    rw front (register_state_back choice p x y z s (written_fits d b out n e) (rw front at (registration_trip.round_trip choice p x y z out n s e)) (registration.version_of p) v refl)
reads_back (packet_service p) s out n e v choice =
    let d = packet.verdict_of p in
    let b = packet.bytes_of p in
    rw (written_front d b out n e) (packet_service_back p s (written_fits d b out n e) (packet.version_of p) v refl)
reads_back (signal_state p es) s out n e v choice =
    let d = signal.written_verdict p es in
    let b = signal.bytes_of p es in
    rw (written_front d b out n e) (signal_state_back choice p es s.0 s.1 (written_fits d b out n e) p.form v refl)
reads_back (device_services p) s out n e v choice = services_trip.round_trip choice p out n s e
reads_back (version_info i) s out n e v choice = version_trip.round_trip i out n e
reads_back (set_pin p x y) s out n e v choice = set_pin_trip.round_trip choice p x y out n s e
reads_back (pin_info i) s out n e v choice = pin_info_laws.round_trip i out n s e

-- ---- and it is no longer than a message can carry

packet_few : (v : Version) → packet.length_of v ≤ 4096
packet_few V1 = omega arith
packet_few V2 = omega arith

signal_few : (v : Version) (s : List ℕ) → SignalAcceptable v by_default s → length s ≤ 4096
signal_few V1 s a = omega (arith, a.form)
signal_few V2 s a = a.form.1.0

pub few : (r : Record) → OfWidth r → (out : List ℕ) (n : ℕ) → (write_of r out).answer ≡ Ok n → length (take n (write_of r out).output) ≤ 4096
unfolding OfWidth write_of packet_write
few (register_state p x y z) s out n e =
    let b = registration_trip.round_trip by_default p x y z out n s e in
    (registration_accepted.accepted (registration.version_of p) by_default _ p b.texts b.read).0.most
few (packet_service p) s out n e =
    rw (written_front (packet.verdict_of p) (packet.bytes_of p) out n e) (omega (arith, packet_laws.length_bytes p, packet_few (packet.version_of p)))
few (signal_state p es) s out n e =
    signal_few (signal.version_of p) _ (signal_accepted.accepted (signal.version_of p) by_default _ p _ (signal_trip.round_trip by_default p es s.0 s.1 out n e)).0
few (device_services p) s out n e = (services_accepted.accepted by_default _ (head_of p) (services_trip.round_trip by_default p out n s e).read).0.most
few (version_info i) s out n e = omega (arith, (version_accepted.accepted _ i (version_trip.round_trip i out n e)).0.long)
few (set_pin p x y) s out n e =
    let b = set_pin_trip.round_trip by_default p x y out n s e in
    (set_pin_laws.accepted by_default _ p b.texts b.read).0.most
few (pin_info i) s out n e = omega (arith, (pin_info_laws.accepted _ i (pin_info_laws.round_trip i out n s e)).0.long)
