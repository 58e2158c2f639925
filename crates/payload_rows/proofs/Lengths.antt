-- How long the rows of a payload are at most: those of an accepted one by its limits, a refused one's by its line.
-- Assumes nothing.
use mathlib.Core.Path.{◌≡◌, refl}
use mathlib.Core.List.{List}
use Prim.Native.Nat.{ℕ, ◌≤◌}
use native.Mathlib.Omega.{arith}
use lib.ListN.{length, drop, length-append, length-take}
use Rattle.ascii.specs.Ascii.{ascii}
use Rattle.protocol.specs.declared.Version.{Version}
use Rattle.rows.specs.Rows.{header, text_row}
use Rattle.rows.proofs.Lengths.{row_le, text_le, refused_le}
use Rattle.pairs.specs.Claims.{shown_in}
use Rattle.pairs.specs.declared.Range.{Range}
use Rattle.packet_service.specs.PacketService.{read_of as packet_read}
use Rattle.packet_service.specs.declared.PacketForm.{PacketForm}
use Rattle.packet_service.specs.declared.PacketForm.TheVariants.{V1 as PacketForm1, V2 as PacketForm2}
use Rattle.packet_service.specs.declared.PacketService.{PacketService}
use Rattle.version_info.specs.VersionInfo.{read_of as version_read}
use Rattle.pairs.specs.declared.ZeroSize.{ZeroSize}
use Rattle.registration.specs.Registration.{read_with as registration_read}
use Rattle.registration.specs.declared.Registration.{Registration}
use Rattle.registration.specs.declared.RegistrationForm.{RegistrationForm}
use Rattle.registration.specs.declared.RegistrationForm.TheVariants.{V1 as RegistrationForm1, V2 as RegistrationForm2}
use Rattle.registration.specs.declared.RegistrationTexts.{RegistrationTexts}
use Rattle.payload_rows.specs.Packets.{speed_rows, form_rows, packet_text}
use Rattle.payload_rows.specs.Versions.{version_text}
use Rattle.pin.specs.PinInfo.{read_of as pin_info_read}
use Rattle.pin.specs.SetPin.{read_with as set_pin_read}
use Rattle.pin.specs.declared.set_pin.SetPin.{SetPin}
use Rattle.pin.specs.declared.set_pin.SetPinTexts.{SetPinTexts}
use Rattle.payload_rows.specs.Ranges.{Listable}
use Rattle.payload_rows.specs.Registrations.{ListableTexts, class_rows, text_rows, preferred_rows, flag_rows, registration_text}
use Rattle.payload_rows.specs.SetPins as set_pin
use Rattle.payload_rows.specs.PinInfos.{pin_info_text}
use Rattle.payload_rows.proofs.Registrations.{listable_texts}
use Rattle.payload_rows.proofs.SetPins as laws
use Rattle.std.specs.Prelude.{Ok, Err}
use Rattle.packet_service.specs.PacketService.{PacketServiceRead}
use Rattle.pin.specs.PinInfo.{PinInfoRead}
use Rattle.registration.specs.Registration.{RegistrationRead}
use Rattle.pin.specs.SetPin.{SetPinRead}
use Rattle.version_info.specs.VersionInfo.{VersionInfoRead}

-- ---- packet service, VERSION and PIN_INFO

form_le : (p : PacketService) (f : PacketForm) → length (form_rows p f) ≤ 288
unfolding form_rows speed_rows
form_le p (PacketForm1 c) =
    simp length-append (omega (arith, row_le (ascii "HighestAvailableDataClass") c (omega arith), row_le (ascii "UplinkSpeed") p.uplink_speed (omega arith), row_le (ascii "DownlinkSpeed") p.downlink_speed (omega arith)))
form_le p (PacketForm2 c r) =
    simp length-append (omega (arith, row_le (ascii "CurrentDataClass") c (omega arith), row_le (ascii "UplinkSpeed") p.uplink_speed (omega arith), row_le (ascii "DownlinkSpeed") p.downlink_speed (omega arith), row_le (ascii "FrequencyRange") r (omega arith)))

packet_text_le : (r : PacketServiceRead) → length (packet_text r) ≤ 1000
unfolding packet_text header
packet_text_le (Err r) = omega (arith, refused_le r)
packet_text_le (Ok p) =
    simp length-append (omega (arith, row_le (ascii "NwError") p.nw_error (omega arith), row_le (ascii "PacketServiceState") p.packet_service_state (omega arith), form_le p p.form))

pub packet_le : (v : Version) (s : List ℕ) → length (packet_text (packet_read v s)) ≤ 1000
packet_le v s = packet_text_le (packet_read v s)

version_text_le : (r : VersionInfoRead) → length (version_text r) ≤ 1000
unfolding version_text header
version_text_le (Err r) = omega (arith, refused_le r)
version_text_le (Ok i) =
    simp length-append (omega (arith, row_le (ascii "bcdMBIMVersion") i.bcd_mbim_version (omega arith), row_le (ascii "bcdMBIMExtendedVersion") i.bcd_mbim_extended_version (omega arith)))

pub version_le : (s : List ℕ) → length (version_text (version_read s)) ≤ 1000
version_le s = version_text_le (version_read s)

pin_info_text_le : (r : PinInfoRead) → length (pin_info_text r) ≤ 1000
unfolding pin_info_text header
pin_info_text_le (Err r) = omega (arith, refused_le r)
pin_info_text_le (Ok i) =
    simp length-append (omega (arith, row_le (ascii "PinType") i.pin_type (omega arith), row_le (ascii "PinState") i.pin_state (omega arith), row_le (ascii "RemainingAttempts") i.remaining_attempts (omega arith)))

pub pin_info_le : (s : List ℕ) → length (pin_info_text (pin_info_read s)) ≤ 1000
pin_info_le s = pin_info_text_le (pin_info_read s)

-- ---- a text

range_le : (name s : List ℕ) (p : Range) → length name ≤ 50 → Listable p s → length (text_row name (shown_in s p)) ≤ 304
range_le name s p h l = text_le name (shown_in s p) h (omega (arith, length-take p.length (drop p.start s), l.short))

-- ---- registration

classes_le : (p : Registration) → length (class_rows p) ≤ 360
unfolding class_rows
classes_le p =
    simp length-append (omega (arith, row_le (ascii "NwError") p.nw_error (omega arith), row_le (ascii "RegisterState") p.register_state (omega arith), row_le (ascii "RegisterMode") p.register_mode (omega arith), row_le (ascii "AvailableDataClass") p.available_data_class (omega arith), row_le (ascii "CellularClass") p.cellular_class (omega arith)))

texts_le : (s : List ℕ) (t : RegistrationTexts) → ListableTexts t s → length (text_rows s t) ≤ 912
unfolding text_rows
texts_le s t l =
    simp length-append (omega (arith, range_le (ascii "ProviderId") s t.provider_id (omega arith) l.id, range_le (ascii "ProviderName") s t.provider_name (omega arith) l.name, range_le (ascii "RoamingText") s t.roaming_text (omega arith) l.roaming))

preferred_le : (f : RegistrationForm) → length (preferred_rows f) ≤ 72
unfolding preferred_rows
preferred_le RegistrationForm1 = omega arith
preferred_le (RegistrationForm2 c) = row_le (ascii "PreferredDataClass") c (omega arith)

flags_le : (p : Registration) → length (flag_rows p) ≤ 144
unfolding flag_rows
flags_le p = simp length-append (omega (arith, row_le (ascii "RegistrationFlag") p.registration_flag (omega arith), preferred_le p.form))

pub registration_le : (v : Version) (z : ZeroSize) (s : List ℕ) → length (registration_text s (registration_read v z s)) ≤ 4000
unfolding registration_text header
registration_le v z s = go (registration_read v z s) refl
  where
    go : (r : RegistrationRead) → registration_read v z s ≡ r → length (registration_text s r) ≤ 4000
    go (Err r) e = omega (arith, refused_le r)
    go (Ok (p, t)) e = simp length-append (omega (arith, classes_le p, texts_le s t (listable_texts v z s p t e), flags_le p))

-- ---- SET_PIN

pin_numbers_le : (p : SetPin) → length (set_pin.number_rows p) ≤ 144
unfolding set_pin.number_rows
pin_numbers_le p = simp length-append (omega (arith, row_le (ascii "PinType") p.pin_type (omega arith), row_le (ascii "PinOperation") p.pin_operation (omega arith)))

pin_texts_le : (s : List ℕ) (t : SetPinTexts) → set_pin.ListableTexts t s → length (set_pin.text_rows s t) ≤ 608
unfolding set_pin.text_rows
pin_texts_le s t l = simp length-append (omega (arith, range_le (ascii "Pin") s t.pin (omega arith) l.pin, range_le (ascii "NewPin") s t.new_pin (omega arith) l.new))

pub set_pin_le : (z : ZeroSize) (s : List ℕ) → length (set_pin.set_pin_text s (set_pin_read z s)) ≤ 1000
unfolding set_pin.set_pin_text header
set_pin_le z s = go (set_pin_read z s) refl
  where
    go : (r : SetPinRead) → set_pin_read z s ≡ r → length (set_pin.set_pin_text s r) ≤ 1000
    go (Err r) e = omega (arith, refused_le r)
    go (Ok (p, t)) e = simp length-append (omega (arith, pin_numbers_le p, pin_texts_le s t (laws.listable_texts z s p t e)))
