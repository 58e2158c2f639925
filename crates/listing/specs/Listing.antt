-- Listings (document 01, "Cases worked out"; docs/listing.md): a header and one row a field, in the payload's order, or one line for a refusal or a bad line.
-- In this order: a payload of a kind; a line.
use Rattle.std.specs.Prelude.{ℕ, ◌/◌, ◌≤◌, List, take, drop, length, ◌≡◌}
use Rattle.ascii.specs.Ascii.{ascii, unhexed}
use Rattle.protocol.specs.declared.Version.{Version}
use Rattle.packet_service.specs.PacketService.{read_of as packet_read}
use Rattle.version_info.specs.VersionInfo.{read_of as version_read}
use Rattle.pairs.specs.declared.ZeroSize.TheVariants.{Strict}
use Rattle.registration.specs.Registration.{read_with as registration_read}
use Rattle.signal_state.specs.SignalState.{read_with as signal_read}
use Rattle.device_services.specs.DeviceServices.{read_with as services_read}
use Rattle.pin.specs.SetPin.{read_with as set_pin_read}
use Rattle.pin.specs.PinInfo.{read_of as pin_info_read}
use Rattle.rows.specs.Rows.{row}
use Rattle.payload_rows.specs.Packets.{packet_text}
use Rattle.payload_rows.specs.Versions.{version_text}
use Rattle.payload_rows.specs.Registrations.{registration_text}
use Rattle.payload_rows.specs.SetPins.{set_pin_text}
use Rattle.payload_rows.specs.PinInfos.{pin_info_text}
use Rattle.entry_rows.specs.Signals.{signal_text}
use Rattle.entry_rows.specs.Services.{services_text}
use Rattle.request_line.specs.Request.{request_of}
use Rattle.protocol.specs.declared.service.Kind.{Kind}
use Rattle.protocol.specs.declared.service.Kind.TheVariants.{PacketService, VersionInfo, RegisterState, SignalState, DeviceServices, SetPin, PinInfo}
use Rattle.request_line.specs.declared.Request.{Request}
use Rattle.std.specs.Prelude.{Ok, Err, Result}

unfoldable pub payload_text : Kind → Version → List ℕ → List ℕ
payload_text PacketService version s = packet_text (packet_read version s)
payload_text VersionInfo version s = version_text (version_read s)
payload_text RegisterState version s = registration_text s (registration_read version Strict s)
payload_text SignalState version s = signal_text (signal_read version Strict s)
payload_text DeviceServices version s = services_text s (services_read Strict s)
payload_text SetPin version s = set_pin_text s (set_pin_read Strict s)
payload_text PinInfo version s = pin_info_text (pin_info_read s)

-- the payload that n digits of a line spell, from a place of it on
unfoldable pub spelled_text : List ℕ → Kind → Version → ℕ → ℕ → List ℕ
spelled_text line kind version from n = payload_text kind version (unhexed (n / 2) (take n (drop from line)))

-- a line that has not the form of a request, with the column
unfoldable pub bad_line : ℕ → List ℕ
bad_line column = row (ascii "bad line") column

unfoldable pub request_text : List ℕ → (Result Request ℕ) → List ℕ
request_text line (Err column) = bad_line column
request_text line (Ok request) = spelled_text line request.kind request.version request.from request.digits

unfoldable pub line_text : List ℕ → List ℕ
line_text line = request_text line (request_of line)

-- ---- what is proved (proofs/Lengths, proofs/Cut)

-- no listing is longer than the output of `list_line`
abbrev pub ListingFits : Type 0
ListingFits = (s : List ℕ) → length (line_text s) ≤ 524288

-- a line and its front of at least 16,407 bytes have the same listing
abbrev pub LineCut : Type 0
LineCut = (n : ℕ) (s : List ℕ) → 16407 ≤ n → line_text (take n s) ≡ line_text s
