-- No listing is longer than 524,288 bytes.
-- Assumes nothing.
use mathlib.Core.List.{List}
use Prim.Native.Nat.{ℕ, ◌/◌, ◌≤◌}
use native.Mathlib.Omega.{arith}
use lib.ListN.{length, take, drop}
use Rattle.ascii.specs.Ascii.{ascii, unhexed}
use Rattle.protocol.specs.declared.Version.{Version}
use Rattle.rows.proofs.Lengths.{row_le}
use Rattle.pairs.specs.declared.ZeroSize.TheVariants.{Strict}
use Rattle.payload_rows.proofs.Lengths.{packet_le, version_le, registration_le, set_pin_le, pin_info_le}
use Rattle.entry_rows.proofs.Lengths.{signal_le, services_le}
use Rattle.request_line.specs.Request.{request_of}
use Rattle.protocol.specs.declared.service.Kind.{Kind}
use Rattle.protocol.specs.declared.service.Kind.TheVariants.{PacketService, VersionInfo, RegisterState, SignalState, DeviceServices, SetPin, PinInfo}
use Rattle.request_line.specs.declared.Request.{Request}
use Rattle.listing.specs.Listing.{payload_text, spelled_text, bad_line, request_text, line_text, ListingFits}
use Rattle.std.specs.Prelude.{Ok, Err, Result}

pub payload_le : (kind : Kind) (v : Version) (s : List ℕ) → length (payload_text kind v s) ≤ 524288
unfolding payload_text
payload_le PacketService v s = omega (arith, packet_le v s)
payload_le VersionInfo v s = omega (arith, version_le s)
payload_le RegisterState v s = omega (arith, registration_le v Strict s)
payload_le SignalState v s = omega (arith, signal_le v Strict s)
payload_le DeviceServices v s = services_le Strict s
payload_le SetPin v s = omega (arith, set_pin_le Strict s)
payload_le PinInfo v s = omega (arith, pin_info_le s)

request_le : (s : List ℕ) (r : (Result Request ℕ)) → length (request_text s r) ≤ 524288
unfolding request_text spelled_text bad_line
request_le s (Err c) = omega (arith, row_le (ascii "bad line") c (omega arith))
request_le s (Ok request) = payload_le request.kind request.version (unhexed (request.digits / 2) (take request.digits (drop request.from s)))

pub listing_fits : ListingFits
unfolding line_text
listing_fits s = request_le s (request_of s)
