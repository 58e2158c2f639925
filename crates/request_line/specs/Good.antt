-- A good request line in words of its parts (docs/listing.md): a kind, a tab, a version, a tab, an even number of at most 16,384 hexadecimal digits of either case, a line feed.
-- In this order: the words; a line's text; good lines.
-- Claims (proofs/Exactly): a line is accepted exactly where it is good, with the kind, the version and the digits that it is good with; of any other line the column is the length of the longest beginning that it shares with a good line.
use Rattle.std.specs.Prelude.{ℕ, ◌+◌, ◌≡◌, List, [], ◌∷◌, ◌++◌, length}
use Rattle.ascii.specs.Ascii.{line_feed, ascii}
use Rattle.protocol.specs.declared.Version.{Version}
use Rattle.protocol.specs.declared.Version.TheVariants.{V1, V2}
use Rattle.text_parts.specs.Hex.{HexDigits}
use Rattle.protocol.specs.declared.service.Kind.{Kind}
use Rattle.protocol.specs.declared.service.Kind.TheVariants.{PacketService, VersionInfo, RegisterState, SignalState, DeviceServices, SetPin, PinInfo}

abbrev pub kind_text : Kind → List ℕ
kind_text PacketService = ascii "packet_service\t"
kind_text VersionInfo = ascii "version\t"
kind_text RegisterState = ascii "registration\t"
kind_text SignalState = ascii "signal_state\t"
kind_text DeviceServices = ascii "device_services\t"
kind_text SetPin = ascii "set_pin\t"
kind_text PinInfo = ascii "pin_info\t"

abbrev pub version_text : Version → List ℕ
version_text V1 = ascii "1.00\t"
version_text V2 = ascii "2.00\t"

-- the digits of 8,192 bytes
abbrev pub most_digits : ℕ
most_digits = 16384

abbrev pub text_of : Kind → Version → List ℕ → List ℕ
text_of kind version hex = kind_text kind ++ (version_text version ++ (hex ++ (line_feed ∷ [])))

abbrev pub Good : List ℕ → Type 0
Good s = (kind : Kind) × (version : Version) × (hex : List ℕ) × HexDigits most_digits hex × (s ≡ text_of kind version hex)

-- of this kind and version, with n digits from a place on
abbrev pub GoodWith : List ℕ → Kind → Version → ℕ → ℕ → Type 0
GoodWith s kind version from n =
    (hex : List ℕ) × HexDigits most_digits hex × (s ≡ text_of kind version hex) × (from ≡ length (kind_text kind) + length (version_text version)) × (n ≡ length hex)
