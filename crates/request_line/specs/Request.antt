-- How a request line is read: by its words, and then by its digits.
-- In this order: the words; the digits; what a line asks for.
use Rattle.std.specs.Prelude.{ℕ, ◌+◌, List, [], ◌∷◌, map, length, Result, Ok, Err}
use Rattle.text_parts.specs.Words.{Reached, WordRow, word, reach_from}
use Rattle.text_parts.specs.Hex.{LineEnd, line_end_at}
use Rattle.protocol.specs.declared.Version.{Version}
use Rattle.protocol.specs.declared.Version.TheVariants.{V1, V2}
use Rattle.protocol.specs.declared.service.Kind.{Kind}
use Rattle.protocol.specs.declared.service.Kind.TheVariants.{PacketService, VersionInfo, RegisterState, SignalState, DeviceServices, SetPin, PinInfo}
use Rattle.request_line.specs.Good.{kind_text, version_text, most_digits}
use Rattle.request_line.specs.declared.Request.{Request}

-- ---- the words, and what each stands for

abbrev pub kind_word : Kind → WordRow Kind
kind_word kind = word (kind_text kind) kind

abbrev pub kinds : List Kind
kinds = PacketService ∷ VersionInfo ∷ RegisterState ∷ SignalState ∷ DeviceServices ∷ SetPin ∷ PinInfo ∷ []

abbrev pub kind_words : List (WordRow Kind)
kind_words = map kind_word kinds

abbrev pub kind_length : Kind → ℕ
kind_length kind = length (kind_text kind)

abbrev pub version_word : Version → WordRow Version
version_word version = word (version_text version) version

abbrev pub version_words : List (WordRow Version)
version_words = version_word V1 ∷ version_word V2 ∷ []

-- ---- the digits: at most those of 8,192 bytes, an even number, and then the line feed that ends the line

abbrev pub payload_by : Kind → Version → ℕ → LineEnd → Result Request ℕ
payload_by kind version from (Ok n) = Ok (record { kind = kind; version = version; from = from; digits = n })
payload_by kind version from (Err c) = Err c

unfoldable pub payload_at : List ℕ → Kind → Version → ℕ → Result Request ℕ
payload_at s kind version from = payload_by kind version from (line_end_at most_digits s from)

-- ---- what a line asks for

abbrev pub by_version : List ℕ → Kind → ℕ → Reached Version → Result Request ℕ
by_version s kind at (Err c) = Err c
by_version s kind at (Ok version) = payload_at s kind version (at + 5)

abbrev pub by_kind : List ℕ → Reached Kind → Result Request ℕ
by_kind s (Err c) = Err c
by_kind s (Ok kind) = by_version s kind (kind_length kind) (reach_from (Err (kind_length kind)) s (kind_length kind) version_words)

unfoldable pub request_of : List ℕ → Result Request ℕ
request_of s = by_kind s (reach_from (Err 0) s 0 kind_words)
