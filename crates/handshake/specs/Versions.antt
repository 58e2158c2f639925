-- Versions as the handshake meets them (document 01, "The handshake"): BCD numbers, and which of two is larger.
use Rattle.std.specs.Prelude.{ℕ, Bool, true, false, not, cond, [], ◌∷◌, eqb, Ok, Err, Result}
use Rattle.protocol.specs.Refusal.{wrong_version}
use Rattle.protocol.specs.Verdict.{rule, judge, Verdict}
use Rattle.protocol.specs.declared.Version.{Version}
use Rattle.protocol.specs.declared.Version.TheVariants.{V1, V2}
use Rattle.version_info.specs.VersionInfo.{is_extension}
use Rattle.version_info.specs.declared.VersionInfo.{VersionInfo}
use Rattle.protocol.specs.declared.Refusal.{Refusal}

abbrev pub Numbered : Type 0
Numbered = Result Version Refusal

-- ---- numbers

abbrev pub mbim1 : ℕ
mbim1 = 0x0100

abbrev pub extensions1 : ℕ
extensions1 = 0x0100

abbrev pub extensions2 : ℕ
extensions2 = 0x0200

abbrev pub number_of : Version → ℕ
number_of V1 = extensions1
number_of V2 = extensions2

-- "extension not 0100h or 0200h": 12 at 0
unfoldable pub number_verdict : ℕ → Verdict
number_verdict n = judge (rule (not (is_extension n)) wrong_version 0 ∷ [])

-- the version of one of the two numbers
abbrev pub version_of : ℕ → Version
version_of n = cond (eqb n extensions2) V2 V1

-- a number judged, and then its version
abbrev pub numbered_by : Verdict → Version → Numbered
numbered_by (Ok _) v = Ok v
numbered_by (Err r) v = Err r

unfoldable pub numbered : ℕ → Numbered
numbered n = numbered_by (number_verdict n) (version_of n)

-- the VERSION payload that carries a version
unfoldable pub info_of : Version → VersionInfo
info_of v = record { bcd_mbim_version = mbim1; bcd_mbim_extended_version = number_of v }

-- ---- order

abbrev pub larger : Version → Version → Version
larger V1 b = b
larger V2 b = V2

abbrev pub lower : Version → Version → Version
lower V1 b = V1
lower V2 b = b

-- a is above b
abbrev pub above : Version → Version → Bool
above V1 b = false
above V2 V1 = true
above V2 V2 = false

abbrev pub is_later : Version → Bool
is_later V1 = false
is_later V2 = true
