-- The VERSION payload (document 01, "The handshake"; source 000, MBIM_VERSION_INFO): "two BCD numbers, MBIM 0100h at 0 and extension at 2; length exactly 4".
-- In this order: the fields and their places; the rules; what a reader answers; what a writer gives. There is one form, at both versions.
use Rattle.std.specs.Prelude.{ℕ, Bool, not, ◌||◌, List, [], ◌∷◌, ◌++◌, eqb, length, Ok, Err, Result}
use Rattle.wire.specs.Numbers.{u16_at, digits}
use Rattle.protocol.specs.Refusal.{wrong_version}
use Rattle.protocol.specs.Verdict.{Rule, rule, judge, first_of, exact_length, Writing, writing, Verdict}
use Rattle.version_info.specs.declared.VersionInfo.{VersionInfo}
use Rattle.protocol.specs.declared.Refusal.{Refusal}

abbrev pub VersionInfoRead : Type 0
VersionInfoRead = Result VersionInfo Refusal

-- ---- fields and places

unfoldable pub record_at : List ℕ → VersionInfo
record_at s = record { bcd_mbim_version = u16_at s 0; bcd_mbim_extended_version = u16_at s 2 }

-- ---- rules: broken, reason, place; the first broken one decides

-- 0100h or 0200h
abbrev pub is_extension : ℕ → Bool
is_extension n = eqb n 0x0100 || eqb n 0x0200

unfoldable pub rules : VersionInfo → List Rule
rules i =
    rule (not (eqb i.bcd_mbim_version 0x0100)) wrong_version 0
    ∷ rule (not (is_extension i.bcd_mbim_extended_version)) wrong_version 0
    ∷ []

unfoldable pub verdict_of : VersionInfo → Verdict
verdict_of i = judge (rules i)

-- ---- what a reader answers

abbrev pub shown : Verdict → VersionInfo → VersionInfoRead
shown (Ok _) i = Ok i
shown (Err r) i = Err r

unfoldable pub read_of : List ℕ → VersionInfoRead
read_of s = shown (first_of (exact_length 4 (length s)) (verdict_of (record_at s))) (record_at s)

-- ---- what a writer gives

unfoldable pub bytes_of : VersionInfo → List ℕ
bytes_of i = digits 2 i.bcd_mbim_version ++ digits 2 i.bcd_mbim_extended_version

-- the answer, and the output at exit
unfoldable pub write_of : VersionInfo → List ℕ → Writing
write_of i s = writing (verdict_of i) (bytes_of i) s
