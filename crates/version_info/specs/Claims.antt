-- What is claimed of the VERSION payload beside the promises: the rules in words of fields.
use Rattle.std.specs.Prelude.{ℕ, ◌≤◌, ◌≡◌, ◌⊎◌, ◌↔◌, List, length, take, Ok}
use Rattle.version_info.specs.declared.VersionInfo.{VersionInfo}
use Rattle.version_info.specs.VersionInfo.{record_at, read_of, write_of}

pub record InfoFits (i : VersionInfo) : Type 0 where
  pub mbim : i.bcd_mbim_version ≡ 0x0100
  pub extension : (i.bcd_mbim_extended_version ≡ 0x0100) ⊎ (i.bcd_mbim_extended_version ≡ 0x0200)

pub record Acceptable (s : List ℕ) : Type 0 where
  pub long : length s ≡ 4
  pub info : InfoFits (record_at s)

-- ---- what is proved (proofs/Acceptance, proofs/RoundTrip)

-- an accepted payload keeps the rules, and shows the record at its places
abbrev pub Accepted : Type 0
Accepted = (s : List ℕ) (i : VersionInfo) → read_of s ≡ Ok i → Acceptable s × (i ≡ record_at s)

abbrev pub AcceptedExactly : Type 0
AcceptedExactly = (s : List ℕ) → (read_of s ≡ Ok (record_at s)) ↔ Acceptable s

abbrev pub WrittenExactly : Type 0
WrittenExactly = (i : VersionInfo) (s : List ℕ) → ((write_of i s).answer ≡ Ok 4) ↔ (InfoFits i × (4 ≤ length s))

-- what the writer puts into an output shows the record
abbrev pub RoundTrip : Type 0
RoundTrip = (i : VersionInfo) (s : List ℕ) (n : ℕ) → (write_of i s).answer ≡ Ok n → read_of (take n (write_of i s).output) ≡ Ok i
