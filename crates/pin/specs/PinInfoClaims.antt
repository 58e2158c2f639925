-- What is claimed of the PIN_INFO payload beside the promises: the rules in words of fields.
use Rattle.std.specs.Prelude.{ℕ, ◌≤◌, ◌<◌, ◌^◌, ◌≡◌, ◌↔◌, List, length, take, Ok}
use Rattle.pin.specs.declared.pin_info.PinInfo.{PinInfo}
use Rattle.pin.specs.PinInfo.{record_at, read_of, write_of}

-- None beside Locked is no contradiction: the members are judged one by one
pub record InfoFits (i : PinInfo) : Type 0 where
  pub type : i.pin_type ≤ 17
  pub state : i.pin_state ≤ 1

pub record Acceptable (s : List ℕ) : Type 0 where
  pub long : length s ≡ 12
  pub info : InfoFits (record_at s)

pub record OfWidth (i : PinInfo) : Type 0 where
  pub type : i.pin_type < 2 ^ 32
  pub state : i.pin_state < 2 ^ 32
  pub attempts : i.remaining_attempts < 2 ^ 32

-- ---- what is proved (proofs/PinInfoLaws)

-- an accepted payload keeps the rules, and shows the record at its places
abbrev pub Accepted : Type 0
Accepted = (s : List ℕ) (i : PinInfo) → read_of s ≡ Ok i → Acceptable s × (i ≡ record_at s)

abbrev pub AcceptedExactly : Type 0
AcceptedExactly = (s : List ℕ) → (read_of s ≡ Ok (record_at s)) ↔ Acceptable s

abbrev pub WrittenExactly : Type 0
WrittenExactly = (i : PinInfo) (s : List ℕ) → ((write_of i s).answer ≡ Ok 12) ↔ (InfoFits i × (12 ≤ length s))

-- what the writer puts into an output shows the record
abbrev pub RoundTrip : Type 0
RoundTrip = (i : PinInfo) (s : List ℕ) (n : ℕ) → OfWidth i → (write_of i s).answer ≡ Ok n → read_of (take n (write_of i s).output) ≡ Ok i
