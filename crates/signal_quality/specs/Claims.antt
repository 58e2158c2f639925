-- What is claimed of readings beside the promises: what number a float is.
use Rattle.std.specs.Prelude.{[], ℕ, ◌^◌, ◌<◌, ◌≤◌, ◌≡◌, ℤ, negsuc, nat_abs, pos, ◌-ℤ◌, Float, get_or, Ok}
use Rattle.std.specs.Float.Ieee.{add}
use Rattle.std.specs.Float.{binary32}
use Rattle.std.specs.Float.Ieee.Exact.{HasValue}
use Rattle.signal_quality.specs.declared.Reading.TheVariants.{BelowRange, Dbm, Db}
use Rattle.signal_quality.specs.Decibels.{is_negative, rsrp_of, snr_of}
use Rattle.signal_quality.specs.Bars.{bars_table, count, from, reached}

-- the float x is finite and is z / 2 ^ k, exactly
abbrev pub Is : Float → ℤ → ℕ → Type 0
Is x z k = HasValue x (is_negative z) (nat_abs z) (2 ^ k)

-- "below the range (with edge −156 or −23)": code 0
abbrev pub Edges : Type 0
Edges = ((x : Float) × ((rsrp_of 0 ≡ Ok (BelowRange x)) × Is x (negsuc 155) 0)) × ((x : Float) × ((snr_of 0 ≡ Ok (BelowRange x)) × Is x (negsuc 22) 0))

-- RSRP code c from 1 to 126 is c − 157 dBm
abbrev pub RsrpExact : Type 0
RsrpExact = (c : ℕ) → 0 < c → c < 127 → (x : Float) × ((rsrp_of c ≡ Ok (Dbm x)) × Is x (pos c -ℤ pos 157) 0)

-- SNR code c from 1 to 127 is (c − 47)/2 dB, and twice that is the whole number c − 47
abbrev pub SnrExact : Type 0
SnrExact = (c : ℕ) → 0 < c → c < 128 → (x : Float) × ((snr_of c ≡ Ok (Db x)) × (Is x (pos c -ℤ pos 47) 1 × Is (add binary32 x x) (pos c -ℤ pos 47) 0))

-- the bars are those of the highest row reached: no row reached has more
abbrev pub Highest : Type 0
Highest = (r k : ℕ) → r < 32 → k < 5 → from (get_or bars_table k []) ≤ r → count (get_or bars_table k []) ≤ reached bars_table r
