-- The types of PINs and PUKs, and the number of each: "MBIM_PIN_TYPE" of MBIM 1.0, 1 to 17; 0 is none.
use Rattle.std.specs.Prelude.{ℕ, ◌<◌, ◌≡◌, ◌⊎◌, Option, None, Some, Result, MatchResult}
use Rattle.pin_entry.specs.declared.pin_type.PinType.{PinType}
use Rattle.pin_entry.specs.declared.pin_type.PinType.TheVariants.{Custom, Pin1, Pin2, DeviceSimPin, DeviceFirstSimPin, NetworkPin, NetworkSubsetPin, ServiceProviderPin, CorporatePin, SubsidyLock, Puk1, Puk2, DeviceFirstSimPuk, NetworkPuk, NetworkSubsetPuk, ServiceProviderPuk, CorporatePuk}
use Rattle.pin_entry.specs.declared.pin_type.NoPinType.{NoPinType}

abbrev pub number_of : PinType → ℕ
number_of Custom = 1
number_of Pin1 = 2
number_of Pin2 = 3
number_of DeviceSimPin = 4
number_of DeviceFirstSimPin = 5
number_of NetworkPin = 6
number_of NetworkSubsetPin = 7
number_of ServiceProviderPin = 8
number_of CorporatePin = 9
number_of SubsidyLock = 10
number_of Puk1 = 11
number_of Puk2 = 12
number_of DeviceFirstSimPuk = 13
number_of NetworkPuk = 14
number_of NetworkSubsetPuk = 15
number_of ServiceProviderPuk = 16
number_of CorporatePuk = 17

-- the type with this number, or the number back where no type has it
abbrev pub Numbers : ℕ → Result PinType NoPinType → Type 0
Numbers n r = MatchResult r (λ k. number_of k ≡ n) (λ e. (e.0 ≡ n) × ((n ≡ 0) ⊎ (17 < n)))

-- 0 for none
abbrev pub number_or_none : Option PinType → ℕ
number_or_none None = 0
number_or_none (Some k) = number_of k
