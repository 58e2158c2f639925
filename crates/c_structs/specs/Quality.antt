-- Readings and bars as plain members.
use Rattle.std.specs.Prelude.{pos, Float}
use Rattle.signal_quality.specs.Decibels.{exactly}
use Rattle.signal_quality.specs.declared.Reading.{Reading}
use Rattle.signal_quality.specs.declared.Reading.TheVariants.{Dbm, Db, BelowRange, Unknown}
use Rattle.c_structs.specs.declared.quality.ReadingInfo.{ReadingInfo}
use Rattle.c_structs.specs.declared.quality.BarsInfo.{BarsInfo}
use Rattle.c_structs.specs.Answers.{no_refusal, refusal_info}
use Rattle.std.specs.Prelude.{Ok, Err, Some, None}
use Rattle.signal_quality.specs.Bars.{Bars}
use Rattle.signal_quality.specs.Decibels.{ReadingRead}

-- ---- a reading: 1 dBm, 2 dB, 3 below the range, 4 unknown; 0 refused

-- where there is no value
abbrev pub no_value : Float
no_value = exactly (pos 0) 0

unfoldable pub shown : Reading → ReadingInfo
shown (Dbm x) = record { refusal = no_refusal; kind = 1; value = x }
shown (Db x) = record { refusal = no_refusal; kind = 2; value = x }
shown (BelowRange x) = record { refusal = no_refusal; kind = 3; value = x }
shown Unknown = record { refusal = no_refusal; kind = 4; value = no_value }

unfoldable pub reading_info : ReadingRead → ReadingInfo
reading_info (Ok x) = shown x
reading_info (Err r) = record { refusal = refusal_info r; kind = 0; value = no_value }

-- ---- bars: 1 and their count, or 0 and 0

unfoldable pub bars_info : Bars → BarsInfo
bars_info (Ok (Some n)) = record { refusal = no_refusal; reading = 1; bars = n }
bars_info (Ok None) = record { refusal = no_refusal; reading = 0; bars = 0 }
bars_info (Err r) = record { refusal = refusal_info r; reading = 0; bars = 0 }
