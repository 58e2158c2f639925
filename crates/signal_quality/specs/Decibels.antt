-- Decibels of the codes of a signal entry (document 01, "Decibels and bars"; source 000, MBIM_RSRP_SNR_INFO).
-- In this order: exact floats; a code by its table; the two tables.
use Rattle.std.specs.Prelude.{ℕ, Bool, true, false, cond, ltb, eqb, ℤ, pos, negsuc, nat_abs, ◌-ℤ◌, Float, Ok, Err, Result}
use Rattle.std.specs.Float.{binary32}
use Rattle.std.specs.Float.Ieee.{prec, odd}
use Rattle.protocol.specs.Refusal.{refusal, outside_table}
use Rattle.signal_quality.specs.declared.Reading.{Reading}
use Rattle.signal_quality.specs.declared.Reading.TheVariants.{Dbm, Db, BelowRange, Unknown}
use Rattle.protocol.specs.declared.Refusal.{Refusal}

abbrev pub ReadingRead : Type 0
ReadingRead = Result Reading Refusal

-- ---- exact floats

abbrev pub is_negative : ℤ → Bool
is_negative (pos n) = false
is_negative (negsuc n) = true

-- the float that is z / 2 ^ k: nothing is rounded (proofs/Decibels)
unfoldable pub exactly : ℤ → ℕ → Float
exactly z k = odd (prec binary32) (is_negative z) (nat_abs z) 0 k

-- ---- a code by its table: over the mark of unknown it is outside; 0 is below the range, with its edge; else it is known

unfoldable pub coded : ℕ → Float → Reading → ℕ → ReadingRead
coded mark edge known c =
    cond (ltb mark c) (Err (refusal outside_table 0)) (Ok (cond (eqb c mark) Unknown (cond (eqb c 0) (BelowRange edge) known)))

-- ---- the two tables

-- "RSRP code c from 1 to 126 is c − 157 dBm"; unknown 127; edge −156
unfoldable pub rsrp_of : ℕ → ReadingRead
rsrp_of c = coded 127 (exactly (negsuc 155) 0) (Dbm (exactly (pos c -ℤ pos 157) 0)) c

-- "SNR code c from 1 to 127 is (c − 47)/2 dB"; unknown 128; edge −23
unfoldable pub snr_of : ℕ → ReadingRead
snr_of c = coded 128 (exactly (negsuc 22) 0) (Db (exactly (pos c -ℤ pos 47) 1)) c
