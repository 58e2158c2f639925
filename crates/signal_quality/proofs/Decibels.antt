-- The floats of the readings: what the code computes is the exact number at each code, and what number that is.
-- Assumes nothing.
use mathlib.Core.Path.{◌≡◌, refl, ap}
use mathlib.Core.Bool.{Bool, true, false}
use Prim.Native.Nat.{ℕ, ◌%◌, ◌^◌, ◌<◌}
use native.Mathlib.Nat.{mul-one}
use native.Mathlib.Omega.{arith}
use borrow.Author.Tests.{ltb-true, ltb-false, lt-ltb, le-ltb, eqb-false, ne_eqb}
use lib.Dec.{ltb, eqb}
use lib.Signed.{mag}
use lib.IntN.{ℤ, pos, negsuc, nat_abs, ◌-ℤ◌}
use lib.Ieee.{Float, binary32, odd, of_int, div, add, of_bits}
use lib.Ieee.Exact.{odd_sign}
use mir.Syntax.{w16}
use mir.Val.{SFits, to_z, of_z}
use Rattle.signal_quality.specs.declared.Reading.{Reading}
use Rattle.signal_quality.specs.declared.Reading.TheVariants.{Dbm, Db}
use Rattle.signal_quality.specs.Decibels.{exactly, is_negative, coded, rsrp_of, snr_of}
use Rattle.signal_quality.specs.Claims.{Is, Edges, RsrpExact, SnrExact}
use Rattle.signal_quality.proofs.Tables.{rows, agree}
use Rattle.std.specs.Prelude.{Ok}

-- ---- the code's numbers: the difference fits 16 bits, and its float is the exact one

abbrev pub less : ℕ → ℕ → ℤ
less k c = to_z w16 c -ℤ pos k

abbrev back : ℕ → ℕ → ℤ
back k c = to_z w16 (of_z w16 (less k c))

small : ℕ → ℕ → Bool
small k c = ltb (mag (less k c)) (2 ^ 15)

always : ℕ → Bool
always c = true

fits_by : (k : ℕ) → rows (small k) 128 ≡ rows always 128 → (c : ℕ) → c < 128 → SFits w16 (less k c)
unfolding small always
fits_by k e c h = record { sfits = ltb-true (mag (less k c)) (2 ^ 15) (agree (small k) always 128 e c h) }

pub dbm_fits : (c : ℕ) → c < 128 → SFits w16 (less 157 c)
unfolding small always
dbm_fits = fits_by 157 refl

pub db_fits : (c : ℕ) → c < 128 → SFits w16 (less 47 c)
unfolding small always
db_fits = fits_by 47 refl

dbm_exact : (c : ℕ) → c < 128 → of_int binary32 (back 157 c) ≡ exactly (pos c -ℤ pos 157) 0
unfolding exactly odd of_int
dbm_exact c h = agree (λ c. of_int binary32 (back 157 c)) (λ c. exactly (pos c -ℤ pos 157) 0) 128 refl c h

db_exact : (c : ℕ) → c < 128 → div binary32 (of_int binary32 (back 47 c)) (of_bits binary32 0x40000000) ≡ exactly (pos c -ℤ pos 47) 1
unfolding exactly odd of_int div of_bits
db_exact c h =
    agree (λ c. div binary32 (of_int binary32 (back 47 c)) (of_bits binary32 0x40000000)) (λ c. exactly (pos c -ℤ pos 47) 1) 128 refl c h

-- a reading that is not shown may be any
shown_same : (mark : ℕ) (edge : Float) (a b : Reading) (c : ℕ) → (c < mark → a ≡ b) → coded mark edge a c ≡ coded mark edge b c
unfolding coded
shown_same mark edge a b c h = by_mark (ltb c mark) refl
  where
    by_mark : (t : Bool) → ltb c mark ≡ t → coded mark edge a c ≡ coded mark edge b c
    by_mark true e = ap (λ (r : Reading). coded mark edge r c) (h (ltb-true c mark e))
    by_mark false e = past (eqb c mark) refl
      where
        past : (t : Bool) → eqb c mark ≡ t → coded mark edge a c ≡ coded mark edge b c
        past true q = rw q
        past false q = let n : c ≡ mark → ⊥ = eqb-false c mark q in rw (lt-ltb mark c (omega (arith, ltb-false c mark e, n)))

within : (c : ℕ) → c < 128 → c % 128 ≡ c
within c h = omega arith

pub dbm_read : (c : ℕ) → coded 127 (exactly (negsuc 155) 0) (Dbm (of_int binary32 (back 157 (c % 128)))) c ≡ rsrp_of c
unfolding rsrp_of
dbm_read c = shown_same 127 _ _ _ c (λ h. rw (within c (omega arith)) (ap Dbm (dbm_exact c (omega arith))))

pub db_read : (c : ℕ) → coded 128 (exactly (negsuc 22) 0) (Db (div binary32 (of_int binary32 (back 47 (c % 128))) (of_bits binary32 0x40000000))) c ≡ snr_of c
unfolding snr_of
db_read c = shown_same 128 _ _ _ c (λ h. rw (within c h) (ap Db (db_exact c h)))

-- ---- what number an exact float is

pub exact : (z : ℤ) (k : ℕ) → Is (exactly z k) z k
unfolding exactly
exact z k = rw mul-one at (odd_sign 24 (is_negative z) (nat_abs z) 0 k)

-- the machine's sum of an SNR with itself is exact too
twice : (c : ℕ) → c < 128 → add binary32 (exactly (pos c -ℤ pos 47) 1) (exactly (pos c -ℤ pos 47) 1) ≡ exactly (pos c -ℤ pos 47) 0
unfolding exactly odd add
twice c h = agree (λ c. add binary32 (exactly (pos c -ℤ pos 47) 1) (exactly (pos c -ℤ pos 47) 1)) (λ c. exactly (pos c -ℤ pos 47) 0) 128 refl c h

known_read : (mark : ℕ) (edge : Float) (r : Reading) (c : ℕ) → 0 < c → c < mark → coded mark edge r c ≡ Ok r
unfolding coded
known_read mark edge r c h l = rw (le-ltb mark c (omega arith), ne_eqb c mark (λ e. omega arith), ne_eqb c 0 (λ e. omega arith))

-- RSRP code c from 1 to 126 is c − 157 dBm
pub rsrp_exact : RsrpExact
unfolding rsrp_of
rsrp_exact c h l = (exactly (pos c -ℤ pos 157) 0, (known_read 127 _ _ c h l, exact (pos c -ℤ pos 157) 0))

-- SNR code c from 1 to 127 is (c − 47)/2 dB, and twice that is the whole number c − 47
pub snr_exact : SnrExact
unfolding snr_of
snr_exact c h l = (
  exactly (pos c -ℤ pos 47) 1,
  (known_read 128 _ _ c h l, (exact (pos c -ℤ pos 47) 1, rw (twice c l) (exact (pos c -ℤ pos 47) 0))),
)

-- code 0 is below the range, with its edge: −156 dBm and −23 dB
pub edges_exact : Edges
unfolding rsrp_of snr_of coded
edges_exact = ((exactly (negsuc 155) 0, (refl, exact (negsuc 155) 0)), (exactly (negsuc 22) 0, (refl, exact (negsuc 22) 0)))
