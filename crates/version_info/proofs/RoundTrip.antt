-- Reading what the writer gives returns the record. The rules fix both numbers, so no width has to be asked for.
-- Assumes nothing.
use mathlib.Core.Path.{◌≡◌, refl}
use mathlib.Core.Logic.{◌⊎◌, inl, inr}
use mathlib.Core.Bool.{true}
use mathlib.Core.List.{[]}
use Prim.Native.Nat.{ℕ, ◌<◌}
use native.Mathlib.Omega.{arith}
use borrow.Author.Tests.{eqb-true}
use lib.Dec.{eqb}
use Rattle.wire.specs.Numbers.{u16_at}
use Rattle.wire.proofs.Laws.{num_digits}
use Rattle.protocol.specs.Verdict.{first_of, no_fault}
use Rattle.protocol.proofs.Tests.{or_cases, not_kept, equal_kept}
use Rattle.protocol.proofs.Verdicts.{fits_kept, length_exact, written_fits, written_front}
use Rattle.version_info.specs.declared.VersionInfo.{VersionInfo}
use Rattle.version_info.specs.VersionInfo.{is_extension, record_at, rules, verdict_of, read_of, bytes_of, write_of}
use Rattle.version_info.specs.Claims.{RoundTrip}
use Rattle.std.specs.Prelude.{Ok}

-- a known extension fits two bytes
small : (n : ℕ) → (eqb n 0x0100 ≡ true) ⊎ (eqb n 0x0200 ≡ true) → n < 65536
small n (inl e) = omega (arith, eqb-true n 0x0100 e)
small n (inr e) = omega (arith, eqb-true n 0x0200 e)

record_back : (i : VersionInfo) → verdict_of i ≡ no_fault → record_at (bytes_of i) ≡ i
unfolding verdict_of rules record_at u16_at bytes_of
record_back i e =
    let k = fits_kept (rules i) e in
    let m : i.bcd_mbim_version < 65536 = omega (arith, equal_kept i.bcd_mbim_version 0x0100 k.0) in
    let x = small i.bcd_mbim_extended_version (or_cases (eqb i.bcd_mbim_extended_version 0x0100) (eqb i.bcd_mbim_extended_version 0x0200) (not_kept (is_extension i.bcd_mbim_extended_version) k.1.0)) in
    λ j. record {
      bcd_mbim_version = num_digits 2 i.bcd_mbim_version [] m j;
      bcd_mbim_extended_version = num_digits 2 i.bcd_mbim_extended_version [] x j;
    }

-- the bytes of a record that fits show the record
pub bytes_read : (i : VersionInfo) → verdict_of i ≡ no_fault → read_of (bytes_of i) ≡ Ok i
unfolding read_of first_of bytes_of
bytes_read i e = rw (record_back i e, length_exact 4 4 refl, e)

-- what the writer puts into an output shows the record
pub round_trip : RoundTrip
unfolding write_of
round_trip i s n e = rw (written_front (verdict_of i) (bytes_of i) s n e) (bytes_read i (written_fits (verdict_of i) (bytes_of i) s n e))
