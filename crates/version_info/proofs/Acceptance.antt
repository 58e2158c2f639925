-- A payload is accepted exactly when it meets the rules in words of fields, and then the record shown is the one at its places; a record is written
-- exactly when its numbers meet them.
-- Assumes nothing.
use mathlib.Core.Path.{◌≡◌, refl, sym}
use mathlib.Core.Logic.{⊎_map}
use mathlib.Core.List.{List}
use Prim.Native.Nat.{ℕ}
use borrow.Author.Tests.{eqb-true, eq-eqb}
use lib.Dec.{eqb}
use lib.ListN.{length}
use Rattle.protocol.specs.Verdict.{Kept, judge, first_of, exact_length, no_fault, Verdict}
use Rattle.protocol.proofs.Tests.{or_cases, cases_or, not_kept, kept_not, equal_kept, kept_equal}
use Rattle.protocol.proofs.Verdicts.{fits_kept, kept_fits, then_kept, kept_then, exact_length_lem, length_exact, written_both, both_written}
use Rattle.version_info.specs.declared.VersionInfo.{VersionInfo}
use Rattle.version_info.specs.VersionInfo.{is_extension, record_at, rules, verdict_of, shown, read_of, bytes_of, write_of}
use Rattle.version_info.specs.Claims.{InfoFits, Acceptable, Accepted, AcceptedExactly, WrittenExactly}
use Rattle.std.specs.Prelude.{Ok, Err}

info_said : (i : VersionInfo) → Kept (rules i) → InfoFits i
unfolding rules
info_said i k =
    let x = i.bcd_mbim_extended_version in
    record {
      mbim = equal_kept i.bcd_mbim_version 0x0100 k.0;
      extension = ⊎_map (eqb-true x 0x0100) (eqb-true x 0x0200) (or_cases (eqb x 0x0100) (eqb x 0x0200) (not_kept (is_extension x) k.1.0));
    }

said_info : (i : VersionInfo) → InfoFits i → Kept (rules i)
unfolding rules
said_info i f =
    let x = i.bcd_mbim_extended_version in (
      kept_equal i.bcd_mbim_version 0x0100 f.mbim,
      (kept_not (is_extension x) (cases_or (eqb x 0x0100) (eqb x 0x0200) (⊎_map (eq-eqb x 0x0100) (eq-eqb x 0x0200) f.extension)), tt),
    )

shows : (d : Verdict) (i j : VersionInfo) → shown d i ≡ Ok j → (d ≡ no_fault) × (i ≡ j)
shows (Ok _) i j e = (refl, cc)
shows (Err r) i j e = cc

-- an accepted payload keeps the rules, and shows the record at its places
pub accepted : Accepted
unfolding read_of verdict_of
accepted s i e =
    let d = shows _ (record_at s) i e in
    let k = then_kept (exact_length 4 (length s)) (rules (record_at s)) d.0 in
    (record { long = exact_length_lem 4 (length s) k.0; info = info_said (record_at s) k.1 }, sym d.1)

pub acceptable : (s : List ℕ) → Acceptable s → read_of s ≡ Ok (record_at s)
unfolding read_of verdict_of
acceptable s a =
    let f : first_of (exact_length 4 (length s)) (judge (rules (record_at s))) ≡ no_fault =
    kept_then (exact_length 4 (length s)) (rules (record_at s)) (length_exact 4 (length s) a.long) (said_info (record_at s) a.info) in
    rw f

pub accepted_exactly : AcceptedExactly
accepted_exactly s = (λ e. (accepted s (record_at s) e).0, acceptable s)

-- ---- written exactly when the numbers are in their tables and there is room

pub written_exactly : WrittenExactly
unfolding write_of verdict_of bytes_of
written_exactly i s = (
  λ e. let w = written_both (judge (rules i)) (bytes_of i) s 4 e in (info_said i (fits_kept (rules i) w.0), w.1),
  λ w. both_written (judge (rules i)) (bytes_of i) s (kept_fits (rules i) (said_info i w.0)) w.1,
)
