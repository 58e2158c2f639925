-- What the writer accepts, in words of fields.
-- Assumes nothing.
use mathlib.Core.Path.{◌≡◌}
use Prim.Native.Nat.{ℕ, ◌≤◌}
use native.Mathlib.Omega.{arith}
use borrow.Author.Tests.{ltb-false, le-ltb}
use lib.ListN.{length}
use Rattle.protocol.specs.Verdict.{fault_if, first_of, no_fault}
use Rattle.protocol.proofs.Verdicts.{left_fits, right_fits, not_broken, written_both, both_written}
use Rattle.folds.specs.Folds.{first_fault}
use Rattle.folds.proofs.Laws.{fits_each, each_fits}
use Rattle.services_writer.specs.declared.ServiceList.{ServiceList}
use Rattle.services_writer.specs.ServicesWriter.{element_of, length_of, size_of, size_verdict, written_verdict, bytes_of, write_of}
use Rattle.services_writer.specs.Claims.{Writable, WrittenExactly}

pub writable_said : (p : ServiceList) → written_verdict p ≡ no_fault → Writable p
unfolding written_verdict
writable_said p e =
    let rest = right_fits _ _ e in
    record {
      few = ltb-false 32 p.device_services_count (not_broken _ _ _ (left_fits _ _ e));
      each = λ i l. let k = ltb-false 540 (size_of p i) (not_broken _ _ _ (fits_each (size_verdict p) p.device_services_count (left_fits _ _ rest) i l)) in omega (arith, k);
      short = ltb-false 4096 (length_of p) (not_broken _ _ _ (right_fits _ _ rest));
    }

pub said_writable : (p : ServiceList) → Writable p → written_verdict p ≡ no_fault
unfolding written_verdict fault_if first_of
said_writable p w =
    let sizes : first_fault (size_verdict p) p.device_services_count ≡ no_fault =
    each_fits (size_verdict p) p.device_services_count (λ i l. fits i (w.each i l)) in
    rw (le-ltb 32 p.device_services_count w.few, sizes, le-ltb 4096 (length_of p) w.short)
  where
    fits : (i : ℕ) → (element_of p i).fields.cid_count ≤ 128 → size_verdict p i ≡ no_fault
    fits i k = let l : size_of p i ≤ 540 = omega (arith, k) in rw (le-ltb 540 (size_of p i) l)

-- accepted exactly where the record is within the tables and there is room
pub written_exactly : WrittenExactly
unfolding write_of
written_exactly p s = (
  λ e. let w = written_both (written_verdict p) (bytes_of p) s (length (bytes_of p)) e in (writable_said p w.0, w.1),
  λ w. both_written (written_verdict p) (bytes_of p) s (said_writable p w.0) w.1,
)
