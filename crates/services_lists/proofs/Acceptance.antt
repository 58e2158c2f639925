-- What the writer accepts, in words of the two lists.
-- Assumes nothing.
use mathlib.Core.Path.{◌≡◌}
use mathlib.Core.List.{List}
use Prim.Native.Nat.{ℕ, ◌%◌}
use lib.ListN.{length}
use Rattle.protocol.specs.Refusal.{wrong_count, contradiction}
use Rattle.protocol.specs.Verdict.{fault_if, first_of, no_fault}
use Rattle.protocol.proofs.Tests.{equal_kept, kept_equal}
use Rattle.protocol.proofs.Verdicts.{left_fits, right_fits, not_broken, written_both, both_written}
use Rattle.services_writer.specs.ServicesWriter.{bytes_of}
use Rattle.services_writer.proofs.Acceptance.{writable_said, said_writable}
use Rattle.services_lists.specs.ServicesLists.{count_of, cids_before, record_of, lists_verdict, write_all_of}
use Rattle.services_lists.specs.Claims.{Sayable, AllWrittenExactly}

sayable_said : (max : ℕ) (fields cids : List ℕ) → lists_verdict max fields cids ≡ no_fault → Sayable max fields cids
unfolding lists_verdict
sayable_said max fields cids e =
    let rest = right_fits _ _ e in
    record {
      whole = equal_kept (length fields % 7) 0 (not_broken _ wrong_count 0 (left_fits _ _ e));
      within = writable_said (record_of max fields cids) (left_fits _ _ rest);
      counted = equal_kept (cids_before fields (count_of fields)) (length cids) (not_broken _ contradiction 0 (right_fits _ _ rest));
    }

said_sayable : (max : ℕ) (fields cids : List ℕ) → Sayable max fields cids → lists_verdict max fields cids ≡ no_fault
unfolding lists_verdict fault_if first_of
said_sayable max fields cids h =
    rw (kept_equal (length fields % 7) 0 h.whole, said_writable (record_of max fields cids) h.within, kept_equal (cids_before fields (count_of fields)) (length cids) h.counted)

-- accepted exactly where the lists say a record and there is room
pub all_written_exactly : AllWrittenExactly
unfolding write_all_of
all_written_exactly max fields cids s =
    let v = lists_verdict max fields cids in
    let b = bytes_of (record_of max fields cids) in
    (λ e. let w = written_both v b s (length b) e in (sayable_said max fields cids w.0, w.1), λ w. both_written v b s (said_sayable max fields cids w.0) w.1)
