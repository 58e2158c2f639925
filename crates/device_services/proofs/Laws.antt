-- All elements as a part, what a length that fits says of the count, and how a pair without a size is refused.
-- Assumes nothing.
use mathlib.Core.Path.{◌≡◌, refl, ap}
use mathlib.Core.List.{List}
use Prim.Native.Nat.{ℕ, ◌-◌, ◌≤◌, min}
use native.Mathlib.Nat.{zero-add, min-eq_right}
use native.Mathlib.Omega.{arith}
use borrow.Author.Tests.{ltb-false}
use lib.ListN.{length}
use Rattle.protocol.specs.Verdict.{judge_from, fault_if, first_of, open_length, no_fault, Verdict}
use Rattle.protocol.proofs.Verdicts.{left_fits, fits_kept}
use Rattle.folds.specs.Folds.{first_fault}
use Rattle.folds.proofs.Laws.{fault_same}
use Rattle.pairs.specs.declared.PairKind.TheVariants.{List as ListKind}
use Rattle.pairs.specs.declared.ZeroSize.{ZeroSize}
use Rattle.pairs.specs.declared.ZeroSize.TheVariants.{Strict}
use Rattle.pairs.proofs.Laws.{absent_fits, zero_fits, zero_size_exactly}
use Rattle.device_services.specs.DeviceServices.{count_of, pair_place, fixed_part, pair_of, length_verdict, content_rules, element_verdict, elements_verdict, part_verdict, verdict_with}
use Rattle.device_services.specs.Claims.{EmptyPair, ZeroSizeByDefault, ZeroSizeStrict}
use Rattle.std.specs.Prelude.{Ok, Err}

-- all elements are a part
from_first : (z : ZeroSize) (s : List ℕ) (fixed count : ℕ) → elements_verdict z s fixed 0 count ≡ first_fault (element_verdict z s fixed) count
from_first z s fixed count = let e : count - 0 ≡ count = omega arith in rw e (fault_same _ _ count (λ i l. ap (element_verdict z s fixed) (zero-add i)))

-- there are at most 32 elements
pub few : (n count : ℕ) → length_verdict n count ≡ no_fault → count ≤ 32
unfolding length_verdict
few n count e = ltb-false 32 count (fits_kept _ (left_fits _ (open_length (fixed_part count) n) e)).1.0

-- so the first 32 are all
pub whole_part : (z : ZeroSize) (s : List ℕ) → part_verdict z s 0 32 ≡ verdict_with z s
unfolding verdict_with first_of
whole_part z s = by_length (length_verdict (length s) (count_of s)) refl
  where
    by_length : (d : Verdict) → length_verdict (length s) (count_of s) ≡ d
        → first_of d (elements_verdict z s (fixed_part (count_of s)) 0 (min 32 (count_of s))) ≡ first_of d (first_fault (element_verdict z s (fixed_part (count_of s))) (count_of s))
    by_length (Ok _) e = rw (min-eq_right (few (length s) (count_of s) e)) (from_first z s (fixed_part (count_of s)) (count_of s))
    by_length (Err r) e = refl

-- a pair (0, 0) has no element: 8 at its offset field
pub empty_pair : EmptyPair
unfolding element_verdict content_rules judge_from fault_if first_of
empty_pair z s fixed i e = rw (e, absent_fits z ListKind fixed 540 (pair_place i) (length s))

-- by default so has every pair of size 0; under the strict choice one with an offset is 18
pub zero_size_by_default : ZeroSizeByDefault
unfolding element_verdict content_rules judge_from fault_if first_of
zero_size_by_default s fixed i e = rw (zero_fits ListKind fixed 540 (pair_place i) (length s) (pair_of s i) e, e)

pub zero_size_strict : ZeroSizeStrict
unfolding element_verdict first_of
zero_size_strict s fixed i o = rw ((zero_size_exactly Strict ListKind fixed 540 (pair_place i) (length s) (pair_of s i)).1 (refl, o))
