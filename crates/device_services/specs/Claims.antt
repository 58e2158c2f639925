-- What is claimed of the DEVICE_SERVICES payload beside the promises: the rules in words of fields. A list without an element for each
-- pair is accepted under neither choice of the reader, so the rules are the same for both; the refusals aren't.
use Rattle.std.specs.Prelude.{◌↔◌, ℕ, ◌+◌, ◌*◌, ◌%◌, ◌≤◌, ◌<◌, ◌≡◌, List, length, Ok, Err, true}
use Rattle.device_services.specs.DeviceServices.{count_of, fixed_part, pair_of, cid_count_at, head_at, read_with, element_judged_with, length_verdict, element_verdict, pair_place}
use Rattle.device_services.specs.declared.DeviceServices.{DeviceServices}
use Rattle.pairs.specs.declared.ZeroSize.{ZeroSize}
use Rattle.pairs.specs.declared.ZeroSize.TheVariants.{Absent, Strict}
use Rattle.pairs.specs.Claims.{OffsetWithZeroSize}
use Rattle.pairs.specs.Pair.{range}
use Rattle.protocol.specs.Refusal.{refusal, wrong_size, offset_with_zero_size}
use Rattle.protocol.specs.Verdict.{no_fault}

-- element i: at most 128 CIDs, a size that is theirs, and its bytes behind the pairs, at a multiple of 4, and inside the payload
pub record ElementFits (s : List ℕ) (fixed i : ℕ) : Type 0 where
  pub few : cid_count_at s (pair_of s i).start ≤ 128
  pub size : (pair_of s i).length ≡ 28 + 4 * cid_count_at s (pair_of s i).start
  pub behind : fixed ≤ (pair_of s i).start
  pub aligned : (pair_of s i).start % 4 ≡ 0
  pub within : (pair_of s i).start + (pair_of s i).length ≤ length s

pub record Acceptable (s : List ℕ) : Type 0 where
  pub few : count_of s ≤ 32
  pub fixed : fixed_part (count_of s) ≤ length s
  pub most : length s ≤ 4096
  pub elements : (i : ℕ) → i < count_of s → ElementFits s (fixed_part (count_of s)) i

-- ---- what is proved (proofs/Acceptance, proofs/Laws)

-- an accepted list keeps the rules, and shows the numbers at their places
abbrev pub Accepted : Type 0
Accepted = (z : ZeroSize) (s : List ℕ) (p : DeviceServices) → read_with z s ≡ Ok p → Acceptable s × (p ≡ head_at s)

abbrev pub AcceptedExactly : Type 0
AcceptedExactly = (z : ZeroSize) (s : List ℕ) → (read_with z s ≡ Ok (head_at s)) ↔ Acceptable s

-- fits exactly when the length and the count do, the list has it, and it keeps its rules
abbrev pub NumberedExactly : Type 0
NumberedExactly = (z : ZeroSize) (s : List ℕ) (i : ℕ)
    → (element_judged_with z s i ≡ (Ok true)) ↔ ((length_verdict (length s) (count_of s) ≡ no_fault) × (i < count_of s) × ElementFits s (fixed_part (count_of s)) i)

-- a pair (0, 0) has no element: 8 at its offset field, under either choice
abbrev pub EmptyPair : Type 0
EmptyPair = (z : ZeroSize) (s : List ℕ) (fixed i : ℕ) → pair_of s i ≡ range 0 0 → element_verdict z s fixed i ≡ Err (refusal wrong_size (pair_place i))

-- by default so has every pair of size 0
abbrev pub ZeroSizeByDefault : Type 0
ZeroSizeByDefault = (s : List ℕ) (fixed i : ℕ) → (pair_of s i).length ≡ 0 → element_verdict Absent s fixed i ≡ Err (refusal wrong_size (pair_place i))

-- and under the strict choice 18, there too, where it has an offset
abbrev pub ZeroSizeStrict : Type 0
ZeroSizeStrict =
    (s : List ℕ) (fixed i : ℕ) → OffsetWithZeroSize (pair_of s i) → element_verdict Strict s fixed i ≡ Err (refusal offset_with_zero_size (pair_place i))
