-- The DEVICE_SERVICES payload (document 01, "Device services"; document 02, order 10; MBIM 1.0, MBIM_DEVICE_SERVICES_INFO and MBIM_DEVICE_SERVICE_ELEMENT).
-- In this order: the fields and their places; the rules, in the order in which they are judged; what a reader answers.
use Rattle.std.specs.Prelude.{ℕ, ◌+◌, ◌*◌, ◌-◌, min, false, cond, List, [], ◌∷◌, ltb, length, Ok, Err, true, Bool, Result}
use Rattle.wire.specs.Numbers.{u32_at}
use Rattle.protocol.specs.Refusal.{too_short, wrong_count}
use Rattle.protocol.specs.Service.{id_at}
use Rattle.protocol.specs.Verdict.{Rule, rule, judge, first_of, open_length, Verdict}
use Rattle.folds.specs.Folds.{first_fault, list_of}
use Rattle.pairs.specs.Pair.{by_default, range_at, verdict_of as pair_verdict}
use Rattle.lists.specs.Lists.{list_rules}
use Rattle.pairs.specs.declared.Range.{Range}
use Rattle.lists.specs.declared.ListForm.{ListForm}
use Rattle.pairs.specs.declared.PairKind.TheVariants.{List as ListKind}
use Rattle.pairs.specs.declared.ZeroSize.{ZeroSize}
use Rattle.device_services.specs.declared.DeviceServices.{DeviceServices}
use Rattle.device_services.specs.declared.DeviceService.{DeviceService}
use Rattle.protocol.specs.declared.Refusal.{Refusal}

abbrev pub DeviceServicesRead : Type 0
DeviceServicesRead = Result DeviceServices Refusal

abbrev pub ElementJudged : Type 0
ElementJudged = Result Bool Refusal

-- ---- fields and places

-- "Count 0, MaxDssSessions 4, then one pair each"
abbrev pub count_of : List ℕ → ℕ
count_of s = u32_at s 0

unfoldable pub head_at : List ℕ → DeviceServices
head_at s = record { device_services_count = count_of s; max_dss_sessions = u32_at s 4 }

abbrev pub pair_place : ℕ → ℕ
pair_place i = 8 + 8 * i

-- "the services list's fixed part includes its pairs"
abbrev pub fixed_part : ℕ → ℕ
fixed_part count = pair_place count

-- the pair of element i, and where the element starts
abbrev pub pair_of : List ℕ → ℕ → Range
pair_of s i = range_at s (pair_place i)

abbrev pub offset_of : List ℕ → ℕ → ℕ
offset_of s i = u32_at s (pair_place i)

-- the element that starts at `at`: "service 0, two numbers 16 and 20, CID count 24, CIDs from 28"
abbrev pub cid_count_at : List ℕ → ℕ → ℕ
cid_count_at s at = u32_at s (at + 24)

unfoldable pub element_at : List ℕ → ℕ → DeviceService
element_at s at = record {
  device_service_id = id_at s at;
  dss_payload = u32_at s (at + 16);
  max_dss_instances = u32_at s (at + 20);
  cid_count = cid_count_at s at;
}

abbrev pub cid_at : List ℕ → ℕ → ℕ → ℕ
cid_at s at k = u32_at s (at + 28 + 4 * k)

-- all its CIDs: as many as its own count
unfoldable pub cids_at : List ℕ → ℕ → List ℕ
cids_at s at = list_of (cid_at s at) (cid_count_at s at)

-- ---- rules: broken, reason, place; the first broken one decides

-- a payload of n bytes: "under 8 bytes, 1; count, 15; pairs missing, 1; then 5"
unfoldable pub length_verdict : ℕ → ℕ → Verdict
length_verdict n count = first_of (judge (rule (ltb n 8) too_short n ∷ rule (ltb 32 count) wrong_count 0 ∷ [])) (open_length (fixed_part count) n)

-- an element as the list behind its pair: "CID count 24 (at most 128)"; "its size is 28 + 4 × count and at most 540"; never absent
abbrev pub element_form : ListForm
element_form = record { limit = 540; least = 28; count_place = 24; fewest = 0; most = 128; each = 4; optional = false }

-- what a pair at `place` shows: size under 28, 8; count, 15; size against count, 8
unfoldable pub content_rules : List ℕ → ℕ → Range → List Rule
content_rules s place p = list_rules element_form place p (cid_count_at s p.start)

-- pair i of a list with a fixed part, "judged 8 (limit, odd), 6, 7 and then its list", by the reader's choice; the limit is 540.
-- 02, order 10: "a services pair of size 0 is 8 by default"
unfoldable pub element_verdict : ZeroSize → List ℕ → ℕ → ℕ → Verdict
element_verdict z s fixed i =
    first_of (pair_verdict z ListKind fixed 540 (pair_place i) (length s) (pair_of s i)) (judge (content_rules s (pair_place i) (pair_of s i)))

-- those with the numbers from `first` to below `end`
abbrev pub elements_verdict : ZeroSize → List ℕ → ℕ → ℕ → ℕ → Verdict
elements_verdict z s fixed first end = first_fault (λ i. element_verdict z s fixed (first + i)) (end - first)

abbrev pub judged_as : Verdict → ElementJudged → ElementJudged
judged_as (Ok _) x = x
judged_as (Err r) x = Err r

-- element i by itself: the length and the count, then whether the list has it, then its pair and the element
unfoldable pub element_judged_with : ZeroSize → List ℕ → ℕ → ElementJudged
element_judged_with z s i =
    judged_as (length_verdict (length s) (count_of s))
    (cond (ltb i (count_of s)) (judged_as (element_verdict z s (fixed_part (count_of s)) i) (Ok true)) (Ok false))

abbrev pub element_judged : List ℕ → ℕ → ElementJudged
element_judged s i = element_judged_with by_default s i

-- the length and the count, then those elements that the list has
abbrev pub part_verdict : ZeroSize → List ℕ → ℕ → ℕ → Verdict
part_verdict z s first end =
    first_of (length_verdict (length s) (count_of s)) (elements_verdict z s (fixed_part (count_of s)) first (min end (count_of s)))

-- the length, then pair by pair, each with its element
unfoldable pub verdict_with : ZeroSize → List ℕ → Verdict
verdict_with z s = first_of (length_verdict (length s) (count_of s)) (first_fault (element_verdict z s (fixed_part (count_of s))) (count_of s))

abbrev pub verdict_of : List ℕ → Verdict
verdict_of s = verdict_with by_default s

-- ---- what a reader answers

abbrev pub shown : Verdict → DeviceServices → DeviceServicesRead
shown (Ok _) p = Ok p
shown (Err r) p = Err r

unfoldable pub read_with : ZeroSize → List ℕ → DeviceServicesRead
read_with z s = shown (verdict_with z s) (head_at s)

abbrev pub read_of : List ℕ → DeviceServicesRead
read_of s = read_with by_default s
