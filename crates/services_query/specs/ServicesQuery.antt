-- What is asked of a DEVICE_SERVICES payload (document 01, "Device services"). The whole list is judged first, by the reader's choice.
-- In this order: the tests of an element; an element shown; the three questions; all elements in one pass.
use Rattle.std.specs.Prelude.{ℕ, ◌+◌, ◌*◌, Bool, cond, ◌&&◌, Option, Some, None, Result, Ok, Err, List, ltb, eqb, length}
use Rattle.wire.specs.Numbers.{u32_at}
use Rattle.wire.specs.Output.{over}
use Rattle.protocol.specs.Refusal.{refusal, output_too_small}
use Rattle.protocol.specs.Service.{same_id}
use Rattle.protocol.specs.Verdict.{Verdict}
use Rattle.protocol.specs.declared.Refusal.{Refusal}
use Rattle.protocol.specs.declared.service.ServiceId.{ServiceId}
use Rattle.folds.specs.Folds.{any_of, first_index, list_of, joined, sum_of}
use Rattle.device_services.specs.declared.DeviceService.{DeviceService}
use Rattle.device_services.specs.DeviceServices.{count_of, offset_of, cid_count_at, element_at, cid_at, cids_at, verdict_with}
use Rattle.pairs.specs.Pair.{by_default}
use Rattle.pairs.specs.declared.ZeroSize.{ZeroSize}
use Rattle.services_query.specs.declared.all.AllListed.{AllListed}

abbrev pub ElementAnswer : Type 0
ElementAnswer = Result (Option DeviceService) Refusal

abbrev pub ListedAnswer : Type 0
ListedAnswer = Result Bool Refusal

-- ---- the tests of an element

-- element i is of the service
unfoldable pub is_of : List ℕ → ServiceId → ℕ → Bool
is_of s service i = same_id (element_at s (offset_of s i)).device_service_id service

-- CID k of the element that starts at `at` is the one asked for
abbrev pub is_cid : List ℕ → ℕ → ℕ → ℕ → Bool
is_cid s at cid k = eqb (cid_at s at k) cid

-- the element that starts at `at` has the CID
unfoldable pub has_cid : List ℕ → ℕ → ℕ → Bool
has_cid s at cid = any_of (is_cid s at cid) (cid_count_at s at)

-- element i holds both
unfoldable pub holds : List ℕ → ServiceId → ℕ → ℕ → Bool
holds s service cid i = is_of s service i && has_cid s (offset_of s i) cid

-- ---- an element shown: the answer, and the caller's list at exit

pub record Shown : Type 0 where
  pub answer : ElementAnswer
  pub output : List ℕ

abbrev pub plain : ElementAnswer → List ℕ → Shown
plain a out = record { answer = a; output = out }

-- its fields, and its CIDs at the front of the list: "a list too small is 11", by the bytes needed
unfoldable pub element_shown : List ℕ → ℕ → List ℕ → Shown
element_shown s i out =
    cond (ltb (length out) (cid_count_at s (offset_of s i)))
    (plain (Err (refusal output_too_small (4 * cid_count_at s (offset_of s i)))) out)
    (plain (Ok (Some (element_at s (offset_of s i)))) (over (cids_at s (offset_of s i)) out))

-- "'Not listed' is answered exactly if no element .. has the number"
unfoldable pub chosen_shown : List ℕ → ℕ → List ℕ → Shown
chosen_shown s i out = cond (ltb i (count_of s)) (element_shown s i out) (plain (Ok None) out)

-- ---- the questions

abbrev pub judged : Verdict → Shown → List ℕ → Shown
judged (Ok _) x out = x
judged (Err r) x out = plain (Err r) out

-- "an element may also be chosen by its number, from 0"
unfoldable pub element_with : ZeroSize → List ℕ → ℕ → List ℕ → Shown
element_with z s number out = judged (verdict_with z s) (chosen_shown s number out) out

abbrev pub element_of : List ℕ → ℕ → List ℕ → Shown
element_of s number out = element_with by_default s number out

-- "the CIDs of a chosen service: first matching element, in listed order"
unfoldable pub cids_with : ZeroSize → List ℕ → ServiceId → List ℕ → Shown
cids_with z s service out = judged (verdict_with z s) (chosen_shown s (first_index (is_of s service) (count_of s)) out) out

abbrev pub cids_of : List ℕ → ServiceId → List ℕ → Shown
cids_of s service out = cids_with by_default s service out

abbrev pub told : Verdict → Bool → ListedAnswer
told (Ok _) any = Ok any
told (Err r) any = Err r

-- whether any element holds both
unfoldable pub listed_with : ZeroSize → List ℕ → ServiceId → ℕ → ListedAnswer
listed_with z s service cid = told (verdict_with z s) (any_of (holds s service cid) (count_of s))

abbrev pub listed_of : List ℕ → ServiceId → ℕ → ListedAnswer
listed_of s service cid = listed_with by_default s service cid

-- ---- all elements in one pass: the answer, and the caller's two lists at exit

-- the n numbers that stand one behind another from `at` on
unfoldable pub words_at : List ℕ → ℕ → ℕ → List ℕ
words_at s at n = list_of (λ k. u32_at s (at + 4 * k)) n

-- of each of the first n elements its 28 bytes before the CIDs, as seven numbers
unfoldable pub all_fields : List ℕ → ℕ → List ℕ
all_fields s n = joined (λ i. words_at s (offset_of s i) 7) n

-- how many CIDs element i has
abbrev pub cids_of_element : List ℕ → ℕ → ℕ
cids_of_element s i = cid_count_at s (offset_of s i)

-- of each of the first n elements its CIDs
unfoldable pub all_cids : List ℕ → ℕ → List ℕ
all_cids s n = joined (λ i. cids_at s (offset_of s i)) n

abbrev pub total_of : List ℕ → ℕ
total_of s = sum_of (cids_of_element s) (count_of s)

pub record AllShown : Type 0 where
  pub answer : Result AllListed Refusal
  pub fields : List ℕ
  pub cids : List ℕ

abbrev pub none_shown : Result AllListed Refusal → List ℕ → List ℕ → AllShown
none_shown a fields cids = record { answer = a; fields = fields; cids = cids }

-- "a list too small is 11", by the bytes needed: the elements' list first
unfoldable pub all_shown : List ℕ → List ℕ → List ℕ → AllShown
all_shown s fields cids =
    cond (ltb (length fields) (7 * count_of s)) (none_shown (Err (refusal output_too_small (28 * count_of s))) fields cids)
    (cond (ltb (length cids) (total_of s)) (none_shown (Err (refusal output_too_small (4 * total_of s))) fields cids)
    (record { answer = Ok (record { elements = count_of s; cids = total_of s }); fields = over (all_fields s (count_of s)) fields; cids = over (all_cids s (count_of s)) cids }))

abbrev pub all_judged : Verdict → AllShown → List ℕ → List ℕ → AllShown
all_judged (Ok _) x fields cids = x
all_judged (Err r) x fields cids = none_shown (Err r) fields cids

unfoldable pub all_with : ZeroSize → List ℕ → List ℕ → List ℕ → AllShown
all_with z s fields cids = all_judged (verdict_with z s) (all_shown s fields cids) fields cids

abbrev pub all_of : List ℕ → List ℕ → List ℕ → AllShown
all_of s fields cids = all_with by_default s fields cids
