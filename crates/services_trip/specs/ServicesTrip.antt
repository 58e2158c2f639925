-- What a record of a services list says, in the words of the reader's answers, and what it means that bytes return the record.
-- In this order: the record asked; the bytes that return it; a record written and asked; the width of each number.
use Rattle.std.specs.Prelude.{ℕ, ◌*◌, ◌≤◌, ◌<◌, ◌^◌, ◌≡◌, Bool, cond, ◌&&◌, Some, None, Ok, Err, List, ltb, eqb, length, get_or, take}
use Rattle.wire.specs.Output.{over}
use Rattle.protocol.specs.Refusal.{refusal, output_too_small}
use Rattle.protocol.specs.Service.{same_id}
use Rattle.protocol.specs.Verdict.{Written}
use Rattle.protocol.specs.declared.service.ServiceId.{ServiceId}
use Rattle.folds.specs.Folds.{any_of, first_index}
use Rattle.device_services.specs.declared.DeviceServices.{DeviceServices}
use Rattle.device_services.specs.declared.DeviceService.{DeviceService}
use Rattle.device_services.specs.DeviceServices.{read_with}
use Rattle.pairs.specs.declared.ZeroSize.{ZeroSize}
use Rattle.services_query.specs.ServicesQuery.{ListedAnswer, Shown, plain, element_with as shown_with, cids_with, listed_with}
use Rattle.services_writer.specs.declared.ServiceElement.{ServiceElement}
use Rattle.services_writer.specs.declared.ServiceList.{ServiceList}
use Rattle.services_writer.specs.ServicesWriter.{element_of, write_of}

-- ---- the record asked

abbrev pub head_of : ServiceList → DeviceServices
head_of p = record { device_services_count = p.device_services_count; max_dss_sessions = p.max_dss_sessions }

-- the CIDs of an element that count
abbrev pub cids_in : ServiceElement → List ℕ
cids_in e = take e.fields.cid_count e.cids

-- an element with its CIDs, put into the list `out`
unfoldable pub element_in : ServiceElement → List ℕ → Shown
element_in e out =
    cond (ltb (length out) e.fields.cid_count)
    (plain (Err (refusal output_too_small (4 * e.fields.cid_count))) out)
    (plain (Ok (Some e.fields)) (over (cids_in e) out))

unfoldable pub chosen_in : ServiceList → ℕ → List ℕ → Shown
chosen_in p i out = cond (ltb i p.device_services_count) (element_in (element_of p i) out) (plain (Ok None) out)

-- element i is of the service
unfoldable pub serves_in : ServiceList → ServiceId → ℕ → Bool
serves_in p service i = same_id (element_of p i).fields.device_service_id service

-- and has the CID
unfoldable pub holds_in : ServiceList → ServiceId → ℕ → ℕ → Bool
holds_in p service cid i = serves_in p service i && any_of (λ k. eqb (get_or (element_of p i).cids k 0) cid) (element_of p i).fields.cid_count

-- ---- the bytes s return the record, by the reader's choice: its numbers, every element, every CID, and what it lists

pub record Returned (choice : ZeroSize) (p : ServiceList) (s : List ℕ) : Type 0 where
  pub read : read_with choice s ≡ Ok (head_of p)
  pub element : (i : ℕ) (out : List ℕ) → shown_with choice s i out ≡ chosen_in p i out
  pub service : (service : ServiceId) (out : List ℕ) → cids_with choice s service out ≡ chosen_in p (first_index (serves_in p service) p.device_services_count) out
  pub listed : (service : ServiceId) (cid : ℕ) → listed_with choice s service cid ≡ Ok (any_of (holds_in p service cid) p.device_services_count)

-- ---- written and asked: the writer's refusal, or whether the record holds both

abbrev pub asked : Written → Bool → ListedAnswer
asked (Ok n) any = Ok any
asked (Err r) any = Err r

unfoldable pub asked_of : ServiceList → ServiceId → ℕ → List ℕ → ListedAnswer
asked_of p service cid s = asked (write_of p s).answer (any_of (holds_in p service cid) p.device_services_count)

-- ---- each number is of its width, and the CIDs that count are there

pub record FieldsOfWidth (f : DeviceService) : Type 0 where
  pub word0 : f.device_service_id.word0 < 2 ^ 32
  pub word1 : f.device_service_id.word1 < 2 ^ 32
  pub word2 : f.device_service_id.word2 < 2 ^ 32
  pub word3 : f.device_service_id.word3 < 2 ^ 32
  pub payload : f.dss_payload < 2 ^ 32
  pub instances : f.max_dss_instances < 2 ^ 32
  pub cids : f.cid_count < 2 ^ 32

pub record ElementOfWidth (e : ServiceElement) : Type 0 where
  pub fields : FieldsOfWidth e.fields
  pub cids : (k : ℕ) → get_or e.cids k 0 < 2 ^ 32
  pub full : e.fields.cid_count ≤ 128 → e.fields.cid_count ≤ length e.cids

pub record OfWidth (p : ServiceList) : Type 0 where
  pub sessions : p.max_dss_sessions < 2 ^ 32
  pub elements : (i : ℕ) → i < p.device_services_count → ElementOfWidth (element_of p i)

-- what the writer puts into an output returns the record
abbrev pub RoundTrip : Type 0
RoundTrip =
    (choice : ZeroSize) (p : ServiceList) (s : List ℕ) (n : ℕ) → OfWidth p → (write_of p s).answer ≡ Ok n → Returned choice p (take n (write_of p s).output)
