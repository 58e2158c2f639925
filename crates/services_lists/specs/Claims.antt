-- What is claimed of the writer beside its promise.
-- In this order: which lists are written; the lists that a record says; that they are written as the record is.
use Rattle.std.specs.Prelude.{ℕ, ◌%◌, ◌≤◌, ◌≡◌, ◌↔◌, List, [], ◌∷◌, length, get_or, Ok}
use Rattle.folds.specs.Folds.{list_of, joined}
use Rattle.device_services.specs.declared.DeviceService.{DeviceService}
use Rattle.services_writer.specs.declared.ServiceElement.{ServiceElement}
use Rattle.services_writer.specs.declared.ServiceList.{ServiceList}
use Rattle.services_writer.specs.ServicesWriter.{element_of, bytes_of, write_of}
use Rattle.services_writer.specs.Claims.{Writable}
use Rattle.services_lists.specs.ServicesLists.{count_of, cids_before, record_of, write_all_of}

-- ---- which lists are written

-- they say a record: whole elements, within the tables, and as many CIDs as they count
pub record Sayable (max : ℕ) (fields cids : List ℕ) : Type 0 where
  pub whole : length fields % 7 ≡ 0
  pub within : Writable (record_of max fields cids)
  pub counted : cids_before fields (count_of fields) ≡ length cids

-- accepted exactly where they say a record and there is room
abbrev pub AllWrittenExactly : Type 0
AllWrittenExactly = (max : ℕ) (fields cids s : List ℕ)
    → ((write_all_of max fields cids s).answer ≡ Ok (length (bytes_of (record_of max fields cids))))
    ↔ (Sayable max fields cids × (length (bytes_of (record_of max fields cids)) ≤ length s))

-- ---- the lists that a record says

abbrev pub numbers_in : DeviceService → List ℕ
numbers_in f =
    f.device_service_id.word0 ∷ f.device_service_id.word1 ∷ f.device_service_id.word2 ∷ f.device_service_id.word3
    ∷ f.dss_payload ∷ f.max_dss_instances ∷ f.cid_count ∷ []

-- the CIDs that count
abbrev pub cids_in : ServiceElement → List ℕ
cids_in e = list_of (λ k. get_or e.cids k 0) e.fields.cid_count

unfoldable pub fields_said : ServiceList → List ℕ
fields_said p = joined (λ i. numbers_in (element_of p i).fields) p.device_services_count

unfoldable pub cids_said : ServiceList → List ℕ
cids_said p = joined (λ i. cids_in (element_of p i)) p.device_services_count

-- ---- they are written, or refused, as the record is, whatever it holds

abbrev pub AllWritten : Type 0
AllWritten = (p : ServiceList) (s : List ℕ) → write_all_of p.max_dss_sessions (fields_said p) (cids_said p) s ≡ write_of p s
