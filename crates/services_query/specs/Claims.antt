-- What is claimed of the questions beside their promises, in words of elements, whichever choice the reader makes.
use Rattle.std.specs.Prelude.{ℕ, ◌≤◌, ◌<◌, ◌≡◌, ◌↔◌, true, false, None, Ok, List}
use Rattle.protocol.specs.declared.service.ServiceId.{ServiceId}
use Rattle.protocol.specs.Verdict.{no_fault}
use Rattle.device_services.specs.DeviceServices.{count_of, offset_of, cid_count_at, element_at, cid_at, verdict_with}
use Rattle.pairs.specs.declared.ZeroSize.{ZeroSize}
use Rattle.services_query.specs.ServicesQuery.{element_with, cids_with, listed_with, element_shown}

-- element i of the list s is of the service
pub record Serves (s : List ℕ) (service : ServiceId) (i : ℕ) : Type 0 where
  pub below : i < count_of s
  pub is : (element_at s (offset_of s i)).device_service_id ≡ service

-- one element is of the service and has the CID
pub record Held (s : List ℕ) (service : ServiceId) (cid : ℕ) : Type 0 where
  pub element : ℕ
  pub serves : Serves s service element
  pub number : ℕ
  pub counted : number < cid_count_at s (offset_of s element)
  pub is : cid_at s (offset_of s element) number ≡ cid

-- element i is the first of the service
pub record First (s : List ℕ) (service : ServiceId) (i : ℕ) : Type 0 where
  pub serves : Serves s service i
  pub before : (j : ℕ) → j < i → Serves s service j → ⊥

-- '"not listed" is answered exactly if no element holds the service .. or has the number', of a list that is accepted
abbrev pub ElementNotListed : Type 0
ElementNotListed = (z : ZeroSize) (s : List ℕ) (i : ℕ) (out : List ℕ) → ((element_with z s i out).answer ≡ Ok None) ↔ ((verdict_with z s ≡ no_fault) × (count_of s ≤ i))

abbrev pub CidsNotListed : Type 0
CidsNotListed = (z : ZeroSize) (s : List ℕ) (service : ServiceId) (out : List ℕ)
    → ((cids_with z s service out).answer ≡ Ok None) ↔ ((verdict_with z s ≡ no_fault) × ((j : ℕ) → Serves s service j → ⊥))

-- listed exactly when the list is accepted and one of its elements holds both
abbrev pub ListedExactly : Type 0
ListedExactly =
    (z : ZeroSize) (s : List ℕ) (service : ServiceId) (cid : ℕ) → (listed_with z s service cid ≡ Ok true) ↔ ((verdict_with z s ≡ no_fault) × Held s service cid)

-- not listed exactly when the list is accepted and none of its elements holds both
abbrev pub NotListedExactly : Type 0
NotListedExactly =
    (z : ZeroSize) (s : List ℕ) (service : ServiceId) (cid : ℕ) → (listed_with z s service cid ≡ Ok false) ↔ ((verdict_with z s ≡ no_fault) × (Held s service cid → ⊥))

-- the first element of a service is shown
abbrev pub FirstShown : Type 0
FirstShown = (z : ZeroSize) (s : List ℕ) (service : ServiceId) (i : ℕ) (out : List ℕ) → verdict_with z s ≡ no_fault → First s service i
    → cids_with z s service out ≡ element_shown s i out

-- the element with a number below the count is shown, and no other is listed
abbrev pub ElementShown : Type 0
ElementShown = (z : ZeroSize) (s : List ℕ) (i : ℕ) (out : List ℕ) → verdict_with z s ≡ no_fault → i < count_of s → element_with z s i out ≡ element_shown s i out
