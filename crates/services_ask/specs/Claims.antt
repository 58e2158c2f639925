-- What is claimed of the question beside its promise, in words of elements, whichever choice the reader makes (document 02, order 7).
use Rattle.std.specs.Prelude.{ℕ, ◌≤◌, ◌<◌, ◌≡◌, ◌⊎◌, ◌↔◌, true, Some, None, Ok, Err, List, length}
use Rattle.protocol.specs.declared.Refusal.{Refusal}
use Rattle.protocol.specs.declared.service.ServiceId.{ServiceId}
use Rattle.protocol.specs.Verdict.{no_fault}
use Rattle.pairs.specs.declared.ZeroSize.{ZeroSize}
use Rattle.device_services.specs.DeviceServices.{count_of, fixed_part, offset_of, cid_count_at, cid_at, length_verdict, verdict_with}
use Rattle.device_services.specs.Claims.{ElementFits}
use Rattle.services_query.specs.ServicesQuery.{listed_with}
use Rattle.services_query.specs.Claims.{Serves}
use Rattle.services_ask.specs.ServicesAsk.{position, position_with, without_position}

-- CID k of element i is the one asked for, and the element is of the service
pub record Match (s : List ℕ) (service : ServiceId) (cid i k : ℕ) : Type 0 where
  pub serves : Serves s service i
  pub counted : k < cid_count_at s (offset_of s i)
  pub is : cid_at s (offset_of s i) k ≡ cid

-- "a match stands before the first faulty element": length and count are right, and so is each element up to its own
pub record Reached (s : List ℕ) (service : ServiceId) (cid i k : ℕ) : Type 0 where
  pub long : length_verdict (length s) (count_of s) ≡ no_fault
  pub good : (j : ℕ) → j ≤ i → ElementFits s (fixed_part (count_of s)) j
  pub match : Match s service cid i k

-- every match stands there or behind it, in listed order
abbrev pub NoneBefore : List ℕ → ServiceId → ℕ → ℕ → ℕ → Type 0
NoneBefore s service cid i k = (j l : ℕ) → Match s service cid j l → (i < j) ⊎ ((i ≡ j) × (k ≤ l))

-- of the question and the full reader: the one theorem
pub record AskedExactly (z : ZeroSize) (s : List ℕ) (service : ServiceId) (cid : ℕ) : Type 0 where
  -- "where the full reader accepts, the answer equals the full one"
  pub accepted : verdict_with z s ≡ no_fault → without_position (position_with z s service cid) ≡ listed_with z s service cid
  -- "where it would refuse, the question answers yes if a match stands before the first faulty element"
  pub reached : (i k : ℕ) → Reached s service cid i k → without_position (position_with z s service cid) ≡ Ok true
  -- "else it gives the full reader's refusal number and place"
  pub refused : (r : Refusal)
      → (position_with z s service cid ≡ Err r) ↔ ((verdict_with z s ≡ Err r) × ((i k : ℕ) → Reached s service cid i k → ⊥))
  -- the position is that of the first match
  pub position : (i k : ℕ)
      → (position_with z s service cid ≡ Ok (Some (position i k))) ↔ (Reached s service cid i k × NoneBefore s service cid i k)
  -- and a no is one of the whole list
  pub nowhere : (position_with z s service cid ≡ Ok None) ↔ ((verdict_with z s ≡ no_fault) × ((i k : ℕ) → Match s service cid i k → ⊥))

abbrev pub Asked : Type 0
Asked = (z : ZeroSize) (s : List ℕ) (service : ServiceId) (cid : ℕ) → AskedExactly z s service cid
