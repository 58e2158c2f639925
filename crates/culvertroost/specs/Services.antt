-- DEVICE_SERVICES for C by a reader's choice: its number is judged, then the list is read or asked.
use Rattle.std.specs.Prelude.{ℕ, List}
use Rattle.protocol.specs.declared.service.ServiceId.{ServiceId}
use Rattle.device_services.specs.DeviceServices.{read_with}
use Rattle.services_query.specs.ServicesQuery.{Shown, plain, element_with, cids_with, listed_with, AllShown, none_shown, all_with}
use Rattle.services_ask.specs.ServicesAsk.{PositionAnswer, position_with}
use Rattle.c_structs.specs.Choices.{by_choice}
use Rattle.std.specs.Prelude.{Err}
use Rattle.device_services.specs.DeviceServices.{DeviceServicesRead}
use Rattle.services_query.specs.ServicesQuery.{ListedAnswer}

abbrev pub read_chosen : ℕ → List ℕ → DeviceServicesRead
read_chosen k s = by_choice k Err (λ z. read_with z s)

abbrev pub element_chosen : ℕ → List ℕ → ℕ → List ℕ → Shown
element_chosen k s number out = by_choice k (λ r. plain (Err r) out) (λ z. element_with z s number out)

abbrev pub cids_chosen : ℕ → List ℕ → ServiceId → List ℕ → Shown
cids_chosen k s service out = by_choice k (λ r. plain (Err r) out) (λ z. cids_with z s service out)

abbrev pub listed_chosen : ℕ → List ℕ → ServiceId → ℕ → ListedAnswer
listed_chosen k s service cid = by_choice k Err (λ z. listed_with z s service cid)

abbrev pub position_chosen : ℕ → List ℕ → ServiceId → ℕ → PositionAnswer
position_chosen k s service cid = by_choice k Err (λ z. position_with z s service cid)

abbrev pub all_chosen : ℕ → List ℕ → List ℕ → List ℕ → AllShown
all_chosen k s fields cids = by_choice k (λ r. none_shown (Err r) fields cids) (λ z. all_with z s fields cids)
