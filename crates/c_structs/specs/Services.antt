-- The DEVICE_SERVICES payload's answers as plain members: 'listed' is 1 or 0, and a refused answer has all other members 0.
use Rattle.device_services.specs.declared.DeviceServices.{DeviceServices}
use Rattle.device_services.specs.declared.DeviceService.{DeviceService}
use Rattle.protocol.specs.declared.Refusal.{Refusal}
use Rattle.services_ask.specs.ServicesAsk.{PositionAnswer}
use Rattle.services_query.specs.declared.all.AllListed.{AllListed}
use Rattle.c_structs.specs.declared.services.AllInfo.{AllInfo}
use Rattle.c_structs.specs.declared.services.DeviceServicesAnswer.{DeviceServicesAnswer}
use Rattle.c_structs.specs.declared.services.ElementInfo.{ElementInfo}
use Rattle.c_structs.specs.declared.services.ListedInfo.{ListedInfo}
use Rattle.c_structs.specs.declared.services.PositionInfo.{PositionInfo}
use Rattle.c_structs.specs.Answers.{no_refusal, refusal_info}
use Rattle.c_structs.specs.declared.RefusalInfo.{RefusalInfo}
use Rattle.std.specs.Prelude.{Ok, Err, Some, None, true, false}
use Rattle.device_services.specs.DeviceServices.{DeviceServicesRead}
use Rattle.services_query.specs.ServicesQuery.{ElementAnswer}
use Rattle.services_query.specs.ServicesQuery.{ListedAnswer}
use Rattle.std.specs.Prelude.{Result}

-- ---- the list's two numbers

abbrev pub no_info : DeviceServices
no_info = record { device_services_count = 0; max_dss_sessions = 0 }

unfoldable pub answer_of : DeviceServicesRead → DeviceServicesAnswer
answer_of (Ok i) = record { refusal = no_refusal; info = i }
answer_of (Err r) = record { refusal = refusal_info r; info = no_info }

-- ---- an element

abbrev pub no_element : DeviceService
no_element = record {
  device_service_id = record { word0 = 0; word1 = 0; word2 = 0; word3 = 0 };
  dss_payload = 0;
  max_dss_instances = 0;
  cid_count = 0;
}

-- no element, with a refusal or without
abbrev pub unlisted : RefusalInfo → ElementInfo
unlisted r = record { refusal = r; listed = 0; element = no_element }

unfoldable pub element_info : ElementAnswer → ElementInfo
element_info (Ok (Some e)) = record { refusal = no_refusal; listed = 1; element = e }
element_info (Ok None) = record { refusal = no_refusal; listed = 0; element = no_element }
element_info (Err r) = record { refusal = refusal_info r; listed = 0; element = no_element }

-- ---- whether a service and a CID are listed

unfoldable pub listed_info : ListedAnswer → ListedInfo
listed_info (Ok true) = record { refusal = no_refusal; listed = 1 }
listed_info (Ok false) = record { refusal = no_refusal; listed = 0 }
listed_info (Err r) = record { refusal = refusal_info r; listed = 0 }

-- and where

abbrev pub not_listed : RefusalInfo → PositionInfo
not_listed r = record { refusal = r; listed = 0; element_number = 0; cid_number = 0 }

unfoldable pub position_info : PositionAnswer → PositionInfo
position_info (Ok (Some p)) = record { refusal = no_refusal; listed = 1; element_number = p.element_number; cid_number = p.cid_number }
position_info (Ok None) = not_listed no_refusal
position_info (Err r) = not_listed (refusal_info r)

-- ---- all elements in one pass

unfoldable pub all_info : (Result AllListed Refusal) → AllInfo
all_info (Ok listed) = record { refusal = no_refusal; elements = listed.elements; cids = listed.cids }
all_info (Err r) = record { refusal = refusal_info r; elements = 0; cids = 0 }
