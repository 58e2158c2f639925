-- The listing of a DEVICE_SERVICES payload: the two numbers, and for each element its fields and its CIDs.
use Rattle.std.specs.Prelude.{ℕ, ◌≤◌, ◌<◌, List, [], ◌∷◌, ◌++◌}
use Rattle.ascii.specs.Ascii.{line_feed, ascii, decimal, hexed}
use Rattle.folds.specs.Folds.{joined}
use Rattle.protocol.specs.Service.{id_bytes}
use Rattle.protocol.specs.declared.service.ServiceId.{ServiceId}
use Rattle.device_services.specs.DeviceServices.{offset_of, cid_count_at, element_at, cid_at}
use Rattle.rows.specs.Rows.{header, field, row, indexed_row, refused_line}
use Rattle.std.specs.Prelude.{Ok, Err}
use Rattle.device_services.specs.DeviceServices.{DeviceServicesRead}

-- "32 hex digits, printed order"
unfoldable pub id_row : ℕ → ServiceId → List ℕ
id_row i id = ascii "DeviceServiceId[" ++ (decimal i ++ (ascii "]\t" ++ (hexed (id_bytes id) ++ (line_feed ∷ []))))

-- CID j of element i
unfoldable pub cid_row : ℕ → ℕ → ℕ → List ℕ
cid_row i j cid = ascii "Cid[" ++ (decimal i ++ (ascii "][" ++ (decimal j ++ (ascii "]" ++ (field cid ++ (line_feed ∷ []))))))

-- the first n CIDs of element i, which starts at `at`
unfoldable pub cid_rows : List ℕ → ℕ → ℕ → ℕ → List ℕ
cid_rows s at i n = joined (λ j. cid_row i j (cid_at s at j)) n

unfoldable pub element_rows : List ℕ → ℕ → ℕ → List ℕ
element_rows s at i =
    id_row i (element_at s at).device_service_id
    ++ (indexed_row (ascii "DssPayload") i (element_at s at).dss_payload
    ++ (indexed_row (ascii "MaxDssInstances") i (element_at s at).max_dss_instances
    ++ (indexed_row (ascii "CidCount") i (element_at s at).cid_count ++ cid_rows s at i (element_at s at).cid_count)))

-- the first n elements
unfoldable pub elements_rows : List ℕ → ℕ → List ℕ
elements_rows s n = joined (λ i. element_rows s (offset_of s i) i) n

unfoldable pub services_text : List ℕ → DeviceServicesRead → List ℕ
services_text s (Err r) = refused_line r
services_text s (Ok p) =
    header
    ++ (row (ascii "DeviceServicesCount") p.device_services_count
    ++ (row (ascii "MaxDssSessions") p.max_dss_sessions ++ elements_rows s p.device_services_count))

-- each of the first n elements has at most 128 CIDs (proofs/Services)
abbrev pub Few : List ℕ → ℕ → Type 0
Few s n = (i : ℕ) → i < n → cid_count_at s (offset_of s i) ≤ 128
