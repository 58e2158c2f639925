-- The DEVICE_SERVICES payload as it is written (document 01, "Device services").
-- In this order: the record's elements and where they go; the rules, in the order in which they are judged; the bytes; what a writer gives.
use Rattle.std.specs.Prelude.{ℕ, ◌+◌, ◌*◌, List, [], ◌++◌, ltb, get_or}
use Rattle.wire.specs.Numbers.{digits}
use Rattle.protocol.specs.Refusal.{too_long, wrong_size, wrong_count}
use Rattle.protocol.specs.Service.{id_bytes}
use Rattle.protocol.specs.Verdict.{fault_if, first_of, Writing, writing, Verdict}
use Rattle.folds.specs.Folds.{first_fault, joined, sum_of}
use Rattle.pairs.specs.Pair.{range, range_bytes}
use Rattle.device_services.specs.declared.DeviceService.{DeviceService}
use Rattle.device_services.specs.DeviceServices.{pair_place, fixed_part}
use Rattle.services_writer.specs.declared.ServiceElement.{ServiceElement}
use Rattle.services_writer.specs.declared.ServiceList.{ServiceList}

-- ---- the record's elements, and where they go

-- element i; past the array's end there is none, and no writer comes there
abbrev pub element_of : ServiceList → ℕ → ServiceElement
element_of p i =
    get_or p.elements i
    (record {
      fields = record {
        device_service_id = record { word0 = 0; word1 = 0; word2 = 0; word3 = 0 };
        dss_payload = 0;
        max_dss_instances = 0;
        cid_count = 0;
      };
      cids = [];
    })

-- "its size is 28 + 4 × count"
abbrev pub size_of : ServiceList → ℕ → ℕ
size_of p i = 28 + 4 * (element_of p i).fields.cid_count

-- element i starts behind the pairs and the elements before it; each size is a multiple of 4, so none is padded
unfoldable pub start_of : ServiceList → ℕ → ℕ
start_of p i = fixed_part p.device_services_count + sum_of (size_of p) i

abbrev pub length_of : ServiceList → ℕ
length_of p = start_of p p.device_services_count

-- ---- rules

-- the size of element i is at most 540
abbrev pub size_verdict : ServiceList → ℕ → Verdict
size_verdict p i = fault_if (ltb 540 (size_of p i)) wrong_size (pair_place i)

-- the count; each size; "then 5"
unfoldable pub written_verdict : ServiceList → Verdict
written_verdict p =
    first_of (fault_if (ltb 32 p.device_services_count) wrong_count 0)
    (first_of (first_fault (size_verdict p) p.device_services_count)
    (fault_if (ltb 4096 (length_of p)) too_long 0))

-- ---- bytes

unfoldable pub field_bytes : DeviceService → List ℕ
field_bytes f =
    id_bytes f.device_service_id ++ (digits 4 f.dss_payload ++ (digits 4 f.max_dss_instances ++ digits 4 f.cid_count))

-- CID k, and the first n of them
abbrev pub cid_piece : List ℕ → ℕ → List ℕ
cid_piece cids k = digits 4 (get_or cids k 0)

abbrev pub cid_bytes : List ℕ → ℕ → List ℕ
cid_bytes cids n = joined (cid_piece cids) n

unfoldable pub element_bytes : ServiceElement → List ℕ
element_bytes e = field_bytes e.fields ++ cid_bytes e.cids e.fields.cid_count

unfoldable pub head_bytes : ServiceList → List ℕ
head_bytes p = digits 4 p.device_services_count ++ digits 4 p.max_dss_sessions

abbrev pub pair_bytes : ServiceList → ℕ → List ℕ
pair_bytes p i = range_bytes (range (start_of p i) (size_of p i))

abbrev pub piece : ServiceList → ℕ → List ℕ
piece p i = element_bytes (element_of p i)

-- the payload's bytes: the two numbers, the pairs, the elements
unfoldable pub bytes_of : ServiceList → List ℕ
bytes_of p = head_bytes p ++ (joined (pair_bytes p) p.device_services_count ++ joined (piece p) p.device_services_count)

-- ---- what a writer gives: the answer, and the output at exit

unfoldable pub write_of : ServiceList → List ℕ → Writing
write_of p s = writing (written_verdict p) (bytes_of p) s
