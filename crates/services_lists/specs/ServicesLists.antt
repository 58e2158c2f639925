-- The DEVICE_SERVICES payload written from two lists: the record that they say, and when they say one.
-- In this order: the record; the rules, in the order in which they are judged; what a writer gives.
use Rattle.std.specs.Prelude.{ℕ, ◌+◌, ◌*◌, ◌/◌, ◌%◌, not, List, [], ltb, eqb, length, get_or, drop, Ok, Err, Result}
use Rattle.protocol.specs.Refusal.{too_long, contradiction, wrong_count}
use Rattle.protocol.specs.Verdict.{fault_if, first_of, Writing, writing, Verdict}
use Rattle.folds.specs.Folds.{list_of, sum_of}
use Rattle.device_services.specs.DeviceServices.{fixed_part}
use Rattle.services_writer.specs.declared.ServiceElement.{ServiceElement}
use Rattle.services_writer.specs.declared.ServiceList.{ServiceList}
use Rattle.services_writer.specs.ServicesWriter.{written_verdict, bytes_of}
use Rattle.protocol.specs.declared.Refusal.{Refusal}

abbrev pub Totalled : Type 0
Totalled = Result ℕ Refusal

-- ---- the record that the lists say

-- seven numbers for each element
abbrev pub count_of : List ℕ → ℕ
count_of fields = length fields / 7

-- number k of element i
abbrev pub word_of : List ℕ → ℕ → ℕ → ℕ
word_of fields i k = get_or fields (7 * i + k) 0

abbrev pub cids_counted : List ℕ → ℕ → ℕ
cids_counted fields i = word_of fields i 6

-- the CIDs of the elements before element i
abbrev pub cids_before : List ℕ → ℕ → ℕ
cids_before fields i = sum_of (cids_counted fields) i

-- element i, whose CIDs stand behind those of the elements before it
abbrev pub element_said : List ℕ → List ℕ → ℕ → ServiceElement
element_said fields cids i =
    record {
      fields = record {
        device_service_id = record { word0 = word_of fields i 0; word1 = word_of fields i 1; word2 = word_of fields i 2; word3 = word_of fields i 3 };
        dss_payload = word_of fields i 4;
        max_dss_instances = word_of fields i 5;
        cid_count = cids_counted fields i;
      };
      cids = drop (cids_before fields i) cids;
    }

abbrev pub record_of : ℕ → List ℕ → List ℕ → ServiceList
record_of max fields cids =
    record { device_services_count = count_of fields; max_dss_sessions = max; elements = list_of (element_said fields cids) (count_of fields) }

-- ---- rules

-- whole elements; the record's own rules; as many CIDs as the elements count
unfoldable pub lists_verdict : ℕ → List ℕ → List ℕ → Verdict
lists_verdict max fields cids =
    first_of (fault_if (not (eqb (length fields % 7) 0)) wrong_count 0)
    (first_of (written_verdict (record_of max fields cids))
    (fault_if (not (eqb (cids_before fields (count_of fields)) (length cids))) contradiction 0))

-- ---- what a writer gives: the answer, and the output at exit

unfoldable pub write_all_of : ℕ → List ℕ → List ℕ → List ℕ → Writing
write_all_of max fields cids s = writing (lists_verdict max fields cids) (bytes_of (record_of max fields cids)) s

-- ---- what the code's parts do

-- the record but for its CIDs: enough for sizes and places
abbrev pub bare_of : List ℕ → ServiceList
bare_of fields = record_of 0 fields []

unfoldable pub totalled : Verdict → ℕ → Totalled
totalled (Ok _) n = Ok n
totalled (Err r) n = Err r

-- the last two rules, of so many elements and CIDs
unfoldable pub rest_verdict : ℕ → ℕ → ℕ → Verdict
rest_verdict count total given =
    first_of (fault_if (ltb 4096 (fixed_part count + 28 * count + 4 * total)) too_long 0) (fault_if (not (eqb total given)) contradiction 0)
