-- What is claimed of the writer beside its promise, in words of fields.
use Rattle.std.specs.Prelude.{◌↔◌, ℕ, ◌≤◌, ◌<◌, List, ◌≡◌, length, Ok, Err}
use Rattle.services_writer.specs.declared.ServiceList.{ServiceList}
use Rattle.services_writer.specs.ServicesWriter.{element_of, length_of, bytes_of, write_of, size_verdict, written_verdict}
use Rattle.protocol.specs.Refusal.{refusal, wrong_count, wrong_size}
use Rattle.folds.specs.Folds.{first_fault}
use Rattle.device_services.specs.DeviceServices.{pair_place}
use Rattle.protocol.specs.Verdict.{no_fault}

-- the record p is within the tables: "count 0 (at most 32)", "CID count 24 (at most 128)", and no "over 4,096 information bytes"
pub record Writable (p : ServiceList) : Type 0 where
  pub few : p.device_services_count ≤ 32
  pub each : (i : ℕ) → i < p.device_services_count → (element_of p i).fields.cid_count ≤ 128
  pub short : length_of p ≤ 4096

-- accepted exactly where the record is within the tables and there is room
abbrev pub WrittenExactly : Type 0
WrittenExactly = (p : ServiceList) (s : List ℕ) → ((write_of p s).answer ≡ Ok (length (bytes_of p))) ↔ (Writable p × (length (bytes_of p) ≤ length s))

-- 33 elements are 15 at the count
abbrev pub TooMany : Type 0
TooMany = (p : ServiceList) → 32 < p.device_services_count → written_verdict p ≡ Err (refusal wrong_count 0)

-- 129 CIDs are 8 at the pair's offset field, where those before fit
abbrev pub TooLarge : Type 0
TooLarge = (p : ServiceList) (i : ℕ) → p.device_services_count ≤ 32 → i < p.device_services_count → first_fault (size_verdict p) i ≡ no_fault
    → 128 < (element_of p i).fields.cid_count → written_verdict p ≡ Err (refusal wrong_size (pair_place i))
