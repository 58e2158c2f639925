-- The lists that a record says are written as the record is: they say its elements.
-- Assumes nothing.
use mathlib.Core.Path.{◌≡◌, refl, sym, ap, ◌∙◌}
use mathlib.Core.List.{List, ◌++◌}
use Prim.Native.Nat.{ℕ, ◌+◌, ◌*◌, ◌%◌, ◌≤◌, ◌<◌}
use native.Mathlib.Omega.{arith}
use lib.Dec.{ltb}
use lib.ListN.{length, get_or, drop}
use lib.Seq.{get_or-append-add, get_or-drop}
use Rattle.wire.specs.Numbers.{digits}
use Rattle.protocol.specs.Refusal.{wrong_size, too_long, wrong_count}
use Rattle.protocol.specs.Verdict.{fault_if, first_of, writing, no_fault, Verdict}
use Rattle.protocol.proofs.Tests.{kept_equal}
use Rattle.folds.specs.Folds.{first_fault, joined, sum_of}
use Rattle.folds.proofs.Laws.{fault_same, join_same, sum_same, split, length_joined, length_list, list_at, joined_sum}
use Rattle.pairs.specs.Pair.{range, range_bytes}
use Rattle.device_services.specs.DeviceServices.{pair_place, fixed_part}
use Rattle.services_writer.specs.declared.ServiceList.{ServiceList}
use Rattle.services_writer.specs.ServicesWriter.{element_of, size_of, start_of, size_verdict, written_verdict, field_bytes, cid_piece, cid_bytes, element_bytes, head_bytes, pair_bytes, piece, bytes_of, write_of}
use Rattle.services_lists.specs.ServicesLists.{count_of, word_of, cids_counted, cids_before, element_said, record_of, lists_verdict, write_all_of}
use Rattle.services_lists.specs.Claims.{numbers_in, cids_in, fields_said, cids_said, AllWritten}
use Rattle.services_lists.proofs.Laws.{said, size_said}
use Rattle.std.specs.Prelude.{Ok, Err}

-- number k behind the pieces before piece i
piece_at : (f : ℕ → List ℕ) (n i k m : ℕ) (h : i < n) → length (joined f i) ≡ m → get_or (joined f n) (m + k) 0 ≡ get_or (f i ++ (split f n i h).rest) k 0
piece_at f n i k m h e =
    let s = split f n i h in
    (λ j. get_or (s.is j) (sym e j + k) 0) ∙ get_or-append-add (joined f i) (f i ++ s.rest) k 0

fits_after : (v : Verdict) → first_of v no_fault ≡ v
unfolding first_of
fits_after (Ok _) = refl
fits_after (Err r) = refl

module _ (p : ServiceList) where
  counted : ℕ → ℕ
  counted i = (element_of p i).fields.cid_count

  length_numbers : (n : ℕ) → length (joined (λ i. numbers_in (element_of p i).fields) n) ≡ 7 * n
  length_numbers n = length_joined (λ i. numbers_in (element_of p i).fields) 7 n (λ i. refl)

  length_cids : (n : ℕ) → length (joined (λ i. cids_in (element_of p i)) n) ≡ sum_of counted n
  unfolding counted
  length_cids n = joined_sum (λ i. cids_in (element_of p i)) counted n (λ i. length_list _ (counted i))

  whole : length (fields_said p) % 7 ≡ 0
  unfolding fields_said
  whole = omega (arith, length_numbers p.device_services_count)

  count_same : count_of (fields_said p) ≡ p.device_services_count
  unfolding fields_said
  count_same = omega (arith, length_numbers p.device_services_count)

  fields_same : (i : ℕ) → i < p.device_services_count → (element_said (fields_said p) (cids_said p) i).fields ≡ (element_of p i).fields
  unfolding fields_said
  fields_same i h =
      let at : (k : ℕ) → word_of (fields_said p) i k ≡ get_or (numbers_in (element_of p i).fields ++ (split (λ j. numbers_in (element_of p j).fields) p.device_services_count i h).rest) k 0 =
      λ k. piece_at (λ j. numbers_in (element_of p j).fields) p.device_services_count i k (7 * i) h (length_numbers i) in
      λ j. record {
        device_service_id = record { word0 = at 0 j; word1 = at 1 j; word2 = at 2 j; word3 = at 3 j };
        dss_payload = at 4 j;
        max_dss_instances = at 5 j;
        cid_count = at 6 j;
      }

  before_same : (n : ℕ) → n ≤ p.device_services_count → cids_before (fields_said p) n ≡ sum_of counted n
  unfolding counted
  before_same n l = sum_same (cids_counted (fields_said p)) counted n (λ i h. λ j. (fields_same i (omega arith) j).cid_count)

  cids_same : (i : ℕ) → i < p.device_services_count → cid_bytes (drop (cids_before (fields_said p) i) (cids_said p)) (counted i) ≡ cid_bytes (element_of p i).cids (counted i)
  unfolding cids_said counted
  cids_same i h =
      join_same (cid_piece (drop (cids_before (fields_said p) i) (cids_said p))) (cid_piece (element_of p i).cids) (counted i)
      (λ k l. ap (digits 4)
      (get_or-drop (cids_before (fields_said p) i) (cids_said p) k 0
      ∙ piece_at (λ j. cids_in (element_of p j)) p.device_services_count i k (cids_before (fields_said p) i) h (length_cids i ∙ sym (before_same i (omega arith)))
      ∙ list_at (λ m. get_or (element_of p i).cids m 0) 0 _ (counted i) k l))

  again : ServiceList
  again = record_of p.max_dss_sessions (fields_said p) (cids_said p)

  size_same : (i : ℕ) → i < p.device_services_count → size_of again i ≡ size_of p i
  unfolding again
  size_same i h = size_said p.max_dss_sessions (fields_said p) (cids_said p) i (omega (arith, count_same)) ∙ (λ j. 28 + 4 * (fields_same i h j).cid_count)

  start_same : (i : ℕ) → i ≤ p.device_services_count → start_of again i ≡ start_of p i
  unfolding start_of again
  start_same i l = (λ j. fixed_part (count_same j) + sum_same (size_of again) (size_of p) i (λ k h. size_same k (omega arith)) j)

  piece_same : (i : ℕ) → i < p.device_services_count → piece again i ≡ piece p i
  unfolding element_bytes again counted
  piece_same i h =
      ap element_bytes (said p.max_dss_sessions (fields_said p) (cids_said p) i (omega (arith, count_same)))
      ∙ (λ j. field_bytes (fields_same i h j) ++ cid_bytes (drop (cids_before (fields_said p) i) (cids_said p)) (fields_same i h j).cid_count)
      ∙ ap (λ (b : List ℕ). field_bytes (element_of p i).fields ++ b) (cids_same i h)

  bytes_same : bytes_of again ≡ bytes_of p
  unfolding bytes_of head_bytes again
  bytes_same =
      let n = p.device_services_count in
      let pairs : joined (pair_bytes again) n ≡ joined (pair_bytes p) n =
      join_same (pair_bytes again) (pair_bytes p) n (λ i h. λ j. range_bytes (range (start_same i (omega arith) j) (size_same i h j))) in
      let pieces : joined (piece again) n ≡ joined (piece p) n = join_same (piece again) (piece p) n piece_same in
      (λ j. (digits 4 (count_same j) ++ digits 4 p.max_dss_sessions) ++ (joined (pair_bytes again) (count_same j) ++ joined (piece again) (count_same j)))
      ∙ (λ j. (digits 4 n ++ digits 4 p.max_dss_sessions) ++ (pairs j ++ pieces j))

  record_same : written_verdict again ≡ written_verdict p
  unfolding written_verdict again
  record_same =
      let n = p.device_services_count in
      let sizes : first_fault (size_verdict again) n ≡ first_fault (size_verdict p) n =
      fault_same (size_verdict again) (size_verdict p) n (λ i h. ap (λ (k : ℕ). fault_if (ltb 540 k) wrong_size (pair_place i)) (size_same i h)) in
      (λ j. first_of (fault_if (ltb 32 (count_same j)) wrong_count 0) (first_of (first_fault (size_verdict again) (count_same j)) (fault_if (ltb 4096 (start_of again (count_same j))) too_long 0)))
      ∙ (λ j. first_of (fault_if (ltb 32 n) wrong_count 0) (first_of (sizes j) (fault_if (ltb 4096 (start_same n (omega arith) j)) too_long 0)))

  verdict_same : lists_verdict p.max_dss_sessions (fields_said p) (cids_said p) ≡ written_verdict p
  unfolding lists_verdict fault_if first_of again cids_said
  verdict_same =
      let n = p.device_services_count in
      let total : cids_before (fields_said p) (count_of (fields_said p)) ≡ length (cids_said p) = ap (cids_before (fields_said p)) count_same ∙ before_same n (omega arith) ∙ sym (length_cids n) in
      rw (kept_equal (length (fields_said p) % 7) 0 whole, kept_equal _ _ total) (fits_after (written_verdict again) ∙ record_same)

pub all_written : AllWritten
unfolding write_all_of write_of again
all_written p s = λ j. writing (verdict_same p j) (bytes_same p j) s
