-- What is written of two lists gives both back, in one pass.
-- Assumes nothing.
use mathlib.Core.Path.{◌≡◌, refl, sym, ap, ◌∙◌}
use mathlib.Core.Bool.{false}
use lib.Dec.{ltb}
use mathlib.Core.List.{List}
use Prim.Native.Nat.{ℕ, zero, suc, ◌+◌, ◌*◌, ◌%◌, ◌≤◌, ◌<◌, ◌^◌}
use native.Mathlib.Omega.{arith}
use borrow.Author.Tests.{le-ltb}
use lib.ListN.{length, get_or, take, drop, length-drop}
use lib.Seq.{take-add, take-length, get_or-drop}
use Rattle.wire.specs.Numbers.{u32_at}
use Rattle.protocol.specs.Refusal.{wrong_count}
use Rattle.protocol.proofs.Tests.{equal_kept}
use Rattle.protocol.proofs.Verdicts.{left_fits, right_fits, not_broken, written_fits, written_front}
use Rattle.folds.specs.Folds.{joined, sum_of}
use Rattle.folds.specs.Stands.{Stands}
use Rattle.folds.proofs.Laws.{join_same, sum_same, sum_within, list_same, list_take}
use Rattle.folds.proofs.Standing.{left, part, word}
use Rattle.device_services.specs.DeviceServices.{offset_of, cid_count_at, cids_at, count_of as count_at}
use Rattle.services_query.specs.ServicesQuery.{words_at, all_fields, cids_of_element, all_cids, all_shown, all_with}
use Rattle.services_writer.specs.declared.ServiceElement.{ServiceElement}
use Rattle.services_writer.specs.declared.ServiceList.{ServiceList}
use Rattle.services_writer.specs.ServicesWriter.{start_of, written_verdict, field_bytes, cid_piece, cid_bytes, element_bytes, bytes_of}
use Rattle.services_writer.proofs.Laws.{length_cids}
use Rattle.services_lists.specs.ServicesLists.{count_of, cids_counted, cids_before, element_said, record_of, lists_verdict, write_all_of}
use Rattle.services_lists.proofs.Laws.{said, fields_said, Sound, sound}
use Rattle.services_trip.specs.ServicesTrip.{cids_in, ElementOfWidth, OfWidth}
use Rattle.services_trip.specs.ListsTrip.{NumbersOfWidth, AllReadBack}
use Rattle.services_trip.proofs.RoundTrip.{count_back, element, start_back, cid_count_back, cids_back, bytes_fit}
use Rattle.protocol.specs.Verdict.{no_fault}

-- parts of a list, each behind those before it, are its front
parts_joined : (g : ℕ → ℕ) (xs : List ℕ) (n : ℕ) → joined (λ i. take (g i) (drop (sum_of g i) xs)) n ≡ take (sum_of g n) xs
unfolding joined sum_of
parts_joined g xs zero = refl
parts_joined g xs (suc n) = rw (parts_joined g xs n) (sym (take-add (sum_of g n) (g n) xs))

sevens : (n : ℕ) → sum_of (λ i. 7) n ≡ 7 * n
unfolding sum_of
sevens zero = refl
sevens (suc n) = omega (arith, sevens n)

module _ (max : ℕ) (fields cids : List ℕ) (sessions : max < 2 ^ 32) (wf : NumbersOfWidth fields) (wc : NumbersOfWidth cids) (ok : lists_verdict max fields cids ≡ no_fault) where
  p : ServiceList
  p = record_of max fields cids

  counts : Sound fields cids
  counts = sound max fields cids ok

  fit : written_verdict p ≡ no_fault
  unfolding lists_verdict p
  fit = left_fits _ _ (right_fits _ _ ok)

  whole : 7 * count_of fields ≡ length fields
  unfolding lists_verdict
  whole = let e = equal_kept (length fields % 7) 0 (not_broken _ wrong_count 0 (left_fits _ _ ok)) in omega (arith, e)

  within : (i : ℕ) → i < count_of fields → cids_before fields i + cids_counted fields i ≤ length cids
  within i l = omega (arith, sum_within (cids_counted fields) (count_of fields) i l, counts.total)

  element_width : (i : ℕ) → i < count_of fields → ElementOfWidth (element_said fields cids i)
  element_width i l = record {
    fields = record { word0 = wf _; word1 = wf _; word2 = wf _; word3 = wf _; payload = wf _; instances = wf _; cids = wf _ };
    cids = λ k. rw (get_or-drop (cids_before fields i) cids k 0) (wc (cids_before fields i + k));
    full = λ h. omega (arith, length-drop (cids_before fields i) cids, within i l);
  }

  width : OfWidth p
  unfolding p
  width = record { sessions = sessions; elements = λ i l. rw (said max fields cids i l) (element_width i l) }

  -- the seven numbers of an element
  row_back : (i : ℕ) → i < count_of fields → words_at (bytes_of p) (offset_of (bytes_of p) i) 7 ≡ take 7 (drop (7 * i) fields)
  unfolding words_at element_bytes p
  row_back i l =
      let row = drop (7 * i) fields in
      let f = (element_said fields cids i).fields in
      let whole : Stands (bytes_of p) (start_of p i) (element_bytes (element_said fields cids i)) = rw (said max fields cids i l) at (element p width fit i l) in
      let numbers : Stands (bytes_of p) (start_of p i) (cid_bytes row 7) = rw (fields_said fields cids i) (left (field_bytes f) _ whole) in
      rw (start_back p width fit i l)
      (list_same (λ k. u32_at (bytes_of p) (start_of p i + 4 * k)) (λ k. get_or row k 0) 7
      (λ k m. word (get_or row k 0) (rw (get_or-drop (7 * i) fields k 0) (wf (7 * i + k))) (part (cid_piece row) 7 k (4 * k) m (length_cids row k) numbers))
      ∙ list_take row 7 (omega (arith, length-drop (7 * i) fields)))

  fields_back : all_fields (bytes_of p) (count_of fields) ≡ fields
  unfolding all_fields
  fields_back =
      join_same (λ i. words_at (bytes_of p) (offset_of (bytes_of p) i) 7) (λ i. take 7 (drop (sum_of (λ j. 7) i) fields)) (count_of fields)
      (λ i l. row_back i l ∙ ap (λ (k : ℕ). take 7 (drop k fields)) (sym (sevens i)))
      ∙ parts_joined (λ j. 7) fields (count_of fields) ∙ ap (λ (k : ℕ). take k fields) (sevens (count_of fields) ∙ whole) ∙ take-length fields

  lists_back : all_cids (bytes_of p) (count_of fields) ≡ cids
  unfolding all_cids p
  lists_back =
      join_same (λ i. cids_at (bytes_of p) (offset_of (bytes_of p) i)) (λ i. take (cids_counted fields i) (drop (cids_before fields i) cids)) (count_of fields)
      (λ i l. ap (cids_at (bytes_of p)) (start_back p width fit i l) ∙ cids_back p width fit i l ∙ ap cids_in (said max fields cids i l))
      ∙ parts_joined (cids_counted fields) cids (count_of fields) ∙ ap (λ (k : ℕ). take k cids) counts.total ∙ take-length cids

  total_back : sum_of (cids_of_element (bytes_of p)) (count_of fields) ≡ length cids
  unfolding p
  total_back =
      sum_same (cids_of_element (bytes_of p)) (cids_counted fields) (count_of fields)
      (λ i l. ap (cid_count_at (bytes_of p)) (start_back p width fit i l) ∙ cid_count_back p width fit i l ∙ ap (λ (e : ServiceElement). e.fields.cid_count) (said max fields cids i l))
      ∙ counts.total

  listed_back : count_at (bytes_of p) ≡ count_of fields
  unfolding p
  listed_back = count_back p width fit

pub all_read_back : AllReadBack
unfolding write_all_of all_with all_shown p
all_read_back choice max fields cids s n m wf wc e f c rf rc =
    let b = bytes_of (record_of max fields cids) in
    let ok = written_fits (lists_verdict max fields cids) b s n e in
    let room : ltb (length f) (7 * count_of fields) ≡ false = le-ltb (length f) (7 * count_of fields) (omega (arith, whole max fields cids m wf wc ok)) in
    let room2 : ltb (length c) (length cids) ≡ false = le-ltb (length c) (length cids) rc in
    rw (
      written_front (lists_verdict max fields cids) b s n e,
      bytes_fit (record_of max fields cids) (width max fields cids m wf wc ok) (fit max fields cids m wf wc ok) choice,
      listed_back max fields cids m wf wc ok,
      room,
      total_back max fields cids m wf wc ok,
      room2,
      fields_back max fields cids m wf wc ok,
      lists_back max fields cids m wf wc ok,
    )
