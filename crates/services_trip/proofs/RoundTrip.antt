-- Reading what the writer gives returns the record: its numbers, every element, every CID, and what it lists.
-- Assumes nothing.
use mathlib.Core.Path.{◌≡◌, refl, sym, ap, ◌∙◌}
use mathlib.Core.Bool.{Bool, true, false, cond, ◌&&◌}
use mathlib.Core.List.{List, [], ◌++◌}
use Prim.Native.Nat.{ℕ, zero, suc, ◌+◌, ◌*◌, ◌%◌, ◌≤◌, ◌<◌}
use native.Mathlib.Nat.{add-zero}
use native.Mathlib.Omega.{arith}
use borrow.Author.Tests.{ltb-true}
use lib.Dec.{ltb, eqb}
use lib.ListN.{length, get_or, take}
use Rattle.wire.specs.Numbers.{u32_at}
use Rattle.wire.proofs.Laws.{num_digits}
use Rattle.protocol.specs.Service.{id_at, id_bytes}
use Rattle.protocol.specs.Verdict.{with_room, writing, no_fault}
use Rattle.protocol.specs.declared.service.ServiceId.{ServiceId}
use Rattle.protocol.proofs.Verdicts.{has_room, told_length, written_fits, written_front}
use Rattle.folds.specs.Folds.{any_of, joined, sum_of}
use Rattle.folds.specs.Stands.{Stands}
use Rattle.folds.proofs.Laws.{any_same, index_same, list_same, list_take}
use Rattle.folds.proofs.Standing.{whole, left, right, part, inside, word}
use Rattle.pairs.specs.Pair.{range_at, range_bytes, by_default}
use Rattle.device_services.specs.DeviceServices.{head_at, pair_place, fixed_part, offset_of, cid_count_at, element_at, cid_at, cids_at, verdict_with, read_with}
use Rattle.pairs.specs.declared.ZeroSize.{ZeroSize}
use Rattle.device_services.specs.Claims.{ElementFits}
use Rattle.device_services.proofs.Acceptance.{said_list}
use Rattle.services_query.specs.ServicesQuery.{is_of, is_cid, has_cid, holds, plain, element_shown, chosen_shown, element_with as shown_with, cids_with, listed_with, listed_of}
use Rattle.services_writer.specs.declared.ServiceList.{ServiceList}
use Rattle.services_writer.specs.ServicesWriter.{element_of, size_of, start_of, length_of, written_verdict, field_bytes, cid_piece, cid_bytes, element_bytes, head_bytes, pair_bytes, piece, bytes_of, write_of}
use Rattle.services_writer.proofs.Laws.{length_fields, length_cids, length_pairs, length_pieces, length_bytes, start_within, Fitting, fitting, size_within}
use Rattle.services_trip.specs.ServicesTrip.{cids_in, element_in, chosen_in, serves_in, holds_in, Returned, OfWidth, RoundTrip}
use Rattle.std.specs.Prelude.{Ok, None}

-- each size is a multiple of 4
sum_four : (p : ServiceList) (i : ℕ) → sum_of (size_of p) i % 4 ≡ 0
unfolding sum_of
sum_four p zero = refl
sum_four p (suc i) = omega (arith, sum_four p i)

module _ (p : ServiceList) (z : OfWidth p) (ok : written_verdict p ≡ no_fault) where
  fits : Fitting p
  fits = fitting p ok

  -- ---- the numbers at the front

  head : Stands (bytes_of p) 0 (head_bytes p)
  unfolding bytes_of
  head = left _ _ (whole (bytes_of p))

  body : Stands (bytes_of p) 8 (joined (pair_bytes p) p.device_services_count ++ joined (piece p) p.device_services_count)
  unfolding bytes_of head_bytes
  body = right (head_bytes p) _ 8 refl (whole (bytes_of p))

  pub count_back : u32_at (bytes_of p) 0 ≡ p.device_services_count
  unfolding u32_at head_bytes
  count_back = inside head 0 ∙ num_digits 4 p.device_services_count [] (omega (arith, fits.few))

  sessions_back : u32_at (bytes_of p) 4 ≡ p.max_dss_sessions
  unfolding u32_at head_bytes
  sessions_back = inside head 4 ∙ num_digits 4 p.max_dss_sessions [] z.sessions

  -- ---- element i

  module _ (i : ℕ) (l : i < p.device_services_count) where
    size_small : size_of p i ≤ 540
    size_small = size_within p p.device_services_count i fits.sizes l

    within : start_of p i + size_of p i ≤ length_of p
    within = start_within p i refl l

    pair : Stands (bytes_of p) (pair_place i) (pair_bytes p i)
    pair = part (pair_bytes p) p.device_services_count i (8 * i) l (length_pairs p i) (left _ _ body)

    pub element : Stands (bytes_of p) (start_of p i) (piece p i)
    unfolding start_of
    element =
        part (piece p) p.device_services_count i (sum_of (size_of p) i) l (length_pieces p i)
        (right (joined (pair_bytes p) p.device_services_count) (joined (piece p) p.device_services_count) (8 * p.device_services_count) (length_pairs p p.device_services_count) body)

    pub start_back : offset_of (bytes_of p) i ≡ start_of p i
    unfolding u32_at range_bytes
    start_back =
        ap (u32_at (bytes_of p)) (sym (add-zero (pair_place i))) ∙ inside pair 0
        ∙ num_digits 4 (start_of p i) [] (omega (arith, within, fits.short))

    size_back : u32_at (bytes_of p) (pair_place i + 4) ≡ size_of p i
    unfolding u32_at range_bytes
    size_back = inside pair 4 ∙ num_digits 4 (size_of p i) [] (omega (arith, size_small))

    fields_back : element_at (bytes_of p) (start_of p i) ≡ (element_of p i).fields
    unfolding element_at id_at u32_at element_bytes field_bytes id_bytes
    fields_back =
        let f = (element_of p i).fields in
        let h : Stands (bytes_of p) (start_of p i) (field_bytes f) = left (field_bytes f) _ element in
        let b = (z.elements i l).fields in
        let first : u32_at (bytes_of p) (start_of p i) ≡ u32_at (field_bytes f ++ h.after) 0 = ap (u32_at (bytes_of p)) (sym (add-zero (start_of p i))) ∙ inside h 0 in
        λ j. record {
          device_service_id = record {
            word0 = (first ∙ num_digits 4 f.device_service_id.word0 [] b.word0) j;
            word1 = (inside h 4 ∙ num_digits 4 f.device_service_id.word1 [] b.word1) j;
            word2 = (inside h 8 ∙ num_digits 4 f.device_service_id.word2 [] b.word2) j;
            word3 = (inside h 12 ∙ num_digits 4 f.device_service_id.word3 [] b.word3) j;
          };
          dss_payload = (inside h 16 ∙ num_digits 4 f.dss_payload [] b.payload) j;
          max_dss_instances = (inside h 20 ∙ num_digits 4 f.max_dss_instances [] b.instances) j;
          cid_count = (inside h 24 ∙ num_digits 4 f.cid_count [] b.cids) j;
        }

    pub cid_count_back : cid_count_at (bytes_of p) (start_of p i) ≡ (element_of p i).fields.cid_count
    unfolding element_at
    cid_count_back = λ j. (fields_back j).cid_count

    cid_back : (k : ℕ) → k < (element_of p i).fields.cid_count → cid_at (bytes_of p) (start_of p i) k ≡ get_or (element_of p i).cids k 0
    unfolding element_bytes
    cid_back k m =
        let f = (element_of p i).fields in
        let cids = (element_of p i).cids in
        let h : Stands (bytes_of p) (start_of p i + 28) (cid_bytes cids f.cid_count) = right (field_bytes f) (cid_bytes cids f.cid_count) 28 (length_fields f) element in
        word (get_or cids k 0) ((z.elements i l).cids k) (part (cid_piece cids) f.cid_count k (4 * k) m (length_cids cids k) h)

    pub cids_back : cids_at (bytes_of p) (start_of p i) ≡ cids_in (element_of p i)
    unfolding cids_at
    cids_back =
        let c = (element_of p i).fields.cid_count in
        let cids = (element_of p i).cids in
        rw cid_count_back
        (list_same (cid_at (bytes_of p) (start_of p i)) (λ k. get_or cids k 0) c cid_back
        ∙ list_take cids c ((z.elements i l).full (omega (arith, size_small))))

    element_fits : ElementFits (bytes_of p) (fixed_part p.device_services_count) i
    unfolding range_at start_of
    element_fits =
        let few : cid_count_at (bytes_of p) (offset_of (bytes_of p) i) ≡ (element_of p i).fields.cid_count = ap (cid_count_at (bytes_of p)) start_back ∙ cid_count_back in
        record {
          few = omega (arith, few, size_small);
          size = omega (arith, few, size_back);
          behind = omega (arith, start_back);
          aligned = omega (arith, start_back, sum_four p i);
          within = omega (arith, start_back, size_back, within, length_bytes p);
        }

    shown_back : (out : List ℕ) → element_shown (bytes_of p) i out ≡ element_in (element_of p i) out
    unfolding element_shown element_in
    shown_back out = rw (start_back, fields_back, cid_count_back, cids_back)

    serves_back : (service : ServiceId) → is_of (bytes_of p) service i ≡ serves_in p service i
    unfolding is_of serves_in
    serves_back service = rw (start_back, fields_back)

    holds_back : (service : ServiceId) (cid : ℕ) → holds (bytes_of p) service cid i ≡ holds_in p service cid i
    unfolding holds has_cid holds_in
    holds_back service cid =
        rw (serves_back service, start_back, cid_count_back)
        (ap (λ (b : Bool). serves_in p service i && b)
        (any_same (is_cid (bytes_of p) (start_of p i) cid) (λ k. eqb (get_or (element_of p i).cids k 0) cid) (element_of p i).fields.cid_count
        (λ k m. ap (λ (v : ℕ). eqb v cid) (cid_back k m))))

  -- ---- the list

  -- what the writer gives keeps the reader's rules
  pub bytes_fit : (choice : ZeroSize) → verdict_with choice (bytes_of p) ≡ no_fault
  unfolding start_of
  bytes_fit choice =
      said_list choice (bytes_of p)
      (record {
        few = omega (arith, count_back, fits.few);
        fixed = omega (arith, count_back, length_bytes p);
        most = omega (arith, length_bytes p, fits.short);
        elements = λ i h. rw count_back (element_fits i (omega (arith, count_back)));
      })

  chosen_back : (i : ℕ) (out : List ℕ) → chosen_shown (bytes_of p) i out ≡ chosen_in p i out
  unfolding chosen_shown chosen_in
  chosen_back i out = rw count_back (by_test (ltb i p.device_services_count) refl)
    where
      by_test : (b : Bool) → ltb i p.device_services_count ≡ b
          → cond b (element_shown (bytes_of p) i out) (plain (Ok None) out) ≡ cond b (element_in (element_of p i) out) (plain (Ok None) out)
      by_test true t = shown_back i (ltb-true i p.device_services_count t) out
      by_test false t = refl

  pub bytes_read : (choice : ZeroSize) → Returned choice p (bytes_of p)
  unfolding read_with head_at shown_with cids_with listed_with
  bytes_read choice = record {
    read = rw (bytes_fit choice, count_back, sessions_back);
    element = λ i out. rw (bytes_fit choice) (chosen_back i out);
    service = λ service out. rw (bytes_fit choice, count_back, index_same (is_of (bytes_of p) service) (serves_in p service) p.device_services_count (λ i l. serves_back i l service)) (chosen_back _ out);
    listed = λ service cid. rw (bytes_fit choice, count_back, any_same (holds (bytes_of p) service cid) (holds_in p service cid) p.device_services_count (λ i l. holds_back i l service cid));
  }

-- what the writer puts into an output returns the record
pub round_trip : RoundTrip
unfolding write_of
round_trip choice p s n z e =
    rw (written_front (written_verdict p) (bytes_of p) s n e) (bytes_read p z (written_fits (written_verdict p) (bytes_of p) s n e) choice)

-- what is written has room
pub written_within : (p : ServiceList) (s : List ℕ) (n : ℕ) → (write_of p s).answer ≡ Ok n → n ≤ length s
unfolding write_of writing
written_within p s n e =
    let t = told_length (with_room (written_verdict p) (bytes_of p) s) (bytes_of p) s n e in
    omega (arith, t.1, has_room (written_verdict p) (bytes_of p) s t.0)

-- and its count fits
pub written_few : (p : ServiceList) (s : List ℕ) (n : ℕ) → (write_of p s).answer ≡ Ok n → p.device_services_count ≤ 32
unfolding write_of
written_few p s n e = (fitting p (written_fits (written_verdict p) (bytes_of p) s n e)).few

-- what is listed in an output t as the writer leaves it
pub listed_written : (p : ServiceList) (s t : List ℕ) (n : ℕ) (service : ServiceId) (cid : ℕ) → OfWidth p → (write_of p s).answer ≡ Ok n → t ≡ (write_of p s).output
    → listed_of (take n t) service cid ≡ Ok (any_of (holds_in p service cid) p.device_services_count)
listed_written p s t n service cid z e q = rw q ((round_trip by_default p s n z e).listed service cid)
