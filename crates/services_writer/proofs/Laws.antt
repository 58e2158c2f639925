-- The bytes of a record: how many they are, one piece more stored, and what is said by a record that fits and one that does not.
-- Assumes nothing.
use mathlib.Core.Path.{◌≡◌, refl, sym, ap, ◌∙◌}
use mathlib.Core.Bool.{true}
use mathlib.Core.List.{List, [], ◌∷◌, ◌++◌}
use Prim.Native.Nat.{ℕ, suc, ◌+◌, ◌*◌, ◌≤◌, ◌<◌}
use native.Mathlib.Omega.{arith}
use borrow.Author.Tests.{ltb-false, lt-ltb, le-ltb}
use lib.Dec.{ltb}
use lib.ListN.{length, length-append, get_or, set, take}
use Rattle.std.proofs.lemmas.List.{length-take-le, get_or-take}
use lib.Seq.{sets, set_comm}
use Rattle.wire.specs.Numbers.{digits}
use Rattle.wire.proofs.Laws.{sets_then}
use Rattle.protocol.specs.Refusal.{refusal, too_long, wrong_size, wrong_count}
use Rattle.protocol.specs.Service.{id_bytes}
use Rattle.protocol.specs.Verdict.{fault_if, first_of, Verdict, no_fault}
use Rattle.protocol.proofs.Services.{length_id}
use Rattle.protocol.proofs.Verdicts.{left_fits, right_fits, not_broken}
use Rattle.folds.specs.Folds.{first_fault, joined, sum_of}
use Rattle.folds.proofs.Laws.{fits_each, fault_at, join_next, join_same, length_joined, joined_sum, sum_next, sum_within}
use Rattle.pairs.specs.Pair.{range, range_bytes}
use Rattle.device_services.specs.declared.DeviceService.{DeviceService}
use Rattle.device_services.specs.DeviceServices.{pair_place, fixed_part}
use Rattle.services_writer.specs.declared.ServiceElement.{ServiceElement}
use Rattle.services_writer.specs.declared.ServiceList.{ServiceList}
use Rattle.services_writer.specs.ServicesWriter.{element_of, size_of, start_of, length_of, size_verdict, written_verdict, field_bytes, cid_piece, cid_bytes, element_bytes, head_bytes, pair_bytes, piece, bytes_of}
use Rattle.services_writer.specs.Claims.{TooMany, TooLarge}
use Rattle.protocol.specs.declared.Refusal.{Refusal}
use Rattle.std.specs.Prelude.{Err}

-- ---- an element

pub length_fields : (f : DeviceService) → length (field_bytes f) ≡ 28
unfolding field_bytes id_bytes
length_fields f = refl

pub length_cids : (cids : List ℕ) (n : ℕ) → length (cid_bytes cids n) ≡ 4 * n
length_cids cids n = length_joined (cid_piece cids) 4 n (λ i. refl)

pub length_element : (e : ServiceElement) → length (element_bytes e) ≡ 28 + 4 * e.fields.cid_count
unfolding element_bytes
length_element e =
    let n = e.fields.cid_count in
    omega (arith, length-append (field_bytes e.fields) (cid_bytes e.cids n), length_fields e.fields, length_cids e.cids n)

-- its fields stored one after another
pub fields_put : (f : DeviceService) (s : List ℕ) (at : ℕ) {s₁ s₂ s₃ s₄ : List ℕ} → s₁ ≡ sets s at (id_bytes f.device_service_id)
    → s₂ ≡ sets s₁ (at + 16) (digits 4 f.dss_payload) → s₃ ≡ sets s₂ (at + 20) (digits 4 f.max_dss_instances)
    → s₄ ≡ sets s₃ (at + 24) (digits 4 f.cid_count) → s₄ ≡ sets s at (field_bytes f)
unfolding field_bytes
fields_put f s at {s₁} {s₂} {s₃} p q r t =
    let a : at + 20 ≡ at + 16 + 4 = omega arith in
    let b : at + 24 ≡ at + 20 + 4 = omega arith in
    let x = digits 4 f.dss_payload in
    let y = digits 4 f.max_dss_instances in
    let z = digits 4 f.cid_count in
    let last : _ ≡ sets s₂ (at + 20) (y ++ z) = sets_then y z (at + 20) 4 s₂ refl r (t ∙ ap (λ (k : ℕ). sets s₃ k z) b) in
    let later : _ ≡ sets s₁ (at + 16) (x ++ (y ++ z)) = sets_then x (y ++ z) (at + 16) 4 s₁ refl q (last ∙ ap (λ (k : ℕ). sets s₂ k (y ++ z)) a) in
    sets_then (id_bytes f.device_service_id) (x ++ (y ++ z)) at 16 s (length_id f.device_service_id) p later

-- one CID more
pub cid_next : (cids s : List ℕ) (at k : ℕ) {s₁ s₂ : List ℕ} {v : ℕ} → s₁ ≡ sets s at (cid_bytes cids k) → v ≡ get_or cids k 0
    → s₂ ≡ sets s₁ (at + 4 * k) (digits 4 v) → s₂ ≡ sets s at (cid_bytes cids (k + 1))
cid_next cids s at k {s₁} p q r =
    join_next (cid_piece cids) k at s p (ap (λ (n : ℕ). at + n) (sym (length_cids cids k))) (r ∙ ap (λ (v : ℕ). sets s₁ (at + 4 * k) (digits 4 v)) q)

-- the CIDs that count, at the front of a list
pub cids_front : (cids : List ℕ) (n : ℕ) → n ≤ length cids → cid_bytes (take n cids) (length (take n cids)) ≡ cid_bytes cids n
cids_front cids n h =
    rw (length-take-le n cids h)
    (join_same (cid_piece (take n cids)) (cid_piece cids) n (λ k l. ap (digits 4) (get_or-take n cids k 0 l)))

-- the fields stored, and the CIDs behind them
pub element_put : (e : ServiceElement) (s : List ℕ) (at : ℕ) {s₁ s₂ : List ℕ} → e.fields.cid_count ≤ length e.cids → s₁ ≡ sets s at (field_bytes e.fields)
    → s₂ ≡ sets s₁ (at + 28) (cid_bytes (take e.fields.cid_count e.cids) (length (take e.fields.cid_count e.cids))) → s₂ ≡ sets s at (element_bytes e)
unfolding element_bytes
element_put e s at {s₁} h p q =
    let n = e.fields.cid_count in
    sets_then (field_bytes e.fields) (cid_bytes e.cids n) at 28 s (length_fields e.fields) p (q ∙ ap (sets s₁ (at + 28)) (cids_front e.cids n h))

-- ---- stores before others

set_before : (xs s : List ℕ) (at j v : ℕ) → j < at → set (sets s at xs) j v ≡ sets (set s j v) at xs
set_before [] s at j v h = refl
set_before (x ∷ xs) s at j v h =
    set_before xs (set s at x) (suc at) j v (omega arith) ∙ ap (λ (l : List ℕ). sets l (suc at) xs) (set_comm s at j x v (λ e. omega (arith, e)))

sets_before : (ys xs s : List ℕ) (at b : ℕ) → b + length ys ≤ at → sets (sets s at xs) b ys ≡ sets (sets s b ys) at xs
sets_before [] xs s at b h = refl
sets_before (y ∷ ys) xs s at b h =
    ap (λ (l : List ℕ). sets l (suc b) ys) (set_before xs s at b y (omega arith)) ∙ sets_before ys xs (set s b y) at (suc b) (omega arith)

-- ---- the payload

module _ (p : ServiceList) where
  count : ℕ
  count = p.device_services_count

  pub length_pairs : (n : ℕ) → length (joined (pair_bytes p) n) ≡ 8 * n
  unfolding range_bytes
  length_pairs n = length_joined (pair_bytes p) 8 n (λ i. refl)

  pub length_pieces : (n : ℕ) → length (joined (piece p) n) ≡ sum_of (size_of p) n
  length_pieces n = joined_sum (piece p) (size_of p) n (λ i. length_element (element_of p i))

  pub length_bytes : length (bytes_of p) ≡ length_of p
  unfolding bytes_of start_of head_bytes count
  length_bytes =
      let a = joined (pair_bytes p) count in
      let b = joined (piece p) count in
      omega (arith, length-append (head_bytes p) (a ++ b), length-append a b, length_pairs count, length_pieces count)

  -- where the next element starts
  pub start_next : (i : ℕ) {b : ℕ} → b ≡ start_of p i → b + size_of p i ≡ start_of p (i + 1)
  unfolding start_of
  start_next i e = omega (arith, e, sum_next (size_of p) i)

  -- an element lies inside the payload
  pub start_within : (i : ℕ) {b : ℕ} → b ≡ start_of p i → i < p.device_services_count → b + size_of p i ≤ length_of p
  unfolding start_of
  start_within i e h = omega (arith, e, sum_within (size_of p) p.device_services_count i h)

  -- one pair more, and one element more
  pub pair_next : (i : ℕ) (s : List ℕ) {s₁ s₂ : List ℕ} {b k : ℕ} → s₁ ≡ sets s 8 (joined (pair_bytes p) i) → b ≡ start_of p i → k ≡ pair_place i
      → s₂ ≡ sets s₁ k (range_bytes (range b (size_of p i))) → s₂ ≡ sets s 8 (joined (pair_bytes p) (i + 1))
  pair_next i s {s₁} {s₂} {b} {k} e q r t =
      join_next (pair_bytes p) i 8 s e (r ∙ ap (λ (n : ℕ). 8 + n) (sym (length_pairs i)))
      (t ∙ ap (λ (b : ℕ). sets s₁ k (range_bytes (range b (size_of p i)))) q)

  pub piece_next : (i : ℕ) (s : List ℕ) {s₁ s₂ : List ℕ} {b : ℕ} → s₁ ≡ sets s (fixed_part p.device_services_count) (joined (piece p) i) → b ≡ start_of p i
      → s₂ ≡ sets s₁ b (piece p i) → s₂ ≡ sets s (fixed_part p.device_services_count) (joined (piece p) (i + 1))
  unfolding start_of
  piece_next i s e q t =
      join_next (piece p) i (fixed_part p.device_services_count) s e
      (q ∙ ap (λ (n : ℕ). fixed_part p.device_services_count + n) (sym (length_pieces i))) t

  -- one pair and its element more: the pair stands before all elements
  pub listed_next : (i : ℕ) (s : List ℕ) {s₁ s₂ : List ℕ} {b : ℕ} → i < p.device_services_count
      → s₁ ≡ sets (sets s 8 (joined (pair_bytes p) i)) (fixed_part p.device_services_count) (joined (piece p) i) → b ≡ start_of p i
      → s₂ ≡ sets (sets s₁ (pair_place i) (range_bytes (range b (size_of p i)))) b (piece p i)
      → s₂ ≡ sets (sets s 8 (joined (pair_bytes p) (i + 1))) (fixed_part p.device_services_count) (joined (piece p) (i + 1))
  unfolding range_bytes
  listed_next i s {s₁} {s₂} {b} less e q t =
      let pair = range_bytes (range b (size_of p i)) in
      let all = joined (piece p) i in
      let from = fixed_part p.device_services_count in
      let o = sets s 8 (joined (pair_bytes p) i) in
      let more : sets o (pair_place i) pair ≡ sets s 8 (joined (pair_bytes p) (i + 1)) = pair_next i s refl q refl refl in
      let y : sets s₁ (pair_place i) pair ≡ sets (sets s 8 (joined (pair_bytes p) (i + 1))) from all =
      ap (λ (l : List ℕ). sets l (pair_place i) pair) e ∙ sets_before pair all o from (pair_place i) (omega arith) ∙ ap (λ (l : List ℕ). sets l from all) more in
      piece_next i (sets s 8 (joined (pair_bytes p) (i + 1))) y q t

  -- the parts stored one after another
  pub laid : (s : List ℕ) {s₁ s₂ s₃ s₄ : List ℕ} → s₁ ≡ sets s 0 (digits 4 p.device_services_count) → s₂ ≡ sets s₁ 4 (digits 4 p.max_dss_sessions)
      → s₃ ≡ sets s₂ 8 (joined (pair_bytes p) p.device_services_count)
      → s₄ ≡ sets s₃ (fixed_part p.device_services_count) (joined (piece p) p.device_services_count) → s₄ ≡ sets s 0 (bytes_of p)
  unfolding bytes_of head_bytes count
  laid s {s₁} {s₂} e q r t =
      let a = joined (pair_bytes p) count in
      let b = joined (piece p) count in
      sets_then (head_bytes p) (a ++ b) 0 8 s refl
      (sets_then (digits 4 count) (digits 4 p.max_dss_sessions) 0 4 s refl e q)
      (sets_then a b 8 (8 * count) s₂ (length_pairs count) r t)

  pub all_laid : (i : ℕ) (s : List ℕ) {s₁ s₂ : List ℕ} → i ≡ p.device_services_count
      → s₁ ≡ sets (sets s 0 (digits 4 p.device_services_count)) 4 (digits 4 p.max_dss_sessions)
      → s₂ ≡ sets (sets s₁ 8 (joined (pair_bytes p) i)) (fixed_part p.device_services_count) (joined (piece p) i) → s₂ ≡ sets s 0 (bytes_of p)
  all_laid i s {s₁} n e q =
      laid s refl e refl (q ∙ ap (λ (k : ℕ). sets (sets s₁ 8 (joined (pair_bytes p) k)) (fixed_part p.device_services_count) (joined (piece p) k)) n)

  -- ---- a record that fits

  pub record Fitting : Type 0 where
    pub few : p.device_services_count ≤ 32
    pub sizes : first_fault (size_verdict p) p.device_services_count ≡ no_fault
    pub short : length_of p ≤ 4096

  pub fitting : written_verdict p ≡ no_fault → Fitting
  unfolding written_verdict
  fitting e = record {
    few = ltb-false 32 p.device_services_count (not_broken _ wrong_count 0 (left_fits _ _ e));
    sizes = left_fits _ _ (right_fits _ _ e);
    short = ltb-false 4096 (length_of p) (not_broken _ too_long 0 (right_fits _ _ (right_fits _ _ e)));
  }

  -- sizes that fit leave the length to be judged
  pub sized_verdict : (n : ℕ) → p.device_services_count ≤ 32 → first_fault (size_verdict p) p.device_services_count ≡ no_fault → n ≡ length_of p
      → written_verdict p ≡ fault_if (ltb 4096 n) too_long 0
  unfolding written_verdict first_of fault_if
  sized_verdict n few sizes e = rw (le-ltb 32 p.device_services_count few, sizes, e)

  pub size_within : (n i : ℕ) → first_fault (size_verdict p) n ≡ no_fault → i < n → size_of p i ≤ 540
  size_within n i e h = ltb-false 540 (size_of p i) (not_broken _ wrong_size (pair_place i) (fits_each (size_verdict p) n e i h))

  -- all elements are passed
  pub all_passed : (i end : ℕ) → i ≤ p.device_services_count → p.device_services_count ≤ i → first_fault (size_verdict p) i ≡ no_fault → end ≡ start_of p i
      → (first_fault (size_verdict p) p.device_services_count ≡ no_fault) × (end ≡ length_of p)
  all_passed i end l h f e = let n : i ≡ p.device_services_count = omega arith in (ap (first_fault (size_verdict p)) (sym n) ∙ f, e ∙ ap (start_of p) n)

  -- the first size over its limit
  pub size_refused : (i : ℕ) (r : Refusal) (room : Verdict) → p.device_services_count ≤ 32 → i < p.device_services_count → first_fault (size_verdict p) i ≡ no_fault
      → size_verdict p i ≡ Err r → first_of (written_verdict p) room ≡ Err r
  unfolding written_verdict first_of fault_if
  size_refused i r room few l f e = rw (le-ltb 32 p.device_services_count few, fault_at (size_verdict p) p.device_services_count i r f l e)

-- ---- a record that does not

pub too_many : TooMany
unfolding written_verdict first_of fault_if
too_many p h = rw (lt-ltb 32 p.device_services_count h)

pub too_large : TooLarge
unfolding written_verdict first_of fault_if
too_large p i c l e h =
    let over : ltb 540 (size_of p i) ≡ true = lt-ltb 540 (size_of p i) (omega arith) in
    rw (le-ltb 32 p.device_services_count c, fault_at (size_verdict p) p.device_services_count i (refusal wrong_size (pair_place i)) e l (rw over))
