-- The record that two lists say: its elements, sizes, places and bytes in the lists' numbers, and what lists that fit have.
-- Assumes nothing.
use mathlib.Core.Path.{◌≡◌, refl, sym, ap, ◌∙◌}
use mathlib.Core.Bool.{Bool, true, false, not}
use mathlib.Core.List.{List, [], ◌++◌, append-nil}
use Prim.Native.Nat.{ℕ, zero, suc, ◌+◌, ◌*◌, ◌/◌, ◌%◌, ◌-◌, ◌≤◌, ◌<◌}
use native.Mathlib.Omega.{arith}
use borrow.Author.Tests.{ltb-false, lt-ltb, le-ltb, eqb-true}
use lib.Dec.{ltb, eqb}
use lib.ListN.{length, get_or, take, drop, length-drop}
use lib.Seq.{sets, get_or-take, get_or-drop, length-take-le}
use Rattle.wire.specs.Numbers.{digits}
use Rattle.wire.proofs.Laws.{part_filled, sets_then}
use Rattle.protocol.specs.Refusal.{refusal, wrong_size, wrong_count, contradiction}
use Rattle.protocol.specs.Service.{id_bytes}
use Rattle.protocol.specs.Verdict.{fault_if, first_of, no_fault, Verdict}
use Rattle.protocol.specs.declared.Refusal.{Refusal}
use Rattle.protocol.proofs.Tests.{equal_kept}
use Rattle.protocol.proofs.Verdicts.{left_fits, right_fits, not_broken, last_fits}
use Rattle.folds.specs.Folds.{first_fault, list_of, joined, sum_of}
use Rattle.folds.proofs.Laws.{fault_same, join_same, list_at, sum_within}
use Rattle.pairs.specs.Pair.{range, range_bytes}
use Rattle.device_services.specs.DeviceServices.{pair_place, fixed_part}
use Rattle.services_writer.specs.declared.ServiceElement.{ServiceElement}
use Rattle.services_writer.specs.ServicesWriter.{element_of, size_of, start_of, length_of, size_verdict, written_verdict, field_bytes, cid_piece, cid_bytes, element_bytes, pair_bytes, piece, bytes_of}
use Rattle.services_writer.proofs.Laws.{length_fields, length_cids, length_bytes, fitting, size_within, start_next, start_within, pair_next}
use Rattle.services_lists.specs.ServicesLists.{count_of, word_of, cids_counted, cids_before, element_said, record_of, bare_of, totalled, rest_verdict, lists_verdict, Totalled}
use Rattle.std.specs.Prelude.{Ok, Err}

-- ---- words one after another

-- the words of a part are those of the whole
words_in : (m n : ℕ) (s : List ℕ) → n ≤ m → cid_bytes (take m s) n ≡ cid_bytes s n
words_in m n s h = join_same (cid_piece (take m s)) (cid_piece s) n (λ i l. ap (digits 4) (get_or-take m s i 0 (omega arith)))

-- a part as the code takes it: its length, and its words
pub part_length : (s : List ℕ) (at n : ℕ) → at + n ≤ length s → length (take (at + n - at) (drop at s)) ≡ n
part_length s at n h =
    let m : at + n - at ≡ n = omega arith in
    length-take-le (at + n - at) (drop at s) (omega (arith, length-drop at s)) ∙ m

part_words : (s : List ℕ) (at n : ℕ) → at + n ≤ length s
    → cid_bytes (take (at + n - at) (drop at s)) (length (take (at + n - at) (drop at s))) ≡ cid_bytes (drop at s) n
part_words s at n h =
    ap (cid_bytes (take (at + n - at) (drop at s))) (part_length s at n h) ∙ words_in (at + n - at) n (drop at s) (omega arith)

-- words put at the front of their part of an output stand in the output from its place on
pub words_put : (words out : List ℕ) (at k : ℕ) {t : List ℕ} → 4 * length words ≡ k → at + k ≤ length out
    → (0 + 4 * length words ≤ length (take (at + k - at) (drop at out)) → t ≡ sets (take (at + k - at) (drop at out)) 0 (cid_bytes words (length words)))
    → take at out ++ (t ++ drop (at + k - at) (drop at out)) ≡ sets out at (cid_bytes words (length words))
words_put words out at k e room stored =
    part_filled (cid_bytes words (length words)) out at (at + k - at) (length_cids words (length words) ∙ omega (arith, e)) (omega (arith, room))
    (stored (omega (arith, e, part_length out at k room)))

-- ---- a total and the verdict that it came from

back : Totalled → Verdict
back (Ok n) = no_fault
back (Err r) = Err r

back_total : (v : Verdict) (n : ℕ) → back (totalled v n) ≡ v
unfolding totalled back
back_total (Ok _) n = refl
back_total (Err r) n = refl

cids_in : Totalled → ℕ
cids_in (Ok n) = n
cids_in (Err r) = 0

pub total_fits : (v : Verdict) (n t : ℕ) {x : Totalled} → x ≡ totalled v n → x ≡ Ok t → v ≡ no_fault
unfolding back
total_fits v n t p q = sym (back_total v n) ∙ ap back (sym p ∙ q)

pub total_is : (v : Verdict) (n t : ℕ) {x : Totalled} → x ≡ totalled v n → x ≡ Ok t → t ≡ n
unfolding totalled cids_in
total_is (Ok _) n t p q = sym (ap cids_in (sym p ∙ q))
total_is (Err r) n t p q = cc

pub total_done : (v : Verdict) (n : ℕ) {t : ℕ} → v ≡ no_fault → t ≡ n → Ok t ≡ totalled v n
unfolding totalled
total_done v n e q = rw e (ap Ok q)

pub total_refused : (v : Verdict) (n : ℕ) (r : Refusal) {x : Totalled} → x ≡ totalled v n → x ≡ Err r → v ≡ Err r
unfolding back
total_refused v n r p q = sym (back_total v n) ∙ ap back (sym p ∙ q)

-- ---- the record

-- an element's seven numbers, one after another
pub fields_said : (fields cids : List ℕ) (i : ℕ) → cid_bytes (drop (7 * i) fields) 7 ≡ field_bytes (element_said fields cids i).fields
unfolding field_bytes id_bytes joined
fields_said fields cids i = join_same (cid_piece (drop (7 * i) fields)) (λ k. digits 4 (word_of fields i k)) 7 (λ k l. ap (digits 4) (get_or-drop (7 * i) fields k 0)) ∙ refl

module _ (max : ℕ) (fields cids : List ℕ) where
  -- element i, its size, the sizes before it and its start
  pub said : (i : ℕ) → i < count_of fields → element_of (record_of max fields cids) i ≡ element_said fields cids i
  unfolding list_of
  said i h =
      let none = element_of (record_of 0 [] []) 0 in
      ap (λ (l : List ServiceElement). get_or l i none) (sym (append-nil (list_of (element_said fields cids) (count_of fields)))) ∙ list_at (element_said fields cids) none [] (count_of fields) i h

  pub size_said : (i : ℕ) → i < count_of fields → size_of (record_of max fields cids) i ≡ 28 + 4 * cids_counted fields i
  size_said i h = ap (λ (e : ServiceElement). 28 + 4 * e.fields.cid_count) (said i h)

  sizes_said : (n : ℕ) → n ≤ count_of fields → sum_of (size_of (record_of max fields cids)) n ≡ 28 * n + 4 * cids_before fields n
  unfolding sum_of
  sizes_said zero h = refl
  sizes_said (suc n) h = let a = size_said n h in let b = sizes_said n (omega arith) in omega (arith, a, b)

  pub start_said : (i : ℕ) → i ≤ count_of fields → start_of (record_of max fields cids) i ≡ fixed_part (count_of fields) + 28 * i + 4 * cids_before fields i
  unfolding start_of
  start_said i h = omega (arith, sizes_said i h)

  -- where the next element starts, inside the payload
  pub start_more : (i : ℕ) {b : ℕ} → i < count_of fields → b ≡ start_of (record_of max fields cids) i
      → b + (28 + 4 * cids_counted fields i) ≡ start_of (record_of max fields cids) (i + 1)
  start_more i h e = rw (← size_said i h) (start_next (record_of max fields cids) i e)

  pub start_inside : (i : ℕ) {b : ℕ} → i < count_of fields → b ≡ start_of (record_of max fields cids) i
      → b + (28 + 4 * cids_counted fields i) ≤ length_of (record_of max fields cids)
  start_inside i h e = rw (← size_said i h) (start_within (record_of max fields cids) i e h)

-- an element has room in an output of `room` bytes, and its CIDs stand in a list of `given`
pub element_inside : (fields cids : List ℕ) (i : ℕ) {b n room : ℕ} → i < count_of fields → b ≡ start_of (record_of 0 fields cids) i → n ≡ cids_counted fields i
    → length_of (record_of 0 fields cids) ≤ room → b + 28 + 4 * n ≤ room
element_inside fields cids i h e c r = omega (arith, start_inside 0 fields cids i h e, c, r)

pub cids_inside : (fields : List ℕ) (count i : ℕ) {from n given : ℕ} → i < count → from ≡ cids_before fields i → n ≡ cids_counted fields i
    → cids_before fields count ≤ given → from + n ≤ given
cids_inside fields count i h e c r = omega (arith, sum_within (cids_counted fields) count i h, e, c, r)

-- an element's numbers and CIDs stored one after another
pub element_put : (max : ℕ) (fields cids s : List ℕ) (i at from n : ℕ) {s₁ s₂ : List ℕ} → i < count_of fields → from ≡ cids_before fields i
    → n ≡ cids_counted fields i → from + n ≤ length cids
    → s₁ ≡ sets s at (cid_bytes (take (7 * i + 7 - 7 * i) (drop (7 * i) fields)) (length (take (7 * i + 7 - 7 * i) (drop (7 * i) fields))))
    → s₂ ≡ sets s₁ (at + 28) (cid_bytes (take (from + n - from) (drop from cids)) (length (take (from + n - from) (drop from cids))))
    → s₂ ≡ sets s at (piece (record_of max fields cids) i)
unfolding element_bytes
element_put max fields cids s i at from n {s₁} h e m r p q =
    let f = (element_said fields cids i).fields in
    let numbers : s₁ ≡ sets s at (field_bytes f) = p ∙ ap (sets s at) (part_words fields (7 * i) 7 (omega arith) ∙ fields_said fields cids i) in
    let rest : cid_bytes (drop from cids) n ≡ cid_bytes (drop (cids_before fields i) cids) (cids_counted fields i) = (λ t. cid_bytes (drop (e t) cids) (m t)) in
    sets_then (field_bytes f) (cid_bytes (drop (cids_before fields i) cids) (cids_counted fields i)) at 28 s (length_fields f) numbers (q ∙ ap (sets s₁ (at + 28)) (part_words cids from n r ∙ rest))
    ∙ ap (λ (x : ServiceElement). sets s at (element_bytes x)) (sym (said max fields cids i h))

-- the pairs stand inside the payload
pub start_least : (fields : List ℕ) → fixed_part (count_of fields) ≤ length_of (bare_of fields)
start_least fields = omega (arith, start_said 0 fields [] (count_of fields) (omega arith))

-- one pair more
pub pair_more : (fields s : List ℕ) (i : ℕ) {s₁ s₂ : List ℕ} {b k n : ℕ} → i < count_of fields → s₁ ≡ sets s 8 (joined (pair_bytes (bare_of fields)) i)
    → b ≡ start_of (bare_of fields) i → k ≡ pair_place i → n ≡ cids_counted fields i → s₂ ≡ sets s₁ k (range_bytes (range b (28 + 4 * n)))
    → s₂ ≡ sets s 8 (joined (pair_bytes (bare_of fields)) (i + 1))
pair_more fields s i {s₁} {s₂} {b} {k} {n} h p q r e t =
    let size : 28 + 4 * n ≡ size_of (bare_of fields) i = omega (arith, e, size_said 0 fields [] i h) in
    pair_next (bare_of fields) i s p q r (t ∙ ap (λ (m : ℕ). sets s₁ k (range_bytes (range b m))) size)

-- an element's size as it is judged
pub size_judged : (fields : List ℕ) (i : ℕ) {n k : ℕ} {v : Verdict} → i < count_of fields → n ≡ cids_counted fields i → k ≡ pair_place i
    → v ≡ fault_if (ltb 540 (28 + 4 * n)) wrong_size k → size_verdict (bare_of fields) i ≡ v
size_judged fields i h e q j = rw (size_said 0 fields [] i h, ← e, ← q) (sym j)

-- sizes and places do not depend on the CIDs
pub sizes_same : (max : ℕ) (fields cids : List ℕ) (n : ℕ) → n ≤ count_of fields
    → first_fault (size_verdict (bare_of fields)) n ≡ first_fault (size_verdict (record_of max fields cids)) n
sizes_same max fields cids n h =
    fault_same (size_verdict (bare_of fields)) (size_verdict (record_of max fields cids)) n
    (λ i l. ap (λ (k : ℕ). fault_if (ltb 540 k) wrong_size (pair_place i)) (size_said 0 fields [] i (omega arith) ∙ sym (size_said max fields cids i (omega arith))))

pub pairs_same : (max : ℕ) (fields cids : List ℕ) (n : ℕ) → n ≤ count_of fields
    → joined (pair_bytes (bare_of fields)) n ≡ joined (pair_bytes (record_of max fields cids)) n
pairs_same max fields cids n h =
    join_same (pair_bytes (bare_of fields)) (pair_bytes (record_of max fields cids)) n
    (λ i l. (λ t. range_bytes (range ((start_said 0 fields [] i (omega arith) ∙ sym (start_said max fields cids i (omega arith))) t) ((size_said 0 fields [] i (omega arith) ∙ sym (size_said max fields cids i (omega arith))) t))))

-- the first number is not judged
pub verdict_same : (max : ℕ) (fields cids : List ℕ) → lists_verdict 0 fields cids ≡ lists_verdict max fields cids
unfolding lists_verdict written_verdict start_of
verdict_same max fields cids = refl

-- no size is over its limit, so the CIDs are few
pub cids_few : (fields : List ℕ) (n : ℕ) → n ≤ count_of fields → first_fault (size_verdict (bare_of fields)) n ≡ no_fault → cids_before fields n ≤ 128 * n
unfolding sum_of first_fault
cids_few fields zero h e = omega arith
cids_few fields (suc n) h e =
    let a = cids_few fields n (omega arith) (left_fits _ _ e) in
    let b = size_within (bare_of fields) (suc n) n e (omega arith) in
    omega (arith, a, b, size_said 0 fields [] n h)

-- ---- the judgement in the code's order

-- the rules on the count, those on the sizes, the rest
arranged : (a b s l c : Verdict) → first_of a (first_of (first_of b (first_of s l)) c) ≡ first_of (first_of a b) (first_of s (first_of l c))
unfolding first_of
arranged (Err r) b s l c = refl
arranged (Ok _) (Err r) s l c = refl
arranged (Ok _) (Ok _) (Err r) l c = refl
arranged (Ok _) (Ok _) (Ok _) l c = refl

-- a count that is not refused
pub few_said : (v : Verdict) (n : ℕ) → first_of v (fault_if (ltb 32 n) wrong_count 0) ≡ no_fault → n ≤ 32
few_said v n e = ltb-false 32 n (not_broken _ wrong_count 0 (right_fits v _ e))

-- more numbers than those of 32 elements are too many elements, or none that are whole
count_by : (n : ℕ) (b : Bool) → eqb (n % 7) 0 ≡ b → 224 < n
    → first_of (fault_if (not b) wrong_count 0) (fault_if (ltb 32 (n / 7)) wrong_count 0) ≡ Err (refusal wrong_count 0)
unfolding first_of fault_if
count_by n true e h = rw (lt-ltb 32 (n / 7) (omega (arith, eqb-true (n % 7) 0 e)))
count_by n false e h = refl

pub count_many : (n : ℕ) → 224 < n
    → first_of (fault_if (not (eqb (n % 7) 0)) wrong_count 0) (fault_if (ltb 32 (n / 7)) wrong_count 0) ≡ Err (refusal wrong_count 0)
count_many n h = count_by n (eqb (n % 7) 0) refl h

pub count_few : (v : Verdict) (n : ℕ) → n ≤ 224 → first_of v (fault_if (ltb 32 (n / 7)) wrong_count 0) ≡ v
unfolding fault_if
count_few v n h = rw (le-ltb 32 (n / 7) (omega arith)) (last_fits v)

pub judged : (fields cids : List ℕ) → lists_verdict 0 fields cids
    ≡ first_of (first_of (fault_if (not (eqb (length fields % 7) 0)) wrong_count 0) (fault_if (ltb 32 (count_of fields)) wrong_count 0))
    (first_of (first_fault (size_verdict (bare_of fields)) (count_of fields)) (rest_verdict (count_of fields) (cids_before fields (count_of fields)) (length cids)))
unfolding lists_verdict written_verdict rest_verdict
judged fields cids =
    arranged _ _ _ _ _
    ∙ rw (sizes_same 0 fields cids (count_of fields) (omega arith), start_said 0 fields cids (count_of fields) (omega arith))

-- ---- lists that fit

pub record Sound (fields cids : List ℕ) : Type 0 where
  pub few : count_of fields ≤ 32
  pub total : cids_before fields (count_of fields) ≡ length cids
  pub short : fixed_part (count_of fields) + 28 * count_of fields + 4 * length cids ≤ 4096

pub sound : (max : ℕ) (fields cids : List ℕ) → lists_verdict max fields cids ≡ no_fault → Sound fields cids
unfolding lists_verdict
sound max fields cids e =
    let n = count_of fields in
    let rest = right_fits _ _ e in
    let p = record_of max fields cids in
    let f = fitting p (left_fits _ _ rest) in
    let t : cids_before fields n ≡ length cids = equal_kept (cids_before fields n) (length cids) (not_broken _ contradiction 0 (right_fits _ _ rest)) in
    record { few = f.few; total = t; short = omega (arith, f.short, start_said max fields cids n (omega arith), t) }

-- the payload's length, known without a look at the elements
pub length_said : (max : ℕ) (fields cids : List ℕ) → Sound fields cids
    → length (bytes_of (record_of max fields cids)) ≡ fixed_part (count_of fields) + 28 * count_of fields + 4 * length cids
length_said max fields cids h =
    length_bytes (record_of max fields cids) ∙ start_said max fields cids (count_of fields) (omega arith)
    ∙ ap (λ (k : ℕ). fixed_part (count_of fields) + 28 * count_of fields + 4 * k) h.total
