-- All elements of a list: lengths, and one element more in each of the caller's lists.
-- Assumes nothing.
use mathlib.Core.Path.{◌≡◌, refl, sym, ap, ◌∙◌}
use mathlib.Core.List.{List, ◌++◌}
use Prim.Native.Nat.{ℕ, ◌+◌, ◌*◌, ◌≤◌, ◌<◌}
use native.Mathlib.Nat.{zero-add}
use native.Mathlib.Omega.{arith}
use lib.ListN.{length, length-drop, set, take, drop}
use lib.Seq.{sets}
use Rattle.std.proofs.lemmas.List.{length-take-le}
use Rattle.wire.specs.Numbers.{u32_at}
use Rattle.wire.specs.Output.{over}
use Rattle.wire.proofs.Laws.{part_copied}
use Rattle.protocol.proofs.Verdicts.{left_fits}
use Rattle.folds.specs.Folds.{list_of, joined, sum_of}
use Rattle.folds.proofs.Laws.{list_next, length_list, length_joined, joined_sum, join_next, sum_next, sum_within}
use Rattle.device_services.specs.DeviceServices.{count_of, offset_of, cid_count_at, cids_at, verdict_with}
use Rattle.device_services.proofs.Laws.{few}
use Rattle.pairs.specs.declared.ZeroSize.{ZeroSize}
use Rattle.services_query.specs.ServicesQuery.{words_at, cids_of_element, all_fields, all_cids}
use Rattle.protocol.specs.Verdict.{no_fault}

pub length_words : (s : List ℕ) (at n : ℕ) → length (words_at s at n) ≡ n
unfolding words_at
length_words s at n = length_list _ n

-- a part of a list that is filled with numbers
pub words_put : (s list : List ℕ) (from at n : ℕ) {k : ℕ} {t : List ℕ} → at + n ≤ length list → k ≡ n → t ≡ words_at s from (length (take k (drop at list)))
    → take at list ++ (t ++ drop k (drop at list)) ≡ sets list at (words_at s from n)
words_put s list from at n {k} {t} h e p =
    let l : length (take n (drop at list)) ≡ n = length-take-le n (drop at list) (omega (arith, length-drop at list)) in
    let q : t ≡ words_at s from n = p ∙ ap (λ (m : ℕ). words_at s from (length (take m (drop at list)))) e ∙ ap (words_at s from) l in
    rw e (part_copied (words_at s from n) list at n (length_words s from n) h q)

-- before the first nothing is stored, and then one number more
pub words_none : (s t : List ℕ) (from : ℕ) → sets t 0 (words_at s from 0) ≡ t
unfolding words_at list_of
words_none s t from = refl

pub words_next : (s t : List ℕ) (from i : ℕ) → set (sets t 0 (words_at s from i)) i (u32_at s (from + 4 * i)) ≡ sets t 0 (words_at s from (i + 1))
unfolding words_at
words_next s t from i = list_next (λ k. u32_at s (from + 4 * k)) i 0 t refl refl (rw zero-add)

-- the CIDs of an element are the numbers behind its fixed part
cids_words : (s : List ℕ) (at : ℕ) → words_at s (at + 28) (cid_count_at s at) ≡ cids_at s at
unfolding words_at cids_at
cids_words s at = refl

-- put at the front of a list
pub cids_over : (s out : List ℕ) (at : ℕ) {n : ℕ} → n ≡ cid_count_at s at → n ≤ length out → words_at s (at + 28) (length (take n out)) ++ drop n out ≡ over (cids_at s at) out
unfolding words_at cids_at over
cids_over s out at {n} e h = rw (length-take-le n out h, length_list, e)

pub length_fields : (s : List ℕ) (n : ℕ) → length (all_fields s n) ≡ 7 * n
unfolding all_fields
length_fields s n = length_joined (λ i. words_at s (offset_of s i) 7) 7 n (λ i. length_words s (offset_of s i) 7)

pub length_cids : (s : List ℕ) (n : ℕ) → length (all_cids s n) ≡ sum_of (cids_of_element s) n
unfolding all_cids cids_at
length_cids s n = joined_sum (λ i. cids_at s (offset_of s i)) (cids_of_element s) n (λ i. length_list _ (cids_of_element s i))

-- a list that fits has at most 32 elements
pub few_listed : (z : ZeroSize) (s : List ℕ) → verdict_with z s ≡ no_fault → count_of s ≤ 32
unfolding verdict_with
few_listed z s e = few (length s) (count_of s) (left_fits _ _ e)

pub fields_none : (s out : List ℕ) → sets out 0 (all_fields s 0) ≡ out
unfolding all_fields joined
fields_none s out = refl

pub fields_next : (s out : List ℕ) (i : ℕ) {o : ℕ} {t u : List ℕ} → o ≡ offset_of s i → t ≡ sets out 0 (all_fields s i) → u ≡ sets t (7 * i) (words_at s o 7)
    → u ≡ sets out 0 (all_fields s (i + 1))
unfolding all_fields
fields_next s out i {o} {t} e p q =
    join_next (λ j. words_at s (offset_of s j) 7) i 0 out p (omega (arith, length_fields s i)) (q ∙ ap (λ (k : ℕ). sets t (7 * i) (words_at s k 7)) e)

pub cids_none : (s out : List ℕ) → sets out 0 (all_cids s 0) ≡ out
unfolding all_cids joined
cids_none s out = refl

pub cids_next : (s out : List ℕ) (i : ℕ) {o n at : ℕ} {t u : List ℕ} → o ≡ offset_of s i → n ≡ cid_count_at s o → at ≡ sum_of (cids_of_element s) i
    → t ≡ sets out 0 (all_cids s i) → u ≡ sets t at (words_at s (o + 28) n) → u ≡ sets out 0 (all_cids s (i + 1))
unfolding all_cids
cids_next s out i {o} {n} {at} {t} e c a p q =
    let w : words_at s (o + 28) n ≡ cids_at s (offset_of s i) = rw (c, e) (cids_words s (offset_of s i)) in
    join_next (λ j. cids_at s (offset_of s j)) i 0 out p (omega (arith, length_cids s i, a)) (q ∙ ap (sets t at) w)

pub total_next : (s : List ℕ) (i : ℕ) {o n t : ℕ} → o ≡ offset_of s i → n ≡ cid_count_at s o → t ≡ sum_of (cids_of_element s) i
    → t + n ≡ sum_of (cids_of_element s) (i + 1)
total_next s i e c a = rw (c, e, a) (sym (sum_next (cids_of_element s) i))

pub total_none : (s : List ℕ) → sum_of (cids_of_element s) 0 ≡ 0
unfolding sum_of
total_none s = refl

-- the CIDs of an element and those before it are within all
pub total_within : (s : List ℕ) (count i : ℕ) {o n t : ℕ} → i < count → o ≡ offset_of s i → n ≡ cid_count_at s o → t ≡ sum_of (cids_of_element s) i
    → t + n ≤ sum_of (cids_of_element s) count
total_within s count i h e c a = rw (c, e, a) (sum_within (cids_of_element s) count i h)
