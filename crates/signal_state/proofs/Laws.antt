-- Entries one by one, counts that fit, and lengths.
-- Assumes nothing.
use mathlib.Core.Path.{◌≡◌, refl, sym, ap, ◌∙◌}
use mathlib.Core.Logic.{◌⊎◌, inl, inr, ⊎_map, ⊎_elim}
use mathlib.Core.Bool.{Bool, cond, ◌||◌}
use mathlib.Core.List.{List, [], ◌∷◌, ◌++◌, append_assoc}
use Prim.Native.Nat.{ℕ, zero, suc, ◌+◌, ◌*◌, ◌-◌, ◌≤◌, ◌<◌}
use native.Mathlib.Numerals.{add-one}
use native.Mathlib.Omega.{arith}
use borrow.Author.Tests.{eqb-true, ne_eqb}
use lib.Dec.{eqb}
use lib.ListN.{length, set, length-append}
use lib.Seq.{sets, set_at}
use Rattle.wire.specs.Numbers.{digits}
use Rattle.wire.proofs.Laws.{sets_then}
use Rattle.protocol.specs.Refusal.{wrong_size, contradiction}
use Rattle.protocol.specs.Verdict.{judge, first_of, fault_if, open_length, no_fault, Written, Writing, writing}
use Rattle.protocol.specs.declared.Refusal.{Refusal}
use Rattle.protocol.specs.declared.Version.TheVariants.{V2}
use Rattle.protocol.proofs.Verdicts.{left_fits, right_fits, not_broken, open_length_lem}
use Rattle.folds.specs.Folds.{list_of, joined}
use Rattle.folds.proofs.Laws.{fits_next, fault_at, any_next, fault_same, any_same, length_list, length_joined}
use Rattle.pairs.specs.Pair.{range_at, shown_at, placed, range_bytes}
use Rattle.pairs.specs.declared.ZeroSize.{ZeroSize}
use Rattle.lists.specs.Lists.{list_verdict}
use Rattle.pairs.specs.Claims.{Safe}
use Rattle.lists.specs.Claims.{Whole}
use Rattle.pairs.specs.declared.Range.{Range}
use Rattle.pairs.specs.declared.PairKind.TheVariants.{List as ListKind}
use Rattle.pairs.proofs.Laws.{size_said, shown_safe}
use Rattle.lists.proofs.Behind.{behind_said}
use Rattle.signal_state.specs.declared.RsrpSnr.{RsrpSnr}
use Rattle.signal_state.specs.declared.SignalState.{SignalState}
use Rattle.signal_state.specs.declared.SignalForm.{SignalForm}
use Rattle.signal_state.specs.SignalState.{list_form, count_at, entry_place, zero_entry, no_entries, sixteen, number_rules, list_rules, entry_rules, entries_verdict, is_known, any_known, contradicts, body_verdict, head_of, head_verdict, size_of, limit_verdict, listed_verdict, number_bytes, entry_bytes, entries_bytes, list_bytes, listed_bytes, list_place, verdict_at, refused, read_entries, read_with, entry_in, verdict_in, bytes_in, write_of}
use Rattle.std.specs.Prelude.{Err}

-- ---- entries one by one

-- the next entry goes where a zero stood
pub one_more : (f : ℕ → RsrpSnr) (i : ℕ) {es : List RsrpSnr} {e : RsrpSnr} → i < 16 → es ≡ sixteen f i → e ≡ f i → set es i e ≡ sixteen f (i + 1)
unfolding list_of
one_more f i {es} {e} h p q =
    let k : 16 - i ≡ suc (16 - (i + 1)) = omega arith in
    let z = no_entries (16 - (i + 1)) in
    let a : set (list_of f i ++ (zero_entry ∷ z)) i e ≡ list_of f i ++ (e ∷ z) = set_at (list_of f i) zero_entry z e i (length_list f i) in
    rw (p, k) (a ∙ rw (q, add-one) (sym (append_assoc (list_of f i) (f i ∷ []) (no_entries (16 - suc i)))))

-- entry by entry: one more that fits, the first that does not, one more that is known or not
pub entries_next : (offset : ℕ) (f : ℕ → RsrpSnr) (i : ℕ) → entries_verdict offset f i ≡ no_fault → judge (entry_rules (entry_place offset i) (f i)) ≡ no_fault
    → entries_verdict offset f (i + 1) ≡ no_fault
unfolding entries_verdict
entries_next offset f i e h = fits_next (λ j. judge (entry_rules (entry_place offset j) (f j))) i e h

pub known_next : (f : ℕ → RsrpSnr) (i : ℕ) {b c : Bool} → b ≡ any_known f i → c ≡ (b || is_known (f i)) → c ≡ any_known f (i + 1)
unfolding any_known
known_next f i p q = any_next (λ j. is_known (f j)) i p q

pub body_fault : (rssi offset : ℕ) (f : ℕ → RsrpSnr) (n i : ℕ) (r : Refusal) → entries_verdict offset f i ≡ no_fault → i < n
    → judge (entry_rules (entry_place offset i) (f i)) ≡ Err r → body_verdict rssi offset f n ≡ Err r
unfolding body_verdict entries_verdict first_of
body_fault rssi offset f n i r e l h = rw (fault_at (λ j. judge (entry_rules (entry_place offset j) (f j))) n i r e l h)

-- and behind the last what contradicts
pub body_last : (rssi offset : ℕ) (f : ℕ → RsrpSnr) (n i : ℕ) {b : Bool} → i ≡ n → entries_verdict offset f i ≡ no_fault → b ≡ any_known f i
    → body_verdict rssi offset f n ≡ fault_if (contradicts rssi b) contradiction 0
unfolding body_verdict first_of
body_last rssi offset f n i l e k = rw (k, ← l, e)

-- the first n entries decide
pub body_same : (rssi offset : ℕ) (f g : ℕ → RsrpSnr) (n : ℕ) → ((i : ℕ) → i < n → f i ≡ g i) → body_verdict rssi offset f n ≡ body_verdict rssi offset g n
unfolding body_verdict entries_verdict any_known
body_same rssi offset f g n h =
    let a = fault_same (λ i. judge (entry_rules (entry_place offset i) (f i))) (λ i. judge (entry_rules (entry_place offset i) (g i))) n
    (λ i l. ap (λ (e : RsrpSnr). judge (entry_rules (entry_place offset i) e)) (h i l)) in
    let b = any_same (λ i. is_known (f i)) (λ i. is_known (g i)) n (λ i l. ap is_known (h i l)) in
    λ i. first_of (a i) (fault_if (contradicts rssi (b i)) contradiction 0)

-- ---- counts that fit

pub size_is : (n : ℕ) → size_of (suc n) ≡ 4 + 20 * suc n
size_is n = rw (ne_eqb (suc n) 0 (omega arith))

pub size_some : (n : ℕ) → (n ≡ 0 → ⊥) → size_of n ≡ 4 + 20 * n
size_some n h = rw (ne_eqb n 0 h)

pub size_small : (n : ℕ) → size_of n ≤ 324 → n ≤ 16
size_small zero h = omega arith
size_small (suc n) h = omega (arith, size_is n)

pub small_size : (n : ℕ) → n ≤ 16 → size_of n ≤ 324
small_size zero h = omega arith
small_size (suc n) h = omega (arith, size_is n)

pub limit_small : (p : SignalState) (n : ℕ) → limit_verdict p n ≡ no_fault → n ≤ 16
unfolding limit_verdict
limit_small p n e = size_small n (size_said ListKind 324 (size_of n) (not_broken _ wrong_size 20 (right_fits _ _ e))).small

-- a list that fits is absent, or has from 1 to 16 entries
listed : (z : ZeroSize) (s : List ℕ) → head_verdict z s ≡ no_fault → list_verdict z list_form 28 20 s ≡ no_fault
unfolding head_of list_rules
listed z s e = right_fits (judge (number_rules _ _)) _ (right_fits (open_length 28 (length s)) _ e)

pub count_small : (z : ZeroSize) (s : List ℕ) → head_verdict z s ≡ no_fault → count_at s ≤ 16
count_small z s e = ⊎_elim (λ a. rw a (omega arith)) (λ w. w.most) (behind_said z list_form 28 20 s (listed z s e)).1

-- and it stands within the payload
within : (s : List ℕ) (p : Range) (n : ℕ) → 28 ≤ length s → Safe 28 (length s) p → ((n ≡ 0) × (p.length ≡ 0)) ⊎ Whole list_form p n → p.start + 4 + 20 * n ≤ length s
within s p n l (inl a) (inl z) = omega (arith, a.nowhere, z.0)
within s p n l (inl a) (inr w) = absurd (omega (arith, a.empty, w.size))
within s p n l (inr i) (inl z) = absurd (omega (arith, i.some, z.1))
within s p n l (inr i) (inr w) = omega (arith, i.within, w.size)

pub list_within : (z : ZeroSize) (s : List ℕ) → head_verdict z s ≡ no_fault → list_place s + 4 + 20 * count_at s ≤ length s
unfolding head_of shown_at
list_within z s e =
    let long = (open_length_lem 28 (length s) (left_fits (open_length 28 (length s)) _ e)).0 in
    let k = behind_said z list_form 28 20 s (listed z s e) in
    within s (shown_at s 20) (count_at s) long (shown_safe z ListKind 28 324 (length s) (range_at s 20) k.0)
    (⊎_map (λ a. (rw a refl, eqb-true (range_at s 20).length 0 a)) (λ w. record { some = w.some; most = w.most; size = w.size }) k.1)

-- ---- lengths

pub length_numbers : (p : SignalState) → length (number_bytes p) ≡ 20
unfolding number_bytes
length_numbers p = refl

pub length_entry : (e : RsrpSnr) → length (entry_bytes e) ≡ 20
unfolding entry_bytes
length_entry e = refl

pub length_entries : (n : ℕ) (f : ℕ → RsrpSnr) → length (entries_bytes n f) ≡ 20 * n
unfolding entries_bytes entry_bytes
length_entries n f = length_joined (λ i. entry_bytes (f i)) 20 n (λ i. refl)

pub length_list_bytes : (n : ℕ) (f : ℕ → RsrpSnr) → length (list_bytes n f) ≡ 8 + size_of n
unfolding list_bytes range_bytes
length_list_bytes zero f = refl
length_list_bytes (suc n) f = rw (ne_eqb (suc n) 0 (omega arith)) (omega (arith, length_entries (suc n) f))

pub length_listed : (p : SignalState) (n : ℕ) (f : ℕ → RsrpSnr) → length (listed_bytes p n f) ≡ 28 + size_of n
unfolding listed_bytes
length_listed p n f = length-append (number_bytes p) (list_bytes n f) ∙ omega (arith, length_numbers p, length_list_bytes n f)

-- what is written is far below 4,096 bytes, so number 5 is never given
pub bytes_most : (p : SignalState) (n : ℕ) (f : ℕ → RsrpSnr) → listed_verdict p n f ≡ no_fault → length (listed_bytes p n f) ≤ 352
unfolding listed_verdict
bytes_most p n f e = omega (arith, length_listed p n f, small_size n (limit_small p n (left_fits (limit_verdict p n) _ e)))

-- ---- what a reader shows behind the head

pub read_through : (z : ZeroSize) (s : List ℕ) → head_verdict z s ≡ no_fault → read_entries s (list_place s) (count_at s) ≡ read_with V2 z s
unfolding read_with verdict_at read_entries first_of
read_through z s e = rw e

pub read_refused : (z : ZeroSize) (s : List ℕ) (r : Refusal) → head_verdict z s ≡ Err r → refused r ≡ read_with V2 z s
unfolding read_with verdict_at first_of
read_refused z s r e = rw e

-- ---- what a writer stores and answers

some_of : (n : ℕ) (xs : List ℕ) → (n ≡ 0 → ⊥) → cond (eqb n 0) [] xs ≡ xs
some_of n xs h = rw (ne_eqb n 0 h)

pub some_count : (n : ℕ) → (n ≡ 0 → ⊥) → cond (eqb n 0) [] (digits 4 n) ≡ digits 4 n
some_count n h = some_of n (digits 4 n) h

-- the pair and the count, and then the entries
pub list_stored : (n : ℕ) (f : ℕ → RsrpSnr) (s : List ℕ) {s₁ s₂ : List ℕ} → s₁ ≡ sets s 20 (range_bytes (placed 28 (size_of n)) ++ cond (eqb n 0) [] (digits 4 n))
    → s₂ ≡ sets s₁ 32 (entries_bytes n f) → s₂ ≡ sets s 20 (list_bytes n f)
unfolding list_bytes range_bytes entries_bytes joined
list_stored zero f s p q = q ∙ p
list_stored (suc n) f s {s₁} p q =
    let pair = range_bytes (placed 28 (size_of (suc n))) in
    let count = digits 4 (suc n) in
    let entries = entries_bytes (suc n) f in
    let some : suc n ≡ 0 → ⊥ = λ e. omega (arith, e) in
    let start : s₁ ≡ sets s 20 (pair ++ count) = p ∙ ap (λ (l : List ℕ). sets s 20 (pair ++ l)) (some_count (suc n) some) in
    sets_then (pair ++ count) entries 20 12 s refl start q
    ∙ ap (sets s 20) (append_assoc pair count entries ∙ ap (λ (l : List ℕ). pair ++ l) (sym (some_of (suc n) (count ++ entries) some)))

-- by the form of the record
pub in_form : (p : SignalState) (es : List RsrpSnr) (s : List ℕ) (g : SignalForm) {r : Written} {t : List ℕ} → p.form ≡ g
    → record { value : r ≡ (writing (verdict_in g p (entry_in es)) (bytes_in g p (entry_in es)) s).answer; out_after : t ≡ (writing (verdict_in g p (entry_in es)) (bytes_in g p (entry_in es)) s).output }
    → record { value : r ≡ (write_of p es s).answer; out_after : t ≡ (write_of p es s).output }
unfolding write_of
in_form p es s g {r} {t} e w =
    let same : writing (verdict_in g p (entry_in es)) (bytes_in g p (entry_in es)) s ≡ write_of p es s = λ i. writing (verdict_in (sym e i) p (entry_in es)) (bytes_in (sym e i) p (entry_in es)) s in
    record { value = w.value ∙ ap (λ (x : Writing). x.answer) same; out_after = w.out_after ∙ ap (λ (x : Writing). x.output) same }
