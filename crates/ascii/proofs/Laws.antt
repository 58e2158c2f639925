-- Laws of ASCII text, each in the form that a loop asks for.
-- Assumes nothing.
use mathlib.Core.Path.{◌≡◌, refl, sym, ap, ◌∙◌}
use mathlib.Core.Bool.{Bool, true, false, cond, not}
use mathlib.Core.List.{List, [], ◌∷◌, ◌++◌, append_assoc}
use Prim.Native.Nat.{ℕ, zero, suc, ◌+◌, ◌*◌, ◌-◌, ◌/◌, ◌%◌, ◌^◌, ◌≤◌, ◌<◌, min}
use native.Mathlib.Nat.{pow-suc}
use native.Mathlib.Numerals.{add-one}
use native.Mathlib.Omega.{arith}
use borrow.Author.Tests.{ltb-true, ltb-false, lt-ltb, le-ltb}
use lib.Dec.{ltb, eqb}
use lib.ListN.{length, length-append, length-set, length-drop, get_or, set, take, drop, drop_of_length-le}
use lib.Seq.{sets, set_split, drop_at, length-take-le}
use Rattle.std.specs.Prelude.{Option, Some, None}
use Rattle.std.specs.List.{prefix_len, position, position_or_len, zip}
use Rattle.std.proofs.lemmas.List.Sums.{prefix_len-le-length}
use Rattle.wire.proofs.Laws.{sets_append, sets_over, take_over}
use Rattle.ascii.specs.Ascii.{decimal_in, value_from, is_hex, hex_value, hex_run, unhexed, hex_pair, hexed_in, agreement, through}

-- what holds of both sides of a test holds of what it picks
pub by_test : {A : Type 0} (P : A → Type 0) (t : Bool) {a b : A} → P a → P b → P (cond t a b)
by_test P true p q = p
by_test P false p q = q

-- ---- decimal: digits stored from the last one on

drop_set_same : (l : List ℕ) (j a : ℕ) → j < length l → drop j (set l j a) ≡ a ∷ drop (suc j) l
drop_set_same l j a h = ap (drop j) (set_split l j a h) ∙ drop_at (take j l) (a ∷ drop (suc j) l) j (length-take-le j l (omega arith))

-- the digits of `rest`, at most i of them, and those stored from i on are the whole text
abbrev pub Stage : List ℕ → ℕ → ℕ → List ℕ → Type 0
Stage all i rest bytes = (1 ≤ i) × (i ≤ 20) × (length bytes ≡ 20) × (rest < 10 ^ i) × (decimal_in i rest ++ drop i bytes ≡ all)

longer : (k n : ℕ) → 10 ≤ n → decimal_in (suc k) n ≡ decimal_in k (n / 10) ++ ((48 + n % 10) ∷ [])
unfolding decimal_in
longer k n l = rw (le-ltb n 10 l)

pub stage_more : (i rest : ℕ) (bytes all : List ℕ) → Stage all i rest bytes → 10 ≤ rest
    → Stage all (i - 1) (rest / 10) (set bytes (i - 1) (48 + rest % 10))
stage_more zero rest bytes all h l = absurd (omega arith)
stage_more (suc zero) rest bytes all h l = absurd (omega arith)
stage_more (suc (suc j)) rest bytes all h l =
    let e : suc (suc j) - 1 ≡ suc j = omega arith in
    let d = 48 + rest % 10 in
    rw e (
      omega arith,
      omega arith,
      length-set bytes (suc j) d ∙ h.2,
      omega (arith, pow-suc 10 (suc j)),
      ap (λ (x : List ℕ). decimal_in (suc j) (rest / 10) ++ x) (drop_set_same bytes (suc j) d (omega (arith, h.2)))
          ∙ sym (append_assoc (decimal_in (suc j) (rest / 10)) (d ∷ []) (drop (suc (suc j)) bytes))
          ∙ ap (λ (x : List ℕ). x ++ drop (suc (suc j)) bytes) (sym (longer (suc j) rest l))
          ∙ h.4,
    )

pub stage_last : (i rest : ℕ) (bytes all : List ℕ) → Stage all i rest bytes → rest < 10 → drop (i - 1) (set bytes (i - 1) (48 + rest)) ≡ all
unfolding decimal_in
stage_last zero rest bytes all h l = absurd (omega arith)
stage_last (suc j) rest bytes all h l =
    let e : suc j - 1 ≡ j = omega arith in
    rw e (drop_set_same bytes j (48 + rest) (omega (arith, h.2)) ∙ (rw (lt-ltb rest 10 l) at h.4))

-- a number of at most k digits has no more
pub length_decimal : (k n : ℕ) → length (decimal_in k n) ≤ k
unfolding decimal_in
length_decimal zero n = omega arith
length_decimal (suc k) n =
    by_test (λ (x : List ℕ). length x ≤ suc k) (ltb n 10) (omega arith)
    (omega (arith, length-append (decimal_in k (n / 10)) ((48 + n % 10) ∷ []), length_decimal k (n / 10)))

value_more : (a d : ℕ) (s : List ℕ) → value_from a (s ++ (d ∷ [])) ≡ 10 * value_from a s + (d - 48)
unfolding value_from
value_more a d [] = refl
value_more a d (x ∷ s) = value_more (10 * a + (x - 48)) d s

-- the digits of n spell n
pub decimal_spells : (k n : ℕ) → n < 10 ^ k → value_from 0 (decimal_in k n) ≡ n
unfolding decimal_in value_from
decimal_spells zero n h = omega arith
decimal_spells (suc k) n h =
    by_test (λ (x : List ℕ). value_from 0 x ≡ n) (ltb n 10) (omega arith)
    (value_more 0 (48 + n % 10) (decimal_in k (n / 10)) ∙ omega (arith, decimal_spells k (n / 10) (omega (arith, pow-suc 10 k))))

-- ---- hexadecimal

pub length_unhexed : (n : ℕ) (s : List ℕ) → length (unhexed n s) ≡ n
unfolding unhexed
length_unhexed zero s = refl
length_unhexed (suc n) s =
    length-append (unhexed n s) ((16 * hex_value (get_or s (2 * n) 0) + hex_value (get_or s (2 * n + 1) 0)) ∷ []) ∙ omega (arith, length_unhexed n s)

-- one byte more is spelled
pub unhex_more : (n : ℕ) (s o : List ℕ) {o₁ o₂ : List ℕ} {high low : ℕ} → o₁ ≡ sets o 0 (unhexed n s)
    → high ≡ hex_value (get_or s (2 * n) 0) → low ≡ hex_value (get_or s (2 * n + 1) 0) → o₂ ≡ set o₁ n (16 * high + low)
    → o₂ ≡ sets o 0 (unhexed (n + 1) s)
unfolding unhexed
unhex_more n s o p h l q =
    let b = 16 * hex_value (get_or s (2 * n) 0) + hex_value (get_or s (2 * n + 1) 0) in
    let a : sets o 0 (unhexed n s ++ (b ∷ [])) ≡ sets (sets o 0 (unhexed n s)) (0 + length (unhexed n s)) (b ∷ []) = sets_append (unhexed n s) (b ∷ []) o 0 in
    let z : 0 + length (unhexed n s) ≡ n = omega (arith, length_unhexed n s) in
    q ∙ rw (p, h, l, add-one n, a, z)

pub length_hexed : (n : ℕ) (s : List ℕ) → length (hexed_in n s) ≡ 2 * n
unfolding hexed_in hex_pair
length_hexed zero s = refl
length_hexed (suc n) s = length-append (hexed_in n s) (hex_pair (get_or s n 0)) ∙ omega (arith, length_hexed n s)

-- ---- how far a text goes

pub none_left : (w : List ℕ) → agreement [] w ≡ 0
unfolding agreement
none_left [] = refl
none_left (x ∷ w) = refl

-- nothing agrees from the end on
pub none_past : (s w : List ℕ) (at : ℕ) → length s ≤ at → agreement (drop at s) w ≡ 0
none_past s w at h = rw (drop_of_length-le s h) (none_left w)

-- by the pairs of bytes that stand at one place
pub agreement_is : (s w : List ℕ) → agreement s w ≡ prefix_len (λ p. eqb p.0 p.1) (zip s w)
unfolding agreement
agreement_is [] w = none_left w
agreement_is (b ∷ s) [] = refl
agreement_is (b ∷ s) (x ∷ w) = ap (λ (k : ℕ). cond (eqb b x) k 0) (omega (arith, agreement_is s w))

-- an agreement is no longer than the word
pub agreement_le : (s w : List ℕ) → agreement s w ≤ length w
unfolding agreement
agreement_le s [] = omega arith
agreement_le [] (x ∷ w) = omega arith
agreement_le (b ∷ s) (x ∷ w) = by_test (λ (k : ℕ). k ≤ suc (length w)) (eqb b x) (omega (arith, agreement_le s w)) (omega arith)

-- by the first place where x stands
through_next : (found : Bool) (r l p : ℕ) → r ≡ min l (p + 1) → cond found 1 (suc r) ≡ min (suc l) (cond (not found) (1 + p) 0 + 1)
through_next true r l p e = omega arith
through_next false r l p e = omega arith

through_is : (s : List ℕ) (x : ℕ) → through s x ≡ min (length s) (position_or_len (λ b. eqb b x) s + 1)
unfolding through
through_is [] x = refl
through_is (b ∷ s) x = through_next (eqb b x) _ _ _ (through_is s x)

abbrev pub through_by : Option ℕ → ℕ → ℕ
through_by (Some i) n = i + 1
through_by None n = n

pub through_found : (s : List ℕ) (x : ℕ) → through_by (position (λ b. eqb b x) s) (length s) ≡ through s x
through_found s x = go (ltb p (length s)) refl
  where
    p : ℕ
    p = position_or_len (λ b. eqb b x) s

    go : (t : Bool) → ltb p (length s) ≡ t → through_by (cond t (Some p) None) (length s) ≡ through s x
    go true h = omega (arith, through_is s x, ltb-true p (length s) h)
    go false h = omega (arith, through_is s x, ltb-false p (length s) h)

-- a text that is not empty goes on
pub through_some : (s : List ℕ) (x : ℕ) → 0 < length s → 0 < through s x
unfolding through
through_some [] x h = absurd (omega arith)
through_some (b ∷ s) x h = by_test (λ (k : ℕ). 0 < k) (eqb b x) (omega arith) (omega arith)

pub through_le : (s : List ℕ) (x : ℕ) → through s x ≤ length s
unfolding through
through_le [] x = omega arith
through_le (b ∷ s) x = by_test (λ (k : ℕ). k ≤ suc (length s)) (eqb b x) (omega arith) (omega (arith, through_le s x))

-- a run of digits is no longer than the text
pub run_le : (s : List ℕ) → hex_run s ≤ length s
unfolding hex_run
run_le s = prefix_len-le-length is_hex s

-- ---- the bytes that n digits of a text spell, from a place of it on, put at the front of a buffer

part_length : (s : List ℕ) (from n : ℕ) → from + n ≤ length s → length (take n (drop from s)) ≡ n
part_length s from n h = length-take-le n (drop from s) (rw (length-drop from s) (omega arith))

pub spelled_front : (s : List ℕ) (from n : ℕ) (p : List ℕ) {q : List ℕ} → from + n ≤ length s → n / 2 ≤ length p
    → q ≡ sets p 0 (unhexed (length (take (from + n - from) (drop from s)) / 2) (take (from + n - from) (drop from s)))
    → take (n / 2) q ≡ unhexed (n / 2) (take n (drop from s))
spelled_front s from n p h l g =
    let m : from + n - from ≡ n = omega arith in
    let d = take n (drop from s) in
    let x : length d ≡ n = part_length s from n h in
    let f : unhexed (length d / 2) d ≡ unhexed (n / 2) d = ap (λ (k : ℕ). unhexed (k / 2) d) x in
    let y : length (unhexed (n / 2) d) ≡ n / 2 = length_unhexed (n / 2) d in
    ap (take (n / 2)) ((rw m at g) ∙ ap (sets p 0) f ∙ sets_over (unhexed (n / 2) d) p (omega arith)) ∙ take_over (unhexed (n / 2) d) p (n / 2) y
