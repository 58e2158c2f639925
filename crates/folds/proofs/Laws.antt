-- Laws of what is gathered over the numbers 0 to n - 1, each in the form that a loop asks for.
-- Assumes nothing.
use mathlib.Core.Path.{◌≡◌, refl, sym, ap, ◌∙◌}
use mathlib.Core.Logic.{◌⊎◌, inl, inr, ⊎_elim}
use mathlib.Core.Bool.{Bool, true, false, ◌||◌}
use mathlib.Core.List.{List, [], ◌∷◌, ◌++◌, append_assoc, append-nil}
use Prim.Native.Nat.{ℕ, zero, suc, ◌+◌, ◌*◌, ◌≤◌, ◌<◌}
use native.Mathlib.Nat.{eq-or-lt_of_le, mul-zero, mul-suc}
use native.Mathlib.Numerals.{add-one}
use native.Mathlib.Omega.{arith}
use lib.ListN.{length, length-append, get_or, set, take}
use lib.Seq.{sets, get_or-append-add, take-suc}
use Rattle.wire.proofs.Laws.{sets_append}
use Rattle.protocol.specs.Verdict.{first_of, no_fault, Verdict}
use Rattle.protocol.specs.declared.Refusal.{Refusal}
use Rattle.protocol.proofs.Tests.{or_cases, cases_or, or_none}
use Rattle.protocol.proofs.Verdicts.{left_fits, right_fits}
use Rattle.folds.specs.Folds.{first_fault, any_of, first_index, list_of, joined, sum_of}
use Rattle.std.specs.Prelude.{Ok, Err}

-- by the last number or one before it
pub last : {A : Type 0} (i n : ℕ) → i < suc n → (i < n → A) → (i ≡ n → A) → A
last i n h before here = let k : i ≤ n = omega arith in ⊎_elim here before (eq-or-lt_of_le k)

-- ---- the first fault

-- one more
pub fault_next : (f : ℕ → Verdict) (i : ℕ) {v w : Verdict} → v ≡ first_fault f i → w ≡ first_of v (f i) → w ≡ first_fault f (i + 1)
unfolding first_fault
fault_next f i p q = q ∙ rw (p, add-one i)

-- one more that fits
pub fits_next : (f : ℕ → Verdict) (i : ℕ) → first_fault f i ≡ no_fault → f i ≡ no_fault → first_fault f (i + 1) ≡ no_fault
unfolding first_fault first_of
fits_next f i p q = rw (add-one i, p, q)

-- a fault behind those that fit is the first
pub fault_at : (f : ℕ → Verdict) (n i : ℕ) (r : Refusal) → first_fault f i ≡ no_fault → i < n → f i ≡ Err r → first_fault f n ≡ Err r
unfolding first_fault first_of
fault_at f zero i r e h q = absurd (omega arith)
fault_at f (suc n) i r e h q = last i n h (λ l. rw (fault_at f n i r e l q)) (λ l. rw (← l, e, q))

-- all fit exactly where each does
-- a fault found stands at one of them, behind those that fit
pub fault_of : (f : ℕ → Verdict) (n : ℕ) (r : Refusal) → first_fault f n ≡ Err r → (i : ℕ) × ((i < n) × ((first_fault f i ≡ no_fault) × (f i ≡ Err r)))
unfolding first_fault first_of
fault_of f zero r e = let z : ◌≡◌ {A = ℕ} 0 1 = cc in absurd (omega arith)
fault_of f (suc n) r e = by_first (fault_of f n r) (first_fault f n) refl e
  where
    by_first : (first_fault f n ≡ Err r → (i : ℕ) × ((i < n) × ((first_fault f i ≡ no_fault) × (f i ≡ Err r)))) → (v : Verdict) → first_fault f n ≡ v
        → first_of v (f n) ≡ Err r → (i : ℕ) × ((i < suc n) × ((first_fault f i ≡ no_fault) × (f i ≡ Err r)))
    by_first before (Ok _) q e = (n, (omega arith, (q, e)))
    by_first before (Err x) q e = let h = before (q ∙ e) in let l : h.0 < n = h.1.0 in (h.0, (omega arith, h.1.1))

pub fits_each : (f : ℕ → Verdict) (n : ℕ) → first_fault f n ≡ no_fault → (i : ℕ) → i < n → f i ≡ no_fault
unfolding first_fault
fits_each f zero e i h = absurd (omega arith)
fits_each f (suc n) e i h = last i n h (λ k. fits_each f n (left_fits _ _ e) i k) (λ k. rw k (right_fits _ _ e))

pub each_fits : (f : ℕ → Verdict) (n : ℕ) → ((i : ℕ) → i < n → f i ≡ no_fault) → first_fault f n ≡ no_fault
unfolding first_fault first_of
each_fits f zero h = refl
each_fits f (suc n) h = rw (each_fits f n (λ i k. h i (omega arith)), h n (omega arith))

-- verdicts that agree on each number agree on all
pub fault_same : (f g : ℕ → Verdict) (n : ℕ) → ((i : ℕ) → i < n → f i ≡ g i) → first_fault f n ≡ first_fault g n
unfolding first_fault
fault_same f g zero h = refl
fault_same f g (suc n) h = rw (fault_same f g n (λ i k. h i (omega arith)), h n (omega arith))

-- ---- whether any does

-- one more
pub any_next : (t : ℕ → Bool) (i : ℕ) {b c : Bool} → b ≡ any_of t i → c ≡ (b || t i) → c ≡ any_of t (i + 1)
unfolding any_of
any_next t i p q = q ∙ rw (p, add-one i)

-- one more that does not
pub none_next : (t : ℕ → Bool) (i : ℕ) → any_of t i ≡ false → t i ≡ false → any_of t (i + 1) ≡ false
unfolding any_of
none_next t i p q = rw (add-one i, p, q)

-- one that does is there exactly where any does
pub any_at : (t : ℕ → Bool) (n i : ℕ) → i < n → t i ≡ true → any_of t n ≡ true
unfolding any_of
any_at t zero i h q = absurd (omega arith)
any_at t (suc n) i h q = cases_or (any_of t n) (t n) (last i n h (λ l. inl (any_at t n i l q)) (λ l. inr (ap t (sym l) ∙ q)))

pub some_of : (t : ℕ → Bool) (n : ℕ) → any_of t n ≡ true → (i : ℕ) × ((i < n) × (t i ≡ true))
unfolding any_of
some_of t zero e = let z : ◌≡◌ {A = ℕ} 0 1 = cc in absurd (omega arith)
some_of t (suc n) e =
    ⊎_elim (λ h. let r = some_of t n h in (r.0, (omega (arith, r.1.0), r.1.1))) (λ h. (n, (omega arith, h))) (or_cases (any_of t n) (t n) e)

-- none does exactly where each does not
pub none_each : (t : ℕ → Bool) (n : ℕ) → any_of t n ≡ false → (i : ℕ) → i < n → t i ≡ false
unfolding any_of
none_each t zero e i h = absurd (omega arith)
none_each t (suc n) e i h =
    let k = or_none (any_of t n) (t n) e in
    last i n h (λ l. none_each t n k.0 i l) (λ l. ap t l ∙ k.1)

pub each_none : (t : ℕ → Bool) (n : ℕ) → ((i : ℕ) → i < n → t i ≡ false) → any_of t n ≡ false
unfolding any_of
each_none t zero h = refl
each_none t (suc n) h = rw (each_none t n (λ i k. h i (omega arith)), h n (omega arith))

-- two tests that agree on each agree on any
pub any_same : (t u : ℕ → Bool) (n : ℕ) → ((i : ℕ) → i < n → t i ≡ u i) → any_of t n ≡ any_of u n
unfolding any_of
any_same t u zero h = refl
any_same t u (suc n) h = rw (any_same t u n (λ i k. h i (omega arith)), h n (omega arith))

-- ---- the first that does

-- one that does, behind those that do not
pub index_at : (t : ℕ → Bool) (n i : ℕ) → any_of t i ≡ false → i < n → t i ≡ true → first_index t n ≡ i
unfolding first_index
index_at t zero i e h q = absurd (omega arith)
index_at t (suc n) i e h q = last i n h (λ l. rw (any_at t n i l q, index_at t n i e l q)) (λ l. rw (← l, e, q))

-- where any does, the first is below n
pub index_below : (t : ℕ → Bool) (n : ℕ) → any_of t n ≡ true → first_index t n < n
unfolding first_index any_of
index_below t zero e = let z : ◌≡◌ {A = ℕ} 0 1 = cc in absurd (omega arith)
index_below t (suc n) e = by_any (λ q. index_below t n q) (any_of t n) refl
  where
    by_any : (any_of t n ≡ true → first_index t n < n) → (b : Bool) → any_of t n ≡ b → first_index t (suc n) < suc n
    by_any before true q = let l = before q in rw q (omega (arith, l))
    by_any before false q = let h : t n ≡ true = rw q at e in rw (q, h) (omega arith)

-- it does, and none before it
pub index_first : (t : ℕ → Bool) (n : ℕ) → any_of t n ≡ true → (t (first_index t n) ≡ true) × (any_of t (first_index t n) ≡ false)
unfolding first_index any_of
index_first t zero e = let z : ◌≡◌ {A = ℕ} 0 1 = cc in absurd (omega arith)
index_first t (suc n) e = by_any (λ q. index_first t n q) (any_of t n) refl
  where
    by_any : (any_of t n ≡ true → (t (first_index t n) ≡ true) × (any_of t (first_index t n) ≡ false)) → (b : Bool) → any_of t n ≡ b
        → (t (first_index t (suc n)) ≡ true) × (any_of t (first_index t (suc n)) ≡ false)
    by_any before true q = rw q (before q)
    by_any before false q = let h : t n ≡ true = rw q at e in rw (q, h) (h, q)

-- where none does, the count
pub index_none : (t : ℕ → Bool) (n : ℕ) → any_of t n ≡ false → first_index t n ≡ n
unfolding first_index any_of
index_none t zero e = refl
index_none t (suc n) e = let k = or_none (any_of t n) (t n) e in rw (k.0, k.1)

-- what is found after the tests below i: nothing, which n stands for, or the first
abbrev pub Sought : (ℕ → Bool) → ℕ → ℕ → ℕ → Type 0
Sought t n i found = ((found ≡ n) × (any_of t i ≡ false)) ⊎ ((found < i) × (first_index t n ≡ found))

pub sought_hit : (t : ℕ → Bool) (n i found : ℕ) → i ≤ n → Sought t n i found → i < found → t i ≡ true → Sought t n (i + 1) i
sought_hit t n i found l (inl k) h e = inr (omega arith, index_at t n i k.1 (omega (arith, k.0)) e)
sought_hit t n i found l (inr k) h e = absurd (omega (arith, k.0))

pub sought_miss : (t : ℕ → Bool) (n i found : ℕ) → Sought t n i found → i < found → t i ≡ false → Sought t n (i + 1) found
sought_miss t n i found (inl k) h e = inl (k.0, none_next t i k.1 e)
sought_miss t n i found (inr k) h e = absurd (omega (arith, k.0))

pub sought_end : (t : ℕ → Bool) (n i found : ℕ) → i ≤ n → Sought t n i found → found ≤ i → found ≡ first_index t n
sought_end t n i found l (inl k) h =
    let e : i ≡ n = omega (arith, k.0) in
    k.0 ∙ sym (index_none t n (ap (any_of t) (sym e) ∙ k.1))
sought_end t n i found l (inr k) h = sym k.1

-- two tests that agree on each have one first
pub index_same : (t u : ℕ → Bool) (n : ℕ) → ((i : ℕ) → i < n → t i ≡ u i) → first_index t n ≡ first_index u n
unfolding first_index
index_same t u zero h = refl
index_same t u (suc n) h =
    let k : (i : ℕ) → i < n → t i ≡ u i = λ i l. h i (omega arith) in
    rw (any_same t u n k, index_same t u n k, h n (omega arith))

-- ---- a list

module _ {A : Type 0} (f : ℕ → A) where
  pub length_list : (n : ℕ) → length (list_of f n) ≡ n
  unfolding list_of
  length_list zero = refl
  length_list (suc n) = length-append (list_of f n) (f n ∷ []) ∙ omega (arith, length_list n)

  pub list_same : (g : ℕ → A) (n : ℕ) → ((i : ℕ) → i < n → f i ≡ g i) → list_of f n ≡ list_of g n
  unfolding list_of
  list_same g zero h = refl
  list_same g (suc n) h = rw (list_same g n (λ i k. h i (omega arith)), h n (omega arith))

  -- element i, whatever stands behind the list
  pub list_at : (d : A) (rest : List A) (n i : ℕ) → i < n → get_or (list_of f n ++ rest) i d ≡ f i
  unfolding list_of
  list_at d rest zero i h = absurd (omega arith)
  list_at d rest (suc n) i h =
      let m : length (list_of f n) ≡ n = length_list n in
      let s : (list_of f n ++ (f n ∷ [])) ++ rest ≡ list_of f n ++ (f n ∷ rest) = append_assoc (list_of f n) (f n ∷ []) rest in
      let here : get_or (list_of f n ++ (f n ∷ rest)) (length (list_of f n) + 0) d ≡ f n = get_or-append-add (list_of f n) (f n ∷ rest) 0 d in
      rw s (last i n h (λ l. list_at d (f n ∷ rest) n i l) (λ l. ap (λ (k : ℕ). get_or (list_of f n ++ (f n ∷ rest)) k d) (omega arith) ∙ here ∙ ap f (sym l)))

-- the front of a list of numbers
pub list_take : (xs : List ℕ) (n : ℕ) → n ≤ length xs → list_of (λ k. get_or xs k 0) n ≡ take n xs
unfolding list_of
list_take xs zero h = refl
list_take xs (suc n) h = rw (list_take xs n (omega arith), take-suc xs n 0 h)

-- one number more is stored
pub list_next : (f : ℕ → ℕ) (i at : ℕ) (s : List ℕ) {s₁ s₂ : List ℕ} {v : ℕ} → s₁ ≡ sets s at (list_of f i) → v ≡ f i → s₂ ≡ set s₁ (at + i) v
    → s₂ ≡ sets s at (list_of f (i + 1))
unfolding list_of
list_next f i at s p q r =
    let a : sets s at (list_of f i ++ (f i ∷ [])) ≡ sets (sets s at (list_of f i)) (at + length (list_of f i)) (f i ∷ []) = sets_append (list_of f i) (f i ∷ []) s at in
    r ∙ rw (p, q, add-one i, a, length_list f i)

-- ---- bytes one after another

-- one piece more is stored
pub join_next : (f : ℕ → List ℕ) (i at : ℕ) (s : List ℕ) {s₁ s₂ : List ℕ} {k : ℕ} → s₁ ≡ sets s at (joined f i)
    → k ≡ at + length (joined f i) → s₂ ≡ sets s₁ k (f i) → s₂ ≡ sets s at (joined f (i + 1))
unfolding joined
join_next f i at s p q r = r ∙ rw (p, q, add-one i, sets_append (joined f i) (f i) s at)

-- pieces that agree on each number agree on all
pub join_same : (f g : ℕ → List ℕ) (n : ℕ) → ((i : ℕ) → i < n → f i ≡ g i) → joined f n ≡ joined g n
unfolding joined
join_same f g zero h = refl
join_same f g (suc n) h = rw (join_same f g n (λ i k. h i (omega arith)), h n (omega arith))

-- a piece stands behind those before it
pub record Split (f : ℕ → List ℕ) (n i : ℕ) : Type 0 where
  pub rest : List ℕ
  pub is : joined f n ≡ joined f i ++ (f i ++ rest)

pub split : (f : ℕ → List ℕ) (n i : ℕ) → i < n → Split f n i
unfolding joined
split f zero i h = absurd (omega arith)
split f (suc n) i h =
    last i n h
    (λ l. let s = split f n i l in
    record { rest = s.rest ++ f n; is = ap (λ (x : List ℕ). x ++ f n) s.is ∙ append_assoc (joined f i) (f i ++ s.rest) (f n) ∙ ap (λ (x : List ℕ). joined f i ++ x) (append_assoc (f i) s.rest (f n)) })
    (λ e. record { rest = []; is = rw (e, append-nil) })

-- pieces of one size
pub length_joined : (f : ℕ → List ℕ) (k n : ℕ) → ((i : ℕ) → length (f i) ≡ k) → length (joined f n) ≡ k * n
unfolding joined
length_joined f k zero h = sym (mul-zero k)
length_joined f k (suc n) h = length-append (joined f n) (f n) ∙ rw (length_joined f k n h, h n, mul-suc k n)

-- pieces of the sizes g
pub joined_sum : (f : ℕ → List ℕ) (g : ℕ → ℕ) (n : ℕ) → ((i : ℕ) → length (f i) ≡ g i) → length (joined f n) ≡ sum_of g n
unfolding joined sum_of
joined_sum f g zero h = refl
joined_sum f g (suc n) h = length-append (joined f n) (f n) ∙ rw (joined_sum f g n h, h n)

-- ---- sums

-- one more
pub sum_next : (f : ℕ → ℕ) (i : ℕ) → sum_of f (i + 1) ≡ sum_of f i + f i
unfolding sum_of
sum_next f i = rw (add-one i)

-- parts that agree on each number have one sum
pub sum_same : (f g : ℕ → ℕ) (n : ℕ) → ((i : ℕ) → i < n → f i ≡ g i) → sum_of f n ≡ sum_of g n
unfolding sum_of
sum_same f g zero h = refl
sum_same f g (suc n) h = rw (sum_same f g n (λ i k. h i (omega arith)), h n (omega arith))

pub sum_le : (f : ℕ → ℕ) (n i : ℕ) → i ≤ n → sum_of f i ≤ sum_of f n
unfolding sum_of
sum_le f zero i h = let e : i ≡ 0 = omega arith in rw e (omega arith)
sum_le f (suc n) i h =
    last i (suc n) (omega arith) (λ l. let q : sum_of f i ≤ sum_of f n = sum_le f n i (omega arith) in omega arith) (λ e. rw e (omega arith))

-- a part and those before it are within the whole
pub sum_within : (f : ℕ → ℕ) (n i : ℕ) → i < n → sum_of f i + f i ≤ sum_of f n
sum_within f n i h = let q : sum_of f (i + 1) ≤ sum_of f n = sum_le f n (i + 1) (omega arith) in omega (arith, sum_next f i)
