-- A copy in runs, from both ends to the middle: over the length of a run.
-- Assumes nothing.
use mathlib.Core.Path.{◌≡◌, refl, sym, ap, ◌∙◌}
use mathlib.Core.Logic.{◌⊎◌, inl, inr}
use mathlib.Core.List.{List, [], ◌∷◌}
use Prim.Native.Nat.{ℕ, zero, suc, ◌+◌, ◌-◌, ◌≤◌, ◌<◌}
use native.Mathlib.Nat.{add-zero, not-suc-le-zero}
use native.Mathlib.Decide.{dec_le}
use native.Mathlib.Omega.{arith}
use lib.ListN.{length, get_or, set, take, drop, length-set, length-drop}
use lib.Seq.{sets, length-sets, length-take-le, get_or-take, get_or-drop, get_or-set_same, take-add, drop-cons, drop-drop, ext_get_or}
use Rattle.wire.proofs.Laws.{get_d_sets_other, sets_then}

either : (a b : ℕ) → (a ≤ b) ⊎ (b < a)
either a b = elim (dec_le a b) [ yes h ↦ inl h | no h ↦ inr (omega arith) ]

-- ---- a run's bytes

-- n bytes from `from` on, one by one
abbrev bytes : ℕ → List ℕ → ℕ → List ℕ
bytes zero t from = []
bytes (suc n) t from = get_or t from 0 ∷ bytes n t (suc from)

pub take_bytes : (n : ℕ) (t : List ℕ) (from : ℕ) → from + n ≤ length t → take n (drop from t) ≡ bytes n t from
take_bytes zero t from h = refl
take_bytes (suc n) t from h =
    ap (take (suc n)) (drop-cons t from 0 (omega arith)) ∙ ap (λ (r : List ℕ). get_or t from 0 ∷ r) (take_bytes n t (suc from) (omega arith))

-- two runs, one behind the other
pub run_behind : (s t : List ℕ) (at v w : ℕ) {s₁ s₂ : List ℕ} → at + v ≤ length t → s₁ ≡ sets s at (take v (drop at t))
    → s₂ ≡ sets s₁ (at + v) (take w (drop (at + v) t)) → s₂ ≡ sets s at (take (v + w) (drop at t))
run_behind s t at v w {s₁} h p q =
    let l : v ≤ length (drop at t) = omega (arith, length-drop at t) in
    sets_then (take v (drop at t)) (take w (drop v (drop at t))) at v s (length-take-le v (drop at t) l) p
    (q ∙ ap (λ (b : List ℕ). sets s₁ (at + v) (take w b)) (sym (drop-drop v at t)))
    ∙ ap (sets s at) (sym (take-add v w (drop at t)))

-- what was stored is read
get_d_sets_in : (vs s : List ℕ) (at j : ℕ) → j < length vs → at + length vs ≤ length s → get_or (sets s at vs) (at + j) 0 ≡ get_or vs j 0
get_d_sets_in [] s at j l h = absurd (not-suc-le-zero l)
get_d_sets_in (v ∷ vs) s at zero l h =
    ap (λ (k : ℕ). get_or (sets (set s at v) (suc at) vs) k 0) (add-zero at)
    ∙ get_d_sets_other vs (set s at v) (suc at) at (inl (omega arith))
    ∙ get_or-set_same s at v 0 (omega arith)
get_d_sets_in (v ∷ vs) s at (suc j) l h =
    let e : at + suc j ≡ suc at + j = omega arith in
    ap (λ (k : ℕ). get_or (sets (set s at v) (suc at) vs) k 0) e ∙ get_d_sets_in vs (set s at v) (suc at) j (omega arith) (omega (arith, length-set s at v))

-- ---- a run put where it stands in t: its bytes are right, and what was right before still is

-- s has t's byte at k
abbrev Right : List ℕ → List ℕ → ℕ → Type 0
Right s t k = get_or s k 0 ≡ get_or t k 0

length_run : (t : List ℕ) (at w : ℕ) → at + w ≤ length t → length (take w (drop at t)) ≡ w
length_run t at w h = length-take-le w (drop at t) (omega (arith, length-drop at t))

in_run : (s t : List ℕ) (at w k : ℕ) → length s ≡ length t → at + w ≤ length t → at ≤ k → k < at + w → Right (sets s at (take w (drop at t))) t k
in_run s t at w k l h b e =
    let run = take w (drop at t) in
    let j = k - at in
    let q : at + j ≡ k = omega arith in
    let n : length run ≡ w = length_run t at w h in
    ap (λ (i : ℕ). get_or (sets s at run) i 0) (sym q) ∙ get_d_sets_in run s at j (omega arith) (omega arith) ∙ get_or-take w (drop at t) j 0 (omega arith)
    ∙ get_or-drop at t j 0
    ∙ ap (λ (i : ℕ). get_or t i 0) q

still_right : (s t : List ℕ) (at w k : ℕ) → length s ≡ length t → at + w ≤ length t → Right s t k → Right (sets s at (take w (drop at t))) t k
still_right s t at w k l h r = pick (either at k) (either (at + w) k)
  where
    pick : (at ≤ k) ⊎ (k < at) → (at + w ≤ k) ⊎ (k < at + w) → Right (sets s at (take w (drop at t))) t k
    pick (inr c) d = get_d_sets_other (take w (drop at t)) s at k (inl c) ∙ r
    pick (inl c) (inr d) = in_run s t at w k l h c d
    pick (inl c) (inl d) = get_d_sets_other (take w (drop at t)) s at k (inr (omega (arith, length_run t at w h))) ∙ r

-- ---- both ends

-- the first m bytes and the last m are right
abbrev pub Ends : List ℕ → List ℕ → ℕ → Type 0
Ends s t m = (length s ≡ length t) × ((k : ℕ) → k < length t → (k < m) ⊎ (length t ≤ k + m) → Right s t k)

pub ends_none : (s t : List ℕ) → length s ≡ length t → Ends s t 0
ends_none s t l = (l, λ k h c. pick k h c)
  where
    pick : (k : ℕ) → k < length t → (k < 0) ⊎ (length t ≤ k + 0) → Right s t k
    pick k h (inl c) = absurd (not-suc-le-zero c)
    pick k h (inr c) = omega arith

-- a run more at each end; the one at the back begins at b
pub ends_next : (s t : List ℕ) (m w b : ℕ) {s₁ s₂ : List ℕ} → m + w ≤ length t → b + w + m ≡ length t → Ends s t m → s₁ ≡ sets s m (take w (drop m t))
    → s₂ ≡ sets s₁ b (take w (drop b t)) → Ends s₂ t (m + w)
ends_next s t m w b {s₁} {s₂} h e (l, r) p q = (l₂, pick)
  where
    l₁ : length s₁ ≡ length t
    l₁ = ap length p ∙ length-sets s m (take w (drop m t)) ∙ l

    l₂ : length s₂ ≡ length t
    l₂ = ap length q ∙ length-sets s₁ b (take w (drop b t)) ∙ l₁

    hb : b + w ≤ length t
    hb = omega arith

    first : (k : ℕ) → Right (sets s m (take w (drop m t))) t k → Right s₂ t k
    first k x = ap (λ (a : List ℕ). get_or a k 0) q ∙ still_right s₁ t b w k l₁ hb (ap (λ (a : List ℕ). get_or a k 0) p ∙ x)

    before : (k : ℕ) → Right s t k → Right s₂ t k
    before k x = first k (still_right s t m w k l h x)

    front : (k : ℕ) → k < length t → k < m + w → (m ≤ k) ⊎ (k < m) → Right s₂ t k
    front k g c (inr d) = before k (r k g (inl d))
    front k g c (inl d) = first k (in_run s t m w k l h d c)

    back : (k : ℕ) → k < length t → length t ≤ k + (m + w) → (length t ≤ k + m) ⊎ (k + m < length t) → Right s₂ t k
    back k g c (inl d) = before k (r k g (inr d))
    back k g c (inr d) = ap (λ (a : List ℕ). get_or a k 0) q ∙ in_run s₁ t b w k l₁ hb (omega arith) (omega arith)

    pick : (k : ℕ) → k < length t → (k < m + w) ⊎ (length t ≤ k + (m + w)) → Right s₂ t k
    pick k g (inl c) = front k g c (either m k)
    pick k g (inr c) = back k g c (either (length t) (k + m))

-- they meet
pub ends_meet : (s t : List ℕ) (m : ℕ) → length t ≤ m + m → Ends s t m → s ≡ t
ends_meet s t m h (l, r) = ext_get_or 0 s t l (λ k b. pick k (omega (arith, l)) (either m k))
  where
    pick : (k : ℕ) → k < length t → (m ≤ k) ⊎ (k < m) → Right s t k
    pick k b (inr c) = r k b (inl c)
    pick k b (inl c) = r k b (inr (omega arith))
