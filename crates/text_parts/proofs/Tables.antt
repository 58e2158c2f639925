-- A word of a table: what `reach_from` finds is the longest good beginning.
-- Assumes nothing.
use mathlib.Core.Path.{◌≡◌, refl, sym, ap, ◌∙◌}
use mathlib.Core.Logic.{◌⊎◌}
use mathlib.Core.Bool.{Bool, true, false, cond, ◌&&◌}
use mathlib.Core.List.{List, [], ◌∷◌}
use Prim.Native.Nat.{ℕ, ◌+◌, ◌≤◌, ◌<◌, max}
use native.Mathlib.Omega.{arith}
use borrow.Author.Tests.{eqb-true, eqb-false, ne_eqb, ltb-true}
use lib.Dec.{eqb, ltb}
use lib.ListN.{length, drop}
use Rattle.protocol.proofs.Tests.{and_both}
use Rattle.ascii.specs.Ascii.{agreement}
use Rattle.ascii.proofs.Laws.{agreement_le}
use Rattle.text_parts.specs.Parts.{Reach, whole, stops, Right, further, better}
use Rattle.text_parts.specs.Words.{Worded, worded, Reached, WordRow, also_word, reach_from}
use Rattle.text_parts.proofs.Parts.{or_right, zero_better}
use Rattle.text_parts.proofs.Words.{word_right, agree_by}
use Rattle.std.specs.Prelude.{Ok, Err}

abbrev pub Each : {A : Type 0} → (WordRow A → Type 0) → List (WordRow A) → Type 0
Each P [] = Unit {0}
Each P (w ∷ ws) = P w × Each P ws

each_map : {A : Type 0} (P Q R : WordRow A → Type 0) → ((w : WordRow A) → P w → Q w → R w) → (ws : List (WordRow A)) → Each P ws → Each Q ws → Each R ws
each_map P Q R f [] p q = tt
each_map P Q R f (w ∷ ws) p q = (f w p.0 q.0, each_map P Q R f ws p.1 q.1)

-- neither of two words begins the other
abbrev pub Differ : {A : Type 0} → WordRow A → WordRow A → Type 0
Differ w v = (agreement w.text v.text < length w.text) × (agreement v.text w.text < length v.text)

abbrev pub AllDiffer : {A : Type 0} → List (WordRow A) → Type 0
AllDiffer [] = Unit {0}
AllDiffer (w ∷ ws) = Each (Differ w) ws × AllDiffer ws

-- the same as a test that computes
abbrev pub differ_from : {A : Type 0} → WordRow A → List (WordRow A) → Bool
differ_from w [] = true
differ_from w (v ∷ vs) =
    (ltb (agreement w.text v.text) (length w.text) && ltb (agreement v.text w.text) (length v.text)) && differ_from w vs

abbrev pub all_differ : {A : Type 0} → List (WordRow A) → Bool
all_differ [] = true
all_differ (w ∷ ws) = differ_from w ws && all_differ ws

from_tested : {A : Type 0} (w : WordRow A) (ws : List (WordRow A)) → differ_from w ws ≡ true → Each (Differ w) ws
from_tested w [] e = tt
from_tested w (v ∷ vs) e =
    let a = ltb (agreement w.text v.text) (length w.text) in
    let b = ltb (agreement v.text w.text) (length v.text) in
    let p = and_both (a && b) (differ_from w vs) e in
    let q = and_both a b p.0 in
    ((ltb-true _ _ q.0, ltb-true _ _ q.1), from_tested w vs p.1)

pub all_tested : {A : Type 0} (ws : List (WordRow A)) → all_differ ws ≡ true → AllDiffer ws
all_tested [] e = tt
all_tested (w ∷ ws) e = let p = and_both (differ_from w ws) (all_differ ws) e in (from_tested w ws p.0, all_tested ws p.1)

-- a word of the table, or a text of the kind L
abbrev pub AnyOf : {A : Type 0} → (List ℕ → Type 0) → (List ℕ → Type 0) → List (WordRow A) → List ℕ → Type 0
AnyOf T L [] = L
AnyOf T L (w ∷ ws) = AnyOf T (λ s. L s ⊎ Worded w.text T s) ws

-- what is said behind what is reached
abbrev pub on : {A : Type 0} → Reached A → (A → Reach) → Reach
on (Err c) J = stops c
on (Ok n) J = J n

low_better : (c l : ℕ) (r : Reach) → c ≤ l → better (stops c) (further l r) ≡ further l r
low_better c l whole h = refl
low_better c l (stops k) h = ap stops (omega arith)

better_low : (c l : ℕ) (r : Reach) → c ≤ l → better (further l r) (stops c) ≡ further l r
better_low c l whole h = refl
better_low c l (stops k) h = ap stops (omega arith)

-- of two words of a table at most one stands whole
not_whole : {A : Type 0} (u : List ℕ) (w v : WordRow A) → agreement u w.text ≡ length w.text → Differ w v → agreement u v.text < length v.text
not_whole u w v f p = go (eqb (agreement u v.text) (length v.text)) refl
  where
    go : (t : Bool) → eqb (agreement u v.text) (length v.text) ≡ t → agreement u v.text < length v.text
    go true e =
        let k = eqb-true (agreement u v.text) (length v.text) e in
        absurd (omega (arith, agree_by u w.text v.text f p.0, agree_by u v.text w.text k p.1, p.0, p.1))
    go false e = let k = eqb-false (agreement u v.text) (length v.text) e in omega (arith, agreement_le u v.text)

-- ---- the best of the words

module _ {A : Type 0} (K : List ℕ → Reach) (u : List ℕ) where
  abbrev pub said : WordRow A → Reach
  said w = K (drop (length w.text) u)

  abbrev pub reach_word : WordRow A → Reach
  reach_word w = worded w.text u (said w)

  abbrev pub best_of : Reach → List (WordRow A) → Reach
  best_of r [] = r
  best_of r (w ∷ ws) = best_of (better r (reach_word w)) ws

abbrev pub table_reach : {A : Type 0} → (List ℕ → Reach) → WordRow A → List (WordRow A) → List ℕ → Reach
table_reach K w ws u = best_of K u (reach_word K u w) ws

module _ {A : Type 0} (T : List ℕ → Type 0) (K : List ℕ → Reach) (right : (u : List ℕ) → Right T u (K u)) (t : List ℕ) (g : T t) (u : List ℕ) where
  word_said : (w : WordRow A) → Right (Worded w.text T) u (reach_word K u w)
  word_said w = word_right T t g w.text u (said K u w) (right (drop (length w.text) u))

  best_right : (L : List ℕ → Type 0) (r : Reach) (ws : List (WordRow A)) → Right L u r → Right (AnyOf T L ws) u (best_of K u r ws)
  best_right L r [] h = h
  best_right L r (w ∷ ws) h =
      best_right (λ x. L x ⊎ Worded w.text T x) (better r (reach_word K u w)) ws (or_right L (Worded w.text T) u r (reach_word K u w) h (word_said w))

  -- a table is read right
  pub table_right : (w : WordRow A) (ws : List (WordRow A)) → Right (AnyOf T (Worded w.text T) ws) u (table_reach K w ws u)
  table_right w ws = best_right (Worded w.text T) (reach_word K u w) ws (word_said w)

-- ---- the listing's way through a table

module _ {A : Type 0} (K : List ℕ → Reach) (J : A → Reach) (s : List ℕ) (at : ℕ) where
  -- what a word stands for leads to what stands behind it
  abbrev Leads : WordRow A → Type 0
  Leads w = J w.value ≡ further at (further (length w.text) (said K (drop at s) w))

  abbrev Low : ℕ → WordRow A → Type 0
  Low c w = agreement (drop at s) w.text ≡ length w.text → c ≤ length w.text

  abbrev Under : ℕ → WordRow A → Type 0
  Under l w = (agreement (drop at s) w.text < length w.text) × (agreement (drop at s) w.text ≤ l)

  -- what was reached so far, and the best so far, with what the words ahead keep to
  abbrev Seen : Reach → Reached A → List (WordRow A) → Type 0
  Seen r (Err c) ws = (d : ℕ) × (r ≡ stops d) × (c ≡ at + d) × Each (Low d) ws
  Seen r (Ok n) ws = (l : ℕ) × (x : Reach) × (r ≡ further l x) × (J n ≡ further at r) × Each (Under l) ws

  seen_end : (r : Reach) (q : Reached A) → Seen r q [] → further at r ≡ on q J
  seen_end r (Err c) h = rw (h.1, h.2)
  seen_end r (Ok n) h = sym h.3

  seen_word : (r : Reach) (q : Reached A) (w : WordRow A) (ws : List (WordRow A)) → Each (Differ w) ws → Leads w → Seen r q (w ∷ ws)
      → Seen (better r (reach_word K (drop at s) w)) (also_word q s at w) ws
  seen_word r (Ok n) w ws a j h =
      let n : eqb (agreement (drop at s) w.text) (length w.text) ≡ false =
      ne_eqb (agreement (drop at s) w.text) (length w.text) (λ e. omega (arith, h.4.0.0)) in
      let e : better r (reach_word K (drop at s) w) ≡ r = rw (n, h.2) (better_low (agreement (drop at s) w.text) h.0 h.1 h.4.0.1) in
      rw e (h.0, h.1, h.2, h.3, h.4.1)
  seen_word r (Err c) w ws a j h = go (eqb (agreement (drop at s) w.text) (length w.text)) refl
    where
      go : (t : Bool) → eqb (agreement (drop at s) w.text) (length w.text) ≡ t
          → Seen (better r (cond t (further (length w.text) (said K (drop at s) w)) (stops (agreement (drop at s) w.text))))
          (cond t (Ok w.value) (Err (max c (at + agreement (drop at s) w.text)))) ws
      go true e =
          let f = eqb-true (agreement (drop at s) w.text) (length w.text) e in
          let b : better r (further (length w.text) (said K (drop at s) w)) ≡ further (length w.text) (said K (drop at s) w) =
          rw h.1 (low_better h.0 (length w.text) (said K (drop at s) w) (h.3.0 f)) in (
            length w.text,
            said K (drop at s) w,
            b,
            j ∙ ap (further at) (sym b),
            each_map (Differ w) (Differ w) (Under (length w.text))
                (λ v p q. let k = agree_by (drop at s) w.text v.text f p.0 in (not_whole (drop at s) w v f p, omega (arith, k, p.0))) ws a a,
          )
      go false e = (
        max h.0 (agreement (drop at s) w.text),
        rw h.1,
        omega (arith, h.2),
        each_map (Differ w) (Low h.0) (Low (max h.0 (agreement (drop at s) w.text)))
            (λ v p q f. omega (arith, q f, agree_by (drop at s) v.text w.text f p.1, p.1)) ws a h.3.1,
      )

  table_on : (r : Reach) (q : Reached A) (ws : List (WordRow A)) → AllDiffer ws → Each Leads ws → Seen r q ws → further at (best_of K (drop at s) r ws) ≡ on (reach_from q s at ws) J
  table_on r q [] a j h = seen_end r q h
  table_on r q (w ∷ ws) a j h = table_on (better r (reach_word K (drop at s) w)) (also_word q s at w) ws a.1 j.1 (seen_word r q w ws a.0 j.0 h)

  pub table_at : (w : WordRow A) (ws : List (WordRow A)) → AllDiffer (w ∷ ws) → Each Leads (w ∷ ws) → further at (table_reach K w ws (drop at s)) ≡ on (reach_from (Err at) s at (w ∷ ws)) J
  table_at w ws a j =
      let z : at ≡ at + 0 = omega arith in
      let start : Seen (stops 0) (Err at) (w ∷ ws) = (0, refl, z, nothing (w ∷ ws)) in
      table_on (reach_word K (drop at s) w) (also_word (Err at) s at w) ws a.1 j.1
      (rw (zero_better (reach_word K (drop at s) w)) at (seen_word (stops 0) (Err at) w ws a.0 j.0 start))
    where
      nothing : (vs : List (WordRow A)) → Each (Low 0) vs
      nothing [] = tt
      nothing (v ∷ vs) = (λ e. omega arith, nothing vs)
