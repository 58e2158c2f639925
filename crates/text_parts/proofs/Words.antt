-- Laws of words: how far a text goes with a word and what stands behind it.
-- Assumes nothing.
use mathlib.Core.Path.{◌≡◌, refl, ap}
use mathlib.Core.Bool.{Bool, true, false, cond}
use mathlib.Core.List.{List, [], ◌∷◌, ◌++◌}
use Prim.Native.Nat.{ℕ, suc, ◌-◌, ◌≤◌, ◌<◌}
use native.Mathlib.Omega.{arith}
use borrow.Author.Tests.{ne_eqb, eqb-true, eqb-false}
use lib.Dec.{eqb, eqb-suc-suc}
use lib.ListN.{length, length-drop, drop}
use Rattle.ascii.specs.Ascii.{agreement}
use Rattle.ascii.proofs.Laws.{by_test}
use Rattle.text_parts.specs.Parts.{Reach, stops, Right, further, next}
use Rattle.text_parts.specs.Words.{Worded, worded}
use Rattle.text_parts.proofs.Parts.{step_right, none_right, none_empty, same_right, further_zero, next_further}

pub word_right : (T : List ℕ → Type 0) (t : List ℕ) → T t → (w s : List ℕ) (r : Reach) → Right T (drop (length w) s) r → Right (Worded w T) s (worded w s r)
unfolding agreement
word_right T t g [] s r h = rw (further_zero r) (same_right (Worded [] T) T (λ u m. (u, m, refl)) (λ u m. rw m.2 m.1) s r h)
word_right T t g (x ∷ w) [] r h =
    rw (ne_eqb 0 (suc (length w)) (omega arith))
    (none_empty (Worded (x ∷ w) T) (x ∷ w ++ t) (t, g, refl) (λ m. let e = m.2 in let z : ◌≡◌ {A = ℕ} 0 1 = cc in omega arith))
word_right T t g (x ∷ w) (b ∷ s) r h = go (eqb b x) refl (word_right T t g w s r h)
  where
    go : (e : Bool) → eqb b x ≡ e → Right (Worded w T) s (worded w s r)
        → Right (Worded (x ∷ w) T) (b ∷ s)
        (cond (eqb (cond e (suc (agreement s w)) 0) (suc (length w))) (further (suc (length w)) r) (stops (cond e (suc (agreement s w)) 0)))
    go true e k =
        let q = eqb-true b x e in
        rw (eqb-suc-suc (agreement s w) (length w), ← more (eqb (agreement s w) (length w)))
        (step_right (Worded (x ∷ w) T) (Worded w T) b (λ u m. (m.0, m.1, cc m.2)) (λ u m. (m.0, m.1, cc m.2)) s (worded w s r) k)
      where
        more : (a : Bool) → next (cond a (further (length w) r) (stops (agreement s w))) ≡ cond a (further (suc (length w)) r) (stops (suc (agreement s w)))
        more true = next_further (length w) r
        more false = refl
    go false e k =
        rw (ne_eqb 0 (suc (length w)) (omega arith))
        (none_right (Worded (x ∷ w) T) b (x ∷ w ++ t) (t, g, refl)
        (λ u m. let e₂ = m.2 in let q : b ≡ x = cc in eqb-false b x e q) s)

-- two words that a text agrees with: the one that stands whole decides how far the other goes
pub agree_by : (s w v : List ℕ) → agreement s w ≡ length w → agreement w v < length w → agreement s v ≡ agreement w v
unfolding agreement
agree_by s [] v e l = absurd (omega arith)
agree_by [] (x ∷ w) v e l = absurd (omega arith)
agree_by (b ∷ s) (x ∷ w) [] e l = refl
agree_by (b ∷ s) (x ∷ w) (y ∷ v) e l = go (eqb b x) (eqb x y) refl refl e l (agree_by s w v)
  where
    go : (t u : Bool) → eqb b x ≡ t → eqb x y ≡ u → cond t (suc (agreement s w)) 0 ≡ suc (length w) → cond u (suc (agreement w v)) 0 < suc (length w)
        → (agreement s w ≡ length w → agreement w v < length w → agreement s v ≡ agreement w v)
        → cond (eqb b y) (suc (agreement s v)) 0 ≡ cond u (suc (agreement w v)) 0
    go false u f k e l ih = absurd (omega arith)
    go true u f k e l ih = let q : b ≡ x = eqb-true b x f in rw (q, k) (pick u l)
      where
        pick : (u : Bool) → cond u (suc (agreement w v)) 0 < suc (length w) → cond u (suc (agreement s v)) 0 ≡ cond u (suc (agreement w v)) 0
        pick true l = ap suc (ih (omega arith) (omega arith))
        pick false l = refl

-- an agreement is no longer than the text
pub agreement_in : (s w : List ℕ) → agreement s w ≤ length s
unfolding agreement
agreement_in s [] = omega arith
agreement_in [] (x ∷ w) = omega arith
agreement_in (b ∷ s) (x ∷ w) = by_test (λ (k : ℕ). k ≤ suc (length s)) (eqb b x) (omega (arith, agreement_in s w)) (omega arith)

-- and none goes past the text's end
pub agreement_at : (s w : List ℕ) (at : ℕ) → agreement (drop at s) w ≤ length s - at
agreement_at s w at = omega (arith, agreement_in (drop at s) w, length-drop at s)
