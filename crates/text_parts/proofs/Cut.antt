-- The words and the digits of a text's front are those of the whole.
-- Assumes nothing.
use mathlib.Core.Path.{◌≡◌, refl, sym, ap, ◌∙◌}
use mathlib.Core.Bool.{cond}
use mathlib.Core.List.{List, [], ◌∷◌}
use Prim.Native.Nat.{ℕ, zero, suc, ◌+◌, ◌≤◌}
use native.Mathlib.Omega.{arith}
use lib.Dec.{eqb}
use lib.ListN.{length, take, drop}
use lib.Seq.{take-take}
use Rattle.ascii.specs.Ascii.{agreement, hex_run}
use Rattle.text_parts.specs.Words.{Reached, WordRow, also_word, reach_from}
use Rattle.text_parts.specs.Hex.{hex_digits_at}
use Rattle.std.specs.Prelude.{Ok, Err}

-- ---- a part of a front is the same part of the whole

pub part_front : (at m n : ℕ) (s : List ℕ) → at + m ≤ n → take m (drop at (take n s)) ≡ take m (drop at s)
part_front zero m n s h = take-take m n s (omega arith)
part_front (suc at) m zero s h = absurd (omega arith)
part_front (suc at) m (suc n) [] h = refl
part_front (suc at) m (suc n) (x ∷ s) h = part_front at m n s (omega arith)

agreement_front : (s w : List ℕ) → agreement s w ≡ agreement (take (length w) s) w
unfolding agreement
agreement_front s [] = refl
agreement_front [] (x ∷ w) = refl
agreement_front (b ∷ s) (x ∷ w) = ap (λ (k : ℕ). cond (eqb b x) (suc k) 0) (agreement_front s w)

agreement_cut : (at n : ℕ) (s w : List ℕ) → at + length w ≤ n → agreement (drop at (take n s)) w ≡ agreement (drop at s) w
agreement_cut at n s w h =
    agreement_front (drop at (take n s)) w ∙ ap (λ (x : List ℕ). agreement x w) (part_front at (length w) n s h) ∙ sym (agreement_front (drop at s) w)

-- ---- words of a text that is cut

word_cut : {A : Type 0} (r : Reached A) (at n : ℕ) (s : List ℕ) (w : WordRow A) → at + length w.text ≤ n → also_word r (take n s) at w ≡ also_word r s at w
word_cut (Ok k) at n s w h = refl
word_cut (Err c) at n s w h = rw (agreement_cut at n s w.text h)

-- each word of a table ends before n
abbrev pub Short : {A : Type 0} → ℕ → ℕ → List (WordRow A) → Type 0
Short at n [] = Unit
Short at n (w ∷ ws) = (at + length w.text ≤ n) × Short at n ws

pub reach_cut : {A : Type 0} (ws : List (WordRow A)) (r : Reached A) (at n : ℕ) (s : List ℕ) → Short at n ws → reach_from r (take n s) at ws ≡ reach_from r s at ws
reach_cut [] r at n s h = refl
reach_cut {A} (w ∷ ws) r at n s h =
    ap (λ (x : Reached A). reach_from x (take n s) at ws) (word_cut r at n s w h.0) ∙ reach_cut ws (also_word r s at w) at n s h.1

-- ---- digits of a text that is cut

pub hex_digits_cut : (most from n : ℕ) (s : List ℕ) → from + most ≤ n → hex_digits_at most (take n s) from ≡ hex_digits_at most s from
unfolding hex_digits_at
hex_digits_cut most from n s h = ap hex_run (part_front from most n s h)
