-- The table of bars: the row looked up is the highest one reached.
-- Assumes nothing.
use mathlib.Core.Path.{◌≡◌, refl, ◌∙◌}
use mathlib.Core.List.{List, []}
use mathlib.Core.Bool.{Bool, true, cond}
use Prim.Native.Nat.{ℕ, suc, ◌+◌, ◌<◌, ◌≤◌}
use native.Mathlib.Numerals.{add-one}
use borrow.Author.Tests.{le-leb, lt-leb, leb-true}
use lib.Dec.{leb}
use lib.ListN.{length, drop, get_or}
use lib.Seq.{drop-cons}
use Rattle.signal_quality.specs.Bars.{reached, bars_table, from, count}
use Rattle.signal_quality.proofs.Tables.{rows, agree}
use Rattle.signal_quality.specs.Claims.{Highest}

next : (t : List (List ℕ)) (i r : ℕ) → i < length t
    → reached (drop i t) r ≡ cond (leb (from (get_or t i [])) r) (count (get_or t i [])) (reached (drop (suc i) t) r)
unfolding reached
next t i r h = rw (drop-cons t i [] h)

-- at a row that is reached, and at one that is not
pub here : (t : List (List ℕ)) (i r : ℕ) → i < length t → from (get_or t i []) ≤ r → reached (drop i t) r ≡ count (get_or t i [])
here t i r h l = next t i r h ∙ rw (le-leb _ _ l)

pub past : (t : List (List ℕ)) (i r : ℕ) → i < length t → r < from (get_or t i []) → reached (drop i t) r ≡ reached (drop (i + 1) t) r
past t i r h l = next t i r h ∙ rw (lt-leb _ _ l, add-one)

-- no row that is reached has more bars
most : ℕ → ℕ → Bool
most r k = cond (leb (from (get_or bars_table k [])) r) (leb (count (get_or bars_table k [])) (reached bars_table r)) true

always : ℕ → ℕ → Bool
always r k = true

all_most : rows (λ (r : ℕ). rows (most r) 5) 32 ≡ rows (λ (r : ℕ). rows (always r) 5) 32
unfolding most always reached bars_table
all_most = refl

pub highest : Highest
unfolding most always
highest r k hr hk l =
    let e = agree (most r) (always r) 5 (agree (λ (r : ℕ). rows (most r) 5) (λ (r : ℕ). rows (always r) 5) 32 all_most r hr) k hk in
    leb-true _ _ (rw (le-leb _ _ l) at e)
