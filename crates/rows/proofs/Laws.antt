-- Texts put one behind another.
-- Assumes nothing.
use mathlib.Core.Path.{◌≡◌, refl, sym, ap, ◌∙◌}
use mathlib.Core.Bool.{Bool, true, false}
use mathlib.Core.List.{List, [], ◌++◌, append-nil}
use Prim.Native.Nat.{ℕ, ◌+◌, ◌-◌, ◌≤◌, min}
use native.Mathlib.Numerals.{add-one}
use native.Mathlib.Omega.{arith}
use borrow.Author.Tests.{leb-true, leb-false}
use lib.Dec.{leb}
use lib.ListN.{length, length-append, get_or}
use lib.Seq.{sets, length-sets}
use Rattle.wire.specs.Output.{over}
use Rattle.wire.proofs.Laws.{sets_append, sets_out, sets_over}
use Rattle.ascii.specs.Ascii.{hex_pair, hexed_in}
use Rattle.folds.specs.Folds.{joined}
use Rattle.rows.specs.Rows.{Put}

-- the place behind two texts, where the first has room and where it has not
fits : (at x y l : ℕ) → at + x ≤ l → at + x + min y (l - (at + x)) ≡ at + min (x + y) (l - at)
fits at x y l h = omega arith

ends_fit : (at x y l : ℕ) {n m : ℕ} → n ≡ at + x → m ≡ n + min y (l - n) → at + x ≤ l → m ≡ at + min (x + y) (l - at)
ends_fit at x y l k f h = f ∙ ap (λ (i : ℕ). i + min y (l - i)) k ∙ fits at x y l h

full : (at x y l : ℕ) → l ≤ at + x → at + (l - at) ≡ at + min (x + y) (l - at)
full at x y l h = omega arith

ends_full : (at x y l : ℕ) {n m : ℕ} → n ≡ at + min x (l - at) → m ≡ n + min y (l - n) → l ≤ at + x → (l ≤ n) × (m ≡ at + min (x + y) (l - at))
ends_full at x y l {n} {m} e f h =
    let k : n ≡ at + (l - at) = omega (arith, e) in
    let i : l ≤ n = omega (arith, k) in
    let j : m ≡ n = omega (arith, f, i) in
    (i, j ∙ k ∙ full at x y l h)

-- a text and the one behind it
pub put_then : {s s₁ s₂ : List ℕ} {at n₁ n₂ : ℕ} {x y : List ℕ} → Put s at x s₁ n₁ → Put s₁ n₁ y s₂ n₂ → Put s at (x ++ y) s₂ n₂
put_then {s} {s₁} {s₂} {at} {n₁} {n₂} {x} {y} p q = go (leb (at + length x) (length s)) refl
  where
    same : length s₁ ≡ length s
    same = ap length p.stored ∙ length-sets s at x

    second : n₂ ≡ n₁ + min (length y) (length s - n₁)
    second = q.ends ∙ ap (λ (l : ℕ). n₁ + min (length y) (l - n₁)) same

    glue : sets s₁ n₁ y ≡ sets s₁ (at + length x) y → n₂ ≡ at + min (length x + length y) (length s - at) → Put s at (x ++ y) s₂ n₂
    glue a b = record {
      stored = q.stored ∙ a ∙ ap (λ (l : List ℕ). sets l (at + length x) y) p.stored ∙ sym (sets_append x y s at);
      ends = b ∙ ap (λ (l : ℕ). at + min l (length s - at)) (sym (length-append x y));
    }

    go : (t : Bool) → leb (at + length x) (length s) ≡ t → Put s at (x ++ y) s₂ n₂
    go true e =
        let h = leb-true (at + length x) (length s) e in
        let k : n₁ ≡ at + length x = omega (arith, p.ends) in
        glue (ap (λ (i : ℕ). sets s₁ i y) k) (ends_fit at (length x) (length y) (length s) k second h)
    go false e =
        let h = leb-false (at + length x) (length s) e in
        let k = ends_full at (length x) (length y) (length s) p.ends second (omega arith) in
        glue (sets_out y s₁ n₁ (omega (arith, same, k.0)) ∙ sym (sets_out y s₁ (at + length x) (omega (arith, same)))) k.1

-- a text and nothing behind it
pub put_none : {s t : List ℕ} {at n : ℕ} {x : List ℕ} → Put s at x t n → Put s at (x ++ []) t n
put_none {s} {t} {at} {n} {x} p = rw (append-nil x) p

-- no text yet, and one piece more of texts one behind another
pub put_start : (s : List ℕ) (at : ℕ) → Put s at [] s at
put_start s at = record { stored = refl; ends = omega arith }

pub put_next : (f : ℕ → List ℕ) (i : ℕ) {s s₁ s₂ : List ℕ} {at n₁ n₂ : ℕ} → Put s at (joined f i) s₁ n₁ → Put s₁ n₁ (f i) s₂ n₂
    → Put s at (joined f (i + 1)) s₂ n₂
unfolding joined
put_next f i p q = rw (add-one i) (put_then p q)

pub put_pair_next : (t : List ℕ) (i : ℕ) {s s₁ s₂ : List ℕ} {at n₁ n₂ : ℕ} → Put s at (hexed_in i t) s₁ n₁ → Put s₁ n₁ (hex_pair (get_or t i 0)) s₂ n₂
    → Put s at (hexed_in (i + 1) t) s₂ n₂
unfolding hexed_in
put_pair_next t i p q = rw (add-one i) (put_then p q)

-- a text put at a place, and the place behind it
pub put_all : {s t : List ℕ} {at n k : ℕ} {x : List ℕ} → t ≡ sets s at x → k ≡ length x → n ≡ at + min k (length t - at) → Put s at x t n
put_all {s} {t} {at} {n} {k} {x} p e f = record {
  stored = p;
  ends = f ∙ (λ i. at + min (e i) ((ap length p ∙ length-sets s at x) i - at));
}

-- the output is as long as before
pub put_kept : {s t : List ℕ} {at n : ℕ} {x : List ℕ} → Put s at x t n → length t ≡ length s
put_kept {s} {t} {at} {n} {x} p = ap length p.stored ∙ length-sets s at x

-- a text put at the front of an output that has room for it
pub put_over : {s t : List ℕ} {text : List ℕ} {n : ℕ} → Put s 0 text t n → length text ≤ length s → (n ≡ length text) × (t ≡ over text s)
put_over {s} {t} {text} {n} p h = (omega (arith, p.ends), p.stored ∙ sets_over text s h)
