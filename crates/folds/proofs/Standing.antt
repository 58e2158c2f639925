-- What stands at a place of a list is found again part by part.
-- Assumes nothing.
use mathlib.Core.Path.{◌≡◌, refl, sym, ap, ◌∙◌}
use mathlib.Core.List.{List, [], ◌++◌, append_assoc, append-nil}
use Prim.Native.Nat.{ℕ, ◌+◌, ◌^◌, ◌<◌}
use native.Mathlib.Nat.{add-zero}
use lib.ListN.{length, length-append}
use Rattle.wire.specs.Numbers.{num, digits, u32_at}
use Rattle.wire.proofs.Laws.{num_skip, num_digits}
use Rattle.folds.specs.Folds.{joined}
use Rattle.folds.specs.Stands.{Stands}
use Rattle.folds.proofs.Laws.{split}

pub whole : (s : List ℕ) → Stands s 0 s
whole s = record { before = []; after = []; is = sym (append-nil s); long = refl }

pub left : {s : List ℕ} {at : ℕ} (x y : List ℕ) → Stands s at (x ++ y) → Stands s at x
left x y h = record { before = h.before; after = y ++ h.after; is = h.is ∙ ap (λ (l : List ℕ). h.before ++ l) (append_assoc x y h.after); long = h.long }

pub right : {s : List ℕ} {at : ℕ} (x y : List ℕ) (k : ℕ) → length x ≡ k → Stands s at (x ++ y) → Stands s (at + k) y
right x y k e h = record {
  before = h.before ++ x;
  after = h.after;
  is = h.is ∙ ap (λ (l : List ℕ). h.before ++ l) (append_assoc x y h.after) ∙ sym (append_assoc h.before x (y ++ h.after));
  long = length-append h.before x ∙ (λ i. h.long i + e i);
}

-- piece i of pieces one after another
pub part : {s : List ℕ} {at : ℕ} (f : ℕ → List ℕ) (n i k : ℕ) → i < n → length (joined f i) ≡ k → Stands s at (joined f n) → Stands s (at + k) (f i)
part {s} {at} f n i k l e h =
    let p = split f n i l in
    let t : Stands s at (joined f i ++ (f i ++ p.rest)) = record { before = h.before; after = h.after; is = h.is ∙ ap (λ (x : List ℕ). h.before ++ (x ++ h.after)) p.is; long = h.long } in
    left (f i) p.rest (right (joined f i) (f i ++ p.rest) k e t)

-- a number is read from what stands there
pub inside : {s : List ℕ} {at : ℕ} {x : List ℕ} (h : Stands s at x) (k : ℕ) → u32_at s (at + k) ≡ u32_at (x ++ h.after) k
unfolding u32_at
inside {s} {at} {x} h k = (λ i. num 4 (h.is i) (sym h.long i + k)) ∙ num_skip 4 h.before (x ++ h.after) k

-- a number of four bytes
pub word : {s : List ℕ} {at : ℕ} (v : ℕ) → v < 2 ^ 32 → Stands s at (digits 4 v) → u32_at s at ≡ v
unfolding u32_at
word {s} {at} v b h = ap (num 4 s) (sym (add-zero at)) ∙ inside h 0 ∙ num_digits 4 v h.after b
