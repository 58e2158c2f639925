-- The pieces one by one: at what stands at the front.
-- Assumes nothing.
use mathlib.Core.Path.{◌≡◌, refl, sym, ap, ◌∙◌}
use mathlib.Core.List.{List, [], ◌∷◌}
use Prim.Native.Nat.{ℕ, zero, suc, ◌≤◌}
use native.Mathlib.Omega.{arith}
use borrow.Author.Tests.{lt-ltb}
use lib.ListN.{length, take, drop, length-drop}
use mathlib.Core.Bool.{true, false}
use Rattle.stream.specs.declared.front.Next.{Next}
use Rattle.stream.specs.declared.front.Next.TheVariants.{Short, Ends, Piece}
use Rattle.stream.specs.Stream.{keeping, next_of, Door, ended_on}
use Rattle.stream.specs.OneByOne.{unfinished, fault, Split, and_piece, split_in, seen_of, Run, and_then, end_seen, each_of, one_by_one}
use Rattle.stream.proofs.Starts.{piece_bounds}

pub few_short : (x : List ℕ) → length x ≤ 0 → next_of x ≡ Short
unfolding next_of
few_short x l = rw (lt-ltb (length x) 8 (omega arith))

pub split_short : (k : ℕ) (x : List ℕ) → next_of x ≡ Short → split_in k x ≡ record { pieces = []; behind = unfinished x }
unfolding split_in
split_short zero x e = refl
split_short (suc k) x e = rw (e, split_in)

pub split_fault : (k : ℕ) (x : List ℕ) (t : ℕ) → next_of x ≡ Ends t → split_in (suc k) x ≡ record { pieces = []; behind = fault t (drop 8 x) }
unfolding split_in
split_fault k x t e = rw (e, split_in)

pub split_piece : (k : ℕ) (x : List ℕ) (n : ℕ) → next_of x ≡ Piece n → split_in (suc k) x ≡ and_piece (take n x) (split_in k (drop n x))
unfolding split_in
split_piece k x n e = rw (e, split_in)

less : (x : List ℕ) (n k : ℕ) → next_of x ≡ Piece n → length x ≤ suc k → length (drop n x) ≤ k
less x n k e l = omega (arith, length-drop n x, piece_bounds x n e)

-- as many pieces as bytes are enough
pub split_enough : (k m : ℕ) (x : List ℕ) → length x ≤ k → length x ≤ m → split_in k x ≡ split_in m x
split_enough zero m x l g = let e = few_short x l in split_short zero x e ∙ sym (split_short m x e)
split_enough (suc k) zero x l g = let e = few_short x g in split_short (suc k) x e ∙ sym (split_short zero x e)
split_enough (suc k) (suc m) x l g = go (λ y. split_enough k m y) (next_of x) refl
  where
    go : ((y : List ℕ) → length y ≤ k → length y ≤ m → split_in k y ≡ split_in m y) → (v : Next) → next_of x ≡ v → split_in (suc k) x ≡ split_in (suc m) x
    go later Short e = split_short (suc k) x e ∙ sym (split_short (suc m) x e)
    go later (Ends t) e = split_fault k x t e ∙ sym (split_fault m x t e)
    go later (Piece n) e =
        split_piece k x n e ∙ ap (and_piece (take n x)) (later (drop n x) (less x n k e l) (less x n m e g)) ∙ sym (split_piece m x n e)

-- ---- the pieces one by one, through any door

module _ {A : Type 0} (d : Door A) (a : A) (x : List ℕ) where
  by_split : Split → Run A
  by_split s = each_of d a s.pieces s.behind

  pub one_short : next_of x ≡ Short → one_by_one d a x ≡ record { seen = []; end = keeping a x false; left = [] }
  unfolding one_by_one each_of by_split
  one_short e = ap by_split (split_short (length x) x e)

  pub one_fault : (t : ℕ) → next_of x ≡ Ends t → one_by_one d a x ≡ record { seen = end_seen ∷ []; end = keeping (ended_on d a t) [] true; left = drop 8 x }
  unfolding one_by_one each_of by_split
  one_fault t e = ap by_split (split_enough (length x) (suc (length x)) x (omega arith) (omega arith) ∙ split_fault (length x) x t e)

  pub one_piece : (n : ℕ) → next_of x ≡ Piece n → one_by_one d a x ≡ and_then (seen_of (d.receive a (take n x))) (one_by_one d (d.receive a (take n x)).assembly (drop n x))
  unfolding one_by_one each_of by_split
  one_piece n e =
      ap by_split (
      split_enough (length x) (suc (length x)) x (omega arith) (omega arith)
      ∙ split_piece (length x) x n e
      ∙ ap (and_piece (take n x)) (split_enough (length x) (length (drop n x)) (drop n x) (omega (arith, length-drop n x)) (omega arith))
      )
