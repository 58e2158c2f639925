-- The pieces of a stream one by one, from all its bytes alone: split by the length fields, each piece to its judge.
-- In this order: the pieces, and what is behind the last one; what a caller sees of each; all of it.
use Rattle.std.specs.Prelude.{ℕ, zero, suc, true, false, List, [], ◌∷◌, length, take, drop}
use Rattle.stream.specs.declared.Said.{Said}
use Rattle.stream.specs.declared.Said.TheVariants.{Piece, Ended}
use Rattle.stream.specs.declared.front.Next.TheVariants as next
use Rattle.stream.specs.Stream.{StreamOn, keeping, next_of, Passing, Door, length_fault, ended_on}

-- ---- the pieces, and behind the last one a piece that is still short, or a length field that ends the stream beside the type t, and the bytes behind the field

pub data Behind : Type 0 where
  unfinished : List ℕ → Behind
  fault : ℕ → List ℕ → Behind

pub record Split : Type 0 where
  pub pieces : List (List ℕ)
  pub behind : Behind

abbrev pub and_piece : List ℕ → Split → Split
and_piece p x = record { pieces = p ∷ x.pieces; behind = x.behind }

-- at most so many pieces
unfoldable pub split_in : ℕ → List ℕ → Split
split_in zero x = record { pieces = []; behind = unfinished x }
split_in (suc k) x = elim (next_of x) [
  | next.Short ↦ record { pieces = []; behind = unfinished x }
  | next.Ends t ↦ record { pieces = []; behind = fault t (drop 8 x) }
  | next.Piece n ↦ and_piece (take n x) (split_in k (drop n x))
]

-- no piece is empty, so there are no more pieces than bytes
abbrev pub split_of : List ℕ → Split
split_of x = split_in (length x) x

-- ---- what a caller sees: the answers, the stream at the end, and the bytes that are not taken

pub record Seen : Type 0 where
  pub said : Said
  pub information : List ℕ

abbrev pub seen_of : {A : Type 0} → Passing A → Seen
seen_of x = record { said = Piece x.received; information = x.information }

abbrev pub end_seen : Seen
end_seen = record { said = Ended length_fault; information = [] }

pub record Run (A : Type 0) : Type 0 where
  pub seen : List Seen
  pub end : StreamOn A
  pub left : List ℕ

abbrev pub and_then : {A : Type 0} → Seen → Run A → Run A
and_then s r = record { seen = s ∷ r.seen; end = r.end; left = r.left }

-- ---- all of it, from the assembly a

abbrev pub behind_of : {A : Type 0} → Door A → A → Behind → Run A
behind_of d a (unfinished x) = record { seen = []; end = keeping a x false; left = [] }
behind_of d a (fault t x) = record { seen = end_seen ∷ []; end = keeping (ended_on d a t) [] true; left = x }

unfoldable pub each_of : {A : Type 0} → Door A → A → List (List ℕ) → Behind → Run A
each_of d a [] b = behind_of d a b
each_of d a (p ∷ ps) b = and_then (seen_of (d.receive a p)) (each_of d (d.receive a p).assembly ps b)

unfoldable pub one_by_one : {A : Type 0} → Door A → A → List ℕ → Run A
one_by_one d a x = each_of d a (split_of x).pieces (split_of x).behind
