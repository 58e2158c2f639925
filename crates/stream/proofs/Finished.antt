-- A call that was prepared, and then what the door makes of it: together they are the call.
-- Assumes nothing.
use mathlib.Core.Path.{◌≡◌, refl, sym, ap, ◌∙◌}
use mathlib.Core.Bool.{Bool, true, false, cond, ◌||◌}
use mathlib.Core.List.{List, [], ◌++◌}
use Prim.Native.Nat.{ℕ, ◌+◌, ◌-◌, ◌≤◌}
use native.Mathlib.Omega.{arith}
use native.Mathlib.Decide.{dec_le}
use borrow.Author.Tests.{le-ltb, eqb-true}
use lib.Dec.{ltb, eqb}
use lib.ListN.{length, take, drop, replicate, length-append, length-take, length-replicate}
use lib.Seq.{sets, length-take-le, take_all, take-take, take-append-le, take-append-add}
use Rattle.wire.specs.Output.{over}
use Rattle.wire.proofs.Laws.{take_sets, drop_sets}
use Rattle.message.specs.Message.{most_information, most_transfer}
use Rattle.stream.specs.declared.Said.TheVariants as said
use Rattle.stream.specs.declared.front.Next.{Next}
use Rattle.stream.specs.declared.front.Next.TheVariants as next
use Rattle.stream.specs.declared.front.Ready.{Ready}
use Rattle.stream.specs.declared.front.Ready.TheVariants.{Done, Ends, InChunk, InBuffer}
use Rattle.stream.specs.Stream.{StreamOn, state_of, held_in, next_of, Door, Feeding, small as small_output, length_fault, untaken, wiped, ended_on, passed_on, feed_by, feed_on}
use Rattle.stream.specs.Ready.{Prepared, prepared, done_by, prepared_by, prepared_of}
use Rattle.stream.proofs.Starts.{piece_bounds}

-- ---- what the door makes of it

unfoldable pub finished_by : {A : Type 0} → Door A → A → List ℕ → List ℕ → Ready → Feeding A
finished_by d a c piece (Done s x n) = record { stream = record { assembly = a; state = s; piece = piece }; said = x; information = []; taken = n }
finished_by d a c piece (Ends t n) = record {
  stream = record { assembly = ended_on d a t; state = state_of 0 true; piece = piece };
  said = said.Ended length_fault;
  information = [];
  taken = n;
}
finished_by d a c piece (InChunk n) = passed_on (d.receive a (take n c)) piece n
finished_by d a c piece (InBuffer n k) = passed_on (d.receive a (take n piece)) (wiped n piece) k

abbrev pub finished : {A : Type 0} → Door A → A → List ℕ → Prepared → Feeding A
finished d a c p = finished_by d a c p.piece p.ready

-- ---- a piece whose front h is held at the front of the buffer

module _ (h piece c : List ℕ) (n : ℕ) (front : take (length h) piece ≡ h) (fits : length h ≤ length piece) (room : n ≤ length piece) (there : n ≤ length h + length c) where
  filled : List ℕ
  filled = sets piece (length h) (take (n - length h) c)

  joined_piece : take n filled ≡ take n (h ++ c)
  unfolding filled
  joined_piece = elim (dec_le (length h) n) [
    | yes k ↦ (
        let m : length (take (n - length h) c) ≡ n - length h = length-take-le (n - length h) c (omega arith) in
        let e : length h + length (take (n - length h) c) ≡ n = omega arith in
        let f : length h + (n - length h) ≡ n = omega arith in
        ap (λ (j : ℕ). take j (sets piece (length h) (take (n - length h) c))) (sym e)
        ∙ take_sets piece (take (n - length h) c) (length h) (omega arith)
        ∙ ap (λ (x : List ℕ). x ++ take (n - length h) c) front
        ∙ sym (take-append-add h c (n - length h))
        ∙ ap (λ (j : ℕ). take j (h ++ c)) f)
    | no k ↦ (
        let z : n - length h ≡ 0 = omega arith in
        ap (λ (j : ℕ). take n (sets piece (length h) (take j c))) z
        ∙ sym (take-take n (length h) piece (omega arith))
        ∙ ap (take n) front
        ∙ sym (take-append-le n h c (omega arith)))
  ]

  rest_kept : drop n filled ≡ drop n piece
  unfolding filled
  rest_kept = elim (dec_le (length h) n) [
    | yes k ↦ (
        let m : length (take (n - length h) c) ≡ n - length h = length-take-le (n - length h) c (omega arith) in
        let e : length h + length (take (n - length h) c) ≡ n = omega arith in
        ap (λ (j : ℕ). drop j (sets piece (length h) (take (n - length h) c))) (sym e)
        ∙ drop_sets piece (take (n - length h) c) (length h) (omega arith)
        ∙ ap (λ (j : ℕ). drop j piece) e)
    | no k ↦ (let z : n - length h ≡ 0 = omega arith in ap (λ (j : ℕ). drop n (sets piece (length h) (take j c))) z)
  ]

  wiped_filled : wiped n filled ≡ wiped n piece
  unfolding over
  wiped_filled = rw (length-replicate {A = ℕ} n 0) (ap (λ (x : List ℕ). replicate n 0 ++ x) rest_kept)

-- ---- the call, by what stands at the front

module _ {A : Type 0} (d : Door A) (a : A) (h piece c : List ℕ) (front : take (length h) piece ≡ h) (fits : length h ≤ length piece) (whole : most_transfer ≤ length piece) where
  piece_done : (n : ℕ) → next_of (h ++ c) ≡ next.Piece n → (b : Bool) → eqb (length h) 0 ≡ b
      → finished d a c (cond b (record { ready = InChunk n; piece = piece }) (record { ready = InBuffer n (n - length h); piece = sets piece (length h) (take (n - length h) c) }))
      ≡ passed_on (d.receive a (take n (h ++ c))) (cond b piece (wiped n piece)) (n - length h)
  unfolding finished_by filled
  piece_done n e true z =
      let k : length h ≡ 0 = eqb-true _ _ z in
      let m : n ≡ n - length h = omega arith in
      let none : h ≡ [] = sym front ∙ ap (λ (j : ℕ). take j piece) k in
      ap (λ (x : List ℕ). passed_on (d.receive a (take n (x ++ c))) piece n) (sym none) ∙ ap (passed_on (d.receive a (take n (h ++ c))) piece) m
  piece_done n e false z =
      let b = piece_bounds (h ++ c) n e in
      let there : n ≤ length h + length c = omega (arith, b.2, length_join) in
      let r : n ≤ length piece = omega (arith, b.1) in
      ap (λ (x : List ℕ). passed_on (d.receive a x) (wiped n (sets piece (length h) (take (n - length h) c))) (n - length h)) (joined_piece h piece c n front fits r there)
      ∙ ap (λ (x : List ℕ). passed_on (d.receive a (take n (h ++ c))) x (n - length h)) (wiped_filled h piece c n front fits r there)
    where
      length_join : length (h ++ c) ≡ length h + length c
      length_join = length-append h c

  by_next : (v : Next) → next_of (h ++ c) ≡ v → finished d a c (prepared_by h piece c v) ≡ feed_by d a h piece c v
  unfolding prepared_by feed_by finished_by
  by_next next.Short e = refl
  by_next (next.Ends t) e = refl
  by_next (next.Piece n) e = piece_done n e (eqb (length h) 0) refl

-- the bytes held are at the front of the buffer
held_front : (k : ℕ) (piece : List ℕ) → take (length (take k piece)) piece ≡ take k piece
held_front k piece = elim (dec_le k (length piece)) [
  | yes l ↦ ap (λ (j : ℕ). take j piece) (length-take-le k piece l)
  | no l ↦ (
      let e : take k piece ≡ piece = take_all k piece (omega arith) in
      ap (λ (x : List ℕ). take (length x) piece) e ∙ take_all (length piece) piece (omega arith) ∙ sym e)
]

held_fits : (k : ℕ) (piece : List ℕ) → length (take k piece) ≤ length piece
held_fits k piece = simp length-take (omega arith)

pub finished_is : {A : Type 0} (d : Door A) (s : StreamOn A) (c : List ℕ) (room : ℕ) → most_transfer ≤ length s.piece
    → finished d s.assembly c (prepared_of s.state s.piece c room) ≡ feed_on d s c room
unfolding prepared_of feed_on finished_by
finished_is d s c room whole =
    rw (le-ltb (length s.piece) most_transfer whole)
    (go (ltb room most_information) s.state.ended (by_next d s.assembly h s.piece c (held_front s.state.held s.piece) (held_fits s.state.held s.piece) whole (next_of (h ++ c)) refl))
  where
    h : List ℕ
    h = held_in s.state s.piece

    go : (small ended : Bool) → finished d s.assembly c (prepared_by h s.piece c (next_of (h ++ c))) ≡ feed_by d s.assembly h s.piece c (next_of (h ++ c))
        → finished d s.assembly c
        (cond (small || false) (prepared (done_by s.state (said.Refused small_output)) s.piece)
        (cond ended (prepared (done_by s.state (said.Ended length_fault)) s.piece) (prepared_by h s.piece c (next_of (h ++ c)))))
        ≡ cond small (untaken s (said.Refused small_output)) (cond ended (untaken s (said.Ended length_fault)) (feed_by d s.assembly h s.piece c (next_of (h ++ c))))
    go true ended e = refl
    go false true e = refl
    go false false e = e
