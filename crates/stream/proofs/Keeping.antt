-- What the stream keeps is zero past the bytes held: a call on such a stream leaves such a stream.
-- Assumes nothing.
use mathlib.Core.Path.{◌≡◌, refl, sym, ap, ◌∙◌}
use mathlib.Core.Bool.{Bool, true, false, cond}
use mathlib.Core.List.{List, [], ◌∷◌, ◌++◌}
use Prim.Native.Nat.{ℕ, ◌+◌, ◌-◌, ◌≤◌}
use native.Mathlib.Omega.{arith}
use borrow.Author.Tests.{le-ltb, eqb-true}
use lib.Dec.{eqb}
use lib.ListN.{length, take, drop, replicate, length-append, length-replicate, replicate-append-replicate}
use lib.Seq.{sets, sets-eq, take-append_seam, drop-append-add, drop_at}
use Rattle.wire.specs.Output.{over}
use Rattle.message.specs.Message.{most_information, most_transfer}
use Rattle.stream.specs.declared.Said.TheVariants.{Nothing, Ended}
use Rattle.stream.specs.declared.front.Next.{Next}
use Rattle.stream.specs.declared.front.Next.TheVariants as next
use Rattle.stream.specs.Stream.{state_of, keeping, next_of, Door, Feeding, length_fault, wiped, ended_on, passed_on, feed_by, feed_on}
use Rattle.stream.proofs.Starts.{short_bound, piece_bounds, piece_past}

-- ---- a buffer with the bytes h at its front and zeros past them

abbrev pub zeros : ℕ → List ℕ
zeros n = replicate n 0

abbrev pub padded : List ℕ → List ℕ
padded h = h ++ zeros (most_transfer - length h)

drop_zeros : (n m : ℕ) → n ≤ m → drop n (zeros m) ≡ zeros (m - n)
drop_zeros n m l =
    let e : n + (m - n) ≡ m = omega arith in
    ap (λ (k : ℕ). drop n (zeros k)) (sym e)
    ∙ ap (drop n) (sym (replicate-append-replicate n (m - n) 0))
    ∙ drop_at (zeros n) (zeros (m - n)) n (length-replicate {A = ℕ} n 0)

-- past n bytes of it there are zeros
drop_padded : (n : ℕ) (h : List ℕ) → length h ≤ n → n ≤ most_transfer → drop n (padded h) ≡ zeros (most_transfer - n)
drop_padded n h l m =
    let k : length h + (n - length h) ≡ n = omega arith in
    let e : most_transfer - length h - (n - length h) ≡ most_transfer - n = omega arith in
    ap (λ (j : ℕ). drop j (padded h)) (sym k)
    ∙ drop-append-add h (zeros (most_transfer - length h)) (n - length h)
    ∙ drop_zeros (n - length h) (most_transfer - length h) (omega arith)
    ∙ ap (λ (j : ℕ). zeros j) e

pub padded_length : (h : List ℕ) → length h ≤ most_transfer → length (padded h) ≡ most_transfer
padded_length h l =
    length-append h (zeros (most_transfer - length h)) ∙ omega (arith, length-replicate {A = ℕ} (most_transfer - length h) 0)

pub held_back : (h : List ℕ) → take (length h) (padded h) ≡ h
held_back h = take-append_seam h (zeros (most_transfer - length h))

-- bytes put behind those held
held_more : (h c : List ℕ) → length h + length c ≤ most_transfer → sets (padded h) (length h) c ≡ padded (h ++ c)
held_more h c l =
    let n = length-append h c in
    let e : length h + length c ≡ length (h ++ c) = sym n in
    sets-eq c (padded h) (length h) (omega (arith, padded_length h (omega arith)))
    ∙ ap (λ (x : List ℕ). x ++ c ++ drop (length h + length c) (padded h)) (held_back h)
    ∙ ap (λ (x : List ℕ). h ++ c ++ x) (drop_padded (length h + length c) h (omega arith) l)
    ∙ ap (λ (k : ℕ). h ++ c ++ zeros (most_transfer - k)) e

-- zeros over the bytes held
wiped_padded : (n : ℕ) (h : List ℕ) → length h ≤ n → n ≤ most_transfer → wiped n (padded h) ≡ zeros most_transfer
unfolding over
wiped_padded n h l m =
    let e : n + (most_transfer - n) ≡ most_transfer = omega arith in
    rw (length-replicate {A = ℕ} n 0)
    (ap (λ (x : List ℕ). zeros n ++ x) (drop_padded n h l m) ∙ replicate-append-replicate n (most_transfer - n) 0 ∙ ap (λ (k : ℕ). zeros k) e)

-- nothing is held
none_padded : (h : List ℕ) → length h ≡ 0 → padded h ≡ zeros most_transfer
none_padded [] e = refl
none_padded (x ∷ xs) e = absurd (omega arith)

-- ---- one call on it

-- by what stands at the front, without the buffer
abbrev pub kept_by : {A : Type 0} → Door A → A → List ℕ → List ℕ → Next → Feeding A
kept_by d a h c next.Short = record { stream = keeping a (h ++ c) false; said = Nothing; information = []; taken = length c }
kept_by d a h c (next.Ends t) = record { stream = keeping (ended_on d a t) [] true; said = Ended length_fault; information = []; taken = 8 - length h }
kept_by d a h c (next.Piece n) = passed_on (d.receive a (take n (h ++ c))) (replicate most_transfer 0) (n - length h)

module _ {A : Type 0} (d : Door A) (a : A) (h c : List ℕ) (held : next_of h ≡ next.Short) where
  kept_short : next_of (h ++ c) ≡ next.Short → feed_by d a h (padded h) c next.Short ≡ kept_by d a h c next.Short
  unfolding feed_by
  kept_short e =
      let n = length-append h c in
      let l : length h + length c ≤ most_transfer = omega (arith, short_bound (h ++ c) e, n) in
      let g = held_more h c l in
      let k : length h + length c ≡ length (h ++ c) = sym n in
      λ i. record { stream = record { assembly = a; state = state_of (k i) false; piece = g i }; said = Nothing; information = []; taken = length c }

  kept_fault : (t : ℕ) → feed_by d a h (padded h) c (next.Ends t) ≡ kept_by d a h c (next.Ends t)
  unfolding feed_by
  kept_fault t =
      let g = wiped_padded (length h) h (omega arith) (omega (arith, short_bound h held)) in
      ap (λ (x : List ℕ). record { stream = record { assembly = ended_on d a t; state = state_of 0 true; piece = x }; said = Ended length_fault; information = []; taken = 8 - length h }) g

  kept_piece : (n : ℕ) → next_of (h ++ c) ≡ next.Piece n → feed_by d a h (padded h) c (next.Piece n) ≡ kept_by d a h c (next.Piece n)
  unfolding feed_by
  kept_piece n e = ap (λ (x : List ℕ). passed_on (d.receive a (take n (h ++ c))) x (n - length h)) (go (eqb (length h) 0) refl)
    where
      go : (b : Bool) → eqb (length h) 0 ≡ b → cond b (padded h) (wiped n (padded h)) ≡ replicate most_transfer 0
      go true z = none_padded h (eqb-true (length h) 0 z)
      go false z = wiped_padded n h (omega (arith, piece_past h c n held e)) (piece_bounds (h ++ c) n e).1

  kept_open : (v : Next) → next_of (h ++ c) ≡ v → feed_by d a h (padded h) c v ≡ kept_by d a h c v
  kept_open next.Short e = kept_short e
  kept_open (next.Ends t) e = kept_fault t
  kept_open (next.Piece n) e = kept_piece n e

  pub kept_call : (room : ℕ) → most_information ≤ room → feed_on d (keeping a h false) c room ≡ kept_by d a h c (next_of (h ++ c))
  unfolding feed_on
  kept_call room l = rw (le-ltb room most_information l, held_back h) (kept_open (next_of (h ++ c)) refl)

-- nothing is held
pub nothing_held : next_of [] ≡ next.Short
unfolding next_of
nothing_held = refl
