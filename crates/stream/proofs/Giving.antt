-- What the code returns and leaves is what the definitions say, case by case, over plain variables.
-- Assumes nothing.
use mathlib.Core.Path.{◌≡◌, refl, sym, ap, ◌∙◌}
use mathlib.Core.Bool.{Bool, true, false, cond, ◌||◌}
use mathlib.Core.List.{List, ◌++◌}
use Prim.Native.Nat.{ℕ, ◌+◌, ◌-◌, ◌≤◌, ◌<◌}
use native.Mathlib.Omega.{arith}
use borrow.Author.Tests.{ltb-false, le-ltb, eqb-true}
use lib.Dec.{ltb, eqb}
use lib.ListN.{length, take, drop, replicate, length-append, length-drop, length-take, length-replicate}
use lib.Seq.{sets, length-sets, length-take-le}
use Rattle.wire.specs.Output.{over}
use Rattle.message.specs.Message.{most_information, most_transfer}
use Rattle.assembler.specs.Assembly.{assembly_of}
use Rattle.assembler.specs.Door as door
use Rattle.assembler.specs.Door.{Receiving, receive_of}
use Rattle.assembler.specs.declared.Progress.{Progress}
use Rattle.assembler.specs.declared.Assembly.{Assembly}
use Rattle.assembler.specs.declared.door.ReceiptInPlace.{ReceiptInPlace}
use Rattle.assembler.proofs.Room.{receive_room}
use Rattle.stream.specs.declared.State.{State}
use Rattle.stream.specs.declared.FedInPlace.{FedInPlace}
use Rattle.stream.specs.declared.Said.{Said}
use Rattle.stream.specs.declared.Said.TheVariants.{Ended, Refused}
use Rattle.stream.specs.declared.front.Next.{Next}
use Rattle.stream.specs.declared.front.Next.TheVariants as next
use Rattle.stream.specs.declared.front.Ready.{Ready}
use Rattle.stream.specs.declared.front.Ready.TheVariants.{Done, Ends, InChunk, InBuffer}
use Rattle.stream.specs.Stream.{state_of, held_in, next_of, Feeding, length_fault, wiped, ended_on, passed_on, value_door, feed_of, in_place, placed, ended_in_place, passed_in_place}
use Rattle.stream.specs.Stream.{small}
use Rattle.stream.specs.Ready.{prepared, done_by, prepared_by, prepared_of}
use Rattle.stream.proofs.Starts.{short_bound, piece_bounds}
use Rattle.stream.proofs.Laws.{held_length}
use Rattle.stream.proofs.Finished.{finished_by, finished_is}

-- ---- the buffer, of which `held` bytes are held

-- zeros stored over its first bytes
pub wiped_front : (n : ℕ) (piece : List ℕ) {b : List ℕ} → n ≤ length piece → b ≡ replicate (length (take n piece)) 0 → b ++ drop n piece ≡ wiped n piece
unfolding over
wiped_front n piece l e =
    rw (e, length-take-le n piece l, length-replicate {A = ℕ} n 0)

module _ (held : ℕ) (piece c : List ℕ) (fits : held ≤ length piece) where
  pub short_fits : next_of (take held piece ++ c) ≡ next.Short → held + length c < 4096
  short_fits e = omega (arith, short_bound (take held piece ++ c) e, held_length held piece c fits)

  pub piece_there : (n : ℕ) → next_of (take held piece ++ c) ≡ next.Piece n → (n ≤ held + length c) × (n ≤ 4096)
  piece_there n e =
      let b = piece_bounds (take held piece ++ c) n e in
      (omega (arith, b.2, held_length held piece c fits), b.1)

-- ---- what is left to do, by its case, where the bytes h are held

abbrev Says : List ℕ → List ℕ → ℕ → Ready → Type 0
Says h c room (Done s x n) = Unit
Says h c room (Ends t n) = Unit
Says h c room (InChunk n) = (most_information ≤ room) × (n ≤ length c) × (length h ≡ 0)
Says h c room (InBuffer n k) = (most_information ≤ room) × (n ≤ most_transfer)

open_says : (h piece c : List ℕ) (room : ℕ) → most_information ≤ room → (v : Next) → next_of (h ++ c) ≡ v → Says h c room (prepared_by h piece c v).ready
unfolding prepared_by
open_says h piece c room l next.Short e = tt
open_says h piece c room l (next.Ends t) e = tt
open_says h piece c room l (next.Piece n) e = go (eqb (length h) 0) refl
  where
    go : (b : Bool) → eqb (length h) 0 ≡ b → Says h c room (cond b (prepared (InChunk n) piece) (prepared (InBuffer n (n - length h)) (sets piece (length h) (take (n - length h) c)))).ready
    go true z =
        let none : length h ≡ 0 = eqb-true (length h) 0 z in
        (l, omega (arith, (piece_bounds (h ++ c) n e).2, length-append h c, none), none)
    go false z = (l, (piece_bounds (h ++ c) n e).1)

ready_says : (s : State) (piece c : List ℕ) (room : ℕ) → Says (held_in s piece) c room (prepared_of s piece c room).ready
unfolding prepared_of
ready_says s piece c room = go (ltb room most_information) refl (ltb (length piece) most_transfer) s.ended
  where
    h : List ℕ
    h = held_in s piece

    go : (b : Bool) → ltb room most_information ≡ b → (short ended : Bool) → Says h c room
        (cond (b || short) (prepared (done_by s (Refused small)) piece) (cond ended (prepared (done_by s (Ended length_fault)) piece) (prepared_by h piece c (next_of (h ++ c))))).ready
    go true e short ended = tt
    go false e true ended = tt
    go false e false true = tt
    go false e false false = open_says h piece c room (ltb-false _ _ e) (next_of (h ++ c)) refl

pub in_chunk : (s : State) (piece c : List ℕ) (room : ℕ) {x : Ready} {n : ℕ} → x ≡ (prepared_of s piece c room).ready → x ≡ InChunk n
    → (most_information ≤ room) × (n ≤ length c) × (length (held_in s piece) ≡ 0)
in_chunk s piece c room e f = rw (sym e ∙ f) at (ready_says s piece c room)

pub in_buffer : (s : State) (piece c : List ℕ) (room : ℕ) {x : Ready} {n k : ℕ} → x ≡ (prepared_of s piece c room).ready → x ≡ InBuffer n k → (most_information ≤ room) × (n ≤ most_transfer)
in_buffer s piece c room e f = rw (sym e ∙ f) at (ready_says s piece c room)

-- where a stream that has not ended has room, what is done is that the chunk is held
pub done_open : (held : ℕ) (piece c : List ℕ) (room : ℕ) {x : Ready} {t : State} {y : Said} {n : ℕ} → most_information ≤ room → most_transfer ≤ length piece
    → x ≡ (prepared_of (state_of held false) piece c room).ready → x ≡ Done t y n → (t.held < 4096) × (t.ended ≡ false)
unfolding prepared_of prepared_by
done_open held piece c room {x} {t} {y} {n} l w e f = go (next_of (h ++ c)) refl (sym made ∙ f)
  where
    h : List ℕ
    h = take held piece

    made : x ≡ (prepared_by h piece c (next_of (h ++ c))).ready
    made = e ∙ rw (le-ltb room most_information l, le-ltb (length piece) most_transfer w)

    go : (v : Next) → next_of (h ++ c) ≡ v → (prepared_by h piece c v).ready ≡ Done t y n → (t.held < 4096) × (t.ended ≡ false)
    go next.Short k g =
        let same : state_of (length h + length c) false ≡ t = cc in
        rw (← same) (omega (arith, short_bound (h ++ c) k, length-append h c), refl)
    go (next.Ends u) k g = let z : ◌≡◌ {A = ℕ} 0 1 = cc in absurd (omega arith)
    go (next.Piece m) k g = by_none (eqb (length h) 0) g
      where
        by_none : (b : Bool) → (cond b (prepared (InChunk m) piece) (prepared (InBuffer m (m - length h)) (sets piece (length h) (take (m - length h) c)))).ready ≡ Done t y n → (t.held < 4096) × (t.ended ≡ false)
        by_none true q = let z : ◌≡◌ {A = ℕ} 0 1 = cc in absurd (omega arith)
        by_none false q = let z : ◌≡◌ {A = ℕ} 0 1 = cc in absurd (omega arith)

-- the buffer stays as long as it is
pub over_length : (b s : List ℕ) → length b ≤ length s → length (over b s) ≡ length s
unfolding over
over_length b s l = length-append b (drop (length b) s) ∙ omega (arith, length-drop (length b) s, l)

pub wiped_length : (n : ℕ) (piece : List ℕ) → n ≤ length piece → length (wiped n piece) ≡ length piece
wiped_length n piece l = over_length (replicate n 0) piece (omega (arith, length-replicate {A = ℕ} n 0, l))

pub prepared_length : (s : State) (piece c : List ℕ) (room : ℕ) → length (prepared_of s piece c room).piece ≡ length piece
unfolding prepared_of prepared_by
prepared_length s piece c room = go (ltb room most_information || ltb (length piece) most_transfer) s.ended (next_of (h ++ c))
  where
    h : List ℕ
    h = held_in s piece

    go : (b ended : Bool) (v : Next) → length
        (cond b (prepared (done_by s (Refused small)) piece) (cond ended (prepared (done_by s (Ended length_fault)) piece) (prepared_by h piece c v))).piece ≡ length piece
    go true ended v = refl
    go false true v = refl
    go false false next.Short = length-sets piece (length h) c
    go false false (next.Ends t) = wiped_length (length h) piece (simp length-take (omega arith))
    go false false (next.Piece n) = by_none (eqb (length h) 0)
      where
        by_none : (z : Bool) → length (cond z (prepared (InChunk n) piece) (prepared (InBuffer n (n - length h)) (sets piece (length h) (take (n - length h) c)))).piece ≡ length piece
        by_none true = refl
        by_none false = length-sets piece (length h) (take (n - length h) c)

module _ (s : State) (piece c : List ℕ) (room n k : ℕ) {x : Ready} {q : List ℕ} (whole : length piece ≡ 4096)
    (made : x ≡ (prepared_of s piece c room).ready) (left : q ≡ (prepared_of s piece c room).piece) (is : x ≡ InBuffer n k) where
  pub buffer_fits : n ≤ length q
  buffer_fits =
      let e : length q ≡ length piece = ap length left ∙ prepared_length s piece c room in
      omega (arith, (in_buffer s piece c room made is).1, e, whole)

  pub buffer_wiped : {b : List ℕ} → b ≡ replicate (length (take n q)) 0 → b ++ drop n q ≡ wiped n q
  buffer_wiped e = wiped_front n q buffer_fits e

  pub buffer_same : {b : List ℕ} → b ≡ replicate (length (take n q)) 0 → length (b ++ drop n q) ≡ length piece
  buffer_same e = ap length (buffer_wiped e) ∙ wiped_length n q buffer_fits ∙ ap length left ∙ prepared_length s piece c room

-- ---- the whole function, in place

-- what is returned, the two buffers and the output
abbrev pub Gives : Feeding Assembly → FedInPlace → List ℕ → List ℕ → List ℕ → List ℕ → Type 0
Gives f r bytes piece before out =
    record { value : r ≡ in_place f; bytes_after : bytes ≡ f.stream.assembly.bytes; piece_after : piece ≡ f.stream.piece; out_after : out ≡ over f.information before }

module _ (p : Progress) (bytes : List ℕ) (s : State) (piece c out : List ℕ) (whole : length piece ≡ 4096) {x : Ready} {q : List ℕ}
    (made : x ≡ (prepared_of s piece c (length out)).ready) (left : q ≡ (prepared_of s piece c (length out)).piece) where
  is_finished : (v : Ready) → x ≡ v → finished_by value_door (assembly_of p bytes) c q v ≡ feed_of (placed p bytes s piece) c (length out)
  unfolding feed_of
  is_finished v e =
      (λ i. finished_by value_door (assembly_of p bytes) c (left i) ((sym e ∙ made) i))
      ∙ finished_is value_door (record { assembly = assembly_of p bytes; state = s; piece = piece }) c (length out) (omega (arith, whole))

  pub done_gives : (t : State) (y : Said) (n : ℕ) → x ≡ Done t y n
      → Gives (feed_of (placed p bytes s piece) c (length out)) (record { progress = p; state = t; said = y; taken = n }) bytes q out out
  unfolding finished_by over
  done_gives t y n e = rw (← is_finished (Done t y n) e) (record { value = refl; bytes_after = refl; piece_after = refl; out_after = refl })

  pub end_gives : (t n : ℕ) {r : FedInPlace} {b : List ℕ} → x ≡ Ends t n → record { value : r ≡ ended_in_place (ended_on value_door (assembly_of p bytes) t) n; bytes_after : b ≡ (ended_on value_door (assembly_of p bytes) t).bytes }
      → Gives (feed_of (placed p bytes s piece) c (length out)) r b q out out
  unfolding finished_by over
  end_gives t n e E = rw (← is_finished (Ends t n) e) (record { value = E.value; bytes_after = E.bytes_after; piece_after = refl; out_after = refl })

  -- the piece y went through the door
  passed_gives : (y z : List ℕ) (n : ℕ) {i : ReceiptInPlace} {r : FedInPlace} {b o : List ℕ} → most_information ≤ length out
      → i ≡ door.in_place (receive_of (assembly_of p bytes) y (length out)) → b ≡ (receive_of (assembly_of p bytes) y (length out)).assembly.bytes
      → o ≡ over (receive_of (assembly_of p bytes) y (length out)).information out → r ≡ passed_in_place i n
      → Gives (passed_on (value_door.receive (assembly_of p bytes) y) z n) r b z out o
  passed_gives y z n l ei eb eo er =
      let k : receive_of (assembly_of p bytes) y (length out) ≡ receive_of (assembly_of p bytes) y most_information = receive_room (assembly_of p bytes) y (length out) l in record {
        value = er ∙ ap (λ (j : ReceiptInPlace). passed_in_place j n) (ei ∙ ap door.in_place k);
        bytes_after = eb ∙ ap (λ (f : Receiving). f.assembly.bytes) k;
        piece_after = refl;
        out_after = eo ∙ ap (λ (f : Receiving). over f.information out) k;
      }

  pub chunk_gives : (n : ℕ) {i : ReceiptInPlace} {r : FedInPlace} {b o : List ℕ} → x ≡ InChunk n
      → i ≡ door.in_place (receive_of (assembly_of p bytes) (take n c) (length out)) → b ≡ (receive_of (assembly_of p bytes) (take n c) (length out)).assembly.bytes
      → o ≡ over (receive_of (assembly_of p bytes) (take n c) (length out)).information out → r ≡ passed_in_place i n
      → Gives (feed_of (placed p bytes s piece) c (length out)) r b q out o
  unfolding finished_by
  chunk_gives n e ei eb eo er =
      rw (← is_finished (InChunk n) e) (passed_gives (take n c) q n (in_chunk s piece c (length out) made e).0 ei eb eo er)

  pub buffer_gives : (n k : ℕ) {i : ReceiptInPlace} {r : FedInPlace} {b z o : List ℕ} → x ≡ InBuffer n k
      → i ≡ door.in_place (receive_of (assembly_of p bytes) (take n q) (length out)) → b ≡ (receive_of (assembly_of p bytes) (take n q) (length out)).assembly.bytes
      → o ≡ over (receive_of (assembly_of p bytes) (take n q) (length out)).information out → r ≡ passed_in_place i k → z ≡ wiped n q
      → Gives (feed_of (placed p bytes s piece) c (length out)) r b z out o
  unfolding finished_by
  buffer_gives n k e ei eb eo er ez =
      rw (← is_finished (InBuffer n k) e, ez) (passed_gives (take n q) (wiped n q) k (in_buffer s piece c (length out) made e).0 ei eb eo er)
