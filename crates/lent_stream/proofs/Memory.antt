-- A call in lent memory, case by case over plain variables: the stream's numbers and buffer, and the memory of its assembly.
-- Assumes nothing.
use mathlib.Core.Path.{◌≡◌, refl, sym, ap, ◌∙◌}
use mathlib.Core.Bool.{true, false, cond}
use mathlib.Core.List.{List, [], ◌++◌, append_assoc, append-nil}
use Prim.Native.Nat.{ℕ, ◌+◌, ◌*◌, ◌-◌, ◌≤◌, ◌<◌}
use native.Mathlib.Omega.{arith}
use borrow.Author.Tests.{lt-ltb, ltb-false, eqb-false, not-false}
use lib.Dec.{ltb, eqb}
use lib.ListN.{length, get_or, take, drop, replicate, length-append, length-take, length-drop, length-replicate, replicate-append-replicate}
use lib.Seq.{sets, length-take-le, take-append-le, drop-append-le, drop_at, drop-drop}
use Rattle.wire.specs.Numbers.{u32_at, digits}
use Rattle.wire.specs.Output.{over}
use Rattle.wire.proofs.Laws.{four, sets_over, take_rest, take_over}
use Rattle.protocol.specs.Verdict.{judge, no_fault, Verdict}
use Rattle.protocol.proofs.Verdicts.{fits_kept}
use Rattle.message.specs.Message.{most_information, is_whole_piece}
use Rattle.assembler.specs.Assembly.{Step, assembly_of}
use Rattle.assembler.specs.Door.{whole_shown}
use Rattle.assembler.specs.declared.door.Received.{Received}
use Rattle.assembler.proofs.Room.{step_room}
use Rattle.lent_progress.specs.LentProgress.{progress_verdict}
use Rattle.lent.specs.LentAssembly.{assembly_size, buffer_in, progress_in, too_small, Feeding as FeedingA, kept, kept_of, judged_in, feed_in as feed_assembly, untouched, fed_in as fed_assembly, Receiving, receive_in}
use Rattle.lent.proofs.Memory.{put_front, word_kept, kept_then}
use Rattle.stream.specs.declared.State.{State}
use Rattle.stream.specs.declared.Said.{Said}
use Rattle.stream.specs.declared.Said.TheVariants.{Piece}
use Rattle.stream.specs.declared.front.Next.{Next}
use Rattle.stream.specs.declared.front.Ready.{Ready}
use Rattle.stream.specs.declared.front.Ready.TheVariants.{Done, Ends, InChunk, InBuffer}
use Rattle.stream.specs.Stream.{state_of, next_of, wiped, ended_on}
use Rattle.stream.specs.Ready.{prepared_of}
use Rattle.stream.proofs.Finished.{finished_by, finished_is}
use Rattle.stream.proofs.Giving.{in_chunk, in_buffer, done_open, prepared_length, wiped_length}
use Rattle.lent_stream.specs.declared.FedLent.{FedLent}
use Rattle.lent_stream.specs.LentStream.{stream_size, piece_in, open_in, state_bytes, is_short, is_unfinished, feed_rules, memory_door, FeedingIn, fed_lent, ended_fed, stream_bytes, stored_in, fed_in}
use Rattle.std.specs.Prelude.{Ok, Err, Result}
use Rattle.protocol.specs.declared.Refusal.{Refusal}

-- ---- memory that is taken

pub record Taken (m : List ℕ) (lent room : ℕ) : Type 0 where
  pub output : most_information ≤ room
  pub own : stream_size ≤ length m
  pub assembly : assembly_size ≤ lent
  pub few : u32_at m 0 ≤ 4095
  pub flag : u32_at m 4 ≤ 1
  pub unfinished : is_unfinished (u32_at m 0) (drop 8 m) ≡ true

pub taken : (m : List ℕ) (lent room : ℕ) → judge (feed_rules m lent room) ≡ no_fault → Taken m lent room
taken m lent room e =
    let k = fits_kept (feed_rules m lent room) e in
    record {
      output = ltb-false _ _ k.0;
      own = ltb-false _ _ k.1.0;
      assembly = ltb-false _ _ k.1.1.0;
      few = ltb-false _ _ k.1.1.1.0;
      flag = ltb-false _ _ k.1.1.1.1.0;
      unfinished = not-false _ k.1.1.1.1.1.1.0;
    }

-- ---- room for 4,096 bytes is as good as more

feed_room : (a s : List ℕ) (room : ℕ) → most_information ≤ room → feed_assembly a s room ≡ feed_assembly a s most_information
unfolding feed_assembly kept_of
feed_room a s room l = go (progress_verdict (progress_in a))
  where
    go : (v : Verdict) → judged_in v (progress_in a) a s room ≡ judged_in v (progress_in a) a s most_information
    go (Ok _) = ap (λ (x : Step). kept x a) (step_room (assembly_of (progress_in a) (buffer_in a)) s room l)
    go (Err r) = refl

door_room : (a s : List ℕ) (room : ℕ) → most_information ≤ room → receive_in a s room ≡ receive_in a s most_information
unfolding receive_in
door_room a s room l =
    ap (λ (f : FeedingA). cond (ltb (length a) assembly_size) (untouched a (Err too_small)) (cond (is_whole_piece s) (untouched a (whole_shown s)) (fed_assembly s f))) (feed_room a s room l)

-- ---- the stream's own memory: 8 bytes of numbers, the buffer, and what is lent past them

module _ (m : List ℕ) (own : stream_size ≤ length m) where
  pub length_piece : length (piece_in m) ≡ 4096
  length_piece = length-take 4096 (drop 8 m) ∙ simp length-drop (omega (arith, own))

  length_head : length (take 8 m) ≡ 8
  length_head = length-take-le 8 m (omega (arith, own))

  -- both given back
  module _ (xs b : List ℕ) (head : length xs ≡ 8) (whole : length b ≡ 4096) where
    over_parts : over (xs ++ b) m ≡ xs ++ (b ++ drop 4096 (drop 8 m))
    unfolding over
    over_parts =
        let n : length (xs ++ b) ≡ 4104 = length-append xs b ∙ omega (arith, head, whole) in
        ap (λ (k : ℕ). (xs ++ b) ++ drop k m) n ∙ append_assoc xs b (drop 4104 m) ∙ ap (λ (t : List ℕ). xs ++ (b ++ t)) (sym (drop-drop 4096 8 m))

-- numbers that are 0 are zeros
zero_bytes : (m : List ℕ) (at : ℕ) → u32_at m at ≡ 0 → sets m at (digits 4 0) ≡ m
unfolding u32_at
zero_bytes m at e =
    let a = get_or m at 0 in
    let b = get_or m (at + 1) 0 in
    let c = get_or m (at + 2) 0 in
    let d = get_or m (at + 3) 0 in
    let f : a + 256 * (b + 256 * (c + 256 * d)) ≡ 0 = four m at refl refl refl refl ∙ e in
    ap (λ (k : ℕ). sets m at (digits 4 k)) (sym f)
    ∙ word_kept m at refl refl refl refl (omega (arith, f)) (omega (arith, f)) (omega (arith, f)) (omega (arith, f))

zero_head : (m : List ℕ) → stream_size ≤ length m → u32_at m 0 ≡ 0 → u32_at m 4 ≡ 0 → take 8 m ≡ state_bytes 0 0
unfolding state_bytes
zero_head m own e f =
    let k : sets m 0 (digits 4 0 ++ digits 4 0) ≡ m = kept_then (digits 4 0) (digits 4 0) 0 4 m refl (zero_bytes m 0 e) (zero_bytes m 4 f) in
    ap (take 8) (sym k ∙ sets_over (digits 4 0 ++ digits 4 0) m (omega (arith, own))) ∙ take_over (digits 4 0 ++ digits 4 0) m 8 refl

-- ---- one call on a stream that has not ended

-- what is returned, the two memories and the output
abbrev Gives : FeedingIn → FedLent → List ℕ → List ℕ → List ℕ → List ℕ → Type 0
Gives f r memory assembly before out =
    record { value : r ≡ f.fed; memory_after : memory ≡ f.memory; assembly_after : assembly ≡ f.assembly; out_after : out ≡ over f.information before }

module _ (m a c out : List ℕ) (T : Taken m (length a) (length out)) (going : eqb (u32_at m 4) 1 ≡ false) {held : ℕ} (is : held ≡ u32_at m 0) {x : Ready} {q : List ℕ}
    (ready : x ≡ (prepared_of (state_of held false) (piece_in m) c (length out)).ready)
    (buffer : q ≡ (prepared_of (state_of held false) (piece_in m) c (length out)).piece) where
  made : x ≡ (prepared_of (state_of (u32_at m 0) false) (piece_in m) c (length out)).ready
  made = ready ∙ ap (λ (k : ℕ). (prepared_of (state_of k false) (piece_in m) c (length out)).ready) is

  left : q ≡ (prepared_of (state_of (u32_at m 0) false) (piece_in m) c (length out)).piece
  left = buffer ∙ ap (λ (k : ℕ). (prepared_of (state_of k false) (piece_in m) c (length out)).piece) is

  -- the memory once the buffer is ready
  abbrev mid : List ℕ
  mid = take 8 m ++ (q ++ drop 4096 (drop 8 m))

  whole : length q ≡ 4096
  whole = ap length left ∙ prepared_length (state_of (u32_at m 0) false) (piece_in m) c (length out) ∙ length_piece m T.own

  pub length_mid : length mid ≡ length m
  length_mid =
      let r = drop 4096 (drop 8 m) in
      let n : length r ≡ length m - 8 - 4096 = length-drop 4096 (drop 8 m) ∙ ap (λ (k : ℕ). k - 4096) (length-drop 8 m) in
      length-append (take 8 m) (q ++ r) ∙ omega (arith, length-append q r, length_head m T.own, whole, n, T.own)

  -- the bounds that the code asks for
  pub held_small : {t : State} {y : Said} {n : ℕ} → x ≡ Done t y n → t.held < 4096
  held_small e = (done_open (u32_at m 0) (piece_in m) c (length out) T.output (omega (arith, length_piece m T.own)) made e).0

  pub chunk_there : {n : ℕ} → x ≡ InChunk n → n ≤ length c
  chunk_there e = (in_chunk (state_of (u32_at m 0) false) (piece_in m) c (length out) made e).1

  pub buffer_there : {n k : ℕ} → x ≡ InBuffer n k → n ≤ 4096
  buffer_there e = (in_buffer (state_of (u32_at m 0) false) (piece_in m) c (length out) made e).1

  pub buffer_inside : {n k : ℕ} → x ≡ InBuffer n k → 8 + n ≤ length mid
  buffer_inside e = omega (arith, buffer_there e, length_mid, T.own)

  is_fed : (v : Ready) → x ≡ v → stored_in m (finished_by memory_door a c q v) ≡ fed_in m a c (length out)
  unfolding fed_in
  is_fed v e =
      ap (stored_in m) (
      (λ i. finished_by memory_door a c (left i) ((sym e ∙ made) i))
      ∙ finished_is memory_door (open_in m a) c (length out) (omega (arith, length_piece m T.own))
      )

  pub done_gives : (t : State) (y : Said) (n : ℕ) {s : List ℕ} → x ≡ Done t y n → s ≡ sets mid 0 (state_bytes t.held (cond t.ended 1 0)) → Gives (fed_in m a c (length out)) (fed_lent y n) s a out out
  unfolding finished_by stored_in stream_bytes state_bytes over
  done_gives t y n e es =
      rw (← is_fed (Done t y n) e) (record { value = refl; memory_after = put_front 8 4096 m q (state_bytes t.held (cond t.ended 1 0)) T.own whole refl es; assembly_after = refl; out_after = refl })

  pub end_gives : (t n : ℕ) {s b : List ℕ} {r : FedLent} → x ≡ Ends t n → s ≡ sets mid 0 (state_bytes 0 1) → b ≡ ended_on memory_door a t → r ≡ ended_fed n → Gives (fed_in m a c (length out)) r s b out out
  unfolding finished_by stored_in stream_bytes state_bytes over
  end_gives t n e es eb er = rw (← is_fed (Ends t n) e) (record { value = er; memory_after = put_front 8 4096 m q (state_bytes 0 1) T.own whole refl es; assembly_after = eb; out_after = refl })

  -- the piece y went through the door
  module _ (y : List ℕ) {z : (Result Received Refusal)} {b o : List ℕ} (ez : z ≡ (receive_in a y (length out)).received) (eb : b ≡ (receive_in a y (length out)).memory)
      (eo : o ≡ over (receive_in a y (length out)).information out) where
    same : receive_in a y (length out) ≡ receive_in a y most_information
    same = door_room a y (length out) T.output

    through : (n : ℕ) → (fed_lent (Piece z) n ≡ fed_lent (Piece (receive_in a y most_information).received) n) × (b ≡ (receive_in a y most_information).memory)
        × (o ≡ over (receive_in a y most_information).information out)
    through n = (
      ap (λ (w : (Result Received Refusal)). fed_lent (Piece w) n) (ez ∙ ap (λ (f : Receiving). f.received) same),
      eb ∙ ap (λ (f : Receiving). f.memory) same,
      eo ∙ ap (λ (f : Receiving). over f.information out) same,
    )

  pub chunk_gives : (n : ℕ) {z : (Result Received Refusal)} {b o : List ℕ} → x ≡ InChunk n → z ≡ (receive_in a (take n c) (length out)).received → b ≡ (receive_in a (take n c) (length out)).memory
      → o ≡ over (receive_in a (take n c) (length out)).information out → Gives (fed_in m a c (length out)) (fed_lent (Piece z) n) mid b out o
  unfolding finished_by stored_in stream_bytes state_bytes
  chunk_gives n e ez eb eo =
      let none = (in_chunk (state_of (u32_at m 0) false) (piece_in m) c (length out) made e).2 in
      let zero : u32_at m 0 ≡ 0 = omega (arith, none, length-take (u32_at m 0) (piece_in m), length_piece m T.own) in
      let idle : u32_at m 4 ≡ 0 = omega (arith, T.flag, eqb-false (u32_at m 4) 1 going) in
      let head = zero_head m T.own zero idle in
      let t = through (take n c) ez eb eo n in
      rw (← is_fed (InChunk n) e)
      (record { value = t.0; memory_after = ap (λ (xs : List ℕ). xs ++ (q ++ drop 4096 (drop 8 m))) head ∙ sym (over_parts m T.own (state_bytes 0 0) q refl whole); assembly_after = t.1; out_after = t.2 })

  -- where the piece lies in the buffer
  buffer_piece : (n : ℕ) → n ≤ 4096 → take (8 + n - 8) (drop 8 mid) ≡ take n q
  buffer_piece n l =
      let e : 8 + n - 8 ≡ n = omega arith in
      ap (λ (k : ℕ). take k (drop 8 mid)) e
      ∙ ap (take n) (drop_at (take 8 m) (q ++ drop 4096 (drop 8 m)) 8 (length_head m T.own))
      ∙ take-append-le n q (drop 4096 (drop 8 m)) (omega (arith, l, whole))

  -- zeros over the numbers and the piece
  cleared : (n : ℕ) → n ≤ 4096 → over (replicate (8 + n) 0) mid ≡ over (state_bytes 0 0 ++ wiped n q) m
  unfolding over state_bytes
  cleared n l =
      let r = drop 4096 (drop 8 m) in
      let z : List ℕ = replicate n 0 in
      let behind : drop (8 + n) mid ≡ drop n q ++ r = sym (drop-drop n 8 mid) ∙ ap (drop n) (drop_at (take 8 m) (q ++ r) 8 (length_head m T.own)) ∙ drop-append-le n q r (omega (arith, l, whole)) in
      let wipes : wiped n q ≡ z ++ drop n q = ap (λ (k : ℕ). z ++ drop k q) (length-replicate {A = ℕ} n 0) in
      (λ i. replicate (8 + n) 0 ++ drop (length-replicate {A = ℕ} (8 + n) 0 i) mid)
      ∙ (λ i. sym (replicate-append-replicate 8 n 0) i ++ behind i)
      ∙ append_assoc (replicate 8 0) z (drop n q ++ r)
      ∙ ap (λ (t : List ℕ). replicate 8 0 ++ t) (sym (append_assoc z (drop n q) r))
      ∙ ap (λ (t : List ℕ). replicate 8 0 ++ (t ++ r)) (sym wipes)
      ∙ sym (over_parts m T.own (state_bytes 0 0) (wiped n q) refl (wiped_length n q (omega (arith, l, whole)) ∙ whole))

  pub buffer_gives : (n k : ℕ) {z : (Result Received Refusal)} {s b o : List ℕ} → x ≡ InBuffer n k → z ≡ (receive_in a (take (8 + n - 8) (drop 8 mid)) (length out)).received
      → b ≡ (receive_in a (take (8 + n - 8) (drop 8 mid)) (length out)).memory → o ≡ over (receive_in a (take (8 + n - 8) (drop 8 mid)) (length out)).information out
      → s ≡ over (replicate (8 + n) 0) mid → Gives (fed_in m a c (length out)) (fed_lent (Piece z) k) s b out o
  unfolding finished_by stored_in stream_bytes
  buffer_gives n k e ez eb eo es =
      let l = buffer_there e in
      let t = through (take (8 + n - 8) (drop 8 mid)) ez eb eo k in
      let p = buffer_piece n l in
      rw (← is_fed (InBuffer n k) e, ← p) (record { value = t.0; memory_after = es ∙ cleared n l; assembly_after = t.1; out_after = t.2 })

-- ---- the bytes held, judged

pub unfinished_in : (held : ℕ) (m : List ℕ) {v : Next} → v ≡ next_of (take held (take (length m - 8) (drop 8 m)) ++ []) → is_unfinished held (drop 8 m) ≡ is_short v
unfolding is_unfinished
unfinished_in held m e = sym (ap is_short (e ∙ ap next_of (append-nil (take held (take (length m - 8) (drop 8 m))) ∙ ap (take held) (take_rest 8 m))))

pub unfinished_none : (held : ℕ) (m : List ℕ) → length m < 8 → is_unfinished held (drop 8 m) ≡ true
unfolding is_unfinished next_of
unfinished_none held m l =
    let e : length (drop 8 m) ≡ 0 = length-drop 8 m ∙ omega arith in
    let f : ltb (length (take held (drop 8 m))) 8 ≡ true = lt-ltb (length (take held (drop 8 m))) 8 (simp length-take (omega (arith, e))) in
    rw f
