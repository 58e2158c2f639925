-- A run in lent memory: both memories hold the stream that the run through the door in memory leaves, so what is claimed of any door is claimed of them.
-- Assumes nothing.
use mathlib.Core.Path.{◌≡◌, refl, sym, ap, ◌∙◌}
use mathlib.Core.Logic.{◌⊎◌, inl, inr}
use mathlib.Core.Bool.{Bool, true, false, cond}
use mathlib.Core.List.{List, [], ◌∷◌, ◌++◌}
use Prim.Native.Nat.{ℕ, ◌^◌, ◌≤◌, ◌<◌}
use native.Mathlib.Omega.{arith}
use native.Mathlib.Decide.{dec_le}
use borrow.Author.Tests.{lt-ltb, le-ltb}
use lib.Dec.{ltb, eqb}
use lib.ListN.{length, take, drop, replicate, length-append, length-replicate, replicate-append-replicate}
use lib.Seq.{take_at, take-append-le}
use Rattle.wire.specs.Numbers.{num, u32_at, digits}
use Rattle.wire.specs.Output.{over}
use Rattle.wire.proofs.Laws.{num_digits, num_skip}
use Rattle.protocol.specs.Verdict.{fault_if, first_of, judge_from, judge, no_fault, Verdict}
use Rattle.protocol.proofs.Verdicts.{fits_kept, kept_fits}
use Rattle.message.specs.Message.{most_information, is_whole_piece}
use Rattle.protocol.specs.MessageType.{is_whole}
use Rattle.assembler.specs.Assembly.{assembly_of, step_of}
use Rattle.assembler.specs.Door.{whole_shown}
use Rattle.assembler.proofs.Left.{left_whole}
use Rattle.lent_progress.specs.LentProgress.{progress_verdict}
use Rattle.lent.specs.LentAssembly.{assembly_size, buffer_in, progress_in, progress_bytes, held, cleared, emptied, kept_of, judged_in, feed_in as feed_assembly, untouched, fed_in as fed_assembly, receive_in}
use Rattle.lent.proofs.Memory.{length_buffer}
use Rattle.lent.proofs.GoingOn.{never}
use Rattle.lent_claims.proofs.AssemblyServes.{length_held}
use Rattle.lent_claims.proofs.DamageInMemory.{over_again}
use Rattle.stream.specs.declared.Said.{Said}
use Rattle.stream.specs.declared.Said.TheVariants as said
use Rattle.stream.specs.declared.front.Next.{Next}
use Rattle.stream.specs.declared.front.Next.TheVariants as next
use Rattle.stream.specs.Stream.{StreamOn, held_in, keeping, next_of, small, length_fault, untaken, feed_by, feed_on, small as small_output}
use Rattle.stream.specs.OneByOne.{Seen}
use Rattle.stream.specs.Run.{is_answer, answers_of, Call, calls_of, Kept, short, ended}
use Rattle.stream.proofs.Starts.{short_bound}
use Rattle.stream.proofs.Giving.{over_length}
use Rattle.stream.proofs.Keeping.{padded, padded_length, held_back, nothing_held}
use Rattle.stream.proofs.Cut.{call_keeps, any_calls, calls_keep, small_output_first, ended_stays}
use Rattle.lent_stream.specs.LentStream.{stream_size, piece_in, open_in, state_bytes, room_rules, reset_in, stream_rules, feed_rules, memory_door, FeedingIn, unfed_in, stream_bytes, stored_in, fed_in, feed_in}
use Rattle.stream_claims.proofs.Left.{keeps}
use Rattle.stream_claims.specs.Memory.{Lent, LentRun, answers_in, calls_in, reset_lent, stored_run, MemoryAnyCalls}
use Rattle.std.specs.Prelude.{Ok, Err}

-- ---- the stream that holds h, put into memory: what is read back

abbrev flag : Bool → ℕ
flag e = cond e 1 0

module _ (a h m : List ℕ) (e : Bool) (few : length h < 4096) where
  abbrev M : List ℕ
  M = over (stream_bytes (keeping a h e)) m

  length_bytes : length (stream_bytes (keeping a h e)) ≡ stream_size
  unfolding stream_bytes state_bytes
  length_bytes = length-append (state_bytes (length h) (flag e)) (padded h) ∙ omega (arith, padded_length h (omega arith))

  rest : List ℕ
  rest = drop (length (stream_bytes (keeping a h e))) m

  parts : M ≡ digits 4 (length h) ++ (digits 4 (flag e) ++ (padded h ++ rest))
  unfolding over stream_bytes state_bytes rest
  parts = refl

  held_read : u32_at M 0 ≡ length h
  unfolding u32_at
  held_read = ap (λ (x : List ℕ). num 4 x 0) parts ∙ num_digits 4 (length h) (digits 4 (flag e) ++ (padded h ++ rest)) (omega (arith, few))

  ended_read : u32_at M 4 ≡ flag e
  unfolding u32_at
  ended_read =
      ap (λ (x : List ℕ). num 4 x 4) parts
      ∙ num_skip 4 (digits 4 (length h)) (digits 4 (flag e) ++ (padded h ++ rest)) 0
      ∙ num_digits 4 (flag e) (padded h ++ rest) (small_flag e)
    where
      small_flag : (b : Bool) → cond b 1 0 < 256 ^ 4
      small_flag true = omega arith
      small_flag false = omega arith

  behind : drop 8 M ≡ padded h ++ rest
  behind = ap (drop 8) parts

  piece_read : piece_in M ≡ padded h
  piece_read = ap (take 4096) behind ∙ take_at (padded h) rest 4096 (padded_length h (omega (arith, few)))

  bytes_read : take (length h) (drop 8 M) ≡ h
  bytes_read =
      ap (take (length h)) behind ∙ take-append-le (length h) (padded h) rest (omega (arith, padded_length h (omega (arith, few)), few)) ∙ held_back h

  stays_long : stream_size ≤ length m → length M ≡ length m
  stays_long own = over_length (stream_bytes (keeping a h e)) m (omega (arith, length_bytes, own))

-- ---- one call

small_verdict : (m : List ℕ) (lent room : ℕ) → room < most_information → judge (feed_rules m lent room) ≡ Err small
unfolding judge_from first_of fault_if
small_verdict m lent room l = rw (lt-ltb room most_information l)

-- a refusal that takes nothing leaves the memory
module _ (m a h : List ℕ) (e : Bool) (few : length h < 4096) where
  again : over (stream_bytes (keeping a h e)) (M a h m e few) ≡ M a h m e few
  again = over_again (stream_bytes (keeping a h e)) (stream_bytes (keeping a h e)) m refl

  unfed : (x : Said) → unfed_in (M a h m e few) a x ≡ stored_in (M a h m e few) (untaken (keeping a h e) x)
  unfolding stored_in
  unfed x = λ i. record { memory = sym again i; assembly = a; fed = record { said = x; taken = 0 }; information = [] }

module _ (m a h c : List ℕ) (own : stream_size ≤ length m) (lent : assembly_size ≤ length a) (room : ℕ) where
  -- the memory of a stream that calls leave is taken
  fits : (e : Bool) (few : length h < 4096) → (e ≡ true → h ≡ []) → next_of h ≡ next.Short → most_information ≤ room → judge (feed_rules (M a h m e few) (length a) room) ≡ no_fault
  fits e few none k l =
      let x = M a h m e few in
      let p : u32_at x 0 ≡ length h = held_read a h m e few in
      let n : length x ≡ length m = stays_long a h m e few own in
      kept_fits (feed_rules x (length a) room) (
        le-ltb room most_information l,
        (
          le-ltb (length x) stream_size (omega (arith, n, own)),
          (
            le-ltb (length a) assembly_size lent,
            fits_kept (stream_rules x) (keeps x h e k none p (ended_read a h m e few) (ap (λ (j : ℕ). take j (drop 8 x)) p ∙ bytes_read a h m e few)),
          ),
        ),
      )

  open_call : (few : length h < 4096) → next_of h ≡ next.Short → most_information ≤ room
      → feed_in (M a h m false few) a c room ≡ stored_in (M a h m false few) (feed_on memory_door (keeping a h false) c room)
  unfolding feed_in fed_in
  open_call few k l =
      let x = M a h m false few in
      let is : open_in x a ≡ keeping a h false = λ i. record { assembly = a; state = record { held = held_read a h m false few i; ended = false }; piece = piece_read a h m false few i } in
      rw (fits false few (λ z. never z) k l, ended_read a h m false few) (ap (λ (s : StreamOn (List ℕ)). stored_in x (feed_on memory_door s c room)) is)

abbrev Stored : List ℕ → StreamOn (List ℕ) → List ℕ → ℕ → Type 0
Stored m s c room = feed_in (over (stream_bytes s) m) s.assembly c room ≡ stored_in (over (stream_bytes s) m) (feed_on memory_door s c room)

-- without room
no_room : (m a h c : List ℕ) (e : Bool) (few : length h < 4096) (room : ℕ) → room < most_information → Stored m (keeping a h e) c room
unfolding feed_in
no_room m a h c e few room l =
    rw (small_verdict (M a h m e few) (length a) room l, small_output_first (List ℕ) memory_door (keeping a h e) c room l) (unfed m a h e few (said.Refused small))

-- an ended stream
ended_call : (m a c : List ℕ) (room : ℕ) → stream_size ≤ length m → assembly_size ≤ length a → most_information ≤ room → Stored m (keeping a [] true) c room
unfolding feed_in
ended_call m a c room own lent l =
    let few : length {A = ℕ} [] < 4096 = omega arith in
    rw (fits m a [] c own lent room true few (λ z. refl) nothing_held l, ended_read a [] m true few, ended_stays (List ℕ) memory_door (keeping a [] true) c room refl l)
    (unfed m a [] true few (said.Ended length_fault))

feed_stored : (m : List ℕ) (s : StreamOn (List ℕ)) (c : List ℕ) (room : ℕ) → stream_size ≤ length m → assembly_size ≤ length s.assembly → Kept s → Stored m s c room
feed_stored m s c room own lent (short a h e k) =
    let few : length h < 4096 = short_bound h k in
    let n : assembly_size ≤ length a = omega (arith, lent, ap (λ (t : StreamOn (List ℕ)). length t.assembly) e) in
    rw e (elim (dec_le most_information room) [
      | yes l ↦ open_call m a h c own n room few k l
      | no l ↦ no_room m a h c false few room (omega arith)
    ])
feed_stored m s c room own lent (ended a e) =
    let few : length {A = ℕ} [] < 4096 = omega arith in
    let n : assembly_size ≤ length a = omega (arith, lent, ap (λ (t : StreamOn (List ℕ)). length t.assembly) e) in
    rw e (elim (dec_le most_information room) [
      | yes l ↦ ended_call m a c room own n l
      | no l ↦ no_room m a [] c true few room (omega arith)
    ])

-- what a caller sees of it
ended_kept : (m : List ℕ) (s : StreamOn (List ℕ)) → Kept s → eqb (u32_at (over (stream_bytes s) m) 4) 1 ≡ s.state.ended
ended_kept m s (short a h e k) = rw (e, ended_read a h m false (short_bound h k)) refl
ended_kept m s (ended a e) = rw (e, ended_read a [] m true (omega arith)) refl

kept_long : (m : List ℕ) (s : StreamOn (List ℕ)) → Kept s → length (stream_bytes s) ≡ stream_size
kept_long m s (short a h e k) = rw e (length_bytes a h m false (short_bound h k))
kept_long m s (ended a e) = rw e (length_bytes a [] m true (omega arith))

-- ---- a run

-- the memory of the assembly stays as long as it is
cleared_long : (a : List ℕ) → assembly_size ≤ length a → length (cleared a) ≡ length a
unfolding cleared
cleared_long a l = over_length (replicate assembly_size 0) a (omega (arith, l, length-replicate {A = ℕ} assembly_size 0))

emptied_long : (a : List ℕ) → assembly_size ≤ length a → length (emptied a).memory ≡ length a
unfolding emptied
emptied_long a l = rw (le-ltb (length a) assembly_size l) (cleared_long a l)

fed_long : (a p : List ℕ) (room : ℕ) → assembly_size ≤ length a → length (feed_assembly a p room).memory ≡ length a
unfolding feed_assembly kept_of held
fed_long a p room l = go (progress_verdict (progress_in a))
  where
    go : (v : Verdict) → length (judged_in v (progress_in a) a p room).memory ≡ length a
    go (Ok _) =
        let x = step_of (assembly_of (progress_in a) (buffer_in a)) p room in
        let n = length_held x.assembly a (left_whole (assembly_of (progress_in a) (buffer_in a)) p room (length_buffer a l)) in
        over_length (progress_bytes x.assembly.progress ++ x.assembly.bytes) a (omega (arith, n, l))
    go (Err r) = cleared_long a l

door_long : (a p : List ℕ) (room : ℕ) → assembly_size ≤ length a → length (receive_in a p room).memory ≡ length a
unfolding receive_in
door_long a p room l = rw (le-ltb (length a) assembly_size l) (go (is_whole_piece p))
  where
    go : (w : Bool) → length (cond w (untouched a (whole_shown p)) (fed_assembly p (feed_assembly a p room))).memory ≡ length a
    go true = refl
    go false = fed_long a p room l

next_long : (a h piece c : List ℕ) (v : Next) → assembly_size ≤ length a → assembly_size ≤ length (feed_by memory_door a h piece c v).stream.assembly
unfolding feed_by
next_long a h piece c next.Short l = l
next_long a h piece c (next.Ends t) l = go (is_whole t)
  where
    go : (w : Bool) → assembly_size ≤ length (cond w a (emptied a).memory)
    go true = l
    go false = omega (arith, emptied_long a l, l)
next_long a h piece c (next.Piece n) l = omega (arith, door_long a (take n (h ++ c)) most_information l, l)

call_long : (s : StreamOn (List ℕ)) (c : List ℕ) (room : ℕ) → assembly_size ≤ length s.assembly → assembly_size ≤ length (feed_on memory_door s c room).stream.assembly
unfolding feed_on
call_long s c room l = go (ltb room most_information) s.state.ended
  where
    h : List ℕ
    h = held_in s.state s.piece

    go : (small ended : Bool)
        → assembly_size ≤ length (cond small (untaken s (said.Refused small_output)) (cond ended (untaken s (said.Ended length_fault)) (feed_by memory_door s.assembly h s.piece c (next_of (h ++ c))))).stream.assembly
    go true e = l
    go false true = l
    go false false = next_long s.assembly h s.piece c (next_of (h ++ c)) l

abbrev lent_of : List ℕ → StreamOn (List ℕ) → Lent
lent_of m s = record { own = over (stream_bytes s) m; assembly = s.assembly }

calls_stored : (cs : List Call) (m : List ℕ) (s : StreamOn (List ℕ)) (x : List ℕ) → stream_size ≤ length m → assembly_size ≤ length s.assembly → Kept s
    → calls_in (lent_of m s) x cs ≡ stored_run m (calls_of memory_door s x cs)
unfolding calls_in calls_of stored_in
calls_stored [] m s x own lent K = refl
calls_stored (c ∷ cs) m s x own lent K =
    let d = take c.offered x in
    let f = feed_on memory_door s d c.room in
    let K₁ = call_keeps memory_door s d c.room K in
    let y = drop f.taken x in
    let step : FeedingIn → LentRun = λ g.
    let r = calls_in (record { own = g.memory; assembly = g.assembly }) (drop g.fed.taken x) cs in
    record { seen = answers_in (lent_of m s) g ++ r.seen; end = r.end; left = r.left } in
    let seen : List Seen = cond (is_answer f.said) (record { said = f.said; information = f.information } ∷ []) [] in
    let told : answers_in (lent_of m s) (stored_in (over (stream_bytes s) m) f) ≡ answers_of s f = ap (λ (b : Bool). cond b [] seen) (ended_kept m s K) in
    let over_it : over (stream_bytes f.stream) (over (stream_bytes s) m) ≡ over (stream_bytes f.stream) m = over_again (stream_bytes f.stream) (stream_bytes s) m (kept_long m f.stream K₁ ∙ sym (kept_long m s K)) in
    ap step (feed_stored m s d c.room own lent K)
    ∙ (λ i. let r = calls_in (record { own = over_it i; assembly = f.stream.assembly }) y cs in record { seen = told i ++ r.seen; end = r.end; left = r.left })
    ∙ ap (λ (r : LentRun). record { seen = answers_of s f ++ r.seen; end = r.end; left = r.left }) (calls_stored cs m f.stream y own (call_long s d c.room lent) K₁)

-- ---- from a reset

reset_lent_lem : (m : Lent) → stream_size ≤ length m.own → assembly_size ≤ length m.assembly → reset_lent m ≡ lent_of m.own (keeping (emptied m.assembly).memory [] false)
unfolding reset_in stream_bytes state_bytes
reset_lent_lem m own lent =
    let z : List ℕ = replicate 4096 0 in
    let e : replicate stream_size 0 ≡ replicate 8 0 ++ z = sym (replicate-append-replicate 8 4096 0) in
    rw (kept_fits (room_rules (length m.own) (length m.assembly)) (le-ltb _ _ own, (le-ltb _ _ lent, tt)))
    (ap (λ (b : List ℕ). record { own = over b m.own; assembly = (emptied m.assembly).memory }) e)

pub memory_any_calls : MemoryAnyCalls
memory_any_calls m own lent x cs w done =
    let a = (emptied m.assembly).memory in
    let s : StreamOn (List ℕ) = keeping a [] false in
    let long : assembly_size ≤ length a = omega (arith, emptied_long m.assembly lent, lent) in
    let r = calls_of memory_door s x cs in
    let e : calls_in (reset_lent m) x cs ≡ stored_run m.own r =
    ap (λ (l : Lent). calls_in l x cs) (reset_lent_lem m own lent) ∙ calls_stored cs m.own s x own long (short a [] refl nothing_held) in
    let stops : (r.left ≡ []) ⊎ (r.end.state.ended ≡ true) = elim done [
      | inl z ↦ inl (sym (ap (λ (y : LentRun). y.left) e) ∙ z)
      | inr z ↦ inr (sym (ended_kept m.own r.end (calls_keep (List ℕ) memory_door a x cs)) ∙ sym (ap (λ (y : LentRun). eqb (u32_at y.end.own 4) 1) e) ∙ z)
    ] in
    e ∙ ap (stored_run m.own) (any_calls (List ℕ) memory_door a x cs w stops)
