-- However it is cut, a stream gives the answers of its pieces one by one: what is held and what is left to feed are the same bytes after any call.
-- Assumes nothing.
use mathlib.Core.Path.{◌≡◌, refl, sym, ap, ◌∙◌}
use mathlib.Core.Logic.{◌⊎◌, inl, inr}
use mathlib.Core.Bool.{Bool, true, false, cond, ◌||◌}
use mathlib.Core.List.{List, [], ◌∷◌, ◌++◌, append_assoc, append-nil}
use Prim.Native.Nat.{ℕ, zero, suc, ◌+◌, ◌-◌, ◌≤◌, ◌<◌}
use native.Mathlib.Omega.{arith}
use native.Mathlib.Decide.{dec_le}
use borrow.Author.Tests.{le-ltb, lt-ltb, eqb-true, eqb-false}
use lib.Dec.{ltb, eqb}
use lib.ListN.{length, take, drop, length-append, length-drop, take-append-drop}
use lib.Seq.{take-append-le, take-append_seam, drop-append-le, drop-append-add, drop-length}
use Rattle.message.specs.Message.{most_information}
use Rattle.stream.specs.declared.front.Next.{Next}
use Rattle.stream.specs.declared.front.Next.TheVariants.{Short, Ends, Piece}
use Rattle.stream.specs.declared.Said.TheVariants as said
use Rattle.stream.specs.Stream.{StreamOn, held_in, keeping, next_of, Door, Feeding, small, length_fault, untaken, ended_on, feed_by, feed_on, empty_stream}
use Rattle.stream.specs.OneByOne.{Seen, seen_of, end_seen, Run, and_then, one_by_one}
use Rattle.stream.specs.Run.{is_answer, answers_of, after_seen, Chunk, last_call, chunk_in, chunk_of, then_run, run_of, joined, WithRoom, Call, calls_of, CallsWithRoom, CutAnywhere, CutsAgree, AnyCalls, ResetEmpties, Progresses, AlwaysProgresses, SmallFirst, StaysEnded, EndsAtField, Kept, short, ended, CallsKeep}
use Rattle.stream.proofs.Starts.{fault_says, piece_bounds, piece_front, fault_front, piece_past, fault_past}
use Rattle.stream.proofs.Split.{one_short, one_fault, one_piece}
use Rattle.stream.proofs.Keeping.{kept_by, kept_call, nothing_held}

-- what is true is not false
never : {B : Type 0} → ◌≡◌ {A = Bool} true false → B
never e = let z : ◌≡◌ {A = ℕ} 0 1 = cc in absurd (omega arith)

-- ---- one call on any stream: first the output, then whether the stream ended

module _ {A : Type 0} (d : Door A) where
  small_first : (s : StreamOn A) (c : List ℕ) (room : ℕ) → room < most_information → feed_on d s c room ≡ untaken s (said.Refused small)
  unfolding feed_on
  small_first s c room l = rw (lt-ltb room most_information l)

  stays_ended : (s : StreamOn A) (c : List ℕ) (room : ℕ) → s.state.ended ≡ true → most_information ≤ room → feed_on d s c room ≡ untaken s (said.Ended length_fault)
  unfolding feed_on
  stays_ended s c room e l =
      rw (le-ltb room most_information l)
      (ap (λ (b : Bool). cond b (untaken s (said.Ended length_fault)) (feed_by d s.assembly (held_in s.state s.piece) s.piece c (next_of (held_in s.state s.piece ++ c)))) e)

  -- how many bytes it takes

  taken_most : (a : A) (h piece c : List ℕ) (v : Next) → next_of (h ++ c) ≡ v → (feed_by d a h piece c v).taken ≤ length c
  unfolding feed_by
  taken_most a h piece c Short e = omega arith
  taken_most a h piece c (Ends t) e = omega (arith, (fault_says (h ++ c) t e).long, length-append h c)
  taken_most a h piece c (Piece n) e = omega (arith, (piece_bounds (h ++ c) n e).2, length-append h c)

  taken_some : (a : A) (h piece c : List ℕ) (v : Next) → 0 < length c → (0 < (feed_by d a h piece c v).taken) ⊎ (is_answer (feed_by d a h piece c v).said ≡ true)
  unfolding feed_by
  taken_some a h piece c Short l = inl l
  taken_some a h piece c (Ends t) l = inr refl
  taken_some a h piece c (Piece n) l = inr refl

  progresses : (s : StreamOn A) (c : List ℕ) (room : ℕ) → Progresses d s c room
  unfolding feed_on
  progresses s c room = go s.assembly s.state.held s.state.ended s.piece (ltb room most_information) refl
    where
      go : (a : A) (held : ℕ) (e : Bool) (piece : List ℕ) (b : Bool) → ltb room most_information ≡ b → Progresses d (record { assembly = a; state = record { held = held; ended = e }; piece = piece }) c room
      go a held e piece true p = record { most = rw p (omega arith); some = λ l. rw p (inr refl) }
      go a held true piece false p = record { most = rw p (omega arith); some = λ l. rw p (inr refl) }
      go a held false piece false p = record {
        most = rw p (taken_most a (take held piece) piece c (next_of (take held piece ++ c)) refl);
        some = λ l. rw p (taken_some a (take held piece) piece c (next_of (take held piece ++ c)) l);
      }

-- ---- what feeding the bytes x piece by piece gives

module _ {A : Type 0} (d : Door A) where
  abbrev rest_of : StreamOn A → List ℕ → Run A
  rest_of s x = cond s.state.ended (record { seen = []; end = s; left = x }) (one_by_one d s.assembly (held_in s.state s.piece ++ x))

  rest_open : (a : A) (h x : List ℕ) → rest_of (keeping a h false) x ≡ one_by_one d a (h ++ x)
  rest_open a h x = ap (λ (y : List ℕ). one_by_one d a (y ++ x)) (take-append_seam h _)

  rest_ended : (s : StreamOn A) (x : List ℕ) → s.state.ended ≡ true → rest_of s x ≡ record { seen = []; end = s; left = x }
  rest_ended s x e =
      ap (λ (b : Bool). cond b (record { seen = []; end = s; left = x }) (one_by_one d s.assembly (held_in s.state s.piece ++ x))) e

  -- nothing is left to feed
  rest_end : (s : StreamOn A) → Kept s → rest_of s [] ≡ record { seen = []; end = s; left = [] }
  rest_end s (short a h e k) = rw e (rest_open a h [] ∙ ap (one_by_one d a) (append-nil h) ∙ one_short d a h k)
  rest_end s (ended a e) = rw e (rest_ended (keeping a [] true) [] refl)

  -- ---- one call, by what stands at the front

  abbrev OneCall : StreamOn A → List ℕ → List ℕ → Feeding A → Type 0
  OneCall s c rest f = (rest_of s (c ++ rest) ≡ after_seen (answers_of s f) (rest_of f.stream (drop f.taken c ++ rest))) × Kept f.stream

  module _ (a : A) (h c rest : List ℕ) (held : next_of h ≡ Short) where
    regroup : rest_of (keeping a h false) (c ++ rest) ≡ one_by_one d a ((h ++ c) ++ rest)
    regroup = rest_open a h (c ++ rest) ∙ ap (one_by_one d a) (sym (append_assoc h c rest))

    call_short : next_of (h ++ c) ≡ Short → OneCall (keeping a h false) c rest (kept_by d a h c Short)
    call_short e = (
      regroup ∙ ap (λ (l : List ℕ). one_by_one d a ((h ++ c) ++ (l ++ rest))) (sym (drop-length c)) ∙ sym (rest_open a (h ++ c) (drop (length c) c ++ rest)),
      short a (h ++ c) refl e,
    )

    fault_rest : (t : ℕ) → next_of (h ++ c) ≡ Ends t → drop 8 ((h ++ c) ++ rest) ≡ drop (8 - length h) c ++ rest
    fault_rest t e =
        let l = fault_past h c t held e in
        let k : 8 ≡ length h + (8 - length h) = omega arith in
        drop-append-le 8 (h ++ c) rest (fault_says (h ++ c) t e).long
        ∙ ap (λ (x : List ℕ). x ++ rest) (ap (λ (m : ℕ). drop m (h ++ c)) k ∙ drop-append-add h c (8 - length h))

    call_fault : (t : ℕ) → next_of (h ++ c) ≡ Ends t → OneCall (keeping a h false) c rest (kept_by d a h c (Ends t))
    call_fault t e = (
      regroup ∙ one_fault d a ((h ++ c) ++ rest) t (fault_front (h ++ c) rest t e)
          ∙ ap (λ (x : List ℕ). record { seen = end_seen ∷ []; end = keeping (ended_on d a t) [] true; left = x }) (fault_rest t e),
      ended (ended_on d a t) refl,
    )

    piece_rest : (n : ℕ) → next_of (h ++ c) ≡ Piece n → drop n ((h ++ c) ++ rest) ≡ drop (n - length h) c ++ rest
    piece_rest n e =
        let l = piece_past h c n held e in
        let k : n ≡ length h + (n - length h) = omega arith in
        drop-append-le n (h ++ c) rest (piece_bounds (h ++ c) n e).2
        ∙ ap (λ (x : List ℕ). x ++ rest) (ap (λ (m : ℕ). drop m (h ++ c)) k ∙ drop-append-add h c (n - length h))

    call_piece : (n : ℕ) → next_of (h ++ c) ≡ Piece n → OneCall (keeping a h false) c rest (kept_by d a h c (Piece n))
    call_piece n e =
        let x = d.receive a (take n (h ++ c)) in
        let front = take-append-le n (h ++ c) rest (piece_bounds (h ++ c) n e).2 in
        let behind = piece_rest n e in (
          regroup ∙ one_piece d a ((h ++ c) ++ rest) n (piece_front (h ++ c) rest n e)
              ∙ (λ i. and_then (seen_of (d.receive a (front i))) (one_by_one d (d.receive a (front i)).assembly (behind i)))
              ∙ ap (and_then (seen_of x)) (sym (rest_open x.assembly [] (drop (n - length h) c ++ rest))),
          short x.assembly [] refl nothing_held,
        )

    call_open : (v : Next) → next_of (h ++ c) ≡ v → OneCall (keeping a h false) c rest (kept_by d a h c v)
    call_open Short e = call_short e
    call_open (Ends t) e = call_fault t e
    call_open (Piece n) e = call_piece n e

  -- after a call what is held and what is left are the same bytes, and no answer is lost
  one_call : (s : StreamOn A) (c rest : List ℕ) (room : ℕ) → Kept s → most_information ≤ room → OneCall s c rest (feed_on d s c room)
  one_call s c rest room (short a h e k) l = rw (e, kept_call d a h c k room l) (call_open a h c rest k (next_of (h ++ c)) refl)
  one_call s c rest room (ended a e) l =
      rw (e, stays_ended d (keeping a [] true) c room refl l) (refl, ended a refl)

  -- a call without room changes nothing
  pub call_keeps : (s : StreamOn A) (c : List ℕ) (room : ℕ) → Kept s → Kept (feed_on d s c room).stream
  call_keeps s c room K = elim (dec_le most_information room) [
    | yes l ↦ (one_call s c [] room K l).1
    | no l ↦ rw (small_first d s c room (omega arith)) K
  ]

  -- ---- any calls

  seen_join : (xs ys : List Seen) (r : Run A) → after_seen xs (after_seen ys r) ≡ after_seen (xs ++ ys) r
  seen_join xs ys r = ap (λ (l : List Seen). record { seen = l; end = r.end; left = r.left }) (sym (append_assoc xs ys r.seen))

  -- the answers so far, and then those of what is held and left
  calls_rest : (cs : List Call) (s : StreamOn A) (x : List ℕ) → Kept s → CallsWithRoom cs
      → rest_of s x ≡ after_seen (calls_of d s x cs).seen (rest_of (calls_of d s x cs).end (calls_of d s x cs).left)
  unfolding calls_of
  calls_rest [] s x K w = refl
  calls_rest (c ∷ cs) s x K w =
      let f = feed_on d s (take c.offered x) c.room in
      let one = one_call s (take c.offered x) (drop c.offered x) c.room K w.0 in
      let same : x ≡ take c.offered x ++ drop c.offered x = sym (take-append-drop c.offered x) in
      let left : drop f.taken (take c.offered x) ++ drop c.offered x ≡ drop f.taken x =
      sym (drop-append-le f.taken (take c.offered x) (drop c.offered x) (progresses d s (take c.offered x) c.room).most) ∙ ap (drop f.taken) (sym same) in
      let r = calls_of d f.stream (drop f.taken x) cs in
      ap (rest_of s) same ∙ one.0
      ∙ ap (λ (l : List ℕ). after_seen (answers_of s f) (rest_of f.stream l)) left
      ∙ ap (after_seen (answers_of s f)) (calls_rest cs f.stream (drop f.taken x) one.1 w.1)
      ∙ seen_join (answers_of s f) r.seen (rest_of r.end r.left)

  calls_kept : (cs : List Call) (s : StreamOn A) (x : List ℕ) → Kept s → Kept (calls_of d s x cs).end
  unfolding calls_of
  calls_kept [] s x K = K
  calls_kept (c ∷ cs) s x K =
      let f = feed_on d s (take c.offered x) c.room in
      calls_kept cs f.stream (drop f.taken x) (call_keeps s (take c.offered x) c.room K)

  from_empty : (a : A) → Kept (keeping a [] false)
  from_empty a = short a [] refl nothing_held

  -- where nothing is left, or the stream has ended, that is all
  rest_stops : (r : Run A) → Kept r.end → (r.left ≡ []) ⊎ (r.end.state.ended ≡ true) → after_seen r.seen (rest_of r.end r.left) ≡ r
  rest_stops r K (inl e) =
      ap (λ (x : List ℕ). after_seen r.seen (rest_of r.end x)) e ∙ ap (after_seen r.seen) (rest_end r.end K)
      ∙ (λ i. record { seen = append-nil r.seen i; end = r.end; left = sym e i })
  rest_stops r K (inr e) =
      ap (after_seen r.seen) (rest_ended r.end r.left e) ∙ ap (λ (l : List Seen). record { seen = l; end = r.end; left = r.left }) (append-nil r.seen)

  calls_all : (a : A) (x : List ℕ) (cs : List Call) → CallsWithRoom cs
      → ((calls_of d (keeping a [] false) x cs).left ≡ []) ⊎ ((calls_of d (keeping a [] false) x cs).end.state.ended ≡ true)
      → calls_of d (keeping a [] false) x cs ≡ one_by_one d a x
  calls_all a x cs w done =
      let r = calls_of d (keeping a [] false) x cs in
      sym (rest_stops r (calls_kept cs (keeping a [] false) x (from_empty a)) done)
      ∙ sym (calls_rest cs (keeping a [] false) x (from_empty a) w)
      ∙ rest_open a [] x

  -- ---- chunks

  -- a call after which the stream has not ended, and that left some of the chunk, took a byte or more
  moves_open : (a : A) (h c : List ℕ) (v : Next) → next_of h ≡ Short → next_of (h ++ c) ≡ v → ((kept_by d a h c v).stream.state.ended || eqb (kept_by d a h c v).taken (length c)) ≡ false
      → 0 < (kept_by d a h c v).taken
  moves_open a h c Short k e m = absurd (eqb-false (length c) (length c) m refl)
  moves_open a h c (Ends t) k e m = never m
  moves_open a h c (Piece n) k e m = omega (arith, piece_past h c n k e)

  moves : (s : StreamOn A) (c : List ℕ) (room : ℕ) → Kept s → most_information ≤ room → ((feed_on d s c room).stream.state.ended || eqb (feed_on d s c room).taken (length c)) ≡ false
      → 0 < (feed_on d s c room).taken
  moves s c room (short a h e k) l = rw (e, kept_call d a h c k room l) (moves_open a h c (next_of (h ++ c)) k refl)
  moves s c room (ended a e) l = rw (e, stays_ended d (keeping a [] true) c room refl l) (λ m. never m)

  abbrev Fed : StreamOn A → List ℕ → List ℕ → Run A → Type 0
  Fed s c rest r = (rest_of s (c ++ rest) ≡ after_seen r.seen (rest_of r.end (r.left ++ rest))) × Kept r.end × ((r.left ≡ []) ⊎ (r.end.state.ended ≡ true))

  either : (b : Bool) (m n : ℕ) → (b || eqb m n) ≡ true → (m ≡ n) ⊎ (b ≡ true)
  either true m n e = inr refl
  either false m n e = inl (eqb-true m n e)

  -- the last call of a chunk
  last_call_lem : (s : StreamOn A) (c rest : List ℕ) (f : Feeding A) → OneCall s c rest f → (f.taken ≡ length c) ⊎ (f.stream.state.ended ≡ true) → Fed s c rest (last_call s c f)
  last_call_lem s c rest f one (inl e) = (one.0, one.1, inl (ap (λ (n : ℕ). drop n c) e ∙ drop-length c))
  last_call_lem s c rest f one (inr e) = (one.0, one.1, inr e)

  chunk_fed : (k : ℕ) (s : StreamOn A) (c rest : List ℕ) (room : ℕ) → Kept s → most_information ≤ room → length c ≤ k → Fed s c rest (chunk_in d k s c room)
  unfolding chunk_in
  chunk_fed zero s c rest room K l n =
      last_call_lem s c rest (feed_on d s c room) (one_call s c rest room K l) (inl (omega (arith, (progresses d s c room).most)))
  chunk_fed (suc k) s c rest room K l n = go (λ t x. chunk_fed k t x) (f.stream.state.ended || eqb f.taken (length c)) refl
    where
      f : Feeding A
      f = feed_on d s c room

      one : OneCall s c rest f
      one = one_call s c rest room K l

      go : ((t : StreamOn A) (x rest : List ℕ) (room : ℕ) → Kept t → most_information ≤ room → length x ≤ k → Fed t x rest (chunk_in d k t x room))
          → (b : Bool) → (f.stream.state.ended || eqb f.taken (length c)) ≡ b → Fed s c rest (elim b [
            | true ↦ last_call s c f
            | false ↦ after_seen (answers_of s f) (chunk_in d k f.stream (drop f.taken c) room)
          ])
      go later true e = last_call_lem s c rest f one (either f.stream.state.ended f.taken (length c) e)
      go later false e =
          let r = chunk_in d k f.stream (drop f.taken c) room in
          let m = later f.stream (drop f.taken c) rest room one.1 l (omega (arith, moves s c room K l e, length-drop f.taken c, n)) in
          (one.0 ∙ ap (after_seen (answers_of s f)) m.0 ∙ seen_join (answers_of s f) r.seen (rest_of r.end (r.left ++ rest)), m.1, m.2)

  then_rest : (r : Run A) (x : List ℕ) (t : Run A) → t ≡ rest_of r.end x → (r.left ≡ []) ⊎ (r.end.state.ended ≡ true)
      → then_run r t ≡ after_seen r.seen (rest_of r.end (r.left ++ x))
  then_rest r x t e (inl z) =
      let u = rest_of r.end x in
      ap (then_run r) e ∙ ap (λ (y : List ℕ). record { seen = r.seen ++ u.seen; end = u.end; left = y ++ u.left }) z
      ∙ ap (λ (y : List ℕ). after_seen r.seen (rest_of r.end (y ++ x))) (sym z)
  then_rest r x t e (inr z) =
      ap (then_run r) (e ∙ rest_ended r.end x z) ∙ ap (after_seen r.seen) (sym (rest_ended r.end (r.left ++ x) z))

  chunks_fed : (cs : List Chunk) (s : StreamOn A) → Kept s → WithRoom cs → run_of d s cs ≡ rest_of s (joined cs)
  unfolding run_of
  chunks_fed [] s K w = sym (rest_end s K)
  chunks_fed (c ∷ cs) s K w =
      let one = chunk_fed (length c.bytes) s c.bytes (joined cs) c.room K w.0 (omega arith) in
      then_rest (chunk_of d s c) (joined cs) (run_of d (chunk_of d s c).end cs) (chunks_fed cs (chunk_of d s c).end one.1 w.1) one.2 ∙ sym one.0

  cut_run : (a : A) (cs : List Chunk) → WithRoom cs → run_of d (keeping a [] false) cs ≡ one_by_one d a (joined cs)
  cut_run a cs w = chunks_fed cs (keeping a [] false) (from_empty a) w ∙ rest_open a [] (joined cs)

  -- ---- a length field that ends the stream

  ends_open : (a : A) (h c : List ℕ) (v : Next) → next_of h ≡ Short → next_of (h ++ c) ≡ v → (kept_by d a h c v).stream.state.ended ≡ true → length h + (kept_by d a h c v).taken ≡ 8
  ends_open a h c Short k e z = never (sym z)
  ends_open a h c (Ends t) k e z = omega (arith, fault_past h c t k e)
  ends_open a h c (Piece n) k e z = never (sym z)

  ends : (a : A) (h c : List ℕ) (room : ℕ) → next_of h ≡ Short → most_information ≤ room
      → (feed_on d (keeping a h false) c room).stream.state.ended ≡ true → length h + (feed_on d (keeping a h false) c room).taken ≡ 8
  ends a h c room k l = rw (kept_call d a h c k room l) (ends_open a h c (next_of (h ++ c)) k refl)

-- ---- the claims

pub cut_anywhere : CutAnywhere
cut_anywhere A d a cs w = cut_run d a cs w

pub cuts_agree : CutsAgree
cuts_agree A d a cs ds v w e = cut_run d a cs v ∙ ap (one_by_one d a) e ∙ sym (cut_run d a ds w)

pub any_calls : AnyCalls
any_calls A d a x cs w done = calls_all d a x cs w done

pub calls_keep : CallsKeep
calls_keep A d a x cs = calls_kept d cs (keeping a [] false) x (from_empty d a)

pub reset_empties : ResetEmpties
unfolding empty_stream
reset_empties = refl

pub always_progresses : AlwaysProgresses
always_progresses A d s c room = progresses d s c room

pub small_output_first : SmallFirst
small_output_first A d s c room l = small_first d s c room l

pub ended_stays : StaysEnded
ended_stays A d s c room e l = stays_ended d s c room e l

pub ends_at_field : EndsAtField
ends_at_field A d a h c room k l e = ends d a h c room k l e
