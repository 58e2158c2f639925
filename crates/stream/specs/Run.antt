-- Runs of a stream, and what is claimed of them: "however it is cut, a stream fed from empty with room gives the answers of its pieces one by
-- one, repeated refusals aside, and the same end state once all is fed or it ends".
-- Each claim is about any door, so about streams by value and in lent memory. In this order: one call's answers; a run over chunks; a run over any
-- calls; the claims about runs; the claims about one call.
use Rattle.std.specs.Prelude.{ℕ, zero, suc, ◌+◌, ◌≤◌, ◌<◌, ◌≡◌, ◌⊎◌, Bool, true, false, cond, ◌||◌, List, [], ◌∷◌, ◌++◌, eqb, length, take, drop}
use Rattle.message.specs.Message.{most_information}
use Rattle.stream.specs.declared.Said.{Said}
use Rattle.stream.specs.declared.Said.TheVariants.{Nothing, Piece, Ended, Refused}
use Rattle.stream.specs.declared.front.Next.TheVariants as next
use Rattle.assembler.specs.Assembly.{empty}
use Rattle.stream.specs.Stream.{StreamOn, keeping, next_of, Door, Feeding, small, length_fault, untaken, feed_on, on_value, empty_stream}
use Rattle.stream.specs.OneByOne.{Seen, Run, one_by_one}

-- ---- one call's answers: none while a piece is short, and a refusal repeated is aside

abbrev pub is_answer : Said → Bool
is_answer Nothing = false
is_answer (Piece x) = true
is_answer (Ended r) = true
is_answer (Refused r) = true

abbrev pub answers_of : {A : Type 0} → StreamOn A → Feeding A → List Seen
answers_of s f =
    cond s.state.ended [] (cond (is_answer f.said) (record { said = f.said; information = f.information } ∷ []) [])

abbrev pub after_seen : {A : Type 0} → List Seen → Run A → Run A
after_seen xs r = record { seen = xs ++ r.seen; end = r.end; left = r.left }

-- ---- chunks, each with the room in the output: fed again from where the last call stopped until all of it is taken or the stream ended

pub record Chunk : Type 0 where
  pub bytes : List ℕ
  pub room : ℕ

-- a call after which no other is made with this chunk
abbrev pub last_call : {A : Type 0} → StreamOn A → List ℕ → Feeding A → Run A
last_call s c f = record { seen = answers_of s f; end = f.stream; left = drop f.taken c }

-- in at most so many further calls
unfoldable pub chunk_in : {A : Type 0} → Door A → ℕ → StreamOn A → List ℕ → ℕ → Run A
chunk_in d zero s c room = last_call s c (feed_on d s c room)
chunk_in d (suc k) s c room =
    let f = feed_on d s c room in
    elim (f.stream.state.ended || eqb f.taken (length c)) [
      | true ↦ last_call s c f
      | false ↦ after_seen (answers_of s f) (chunk_in d k f.stream (drop f.taken c) room)
    ]

-- each call takes a byte or more, so there are no more calls than bytes
abbrev pub chunk_of : {A : Type 0} → Door A → StreamOn A → Chunk → Run A
chunk_of d s c = chunk_in d (length c.bytes) s c.bytes c.room

abbrev pub then_run : {A : Type 0} → Run A → Run A → Run A
then_run r t = record { seen = r.seen ++ t.seen; end = t.end; left = r.left ++ t.left }

unfoldable pub run_of : {A : Type 0} → Door A → StreamOn A → List Chunk → Run A
run_of d s [] = record { seen = []; end = s; left = [] }
run_of d s (c ∷ cs) = then_run (chunk_of d s c) (run_of d (chunk_of d s c).end cs)

abbrev pub joined : List Chunk → List ℕ
joined [] = []
joined (c ∷ cs) = c.bytes ++ joined cs

abbrev pub WithRoom : List Chunk → Type 0
WithRoom [] = Unit
WithRoom (c ∷ cs) = (most_information ≤ c.room) × WithRoom cs

-- ---- any calls on the stream's bytes x: each is offered as many of those left as its caller likes

pub record Call : Type 0 where
  pub offered : ℕ
  pub room : ℕ

unfoldable pub calls_of : {A : Type 0} → Door A → StreamOn A → List ℕ → List Call → Run A
calls_of d s x [] = record { seen = []; end = s; left = x }
calls_of d s x (c ∷ cs) =
    let f = feed_on d s (take c.offered x) c.room in
    after_seen (answers_of s f) (calls_of d f.stream (drop f.taken x) cs)

abbrev pub CallsWithRoom : List Call → Type 0
CallsWithRoom [] = Unit
CallsWithRoom (c ∷ cs) = (most_information ≤ c.room) × CallsWithRoom cs

-- ---- whole runs, from the assembly a with nothing held: what is seen, every byte that the stream keeps, and every byte that is not taken

-- a run over chunks is the pieces one by one
abbrev pub CutAnywhere : Type 1
CutAnywhere = (A : Type 0) (d : Door A) (a : A) (cs : List Chunk) → WithRoom cs → run_of d (keeping a [] false) cs ≡ one_by_one d a (joined cs)

-- so two cuts of the same bytes agree
abbrev pub CutsAgree : Type 1
CutsAgree = (A : Type 0) (d : Door A) (a : A) (cs ds : List Chunk) → WithRoom cs → WithRoom ds → joined cs ≡ joined ds
    → run_of d (keeping a [] false) cs ≡ run_of d (keeping a [] false) ds

-- any calls: once all is fed or the stream ended, the same
abbrev pub AnyCalls : Type 1
AnyCalls = (A : Type 0) (d : Door A) (a : A) (x : List ℕ) (cs : List Call) → CallsWithRoom cs
    → ((calls_of d (keeping a [] false) x cs).left ≡ []) ⊎ ((calls_of d (keeping a [] false) x cs).end.state.ended ≡ true)
    → calls_of d (keeping a [] false) x cs ≡ one_by_one d a x

-- a reset by value leaves such a stream: "a reset empties all"
abbrev pub ResetEmpties : Type 0
ResetEmpties = on_value empty_stream ≡ keeping empty [] false

-- ---- one call, on any stream

-- a byte or more is taken or there is an answer, unless the chunk is empty; and no more than the chunk is taken
pub record Progresses {A : Type 0} (d : Door A) (s : StreamOn A) (c : List ℕ) (room : ℕ) : Type 0 where
  pub most : (feed_on d s c room).taken ≤ length c
  pub some : 0 < length c → (0 < (feed_on d s c room).taken) ⊎ (is_answer (feed_on d s c room).said ≡ true)

abbrev pub AlwaysProgresses : Type 1
AlwaysProgresses = (A : Type 0) (d : Door A) (s : StreamOn A) (c : List ℕ) (room : ℕ) → Progresses d s c room

-- "output under 4,096 bytes is first of all 11 at 4,096, with nothing taken"
abbrev pub SmallFirst : Type 1
SmallFirst = (A : Type 0) (d : Door A) (s : StreamOn A) (c : List ℕ) (room : ℕ) → room < most_information → feed_on d s c room ≡ untaken s (Refused small)

-- "every later feed takes nothing and repeats the refusal"
abbrev pub StaysEnded : Type 1
StaysEnded = (A : Type 0) (d : Door A) (s : StreamOn A) (c : List ℕ) (room : ℕ) → s.state.ended ≡ true → most_information ≤ room → feed_on d s c room ≡ untaken s (Ended length_fault)

-- "an ending refusal comes once the length field's last byte is taken": of a stream that holds the bytes h of an unfinished piece
abbrev pub EndsAtField : Type 1
EndsAtField = (A : Type 0) (d : Door A) (a : A) (h c : List ℕ) (room : ℕ) → next_of h ≡ next.Short → most_information ≤ room
    → (feed_on d (keeping a h false) c room).stream.state.ended ≡ true → length h + (feed_on d (keeping a h false) c room).taken ≡ 8

-- what calls with room leave: bytes of an unfinished piece are held, or the stream has ended and holds none; zero past them
pub data Kept {A : Type 0} (s : StreamOn A) : Type 0 where
  short : (a : A) (h : List ℕ) → s ≡ keeping a h false → next_of h ≡ next.Short → Kept s
  ended : (a : A) → s ≡ keeping a [] true → Kept s

abbrev pub CallsKeep : Type 1
CallsKeep = (A : Type 0) (d : Door A) (a : A) (x : List ℕ) (cs : List Call) → Kept (calls_of d (keeping a [] false) x cs).end
