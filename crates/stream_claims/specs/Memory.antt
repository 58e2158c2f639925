-- Streams in lent memory (document 02, order 8). A call of `feed_in` is one of cvr_stream_feed, `reset_in` is cvr_stream_reset.
-- In this order: a run in memory; that it is the pieces one by one, every byte of both memories included; that its answers are those by value; which memory is taken;
-- that a call takes a byte or refuses. Proved in proofs/Lent, proofs/AsByValue, proofs/Left and proofs/Moves.
use Rattle.std.specs.Prelude.{ℕ, ◌≤◌, ◌<◌, ◌≡◌, ◌⊎◌, Bool, true, false, cond, List, [], ◌∷◌, ◌++◌, eqb, length, take, drop}
use Rattle.wire.specs.Numbers.{u32_at}
use Rattle.wire.specs.Output.{over}
use Rattle.protocol.specs.Verdict.{judge, no_fault}
use Rattle.assembler.specs.Assembly.{empty}
use Rattle.lent.specs.LentAssembly.{assembly_size, emptied}
use Rattle.lent_claims.specs.Given.{Bytes}
use Rattle.lent_claims.specs.AssemblyMemory.{Holds}
use Rattle.assembler.specs.declared.Assembly.{Assembly}
use Rattle.stream.specs.declared.Said.{Said}
use Rattle.stream.specs.declared.Said.TheVariants as said
use Rattle.stream.specs.Stream.{StreamOn, held_in, keeping, value_door}
use Rattle.stream.specs.OneByOne.{Seen, Run, one_by_one}
use Rattle.stream.specs.Run.{is_answer, Call, calls_of, CallsWithRoom}
use Rattle.lent_stream.specs.LentStream.{stream_size, reset_in, stream_rules, memory_door, FeedingIn, stream_bytes, feed_in}

-- ---- a run: each call is given both memories as the one before left them, and offered as many of the bytes left as its caller likes

pub record Lent : Type 0 where
  pub own : List ℕ
  pub assembly : List ℕ

pub record LentRun : Type 0 where
  pub seen : List Seen
  pub end : Lent
  pub left : List ℕ

-- none while a piece is short, and a refusal repeated is aside
abbrev pub answers_in : Lent → FeedingIn → List Seen
answers_in m f =
    cond (eqb (u32_at m.own 4) 1) [] (cond (is_answer f.fed.said) (record { said = f.fed.said; information = f.information } ∷ []) [])

unfoldable pub calls_in : Lent → List ℕ → List Call → LentRun
calls_in m x [] = record { seen = []; end = m; left = x }
calls_in m x (c ∷ cs) =
    let f = feed_in m.own m.assembly (take c.offered x) c.room in
    let r = calls_in (record { own = f.memory; assembly = f.assembly }) (drop f.fed.taken x) cs in
    record { seen = answers_in m f ++ r.seen; end = r.end; left = r.left }

-- both memories after a reset
abbrev pub reset_lent : Lent → Lent
reset_lent m = record { own = (reset_in m.own m.assembly).memory; assembly = (reset_in m.own m.assembly).assembly }

-- ---- the pieces one by one, through the door in memory: once all is fed or the stream ended, the answers, every byte of both memories and every byte not taken

abbrev pub stored_run : List ℕ → Run (List ℕ) → LentRun
stored_run m r = record { seen = r.seen; end = record { own = over (stream_bytes r.end) m; assembly = r.end.assembly }; left = r.left }

abbrev pub MemoryAnyCalls : Type 0
MemoryAnyCalls = (m : Lent) → stream_size ≤ length m.own → assembly_size ≤ length m.assembly → (x : List ℕ) (cs : List Call) → CallsWithRoom cs
    → ((calls_in (reset_lent m) x cs).left ≡ []) ⊎ (eqb (u32_at (calls_in (reset_lent m) x cs).end.own 4) 1 ≡ true)
    → calls_in (reset_lent m) x cs ≡ stored_run m.own (one_by_one memory_door (emptied m.assembly).memory x)

-- ---- through the door in memory the pieces of any bytes are answered as by value, and the memory holds the assembly that is left

pub record AsByValue (a x : List ℕ) : Type 0 where
  pub seen : (one_by_one memory_door (emptied a).memory x).seen ≡ (one_by_one value_door empty x).seen
  pub held : Holds (one_by_one memory_door (emptied a).memory x).end.assembly (one_by_one value_door empty x).end.assembly

abbrev pub MemoryAsByValue : Type 0
MemoryAsByValue = (a : List ℕ) → assembly_size ≤ length a → (x : List ℕ) → Bytes x → AsByValue a x

-- ---- memory is taken exactly where calls can have left it: its numbers and the bytes held are those of a stream by value after some calls with room; the bytes
-- ---- past them are not looked at

abbrev pub end_of : List ℕ → List Call → StreamOn Assembly
end_of x cs = (calls_of value_door (keeping empty [] false) x cs).end

pub record LeftByCalls (m : List ℕ) : Type 0 where
  pub bytes : List ℕ
  pub calls : List Call
  pub roomy : CallsWithRoom calls
  pub held : u32_at m 0 ≡ (end_of bytes calls).state.held
  pub ended : u32_at m 4 ≡ cond (end_of bytes calls).state.ended 1 0
  pub front : take (u32_at m 0) (drop 8 m) ≡ held_in (end_of bytes calls).state (end_of bytes calls).piece

abbrev pub StreamTakenExactly : Type 0
StreamTakenExactly = (m : List ℕ) → stream_size ≤ length m → (judge (stream_rules m) ≡ no_fault → LeftByCalls m) × (LeftByCalls m → judge (stream_rules m) ≡ no_fault)

-- ---- no loop spins that is left where nothing is taken: given a byte or more, a call takes one at least, or refuses; whatever the two memories hold

abbrev pub is_refusal : Said → Bool
is_refusal said.Nothing = false
is_refusal (said.Piece x) = false
is_refusal (said.Ended r) = true
is_refusal (said.Refused r) = true

abbrev pub MemoryProgresses : Type 0
MemoryProgresses = (m a c : List ℕ) (room : ℕ) → 0 < length c → (0 < (feed_in m a c room).fed.taken) ⊎ (is_refusal (feed_in m a c room).fed.said ≡ true)
