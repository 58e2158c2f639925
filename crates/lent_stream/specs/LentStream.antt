-- A stream in lent memory (document 02, order 8): 4,104 bytes of its own, and beside them the memory of its assembly, which stands in crate lent.
-- In this order: places; emptying; which memory calls can have left; the door in memory; feeding.
-- Memory that holds no stream which calls can have left is refused, 10 at the field's place, and stays as it was. Of the buffer only the bytes held are looked at.
use Rattle.std.specs.Prelude.{ℕ, Bool, true, false, not, cond, ◌&&◌, List, [], ◌∷◌, ◌++◌, ltb, eqb, length, take, drop, replicate, Ok, Err}
use Rattle.wire.specs.Numbers.{u32_at, digits}
use Rattle.wire.specs.Output.{over}
use Rattle.protocol.specs.Refusal.{contradiction, output_too_small}
use Rattle.protocol.specs.Verdict.{Rule, rule, judge, no_fault, Verdict}
use Rattle.message.specs.Message.{most_information}
use Rattle.lent.specs.LentAssembly.{assembly_size, emptied, Receiving, receive_in}
use Rattle.stream.specs.Stream.{StreamOn, state_of, next_of, Passing, Door, Feeding, length_fault, feed_on}
use Rattle.stream.specs.declared.Said.{Said}
use Rattle.stream.specs.declared.Said.TheVariants.{Ended, Refused}
use Rattle.stream.specs.declared.front.Next.{Next}
use Rattle.stream.specs.declared.front.Next.TheVariants as next
use Rattle.lent_stream.specs.declared.FedLent.{FedLent}

-- ---- places: how many bytes are held at 0, whether a length field ended the stream at 4, the buffer from 8 on

abbrev pub stream_size : ℕ
stream_size = 4104

abbrev pub piece_in : List ℕ → List ℕ
piece_in m = take 4096 (drop 8 m)

-- the stream that two memories hold, one that has not ended
abbrev pub open_in : List ℕ → List ℕ → StreamOn (List ℕ)
open_in m a = record { assembly = a; state = state_of (u32_at m 0) false; piece = piece_in m }

unfoldable pub state_bytes : ℕ → ℕ → List ℕ
state_bytes held ended = digits 4 held ++ digits 4 ended

-- ---- emptying: 4,104 zeros, and the assembly's

pub record ResetIn : Type 0 where
  pub verdict : Verdict
  pub memory : List ℕ
  pub assembly : List ℕ

-- room for the stream's own memory, and for its assembly's
abbrev pub room_rules : ℕ → ℕ → List Rule
room_rules own lent = rule (ltb own stream_size) output_too_small stream_size ∷ rule (ltb lent assembly_size) output_too_small assembly_size ∷ []

abbrev pub reset_by : Verdict → List ℕ → List ℕ → ResetIn
reset_by (Ok _) m a = record { verdict = no_fault; memory = over (replicate stream_size 0) m; assembly = (emptied a).memory }
reset_by (Err r) m a = record { verdict = Err r; memory = m; assembly = a }

unfoldable pub reset_in : List ℕ → List ℕ → ResetIn
reset_in m a = reset_by (judge (room_rules (length m) (length a))) m a

-- ---- which memory calls can have left

-- an ended stream holds no bytes
unfoldable pub ended_beside : ℕ → ℕ → Bool
ended_beside ended held = eqb ended 1 && not (eqb held 0)

abbrev pub is_short : Next → Bool
is_short next.Short = true
is_short (next.Ends t) = false
is_short (next.Piece n) = false

-- the first bytes of the buffer, so many as are held, are those of an unfinished piece
unfoldable pub is_unfinished : ℕ → List ℕ → Bool
is_unfinished held piece = is_short (next_of (take held piece))

-- fewer are held than the longest piece has; the place of the last rule is that of the length field of what is held
abbrev pub stream_rules : List ℕ → List Rule
stream_rules m =
    rule (ltb 4095 (u32_at m 0)) contradiction 0
    ∷ rule (ltb 1 (u32_at m 4)) contradiction 4
    ∷ rule (ended_beside (u32_at m 4) (u32_at m 0)) contradiction 4
    ∷ rule (not (is_unfinished (u32_at m 0) (drop 8 m))) contradiction 12
    ∷ []

-- "in lent memory, 11 for the output comes before a fault of the memory"
abbrev pub feed_rules : List ℕ → ℕ → ℕ → List Rule
feed_rules m lent room = rule (ltb room most_information) output_too_small most_information ∷ (room_rules (length m) lent ++ stream_rules m)

-- ---- the door in memory, with room for any message

abbrev pub passing_in : Receiving → Passing (List ℕ)
passing_in x = record { assembly = x.memory; received = x.received; information = x.information }

abbrev pub memory_door : Door (List ℕ)
memory_door = record { receive = λ a p. passing_in (receive_in a p most_information); emptied = λ a. (emptied a).memory }

-- ---- feeding the chunk c, with room for so many bytes in the output

pub record FeedingIn : Type 0 where
  pub memory : List ℕ
  pub assembly : List ℕ
  pub fed : FedLent
  pub information : List ℕ

abbrev pub fed_lent : Said → ℕ → FedLent
fed_lent x n = record { said = x; taken = n }

abbrev pub ended_fed : ℕ → FedLent
ended_fed n = fed_lent (Ended length_fault) n

-- nothing is taken and nothing changes
abbrev pub unfed_in : List ℕ → List ℕ → Said → FeedingIn
unfed_in m a x = record { memory = m; assembly = a; fed = fed_lent x 0; information = [] }

-- the memory that holds a stream; what is lent past its end stays as it was
unfoldable pub stream_bytes : StreamOn (List ℕ) → List ℕ
stream_bytes s = state_bytes s.state.held (cond s.state.ended 1 0) ++ s.piece

unfoldable pub stored_in : List ℕ → Feeding (List ℕ) → FeedingIn
stored_in m f = record {
  memory = over (stream_bytes f.stream) m;
  assembly = f.stream.assembly;
  fed = fed_lent f.said f.taken;
  information = f.information;
}

-- a stream that has not ended
unfoldable pub fed_in : List ℕ → List ℕ → List ℕ → ℕ → FeedingIn
fed_in m a c room = stored_in m (feed_on memory_door (open_in m a) c room)

abbrev pub fed_by : Verdict → List ℕ → List ℕ → List ℕ → ℕ → FeedingIn
fed_by (Ok _) m a c room = cond (eqb (u32_at m 4) 1) (unfed_in m a (Ended length_fault)) (fed_in m a c room)
fed_by (Err r) m a c room = unfed_in m a (Refused r)

unfoldable pub feed_in : List ℕ → List ℕ → List ℕ → ℕ → FeedingIn
feed_in m a c room = fed_by (judge (feed_rules m (length a) room)) m a c room
