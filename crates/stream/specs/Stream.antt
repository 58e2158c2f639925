-- Messages from a byte stream (document 02, order 8): "takes each piece by its length field and passes it to the assembler".
-- In this order: what a stream keeps; where the next piece ends; the door that a piece goes through; one call; the stream by value.
use Rattle.std.specs.Prelude.{ℕ, ◌+◌, ◌-◌, Bool, true, false, not, cond, ◌||◌, List, [], ◌++◌, ltb, eqb, length, take, replicate}
use Rattle.std.proofs.lemmas.List.Edits.{sets}
use Rattle.wire.specs.Numbers.{u32_at}
use Rattle.wire.specs.Output.{over}
use Rattle.protocol.specs.Refusal.{refusal, wrong_length, output_too_small}
use Rattle.protocol.specs.MessageType.{is_whole}
use Rattle.protocol.specs.declared.Refusal.{Refusal}
use Rattle.message.specs.Message.{whole_length, most_information, most_transfer}
use Rattle.assembler.specs.Assembly.{assembly_of, empty}
use Rattle.assembler.specs.Door.{Receiving, receive_of}
use Rattle.assembler.specs.declared.Progress.{Progress}
use Rattle.assembler.specs.declared.Assembly.{Assembly}
use Rattle.assembler.specs.declared.door.Received.{Received}
use Rattle.assembler.specs.declared.door.ReceiptInPlace.{ReceiptInPlace}
use Rattle.stream.specs.declared.State.{State}
use Rattle.stream.specs.declared.Stream.{Stream}
use Rattle.stream.specs.declared.Fed.{Fed}
use Rattle.stream.specs.declared.FedInPlace.{FedInPlace}
use Rattle.stream.specs.declared.Said.{Said}
use Rattle.stream.specs.declared.Said.TheVariants.{Nothing, Piece, Ended, Refused}
use Rattle.stream.specs.declared.front.Next.{Next}
use Rattle.stream.specs.declared.front.Next.TheVariants as next
use Rattle.std.specs.Prelude.{Result}

-- ---- what a stream keeps: its assembly, and of an unfinished piece the bytes held, at the front of a buffer of 4,096

-- A is an assembly by value, or memory that holds one: what is said here is said of both
pub record StreamOn (A : Type 0) : Type 0 where
  pub assembly : A
  pub state : State
  pub piece : List ℕ

abbrev pub state_of : ℕ → Bool → State
state_of held ended = record { held = held; ended = ended }

abbrev pub held_in : State → List ℕ → List ℕ
held_in s piece = take s.held piece

-- the stream that holds the bytes h, zero past them
abbrev pub keeping : {A : Type 0} → A → List ℕ → Bool → StreamOn A
keeping a h ended = record { assembly = a; state = state_of (length h) ended; piece = h ++ replicate (most_transfer - length h) 0 }

-- ---- where the next piece ends

-- a length field n beside the type t that ends the stream: "under 20 or over 4,096"; "the whole messages of 01 are taken by their types first"
unfoldable pub wrong_start : ℕ → ℕ → Bool
wrong_start t n = cond (is_whole t) (not (eqb n (whole_length t))) (ltb n 20 || ltb most_transfer n)

-- what stands at the front of the bytes x: a piece that is still short, a length field that ends the stream beside the type t, or a piece of n bytes
unfoldable pub next_of : List ℕ → Next
next_of x =
    cond (ltb (length x) 8) next.Short
    (cond (wrong_start (u32_at x 0) (u32_at x 4)) (next.Ends (u32_at x 0))
    (cond (ltb (length x) (u32_at x 4)) next.Short (next.Piece (u32_at x 4))))

-- ---- the door that a piece goes through: what is left of the assembly, what the piece is, and the information of a complete message

pub record Passing (A : Type 0) : Type 0 where
  pub assembly : A
  pub received : Result Received Refusal
  pub information : List ℕ

pub record Door (A : Type 0) : Type 0 where
  pub receive : A → List ℕ → Passing A
  pub emptied : A → A

-- ---- one call

pub record Feeding (A : Type 0) : Type 0 where
  pub stream : StreamOn A
  pub said : Said
  pub information : List ℕ
  pub taken : ℕ

-- "output under 4,096 bytes is first of all 11 at 4,096"
abbrev pub small : Refusal
small = refusal output_too_small most_information

-- "a length fault here is 2 at 4"
abbrev pub length_fault : Refusal
length_fault = refusal wrong_length 4

-- nothing is taken and nothing changes
abbrev pub untaken : {A : Type 0} → StreamOn A → Said → Feeding A
untaken s x = record { stream = s; said = x; information = []; taken = 0 }

-- zeros over the first n bytes of the buffer
abbrev pub wiped : ℕ → List ℕ → List ℕ
wiped n piece = over (replicate n 0) piece

-- "they don't touch the assembly": a whole message's length fault; any other empties it
abbrev pub ended_on : {A : Type 0} → Door A → A → ℕ → A
ended_on d a t = cond (is_whole t) a (d.emptied a)

-- a piece that went through the door, of which the call took so many bytes
abbrev pub passed_on : {A : Type 0} → Passing A → List ℕ → ℕ → Feeding A
passed_on x piece taken = record {
  stream = record { assembly = x.assembly; state = state_of 0 false; piece = piece };
  said = Piece x.received;
  information = x.information;
  taken = taken;
}

-- h is held in the buffer and c is fed: "a call stops at its first answer (a piece still short is none) and says how many bytes it took"; "an ending refusal
-- comes once the length field's last byte is taken". A piece that is all in the chunk leaves the buffer as it was
unfoldable pub feed_by : {A : Type 0} → Door A → A → List ℕ → List ℕ → List ℕ → Next → Feeding A
feed_by d a h piece c next.Short = record {
  stream = record { assembly = a; state = state_of (length h + length c) false; piece = sets piece (length h) c };
  said = Nothing;
  information = [];
  taken = length c;
}
feed_by d a h piece c (next.Ends t) = record {
  stream = record { assembly = ended_on d a t; state = state_of 0 true; piece = wiped (length h) piece };
  said = Ended length_fault;
  information = [];
  taken = 8 - length h;
}
feed_by d a h piece c (next.Piece n) =
    passed_on (d.receive a (take n (h ++ c))) (cond (eqb (length h) 0) piece (wiped n piece)) (n - length h)

-- "every later feed takes nothing and repeats the refusal"
unfoldable pub feed_on : {A : Type 0} → Door A → StreamOn A → List ℕ → ℕ → Feeding A
feed_on d s c room =
    cond (ltb room most_information) (untaken s (Refused small))
    (cond s.state.ended (untaken s (Ended length_fault))
    (feed_by d s.assembly (held_in s.state s.piece) s.piece c (next_of (held_in s.state s.piece ++ c))))

-- ---- the stream by value: pieces go through the door of document 01, with room for any message

abbrev pub passing : Receiving → Passing Assembly
passing x = record { assembly = x.assembly; received = x.received; information = x.information }

abbrev pub value_door : Door Assembly
value_door = record { receive = λ a p. passing (receive_of a p most_information); emptied = λ a. empty }

abbrev pub on_value : Stream → StreamOn Assembly
on_value s = record { assembly = s.assembly; state = s.state; piece = s.piece }

unfoldable pub feed_of : Stream → List ℕ → ℕ → Feeding Assembly
feed_of s c room = feed_on value_door (on_value s) c room

-- "a reset empties all"
unfoldable pub empty_stream : Stream
empty_stream = record { assembly = empty; state = state_of 0 false; piece = replicate most_transfer 0 }

-- what the two forms of a feed return of it
abbrev pub by_value : Feeding Assembly → Fed
by_value f = record {
  stream = record { assembly = f.stream.assembly; state = f.stream.state; piece = f.stream.piece };
  said = f.said;
  taken = f.taken;
}

abbrev pub in_place : Feeding Assembly → FedInPlace
in_place f = record { progress = f.stream.assembly.progress; state = f.stream.state; said = f.said; taken = f.taken }

-- the stream in the parts that a call in place is given
abbrev pub placed : Progress → List ℕ → State → List ℕ → Stream
placed p bytes s piece = record { assembly = assembly_of p bytes; state = s; piece = piece }

-- the answers of its last two steps
abbrev pub ended_in_place : Assembly → ℕ → FedInPlace
ended_in_place a taken = record { progress = a.progress; state = state_of 0 true; said = Ended length_fault; taken = taken }

abbrev pub passed_in_place : ReceiptInPlace → ℕ → FedInPlace
passed_in_place x taken = record { progress = x.progress; state = state_of 0 false; said = Piece x.received; taken = taken }
