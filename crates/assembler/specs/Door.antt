-- The door for a received piece (document 01, "Messages and fragments"): whole messages by their types, which touch no assembly; any other piece is a fragment.
-- In this order: what a whole message shows; what a fed piece shows; any piece; a run of pieces.
use Rattle.std.specs.Prelude.{ℕ, ◌≤◌, ◌≡◌, cond, List, [], ◌∷◌, length}
use Rattle.wire.specs.Numbers.{u32_at}
use Rattle.message.specs.Message.{whole_of, is_whole_piece}
use Rattle.message.specs.declared.Whole.{Whole}
use Rattle.assembler.specs.Assembly.{Step, step_of}
use Rattle.assembler.specs.Run.{Piece}
use Rattle.assembler.specs.declared.Assembly.{Assembly}
use Rattle.assembler.specs.declared.Answer.{Answer}
use Rattle.assembler.specs.declared.Answer.TheVariants as answer
use Rattle.assembler.specs.declared.door.Received.{Received}
use Rattle.assembler.specs.declared.door.Received.TheVariants as received
use Rattle.assembler.specs.declared.door.Receipt.{Receipt}
use Rattle.assembler.specs.declared.door.ReceiptInPlace.{ReceiptInPlace}
use Rattle.std.specs.Prelude.{Ok, Err, Result}
use Rattle.protocol.specs.declared.Refusal.{Refusal}

-- ---- a whole message: its type, its transaction and its one number

abbrev pub shown_by : (Result Whole Refusal) → Result Received Refusal
shown_by (Ok message) = Ok (received.Whole message.message_type message.transaction message.word)
shown_by (Err r) = Err r

unfoldable pub whole_shown : List ℕ → Result Received Refusal
whole_shown s = shown_by (whole_of s)

-- ---- a piece that was fed: where more is to come, its own type and transaction

unfoldable pub fed_shown : List ℕ → (Result Answer Refusal) → Result Received Refusal
fed_shown s (Ok (answer.Pending dropped)) = Ok (received.Pending (u32_at s 0) (u32_at s 8) dropped)
fed_shown s (Ok (answer.Complete m n dropped)) = Ok (received.Complete m n dropped)
fed_shown s (Err r) = Err r

-- ---- any piece s, with room for so many bytes in the output

pub record Receiving : Type 0 where
  pub assembly : Assembly
  pub received : Result Received Refusal
  pub information : List ℕ

-- what the two forms of receiving return of it
abbrev pub by_value : Receiving → Receipt
by_value x = record { assembly = x.assembly; received = x.received }

abbrev pub in_place : Receiving → ReceiptInPlace
in_place x = record { progress = x.assembly.progress; received = x.received }

-- a whole message, good or not, leaves the assembly as it was
abbrev pub whole_received : Assembly → List ℕ → Receiving
whole_received a s = record { assembly = a; received = whole_shown s; information = [] }

abbrev pub fed_received : List ℕ → Step → Receiving
fed_received s x = record { assembly = x.assembly; received = fed_shown s x.answer; information = x.information }

unfoldable pub receive_of : Assembly → List ℕ → ℕ → Receiving
receive_of a s room = cond (is_whole_piece s) (whole_received a s) (fed_received s (step_of a s room))

-- the information of a complete message is as long as its answer says, and has room (proofs/Delivered)
abbrev pub Delivered : (Result Received Refusal) → List ℕ → ℕ → Type 0
Delivered (Ok (received.Complete m n dropped)) information room = (length information ≡ n) × (n ≤ room)
Delivered (Ok (received.Whole type transaction word)) information room = Unit
Delivered (Ok (received.Pending type transaction dropped)) information room = Unit
Delivered (Err r) information room = Unit

-- ---- a run of pieces: what a caller sees of each, and the assembly at the end

pub record Seen : Type 0 where
  pub received : Result Received Refusal
  pub information : List ℕ

abbrev pub seen_of : Receiving → Seen
seen_of x = record { received = x.received; information = x.information }

pub record Run : Type 0 where
  pub seen : List Seen
  pub end : Assembly

abbrev pub and_then : Seen → Run → Run
and_then s r = record { seen = s ∷ r.seen; end = r.end }

unfoldable pub receive_all : Assembly → List Piece → Run
receive_all a [] = record { seen = []; end = a }
receive_all a (p ∷ ps) = and_then (seen_of (receive_of a p.bytes p.room)) (receive_all (receive_of a p.bytes p.room).assembly ps)
