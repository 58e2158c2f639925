-- The pieces of a stream as the door receives them, and damage in a stream (document 02, orders 8 and 9). Streams are by value, fed from empty with room, in any
-- chunks. In this order: the pieces; what is said of them; the claims of exchange/specs/Damage about them; what the cutter wrote. Proved in proofs/Received and
-- proofs/Carried.
-- A damaged length field is not local: it moves the bounds of the pieces behind it, or ends the stream. The claims are about the pieces that the bytes make.
use Rattle.std.specs.Prelude.{◌≡◌, false, List, [], ◌∷◌, ◌++◌, map, ℕ, ◌-◌, take}
use Rattle.message.specs.Message.{most_information}
use Rattle.message.specs.declared.MessageHeader.{MessageHeader}
use Rattle.cutter.specs.Cut.{cut_of}
use Rattle.assembler.specs.Assembly.{empty, is_pending}
use Rattle.assembler.specs.Run as assembler
use Rattle.assembler.specs.Run.{Piece}
use Rattle.assembler.specs.Door as door
use Rattle.assembler.specs.Door.{receive_all}
use Rattle.assembler.specs.declared.Assembly.{Assembly}
use Rattle.exchange.specs.Messages.{received}
use Rattle.exchange.specs.Delivery.{CutInto}
use Rattle.exchange.specs.Damage.{CompletesOne, seen_after, OnlyItsFragments}
use Rattle.exchange.specs.Received.{fed, answers}
use Rattle.stream.specs.declared.Said.{Said}
use Rattle.stream.specs.declared.Said.TheVariants as said
use Rattle.stream.specs.Stream.{keeping, value_door}
use Rattle.stream.specs.OneByOne.{unfinished, split_of, Seen, Run}
use Rattle.stream.specs.Run.{Chunk, run_of, joined, WithRoom}

-- ---- the pieces of the bytes x, each with room for any message

abbrev pub with_room : List ℕ → Piece
with_room p = record { bytes = p; room = most_information }

abbrev pub pieces_of : List ℕ → List Piece
pieces_of x = map with_room (split_of x).pieces

-- ---- of what a caller sees, what is said of a piece

abbrev pub of_piece : Said → List ℕ → List door.Seen
of_piece said.Nothing information = []
of_piece (said.Piece x) information = record { received = x; information = information } ∷ []
of_piece (said.Ended r) information = []
of_piece (said.Refused r) information = []

abbrev pub of_pieces : List Seen → List door.Seen
of_pieces [] = []
of_pieces (s ∷ ss) = of_piece s.said s.information ++ of_pieces ss

-- the chunks fed from empty
abbrev pub fed_run : List Chunk → Run Assembly
fed_run cs = run_of value_door (keeping empty [] false) cs

-- it is what the door says of the stream's pieces one after the other
abbrev pub AsReceived : Type 0
AsReceived = (cs : List Chunk) → WithRoom cs → of_pieces (fed_run cs).seen ≡ (receive_all empty (pieces_of (joined cs))).seen

-- ---- damage: what the assembler answered to the pieces that are no whole messages

abbrev pub answers_to : List Chunk → List assembler.Seen
answers_to cs = answers (pieces_of (joined cs)) (of_pieces (fed_run cs).seen)

-- no message comes out but of its fragments, pieces of the stream one after the other
abbrev pub StreamInventsNothing : Type 0
StreamInventsNothing = (cs : List Chunk) → WithRoom cs → OnlyItsFragments (fed (pieces_of (joined cs))) (answers_to cs)

-- after any bytes that end where a piece ends, a message comes out as from empty, apart from the note
abbrev pub StreamRecovers : Type 0
StreamRecovers = (earlier message : List Chunk) → WithRoom earlier → WithRoom message → (split_of (joined earlier)).behind ≡ unfinished [] → CompletesOne (answers_to message)
    → answers_to (earlier ++ message) ≡ seen_after (answers_to earlier) (answers_to message)

-- ---- what the cutter wrote, fed as a stream in any chunks, after any bytes that end where a piece ends: the message comes out. The note tells whether a message was pending

abbrev pub StreamDelivers : Type 0
StreamDelivers = (m : MessageHeader) (size : ℕ) (information out : List ℕ) (count n : ℕ) → CutInto m size information out count n
    → (earlier message : List Chunk) → WithRoom earlier → WithRoom message → (split_of (joined earlier)).behind ≡ unfinished [] → joined message ≡ take n (cut_of m size information out).output
    → answers_to (earlier ++ message)
    ≡ answers_to earlier ++ (received m information (is_pending (assembler.run_of empty (fed (pieces_of (joined earlier)))).end.progress) most_information (count - 1)).seen
