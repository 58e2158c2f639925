-- Messages over the wire: cut at a transfer size, fed to the receiver's assembly after whatever was fed there before, handed on as header and information.
-- In this order: the way of a message; what arrives; a line of two ways; which messages are sent.
use Rattle.std.specs.Prelude.{ℕ, ◌≤◌, ◌<◌, ◌≡◌, ◌⊎◌, false, List, [], ◌∷◌, length, take}
use Rattle.protocol.specs.MessageType.{COMMAND, COMMAND_DONE}
use Rattle.message.specs.Message.{wrong_word}
use Rattle.assembler.specs.Assembly.{empty}
use Rattle.assembler.specs.Run.{Piece, Seen, run_of}
use Rattle.assembler.specs.declared.Answer.{Answer}
use Rattle.assembler.specs.declared.Answer.TheVariants as answer
use Rattle.cutter.specs.Cut.{cut_of}
use Rattle.cutter.specs.declared.Fragments.{Fragments}
use Rattle.exchange.specs.Messages.{OfWidth, parts, pieces}
use Rattle.handshake_claims.specs.Run.{Message, Sent, nothing, sends, Line}
use Rattle.std.specs.Prelude.{Ok, Err, Result}
use Rattle.protocol.specs.declared.Refusal.{Refusal}

-- ---- the way of a message: transfer size, the cutter's output, what the receiver's assembly was fed before, and the room in its output for each piece

pub record Way : Type 0 where
  pub size : ℕ
  pub stream : List ℕ
  pub earlier : List Piece
  pub room : ℕ → ℕ

-- a permitted size, and room for any message
pub record Open (w : Way) : Type 0 where
  pub low : 64 ≤ w.size
  pub high : w.size ≤ 4096
  pub long : 6004 ≤ length w.stream
  pub wide : (k : ℕ) → 4096 ≤ w.room k

-- ---- what arrives: the message that the last part completes

unfoldable pub parts_by : (Result Fragments Refusal) → ℕ → List ℕ → List (List ℕ)
parts_by (Ok cut) size out = parts cut.count size (take cut.length out)
parts_by (Err r) size out = []

abbrev pub arrived_by : (Result Answer Refusal) → List ℕ → Sent
arrived_by (Ok (answer.Complete h n dropped)) s = sends (record { header = h; information = s })
arrived_by (Ok (answer.Pending dropped)) s = nothing
arrived_by (Err r) s = nothing

abbrev pub last_arrived : List Seen → Sent
last_arrived [] = nothing
last_arrived (x ∷ []) = arrived_by x.answer x.information
last_arrived (x ∷ y ∷ xs) = last_arrived (y ∷ xs)

unfoldable pub arrives : Way → Message → Sent
arrives w m =
    let c = cut_of m.header w.size m.information w.stream in
    last_arrived (run_of (run_of empty w.earlier).end (pieces w.room 0 (parts_by c.answer w.size c.output))).seen

-- ---- a line of two ways

abbrev pub wire : Way → Way → Line
wire to back = record { to = arrives to; back = arrives back }

-- ---- a message that is sent: a COMMAND or COMMAND_DONE of a transaction, as every value of the code's type, with at most 4,096 bytes of information

pub record Sendable (m : Message) : Type 0 where
  pub kind : (m.header.message_type ≡ COMMAND) ⊎ (m.header.message_type ≡ COMMAND_DONE)
  pub numbered : 0 < m.header.transaction
  pub word : wrong_word m.header ≡ false
  pub width : OfWidth m.header
  pub few : length m.information ≤ 4096

abbrev pub ArrivesWhole : Type 0
ArrivesWhole = (w : Way) → Open w → (m : Message) → Sendable m → arrives w m ≡ sends m
