-- Pieces that the door receives, as the assembler meets them (document 01, "Messages and fragments"): whole messages don't reach it, every other piece is fed.
-- In this order: the pieces that are fed; what the assembler answered to them, in what the door showed; the claim. Proved in proofs/Received.
use Rattle.std.specs.Prelude.{◌≡◌, cond, List, [], ◌∷◌, ◌++◌, ℕ}
use Rattle.message.specs.Message.{is_whole_piece}
use Rattle.assembler.specs.Run.{Piece, Seen, run_of}
use Rattle.assembler.specs.Door.{receive_all}
use Rattle.assembler.specs.Door as door
use Rattle.assembler.specs.declared.Assembly.{Assembly}
use Rattle.assembler.specs.declared.Answer.TheVariants.{Pending, Complete}
use Rattle.assembler.specs.declared.door.Received.{Received}
use Rattle.assembler.specs.declared.door.Received.TheVariants as received
use Rattle.std.specs.Prelude.{Ok, Err, Result}
use Rattle.protocol.specs.declared.Refusal.{Refusal}

-- ---- the pieces that are fed

unfoldable pub fed : List Piece → List Piece
fed [] = []
fed (p ∷ ps) = cond (is_whole_piece p.bytes) (fed ps) (p ∷ fed ps)

-- ---- what the assembler answered

abbrev pub answered : (Result Received Refusal) → List ℕ → List Seen
answered (Ok (received.Pending type transaction dropped)) information = record { answer = Ok (Pending dropped); information = information } ∷ []
answered (Ok (received.Complete m n dropped)) information = record { answer = Ok (Complete m n dropped); information = information } ∷ []
answered (Err r) information = record { answer = Err r; information = information } ∷ []
answered (Ok (received.Whole type transaction word)) information = []

-- of what was seen of the pieces ps, one after the other
unfoldable pub answers : List Piece → List door.Seen → List Seen
answers [] xs = []
answers (p ∷ ps) [] = []
answers (p ∷ ps) (x ∷ xs) = cond (is_whole_piece p.bytes) (answers ps xs) (answered x.received x.information ++ answers ps xs)

-- ---- any received pieces are a run of the assembler over those that are fed

pub record FedRun (a : Assembly) (ps : List Piece) : Type 0 where
  pub seen : answers ps (receive_all a ps).seen ≡ (run_of a (fed ps)).seen
  pub end : (receive_all a ps).end ≡ (run_of a (fed ps)).end

abbrev pub ReceivedAsFed : Type 0
ReceivedAsFed = (a : Assembly) (ps : List Piece) → FedRun a ps
