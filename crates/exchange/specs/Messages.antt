-- Messages from the cutter to the assembler (document 01, demand 3: "a single claim about whole runs").
-- In this order: headers of the code's own type; the fragments as pieces; what a receiver sees of a message.
use Rattle.std.specs.Prelude.{ℕ, zero, suc, ◌+◌, ◌^◌, ◌<◌, Bool, false, cond, List, [], ◌∷◌, eqb, ltb, length, take, drop}
use Rattle.protocol.specs.Refusal.{refusal, output_too_small}
use Rattle.protocol.specs.MessageType.{INDICATE_STATUS}
use Rattle.message.specs.declared.MessageHeader.{MessageHeader}
use Rattle.assembler.specs.Assembly.{empty}
use Rattle.assembler.specs.Run.{Piece, Seen, Run, and_then}
use Rattle.assembler.specs.declared.Answer.TheVariants.{Pending, Complete}
use Rattle.std.specs.Prelude.{Ok, Err}

-- each field is a 32-bit number, as in every value of the code's type
pub record OfWidth (m : MessageHeader) : Type 0 where
  pub type32 : m.message_type < 2 ^ 32
  pub transaction32 : m.transaction < 2 ^ 32
  pub word0 : m.service.word0 < 2 ^ 32
  pub word1 : m.service.word1 < 2 ^ 32
  pub word2 : m.service.word2 < 2 ^ 32
  pub word3 : m.service.word3 < 2 ^ 32
  pub cid32 : m.cid < 2 ^ 32
  pub word32 : m.word < 2 ^ 32

-- the header that is header_seen: an indication has no word, and the receiver sees 0
unfoldable pub header_seen : MessageHeader → MessageHeader
header_seen m = record {
  message_type = m.message_type;
  transaction = m.transaction;
  service = m.service;
  cid = m.cid;
  word = cond (eqb m.message_type INDICATE_STATUS) 0 m.word;
}

-- a stream of bytes in n parts, each of `size` bytes but the last, which has what is left
unfoldable pub parts : ℕ → ℕ → List ℕ → List (List ℕ)
parts zero size s = []
parts (suc n) size s = take size s ∷ parts n size (drop size s)

-- fragments numbered from k on as pieces, where `room` tells the room in the output for each
unfoldable pub pieces : (ℕ → ℕ) → ℕ → List (List ℕ) → List Piece
pieces room k [] = []
pieces room k (p ∷ ps) = record { bytes = p; room = room k } ∷ pieces room (k + 1) ps

-- what the last piece shows: the whole message, or 11 where the output has no room for the information
abbrev pub last_seen : MessageHeader → List ℕ → Bool → ℕ → Seen
last_seen m information dropped room =
    cond (ltb room (length information)) (record { answer = Err (refusal output_too_small (length information)); information = [] })
    (record { answer = Ok (Complete (header_seen m) (length information) dropped); information = information })

-- n pieces that wait, and then the last one, which leaves the empty assembly; the first one says whether a message was dropped
unfoldable pub received : MessageHeader → List ℕ → Bool → ℕ → ℕ → Run
received m information dropped room zero = record { seen = last_seen m information dropped room ∷ []; end = empty }
received m information dropped room (suc n) = and_then (record { answer = Ok (Pending dropped); information = [] }) (received m information false room n)
