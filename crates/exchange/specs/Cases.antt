-- Cases worked out. Of the cutter: "100 bytes in a COMMAND at size 64 give lengths 64, 64, 60 (16 + 44 + 40)". Of the assembler: a message in fragments that are not full.
use Rattle.std.specs.Prelude.{ℕ, List, [], ◌∷◌, ◌++◌, map, length, replicate, false, ◌≡◌}
use Rattle.protocol.specs.MessageType.{COMMAND}
use Rattle.message.specs.declared.MessageHeader.{MessageHeader}
use Rattle.cutter.specs.Cut.{fragment_bytes, first_bytes, fragments_of}
use Rattle.assembler.specs.Assembly.{empty}
use Rattle.assembler.specs.Run.{Piece, Seen, run_of}
use Rattle.assembler.specs.declared.Answer.TheVariants.{Pending, Complete}
use Rattle.std.specs.Prelude.{Ok}

pub record Case : Type 0 where
  pub size : ℕ
  pub amount : ℕ
  pub lengths : List ℕ

abbrev pub case : ℕ → ℕ → List ℕ → Case
case s n ls = record { size = s; amount = n; lengths = ls }

abbrev pub cases : List Case
cases =
    case 64 100 (64 ∷ 64 ∷ 60 ∷ [])
    -- no information
    ∷ case 64 0 (48 ∷ [])
    -- a full last fragment
    ∷ case 64 60 (64 ∷ 64 ∷ [])
    -- the most information at the least size
    ∷ case 64 4096 (replicate 93 64 ++ (52 ∷ []))
    ∷ []

abbrev command : MessageHeader
command = record {
  message_type = COMMAND;
  transaction = 7;
  service = record { word0 = 1; word1 = 2; word2 = 3; word3 = 4 };
  cid = 9;
  word = 1;
}

unfoldable pub lengths_of : Case → List ℕ
lengths_of c = map length (fragments_of command c.size (replicate c.amount 5))

abbrev pub Worked : Type 0
Worked = map lengths_of cases ≡ map (λ (c : Case). c.lengths) cases

-- ---- three bytes in four fragments, none of them full and two without information: an empty assembly completes it

abbrev piece : List ℕ → Piece
piece s = record { bytes = s; room = 3 }

abbrev pub thin : List Piece
thin =
    piece (first_bytes command 4 3 []) ∷ piece (fragment_bytes command 4 1 (7 ∷ [])) ∷ piece (fragment_bytes command 4 2 [])
    ∷ piece (fragment_bytes command 4 3 (8 ∷ 9 ∷ [])) ∷ []

abbrev waiting : Seen
waiting = record { answer = Ok (Pending false); information = [] }

abbrev pub ThinCompletes : Type 0
ThinCompletes = (run_of empty thin).seen ≡ waiting ∷ waiting ∷ waiting ∷ record { answer = Ok (Complete command 3 false); information = 7 ∷ 8 ∷ 9 ∷ [] } ∷ []
