-- The first rows of a line's answer (docs/replay.md): what came of the line, and a message's own numbers.
-- In this order: types; whole messages; pending and complete ones; what a message shows; any answer.
use Rattle.std.specs.Prelude.{ℕ, Bool, cond, List, [], ◌++◌, eqb}
use Rattle.ascii.specs.Ascii.{ascii}
use Rattle.protocol.specs.MessageType.{OPEN, CLOSE, COMMAND, HOST_ERROR, OPEN_DONE, CLOSE_DONE, COMMAND_DONE, FUNCTION_ERROR}
use Rattle.protocol.specs.Service.{id_bytes}
use Rattle.protocol.specs.declared.Version.{Version}
use Rattle.protocol.specs.declared.Version.TheVariants.{V1, V2}
use Rattle.message.specs.declared.MessageHeader.{MessageHeader}
use Rattle.assembler.specs.declared.door.Received.{Received}
use Rattle.assembler.specs.declared.door.Received.TheVariants.{Whole, Pending, Complete}
use Rattle.payload.specs.Payload.{shown_of}
use Rattle.rows.specs.Rows.{row, text_row, refusal_line, refused_line}
use Rattle.request_line.specs.Good.{kind_text}
use Rattle.trace_step.specs.declared.Piece.{Piece}
use Rattle.std.specs.Prelude.{Ok, Err, Some, None}
use Rattle.payload.specs.Payload.{Shown}
use Rattle.std.specs.Prelude.{Result}
use Rattle.protocol.specs.declared.Refusal.{Refusal}

-- ---- a row with a message type's name

unfoldable pub type_name : ℕ → List ℕ
type_name t =
    cond (eqb t OPEN) (ascii "\tOPEN\n")
    (cond (eqb t CLOSE) (ascii "\tCLOSE\n")
    (cond (eqb t COMMAND) (ascii "\tCOMMAND\n")
    (cond (eqb t HOST_ERROR) (ascii "\tHOST_ERROR\n")
    (cond (eqb t OPEN_DONE) (ascii "\tOPEN_DONE\n")
    (cond (eqb t CLOSE_DONE) (ascii "\tCLOSE_DONE\n")
    (cond (eqb t COMMAND_DONE) (ascii "\tCOMMAND_DONE\n")
    (cond (eqb t FUNCTION_ERROR) (ascii "\tFUNCTION_ERROR\n") (ascii "\tINDICATE_STATUS\n"))))))))

unfoldable pub type_row : List ℕ → ℕ → List ℕ
type_row name t = name ++ type_name t

-- ---- a whole message: its transaction and its one number, which CLOSE has not

unfoldable pub whole_word_row : ℕ → ℕ → List ℕ
whole_word_row t word =
    cond (eqb t OPEN) (row (ascii "MaxControlTransfer") word)
    (cond (eqb t CLOSE) []
    (cond (eqb t OPEN_DONE) (row (ascii "Status") word) (cond (eqb t CLOSE_DONE) (row (ascii "Status") word) (row (ascii "ErrorStatusCode") word))))

unfoldable pub whole_rows : ℕ → ℕ → ℕ → List ℕ
whole_rows t transaction word = type_row (ascii "whole") t ++ (row (ascii "TransactionId") transaction ++ whole_word_row t word)

-- ---- a fragment, and a complete message

unfoldable pub dropped_row : Bool → List ℕ
dropped_row dropped = cond dropped (row (ascii "dropped") 1) []

unfoldable pub fragment_rows : List ℕ → ℕ → ℕ → Bool → List ℕ
fragment_rows name t transaction dropped = type_row name t ++ (dropped_row dropped ++ row (ascii "TransactionId") transaction)

-- a command's type or a reply's status
unfoldable pub word_row : ℕ → ℕ → List ℕ
word_row t word = cond (eqb t COMMAND) (row (ascii "CommandType") word) (cond (eqb t COMMAND_DONE) (row (ascii "Status") word) [])

unfoldable pub message_rows : MessageHeader → ℕ → Bool → List ℕ
message_rows m n dropped =
    fragment_rows (ascii "complete") m.message_type m.transaction dropped
    ++ (text_row (ascii "DeviceServiceId") (id_bytes m.service)
    ++ (row (ascii "CID") m.cid ++ (word_row m.message_type m.word ++ row (ascii "InformationBufferLength") n)))

-- ---- what a complete message shows: a kind and the version that it is read at, nothing, or a refusal

abbrev pub version_row : Version → List ℕ
version_row V1 = ascii "1.00\n"
version_row V2 = ascii "2.00\n"

unfoldable pub shown_row : Version → Shown → List ℕ
shown_row version (Ok (Some kind)) = kind_text kind ++ version_row version
shown_row version (Ok None) = ascii "payload\tnone\n"
shown_row version (Err r) = refused_line r

-- ---- any answer

abbrev pub refused_name : Bool → List ℕ
refused_name whole = cond whole (ascii "whole refused") (ascii "piece refused")

unfoldable pub piece_rows : Version → Bool → (Result Received Refusal) → List ℕ
piece_rows version whole (Ok (Whole t transaction word)) = whole_rows t transaction word
piece_rows version whole (Ok (Pending t transaction dropped)) = fragment_rows (ascii "pending") t transaction dropped
piece_rows version whole (Ok (Complete m n dropped)) = message_rows m n dropped ++ shown_row version (shown_of m)
piece_rows version whole (Err r) = refusal_line (refused_name whole) r

unfoldable pub head_of : (Result Piece Refusal) → List ℕ
head_of (Err r) = refusal_line (ascii "bad line") r
head_of (Ok piece) = piece_rows piece.version piece.is_whole piece.received
