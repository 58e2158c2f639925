-- How long a line's rows are at most, without their marks and with them.
-- Assumes nothing.
use mathlib.Core.Bool.{Bool}
use mathlib.Core.List.{List, ◌++◌}
use Prim.Native.Nat.{ℕ, ◌≤◌}
use native.Mathlib.Omega.{arith}
use lib.Dec.{eqb}
use lib.ListN.{length, length-append}
use Rattle.ascii.specs.Ascii.{ascii}
use Rattle.ascii.proofs.Laws.{by_test}
use Rattle.protocol.specs.MessageType.{OPEN, CLOSE, COMMAND, HOST_ERROR, OPEN_DONE, CLOSE_DONE, COMMAND_DONE, FUNCTION_ERROR}
use Rattle.protocol.specs.Service.{id_bytes}
use Rattle.protocol.specs.declared.Version.{Version}
use Rattle.protocol.specs.declared.Version.TheVariants.{V1, V2}
use Rattle.protocol.proofs.Services.{length_id}
use Rattle.message.specs.declared.MessageHeader.{MessageHeader}
use Rattle.assembler.specs.declared.door.Received.{Received}
use Rattle.assembler.specs.declared.door.Received.TheVariants.{Whole, Pending, Complete}
use Rattle.payload.specs.Payload.{shown_of}
use Rattle.rows.proofs.Lengths.{row_le, text_le, refusal_le, refused_le}
use Rattle.request_line.specs.Good.{kind_text}
use Rattle.protocol.specs.declared.service.Kind.{Kind}
use Rattle.protocol.specs.declared.service.Kind.TheVariants as kinds
use Rattle.listing.proofs.Lengths.{payload_le}
use Rattle.trace_step.specs.declared.Piece.{Piece}
use Rattle.trace.specs.Heads.{type_name, type_row, whole_word_row, whole_rows, dropped_row, fragment_rows, word_row, message_rows, version_row, shown_row, refused_name, piece_rows, head_of}
use Rattle.trace.specs.Replay.{fields_by, fields_in, fields_of}
use Rattle.std.specs.Prelude.{Ok, Err, Some, None}
use Rattle.payload.specs.Payload.{Shown}
use Rattle.std.specs.Prelude.{Result}
use Rattle.protocol.specs.declared.Refusal.{Refusal}

abbrev Short : ℕ → List ℕ → Type 0
Short n s = length s ≤ n

type_le : (t : ℕ) → Short 20 (type_name t)
unfolding type_name
type_le t =
    by_test (Short 20) (eqb t OPEN) (omega arith)
    (by_test (Short 20) (eqb t CLOSE) (omega arith)
    (by_test (Short 20) (eqb t COMMAND) (omega arith)
    (by_test (Short 20) (eqb t HOST_ERROR) (omega arith)
    (by_test (Short 20) (eqb t OPEN_DONE) (omega arith)
    (by_test (Short 20) (eqb t CLOSE_DONE) (omega arith)
    (by_test (Short 20) (eqb t COMMAND_DONE) (omega arith)
    (by_test (Short 20) (eqb t FUNCTION_ERROR) (omega arith) (omega arith))))))))

whole_word_le : (t word : ℕ) → Short 72 (whole_word_row t word)
unfolding whole_word_row
whole_word_le t word =
    by_test (Short 72) (eqb t OPEN) (row_le (ascii "MaxControlTransfer") word (omega arith))
    (by_test (Short 72) (eqb t CLOSE) (omega arith)
    (by_test (Short 72) (eqb t OPEN_DONE) (row_le (ascii "Status") word (omega arith))
    (by_test (Short 72) (eqb t CLOSE_DONE) (row_le (ascii "Status") word (omega arith)) (row_le (ascii "ErrorStatusCode") word (omega arith)))))

dropped_le : (d : Bool) → Short 72 (dropped_row d)
unfolding dropped_row
dropped_le d = by_test (Short 72) d (row_le (ascii "dropped") 1 (omega arith)) (omega arith)

fragment_le : (name : List ℕ) (t transaction : ℕ) (d : Bool) → length name ≤ 20 → Short 200 (fragment_rows name t transaction d)
unfolding fragment_rows type_row
fragment_le name t transaction d h = simp length-append (omega (arith, type_le t, dropped_le d, row_le (ascii "TransactionId") transaction (omega arith)))

word_le : (t word : ℕ) → Short 72 (word_row t word)
unfolding word_row
word_le t word =
    by_test (Short 72) (eqb t COMMAND) (row_le (ascii "CommandType") word (omega arith)) (by_test (Short 72) (eqb t COMMAND_DONE) (row_le (ascii "Status") word (omega arith)) (omega arith))

message_le : (m : MessageHeader) (n : ℕ) (d : Bool) → Short 800 (message_rows m n d)
unfolding message_rows
message_le m n d =
    simp length-append
    (omega (arith, fragment_le (ascii "complete") m.message_type m.transaction d (omega arith), text_le (ascii "DeviceServiceId") (id_bytes m.service) (omega arith) (omega (arith, length_id m.service)), row_le (ascii "CID") m.cid (omega arith), word_le m.message_type m.word, row_le (ascii "InformationBufferLength") n (omega arith)))

kind_le : (k : Kind) → Short 16 (kind_text k)
kind_le kinds.PacketService = omega arith
kind_le kinds.VersionInfo = omega arith
kind_le kinds.RegisterState = omega arith
kind_le kinds.SignalState = omega arith
kind_le kinds.DeviceServices = omega arith
kind_le kinds.SetPin = omega arith
kind_le kinds.PinInfo = omega arith

version_le : (v : Version) → Short 5 (version_row v)
version_le V1 = omega arith
version_le V2 = omega arith

shown_le : (v : Version) (x : Shown) → Short 93 (shown_row v x)
unfolding shown_row
shown_le v (Ok (Some k)) = simp length-append (omega (arith, kind_le k, version_le v))
shown_le v (Ok None) = omega arith
shown_le v (Err r) = refused_le r

refused_name_le : (whole : Bool) → Short 50 (refused_name whole)
refused_name_le whole = by_test (Short 50) whole (omega arith) (omega arith)

piece_le : (v : Version) (whole : Bool) (x : (Result Received Refusal)) → Short 1024 (piece_rows v whole x)
unfolding piece_rows whole_rows type_row
piece_le v whole (Ok (Whole t transaction word)) = simp length-append (omega (arith, type_le t, row_le (ascii "TransactionId") transaction (omega arith), whole_word_le t word))
piece_le v whole (Ok (Pending t transaction d)) = omega (arith, fragment_le (ascii "pending") t transaction d (omega arith))
piece_le v whole (Ok (Complete m n d)) = simp length-append (omega (arith, message_le m n d, shown_le v (shown_of m)))
piece_le v whole (Err r) = omega (arith, refusal_le (refused_name whole) r (refused_name_le whole))

pub head_le : (x : (Result Piece Refusal)) → Short 1024 (head_of x)
unfolding head_of
head_le (Err r) = omega (arith, refusal_le (ascii "bad line") r (omega arith))
head_le (Ok piece) = piece_le piece.version piece.is_whole piece.received

fields_by_le : (v : Version) (information : List ℕ) (x : Shown) → Short 524288 (fields_by v information x)
unfolding fields_by
fields_by_le v information (Ok (Some k)) = payload_le k v information
fields_by_le v information (Ok None) = omega arith
fields_by_le v information (Err r) = omega arith

fields_in_le : (v : Version) (information : List ℕ) (x : (Result Received Refusal)) → Short 524288 (fields_in v information x)
unfolding fields_in
fields_in_le v information (Ok (Complete m n d)) = fields_by_le v information (shown_of m)
fields_in_le v information (Ok (Whole t transaction word)) = omega arith
fields_in_le v information (Ok (Pending t transaction d)) = omega arith
fields_in_le v information (Err r) = omega arith

pub fields_le : (x : (Result Piece Refusal)) (information : List ℕ) → Short 524288 (fields_of x information)
unfolding fields_of
fields_le (Err r) information = omega arith
fields_le (Ok piece) information = fields_in_le piece.version information piece.received

-- without their marks they have room
pub unmarked_le : (x : (Result Piece Refusal)) (information : List ℕ) → Short 525312 (head_of x ++ fields_of x information)
unmarked_le x information = rw (length-append (head_of x) (fields_of x information)) (omega (arith, head_le x, fields_le x information))
