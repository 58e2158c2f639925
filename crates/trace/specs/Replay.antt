-- The text of a replay (docs/replay.md). In this order: the mark of a line; its fields; its text; a whole trace; what a call leaves.
use Rattle.std.specs.Prelude.{ℕ, ◌+◌, ◌≡◌, List, [], ◌∷◌, ◌++◌}
use Rattle.wire.specs.Output.{over}
use Rattle.ascii.specs.Ascii.{ascii, decimal}
use Rattle.protocol.specs.declared.Version.{Version}
use Rattle.assembler.specs.declared.door.Received.{Received}
use Rattle.assembler.specs.declared.door.Received.TheVariants as received
use Rattle.payload.specs.Payload.{shown_of}
use Rattle.rows.specs.Rows.{field, Put}
use Rattle.listing.specs.Listing.{payload_text}
use Rattle.trace_line.specs.declared.Sender.{Sender}
use Rattle.trace_line.specs.declared.Sender.TheVariants.{Host, Device}
use Rattle.trace_step.specs.Step.{State, Step, start, step_of, kept, Fronted, front_for}
use Rattle.trace_step.specs.Run.{Answered, run_of}
use Rattle.trace_step.specs.declared.Piece.{Piece}
use Rattle.trace.specs.Marked.{marked, without_header}
use Rattle.trace.specs.Heads.{head_of}
use Rattle.trace.specs.declared.Listed.{Listed}
use Rattle.std.specs.Prelude.{Ok, Err, Some, None}
use Rattle.payload.specs.Payload.{Shown}
use Rattle.std.specs.Prelude.{Result}
use Rattle.protocol.specs.declared.Refusal.{Refusal}

-- ---- the mark: line, elapsed and sender; a bad line has only the first

abbrev pub sender_text : Sender → List ℕ
sender_text Host = ascii "\tH\t"
sender_text Device = ascii "\tD\t"

unfoldable pub mark_of : ℕ → (Result Piece Refusal) → List ℕ
mark_of number (Err r) = decimal number ++ ascii "\t\t\t"
mark_of number (Ok piece) = decimal number ++ (field piece.elapsed ++ sender_text piece.sender)

-- ---- "on completion the fields": the listing of the payload that a complete message shows

unfoldable pub fields_by : Version → List ℕ → Shown → List ℕ
fields_by version information (Ok (Some kind)) = payload_text kind version information
fields_by version information (Ok None) = []
fields_by version information (Err r) = []

unfoldable pub fields_in : Version → List ℕ → (Result Received Refusal) → List ℕ
fields_in version information (Ok (received.Complete m n dropped)) = fields_by version information (shown_of m)
fields_in version information (Ok (received.Whole t transaction word)) = []
fields_in version information (Ok (received.Pending t transaction dropped)) = []
fields_in version information (Err r) = []

unfoldable pub fields_of : (Result Piece Refusal) → List ℕ → List ℕ
fields_of (Err r) information = []
fields_of (Ok piece) information = fields_in piece.version information piece.received

-- ---- the text of a line's answer, with its number

unfoldable pub answer_text : ℕ → (Result Piece Refusal) → List ℕ → List ℕ
answer_text number x information = marked (mark_of number x) (head_of x) ++ marked (mark_of number x) (without_header (fields_of x information))

abbrev pub line_text : ℕ → State → List ℕ → List ℕ
line_text number s line = answer_text number (step_of s line).replayed (step_of s line).information

-- ---- a whole trace: a header, and the answers in the order of the lines, numbered from 1

unfoldable pub columns : List ℕ
columns = ascii "line\telapsed\tsender\tfield\tvalue\tplace\n"

unfoldable pub answers_text : ℕ → List Answered → List ℕ
answers_text number [] = []
answers_text number (a ∷ rest) = answer_text number a.replayed a.information ++ answers_text (number + 1) rest

abbrev pub replay_text : List (List ℕ) → List ℕ
replay_text lines = columns ++ answers_text 1 (run_of start lines).answers

-- ---- the payload at the front of the bytes that a step gave

abbrev pub FrontedIn : (Result Piece Refusal) → List ℕ → Type 0
FrontedIn (Err r) out = Unit
FrontedIn (Ok piece) out = Fronted piece.received out

abbrev pub front_in : (Result Piece Refusal) → List ℕ → List ℕ
front_in (Err r) out = []
front_in (Ok piece) out = front_for piece.received out

-- ---- what a call leaves: the state, the two buffers, the rows without their marks, and the text in the output

pub record Leaves (x : Step) (number : ℕ) (r : Listed) (host device rows rows_end out : List ℕ) (at : ℕ) (out_end : List ℕ) : Type 0 where
  pub replay : r.replay ≡ kept x.state
  pub hosts : host ≡ x.state.host.bytes
  pub devices : device ≡ x.state.device.bytes
  pub unmarked : rows_end ≡ over (head_of x.replayed ++ fields_of x.replayed x.information) rows
  pub text : Put out at (answer_text number x.replayed x.information) out_end r.next
