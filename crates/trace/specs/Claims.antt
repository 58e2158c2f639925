-- What is claimed of the text beside the promises. Proved in proofs/Texts and proofs/Fits.
-- In this order: a run of `put_line`; how long a line's text is.
use Rattle.std.specs.Prelude.{ℕ, ◌+◌, ◌≤◌, ◌≡◌, List, [], ◌∷◌, ◌++◌, length}
use Rattle.assembler.specs.Assembly.{zeros}
use Rattle.trace_step.specs.Step.{State, start, step_of, state_of, kept}
use Rattle.trace_step.specs.declared.Piece.{Piece}
use Rattle.trace.specs.Replay.{answer_text, line_text, columns, replay_text}
use Rattle.std.specs.Prelude.{Result}
use Rattle.protocol.specs.declared.Refusal.{Refusal}

-- ---- a run of `put_line`: each line with what the one before left, and with the next number

unfoldable pub lines_text : ℕ → State → List (List ℕ) → List ℕ
lines_text number s [] = []
lines_text number s (l ∷ ls) = line_text number s l ++ lines_text (number + 1) (step_of s l).state ls

-- `Replay::start` and two buffers of zeros are the state before the first line
abbrev pub StartsEmpty : Type 0
StartsEmpty = state_of (kept start) zeros zeros ≡ start

-- from there it gives, behind the names of the columns, the text of the trace
abbrev pub TextOfLines : Type 0
TextOfLines = (lines : List (List ℕ)) → replay_text lines ≡ columns ++ lines_text 1 start lines

-- ---- no line's text is longer than what `replay` has room for

abbrev pub LineFits : Type 0
LineFits = (number : ℕ) (x : (Result Piece Refusal)) (information : List ℕ) → length (answer_text number x information) ≤ 786432
