-- A run of lines, each with what the one before left, gives the text of the trace.
-- Assumes nothing.
use mathlib.Core.Path.{◌≡◌, refl, ap}
use mathlib.Core.List.{List, [], ◌∷◌, ◌++◌}
use Prim.Native.Nat.{ℕ, ◌+◌}
use Rattle.assembler.specs.Assembly.{empty}
use Rattle.trace_step.specs.Step.{State, start, step_of}
use Rattle.trace_step.specs.Run.{run_of}
use Rattle.trace.specs.Replay.{line_text, columns, answers_text}
use Rattle.trace.specs.Claims.{lines_text, StartsEmpty, TextOfLines}

pub starts_empty : StartsEmpty
unfolding empty
starts_empty = refl

lines_text_lem : (number : ℕ) (s : State) (ls : List (List ℕ)) → answers_text number (run_of s ls).answers ≡ lines_text number s ls
unfolding answers_text run_of lines_text
lines_text_lem number s [] = refl
lines_text_lem number s (l ∷ ls) = ap (λ (x : List ℕ). line_text number s l ++ x) (lines_text_lem (number + 1) (step_of s l).state ls)

pub text_of_lines : TextOfLines
text_of_lines lines = ap (λ (x : List ℕ). columns ++ x) (lines_text_lem 1 start lines)
