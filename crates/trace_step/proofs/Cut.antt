-- What is kept of a line decides: its front of at least 527 bytes gives what the whole gives.
-- Assumes nothing.
use Rattle.std.proofs.Common.{◌≡◌, ℕ, ◌/◌, List, take, refl, ap, ◌∙◌, arith, length-take}
use Rattle.ascii.specs.Ascii.{unhexed}
use Rattle.text_parts.proofs.Cut.{part_front}
use Rattle.trace_line.specs.TraceLine.{line_of}
use Rattle.trace_line.specs.declared.Line.{Line}
use Rattle.trace_line.proofs.Cut.{line_cut}
use Rattle.trace_step.specs.Step.{State, piece_step, step_by, step_of}
use Rattle.trace_step.specs.Run.{StepCut}
use Rattle.trace_step.proofs.Laws.{within}
use Rattle.std.specs.Prelude.{Ok, Err, Result}

step_front : (n : ℕ) (s : State) (text : List ℕ) (r : (Result Line ℕ)) → line_of (take n text) ≡ r → step_by s (take n text) r ≡ step_by s text r
unfolding step_by
step_front n s text (Err c) e = refl
step_front n s text (Ok line) e =
    let w = within (take n text) line.counter line.sender line.from line.digits e in
    ap (λ (x : List ℕ). piece_step s line.counter line.sender (unhexed (line.digits / 2) x)) (part_front line.from line.digits n text (omega (arith, w.ends, length-take n text)))

pub step_cut : StepCut
unfolding step_of
step_cut n s text h = step_front n s text (line_of (take n text)) refl ∙ ap (step_by s text) (line_cut n text h)
