-- By whether the line is good; then its piece.
use Rattle.std.proofs.Common.{sym, refl, ◌∙◌, arith, length-take-le}
use Rattle.wire.specs.Output.{over}
use Rattle.trace_step.specs.Step.{step_by, step_of}
use Rattle.trace_step.proofs.Laws.{within}
use Rattle.trace_step.proofs.step.Goals as goal

pub piece_of-bytes-requires : goal.piece_of-bytes-requires
piece_of-bytes-requires c = let w = within c.args.line.now _ _ _ _ (sym c.read_line.ensures ∙ c.in-Ok.is) in (w.ends, w.few)

pub slice_bounds-bytes-end : goal.slice_bounds-bytes-end
slice_bounds-bytes-end c =
    let w = within c.args.line.now _ _ _ _ (sym c.read_line.ensures ∙ c.in-Ok.is) in
    omega (arith, w.few, c.piece_of-bytes.ensures.1)

pub slice_bounds-piece-end : goal.slice_bounds-piece-end
slice_bounds-piece-end c =
    let w = within c.args.line.now _ _ _ _ (sym c.read_line.ensures ∙ c.in-Ok.is) in
    sym (length-take-le _ _ (omega (arith, w.few, c.piece_of-bytes.ensures.1)))

pub returns-in-Err : goal.returns-in-Err
unfolding step_of step_by over
returns-in-Err c = rw (← c.read_line.ensures, c.in-Err.is) (record { answer = c.refuse_line.ensures; hosts = refl; devices = refl; delivered = refl; holds = tt })

pub returns-in-Ok : goal.returns-in-Ok
unfolding step_of step_by
returns-in-Ok c = rw (← c.read_line.ensures, c.in-Ok.is, ← c.piece_of-bytes.ensures.0) c.step_piece.ensures
