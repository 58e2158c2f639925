-- The numbers and the payload judged by the choice, then the plain answer.
use mathlib.Core.Path.{sym, ap, ◌∙◌}
use Rattle.signal_state.specs.SignalState.{refused as refused_by, choice_verdict, read_with}
use Rattle.signal_state.proofs.Choices.{read_judged, read_faulted}
use Rattle.c_structs.specs.Signals.{answer_by, answer_of}
use Rattle.culvertroost.proofs.Chosen.{chosen_fits, chosen_fault}
use Rattle.culvertroost.proofs.signals.cvr_signal_state_read_with.Goals as goal

pub returns-in-Ok : goal.returns-in-Ok
returns-in-Ok c =
    let a = c.args in
    let s = a.payload.now in
    c.answer_at.ensures ∙ ap answer_of (chosen_fits (refused_by) (λ v z. choice_verdict v z s) (λ v z. read_with v z s) (λ v z e. read_judged v z s e) (λ v z r e. read_faulted v z s r e) a.version a.zero_size (sym c.judge_chosen.ensures ∙ c.in-Ok.is))

pub returns-in-Err : goal.returns-in-Err
unfolding answer_by
returns-in-Err c =
    let a = c.args in
    let s = a.payload.now in
    c.from.ensures ∙ ap answer_of (chosen_fault (refused_by) (λ v z. choice_verdict v z s) (λ v z. read_with v z s) (λ v z e. read_judged v z s e) (λ v z r e. read_faulted v z s r e) a.version a.zero_size _ (sym c.judge_chosen.ensures ∙ c.in-Err.is))
