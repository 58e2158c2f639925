-- A refusal's line, or the header and the rows, one behind the other; an accepted payload has at most 16 entries.
use mathlib.Core.Path.{sym, ap, ◌∙◌}
use native.Mathlib.Omega.{arith}
use Rattle.signal_state.specs.declared.SignalStateShown.{SignalStateShown}
use Rattle.rows.specs.Rows.{header}
use Rattle.entry_rows.specs.Signals.{answer_text}
use Rattle.rows.proofs.Laws.{put_then}
use Rattle.entry_rows.proofs.Signals.{few_entries, front_entries}
use Rattle.entry_rows.proofs.signal_rows.put.Goals as goal

pub returns-in-Ok : goal.returns-in-Ok
unfolding answer_text header
returns-in-Ok c =
    let f = few_entries c.args.version _ c.args.payload.now (ap (λ (x : SignalStateShown). x.answer) (sym c.read_with-shown.ensures) ∙ c.in-Ok.is) in
    let r = front_entries c.read_with-shown.result.entries c.count_of.result (omega (arith, c.count_of.ensures, f, c.read_with-shown.type_inv)) in
    rw (← c.read_with-shown.ensures, c.in-Ok.is) (rw (← c.count_of.ensures) (put_then c.put_text-rssi.ensures (put_then c.put_numbers-list.ensures (rw r at c.put_entries.ensures))))
