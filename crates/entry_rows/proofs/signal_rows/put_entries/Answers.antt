use Rattle.folds.specs.Folds.{joined}
use Rattle.signal_state.specs.SignalState.{entry_in}
use Rattle.entry_rows.specs.Signals.{entry_rows, entries_rows}
use Rattle.rows.proofs.Laws.{put_start, put_next}
use Rattle.entry_rows.proofs.signal_rows.put_entries.Goals as goal

pub loop-i-init : goal.loop-i-init
unfolding entries_rows joined
loop-i-init c = put_start c.args.out.now c.args.at

pub loop-i-preserved : goal.loop-i-preserved
unfolding entries_rows
loop-i-preserved c = put_next (λ k. entry_rows k (entry_in c.args.entries.now k)) c.loop-i.i c.loop-i.invariant c.put_entry-next.ensures
