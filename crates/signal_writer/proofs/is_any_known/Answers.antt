-- One that is known is there where any is.
use mathlib.Core.Path.{sym, ◌∙◌}
use Rattle.signal_state.specs.SignalState.{entry_in}
use Rattle.signal_writer.proofs.Laws.{known_at}
use Rattle.signal_writer.proofs.is_any_known.Goals as goal

pub returns-then-is_known : goal.returns-then-is_known
returns-then-is_known c = sym (known_at (entry_in c.args.entries.now) _ c.loop-entry.entry-index c.loop-entry-test.true (sym c.is_known.ensures ∙ c.if-is_known.true))
