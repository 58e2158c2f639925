-- The invariant: none passed is known.
use mathlib.Core.Path.{◌≡◌}
use mathlib.Core.Bool.{false}
use Rattle.signal_state.specs.SignalState.{entry_in, any_known}
use Rattle.signal_writer.proofs.is_any_known.Given as goal

abbrev pub invariant-loop-entry : goal.invariant-loop-entry
invariant-loop-entry l = any_known (entry_in l.entries) l.entry-index ≡ false
