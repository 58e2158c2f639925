-- The loop's invariant: the first i entries are read, the others are zero.
use mathlib.Core.Path.{◌≡◌}
use Rattle.signal_state.specs.SignalState.{entries_at}
use Rattle.signal_state.proofs.entries_at.Given as goal

abbrev pub invariant-loop-i : goal.invariant-loop-i
invariant-loop-i l = l.entries ≡ entries_at l.s l.offset l.i
