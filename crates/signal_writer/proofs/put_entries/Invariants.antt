-- The invariant: the first i entries stand in the output.
use mathlib.Core.Path.{◌≡◌}
use lib.Seq.{sets}
use Rattle.signal_state.specs.SignalState.{entry_in, entries_bytes}
use Rattle.signal_writer.proofs.put_entries.Given as goal

abbrev pub invariant-loop-i : goal.invariant-loop-i
invariant-loop-i l = l.out ≡ sets l.initial.out 32 (entries_bytes l.i (entry_in l.entries))
