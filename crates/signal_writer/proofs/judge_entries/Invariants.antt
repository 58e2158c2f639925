-- The invariant: each entry passed fits. A fault found is then the first.
use mathlib.Core.Path.{◌≡◌}
use Rattle.protocol.specs.Verdict.{no_fault}
use Rattle.signal_state.specs.SignalState.{entry_in, entries_verdict}
use Rattle.signal_writer.proofs.judge_entries.Given as goal

abbrev pub invariant-loop-i : goal.invariant-loop-i
invariant-loop-i l = entries_verdict 28 (entry_in l.entries) l.i ≡ no_fault
