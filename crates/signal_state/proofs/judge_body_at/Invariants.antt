-- The invariant: each entry passed fits, and whether one is known. A fault found is then the first.
use mathlib.Core.Path.{◌≡◌}
use Rattle.signal_state.specs.SignalState.{entry_at, entries_verdict, any_known}
use Rattle.signal_state.proofs.judge_body_at.Given as goal
use Rattle.protocol.specs.Verdict.{no_fault}

abbrev pub invariant-loop-i : goal.invariant-loop-i
invariant-loop-i l = (entries_verdict l.offset (entry_at l.s l.offset) l.i ≡ no_fault) × (l.known ≡ any_known (entry_at l.s l.offset) l.i)
