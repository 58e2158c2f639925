-- The loop's invariant: the rows of the first i entries stand in the output.
use Rattle.rows.specs.Rows.{Put}
use Rattle.entry_rows.specs.Signals.{entries_rows}
use Rattle.entry_rows.proofs.signal_rows.put_entries.Given as goal

abbrev pub invariant-loop-i : goal.invariant-loop-i
invariant-loop-i l = Put l.initial.out l.at (entries_rows l.entries l.i) l.out l.next
