-- One row more at each turn.
use mathlib.Core.Path.{◌≡◌}
use Rattle.pin_entry.specs.Meaning.{table_of, start_row_at}
use Rattle.pin_entry.specs.PinTable.{filled}
use Rattle.pin_entry.proofs.starts.table_from.Given as goal

abbrev pub invariant-loop-i : goal.invariant-loop-i
invariant-loop-i l = table_of l.table ≡ filled (start_row_at l.starts.rows) l.i
