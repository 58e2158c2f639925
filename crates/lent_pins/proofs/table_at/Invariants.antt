-- One row more at each turn.
use mathlib.Core.Path.{◌≡◌}
use Rattle.pin_entry.specs.Meaning.{table_of}
use Rattle.pin_entry.specs.PinTable.{filled}
use Rattle.lent_pins.specs.LentPins.{row_in}
use Rattle.lent_pins.proofs.table_at.Given as goal

abbrev pub invariant-loop-i : goal.invariant-loop-i
invariant-loop-i l = table_of l.table ≡ filled (row_in l.memory) l.i
