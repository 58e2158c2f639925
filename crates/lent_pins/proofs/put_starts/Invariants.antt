-- One row more at each turn.
use mathlib.Core.Path.{◌≡◌}
use lib.Seq.{sets}
use Rattle.folds.specs.Folds.{joined}
use Rattle.pin_entry.specs.Meaning.{started}
use Rattle.lent_pins.specs.LentPins.{row_bytes_at}
use Rattle.lent_pins.proofs.put_starts.Given as goal

abbrev pub invariant-loop-i : goal.invariant-loop-i
invariant-loop-i l = l.memory ≡ sets l.initial.memory 0 (joined (row_bytes_at (started l.starts.rows)) l.i)
