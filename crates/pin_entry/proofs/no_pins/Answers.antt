-- Rows that are all absent.
use Rattle.pin_entry.specs.Meaning.{table_of}
use Rattle.pin_entry.proofs.Rows.{all_absent}
use Rattle.pin_entry.proofs.no_pins.Goals as goal

pub returns : goal.returns
unfolding table_of
returns c = all_absent 17 c.absent_row.result c.absent_row.ensures
