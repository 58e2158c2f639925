-- Two rows, one behind the other.
use Rattle.payload_rows.specs.SetPins.{number_rows}
use Rattle.rows.proofs.Laws.{put_then}
use Rattle.payload_rows.proofs.set_pin_rows.put_numbers.Goals as goal

pub returns : goal.returns
unfolding number_rows
returns c = put_then c.put_row-operation.ensures c.put_row.ensures
