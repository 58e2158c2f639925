-- Five rows, one behind the other.
use Rattle.payload_rows.specs.Registrations.{class_rows}
use Rattle.rows.proofs.Laws.{put_then}
use Rattle.payload_rows.proofs.registration_rows.put_classes.Goals as goal

pub returns : goal.returns
unfolding class_rows
returns c = put_then c.put_row-state.ensures (put_then c.put_row-mode.ensures (put_then c.put_row-available.ensures (put_then c.put_row-cellular.ensures c.put_row.ensures)))
