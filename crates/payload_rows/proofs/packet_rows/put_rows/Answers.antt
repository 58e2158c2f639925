-- The rows of the form, one behind the other.
use Rattle.payload_rows.specs.Packets.{speed_rows, form_rows}
use Rattle.rows.proofs.Laws.{put_then}
use Rattle.payload_rows.proofs.packet_rows.put_rows.Goals as goal

pub returns-in-V1 : goal.returns-in-V1
unfolding form_rows speed_rows
returns-in-V1 c = rw c.in-V1.is (put_then c.put_row-speeds.ensures c.put_speeds.ensures)

pub returns-in-V2 : goal.returns-in-V2
unfolding form_rows speed_rows
returns-in-V2 c = rw c.in-V2.is (put_then c.put_row-speeds-in-V2.ensures (put_then c.put_speeds-range.ensures c.put_row.ensures))
