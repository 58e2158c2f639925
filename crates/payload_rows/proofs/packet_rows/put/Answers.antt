-- A refusal's line, or the header and the rows, one behind the other.
use Rattle.rows.specs.Rows.{header}
use Rattle.payload_rows.specs.Packets.{packet_text}
use Rattle.rows.proofs.Laws.{put_then}
use Rattle.payload_rows.proofs.packet_rows.put.Goals as goal

pub returns-in-Ok : goal.returns-in-Ok
unfolding packet_text header
returns-in-Ok c = rw (← c.read.ensures, c.in-Ok.is) (put_then c.put_text-error.ensures (put_then c.put_row-state.ensures (put_then c.put_row-class.ensures c.put_rows.ensures)))
