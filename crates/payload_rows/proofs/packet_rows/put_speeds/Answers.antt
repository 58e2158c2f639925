-- Two rows, one behind the other.
use Rattle.payload_rows.specs.Packets.{speed_rows}
use Rattle.rows.proofs.Laws.{put_then}
use Rattle.payload_rows.proofs.packet_rows.put_speeds.Goals as goal

pub returns : goal.returns
unfolding speed_rows
returns c = put_then c.put_row-downlink.ensures c.put_row.ensures
