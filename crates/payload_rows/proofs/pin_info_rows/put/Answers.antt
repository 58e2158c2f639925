-- A refusal's line, or the header and the rows, one behind the other.
use Rattle.rows.specs.Rows.{header}
use Rattle.payload_rows.specs.PinInfos.{pin_info_text}
use Rattle.rows.proofs.Laws.{put_then}
use Rattle.payload_rows.proofs.pin_info_rows.put.Goals as goal

pub returns-in-Ok : goal.returns-in-Ok
unfolding pin_info_text header
returns-in-Ok c = rw (← c.read.ensures, c.in-Ok.is) (put_then c.put_text-pin_type.ensures (put_then c.put_row-state.ensures (put_then c.put_row-attempts.ensures c.put_row.ensures)))
