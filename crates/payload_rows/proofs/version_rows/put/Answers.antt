-- A refusal's line, or the header and the rows, one behind the other.
use Rattle.rows.specs.Rows.{header}
use Rattle.payload_rows.specs.Versions.{version_text}
use Rattle.rows.proofs.Laws.{put_then}
use Rattle.payload_rows.proofs.version_rows.put.Goals as goal

pub returns-in-Ok : goal.returns-in-Ok
unfolding version_text header
returns-in-Ok c = rw (← c.read.ensures, c.in-Ok.is) (put_then c.put_text-mbim.ensures (put_then c.put_row-extended.ensures c.put_row.ensures))
