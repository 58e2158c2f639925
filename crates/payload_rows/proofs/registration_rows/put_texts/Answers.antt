-- Three rows, one behind the other.
use Rattle.payload_rows.specs.Registrations.{text_rows}
use Rattle.rows.proofs.Laws.{put_then}
use Rattle.payload_rows.proofs.registration_rows.put_texts.Goals as goal

pub returns : goal.returns
unfolding text_rows
returns c = put_then c.put_range_row-second.ensures (put_then c.put_range_row-third.ensures c.put_range_row.ensures)
