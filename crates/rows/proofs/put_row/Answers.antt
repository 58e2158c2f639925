-- The name, the number and the line feed, one behind the other.
use Rattle.rows.specs.Rows.{row}
use Rattle.rows.proofs.Laws.{put_then}
use Rattle.rows.proofs.put_row.Goals as goal

pub returns : goal.returns
unfolding row
returns c = put_then c.put_text-tab.ensures (put_then c.put_field-end.ensures c.put_text.ensures)
