-- The name, the index in brackets, the number and the line feed, one behind the other.
use Rattle.rows.specs.Rows.{indexed_row}
use Rattle.rows.proofs.Laws.{put_then}
use Rattle.rows.proofs.put_indexed_row.Goals as goal

pub returns : goal.returns
unfolding indexed_row
returns c = put_then c.put_text-open.ensures (put_then c.put_text-index.ensures (put_then c.put_number-close.ensures (put_then c.put_text-tab.ensures (put_then c.put_field-end.ensures c.put_text.ensures))))
