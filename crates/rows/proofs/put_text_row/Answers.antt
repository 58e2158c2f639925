-- The name, a tab, the digits and the line feed, one behind the other.
use Rattle.rows.specs.Rows.{text_row}
use Rattle.rows.proofs.Laws.{put_then}
use Rattle.rows.proofs.put_text_row.Goals as goal

pub returns : goal.returns
unfolding text_row
returns c = put_then c.put_text-tab.ensures (put_then c.put_text-digits.ensures (put_then c.put_digits-end.ensures c.put_text.ensures))
