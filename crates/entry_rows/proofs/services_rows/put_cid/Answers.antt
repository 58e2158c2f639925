-- The word, the two indices in brackets, the number and the line feed, one behind the other.
use Rattle.entry_rows.specs.Services.{cid_row}
use Rattle.rows.proofs.Laws.{put_then}
use Rattle.entry_rows.proofs.services_rows.put_cid.Goals as goal

pub returns : goal.returns
unfolding cid_row
returns c = put_then c.put_text-first.ensures (put_then c.put_number-between.ensures (put_then c.put_text-second.ensures (put_then c.put_number-close.ensures (put_then c.put_text-tab.ensures (put_then c.put_field-end.ensures c.put_text.ensures)))))
