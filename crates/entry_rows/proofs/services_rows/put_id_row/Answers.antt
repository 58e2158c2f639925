-- The word, the index in brackets, the digits and the line feed, one behind the other.
use Rattle.entry_rows.specs.Services.{id_row}
use Rattle.rows.proofs.Laws.{put_then}
use Rattle.entry_rows.proofs.services_rows.put_id_row.Goals as goal

pub returns : goal.returns
unfolding id_row
returns c = rw (← c.id_bytes-bytes.ensures) (put_then c.put_text-index.ensures (put_then c.put_number-close.ensures (put_then c.put_text-digits.ensures (put_then c.put_digits-end.ensures c.put_text.ensures))))
