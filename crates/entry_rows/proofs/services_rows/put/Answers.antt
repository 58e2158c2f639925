-- A refusal's line, or the header and the rows, one behind the other; an accepted list has few elements of few CIDs.
use Rattle.rows.specs.Rows.{header}
use Rattle.entry_rows.specs.Services.{services_text}
use Rattle.rows.proofs.Laws.{put_then}
use Rattle.entry_rows.proofs.services_rows.put.Goals as goal

pub returns-in-Ok : goal.returns-in-Ok
unfolding services_text header
returns-in-Ok c = rw (← c.read_with.ensures, c.in-Ok.is) (put_then c.put_text-count.ensures (put_then c.put_row-sessions.ensures (put_then c.put_row-list.ensures c.put_elements.ensures)))
