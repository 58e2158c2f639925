-- A complete message's rows, and what it shows; the name of a refused piece.
use Rattle.rows.proofs.Laws.{put_then}
use Rattle.trace.specs.Heads.{piece_rows}
use Rattle.trace.proofs.heads.put_piece.Goals as goal

pub returns-in-Ok-Complete : goal.returns-in-Ok-Complete
unfolding piece_rows
returns-in-Ok-Complete c =
    let e = rw c.in-Ok-Complete.is at c.in-Ok-Complete.field-0-is in
    rw (c.in-Ok-Complete.is, e, ← c.payload_of.ensures) (put_then c.put_message-next.ensures c.put_shown.ensures)

pub returns-else-is_whole : goal.returns-else-is_whole
unfolding piece_rows
returns-else-is_whole c = rw (c.in-Err.is, c.if-is_whole.false) c.put_refusal-in-Err.ensures
