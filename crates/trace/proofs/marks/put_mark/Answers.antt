-- The number, and by whether the line is good.
use Rattle.rows.proofs.Laws.{put_then}
use Rattle.trace.specs.Replay.{mark_of}
use Rattle.trace.proofs.marks.put_mark.Goals as goal

pub returns-in-Err : goal.returns-in-Err
unfolding mark_of
returns-in-Err c = rw c.in-Err.is (put_then c.put_number-next.ensures c.put_text.ensures)

pub returns-in-Ok : goal.returns-in-Ok
unfolding mark_of
returns-in-Ok c = rw c.in-Ok.is (put_then c.put_number-next.ensures (put_then c.put_field-end.ensures c.put_sender.ensures))
