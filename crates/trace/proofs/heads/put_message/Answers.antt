-- The rows, one behind the other.
use Rattle.rows.proofs.Laws.{put_then}
use Rattle.trace.specs.Heads.{message_rows}
use Rattle.trace.proofs.heads.put_message.Goals as goal

pub returns : goal.returns
unfolding message_rows
returns c = put_then c.put_fragment-service.ensures (put_then c.put_service-cid.ensures (put_then c.put_row-word.ensures (put_then c.put_word-end.ensures c.put_row.ensures)))
