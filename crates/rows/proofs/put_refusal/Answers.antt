-- The name, the number, the place and the line feed, one behind the other.
use Rattle.rows.specs.Rows.{refusal_line}
use Rattle.rows.proofs.Laws.{put_then}
use Rattle.rows.proofs.put_refusal.Goals as goal

pub returns : goal.returns
unfolding refusal_line
returns c = rw (← c.from.ensures, ← c.from-2.ensures) (put_then c.put_text-number.ensures (put_then c.put_field-place.ensures (put_then c.put_field-end.ensures c.put_text.ensures)))
