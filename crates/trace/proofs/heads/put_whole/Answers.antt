-- The name, the type and the rows, one behind the other.
use Rattle.rows.proofs.Laws.{put_then}
use Rattle.trace.specs.Heads.{type_row, whole_rows}
use Rattle.trace.proofs.heads.put_whole.Goals as goal

pub returns : goal.returns
unfolding whole_rows type_row
returns c = put_then (put_then c.put_text-name.ensures c.put_type-number.ensures) (put_then c.put_row-next.ensures c.put_whole_word.ensures)
