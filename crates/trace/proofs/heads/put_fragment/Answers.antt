-- The name, the type and the rows, one behind the other.
use Rattle.rows.proofs.Laws.{put_then}
use Rattle.trace.specs.Heads.{type_row, fragment_rows}
use Rattle.trace.proofs.heads.put_fragment.Goals as goal

pub returns : goal.returns
unfolding fragment_rows type_row
returns c = put_then (put_then c.put_text-tab.ensures c.put_type-drop.ensures) (put_then c.put_dropped-number.ensures c.put_row.ensures)
