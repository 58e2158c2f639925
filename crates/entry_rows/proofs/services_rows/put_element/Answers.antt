-- The rows of the element, one behind the other, and then those of its CIDs.
use Rattle.entry_rows.specs.Services.{element_rows}
use Rattle.rows.proofs.Laws.{put_then}
use Rattle.entry_rows.proofs.services_rows.put_element.Goals as goal

pub returns : goal.returns
unfolding element_rows
returns c = rw (← c.judged_element-element.ensures) (put_then c.put_id_row-payloads.ensures (put_then c.put_indexed_row-instances.ensures (put_then c.put_indexed_row-cids.ensures (put_then c.put_indexed_row-list.ensures c.put_cids.ensures))))
