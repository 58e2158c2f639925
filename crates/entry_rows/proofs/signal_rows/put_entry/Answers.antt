-- Five rows, one behind the other.
use Rattle.entry_rows.specs.Signals.{entry_rows}
use Rattle.rows.proofs.Laws.{put_then}
use Rattle.entry_rows.proofs.signal_rows.put_entry.Goals as goal

pub returns : goal.returns
unfolding entry_rows
returns c = put_then c.put_indexed_row-snr.ensures (put_then c.put_indexed_row-strength.ensures (put_then c.put_indexed_row-ratio.ensures (put_then c.put_indexed_row-system.ensures c.put_indexed_row.ensures)))
