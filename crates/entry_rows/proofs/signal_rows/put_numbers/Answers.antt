-- Five rows, one behind the other.
use Rattle.entry_rows.specs.Signals.{number_rows}
use Rattle.rows.proofs.Laws.{put_then}
use Rattle.entry_rows.proofs.signal_rows.put_numbers.Goals as goal

pub returns : goal.returns
unfolding number_rows
returns c = put_then c.put_row-rate.ensures (put_then c.put_row-interval.ensures (put_then c.put_row-rssi.ensures (put_then c.put_row-errors.ensures c.put_row.ensures)))
