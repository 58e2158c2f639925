-- The loop's invariant: the rows passed are not reached.
use mathlib.Core.Path.{◌≡◌}
use lib.ListN.{drop}
use Rattle.signal_quality.specs.Bars.{reached, bars_table}
use Rattle.signal_quality.proofs.highest_reached.Given as goal

abbrev pub invariant-loop-from : goal.invariant-loop-from
invariant-loop-from l = reached (drop l.from-index bars_table) l.rssi ≡ reached bars_table l.rssi
