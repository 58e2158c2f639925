-- The row is stored at its place.
use native.Mathlib.Omega.{arith}
use Rattle.pin_entry.specs.Meaning.{table_of}
use Rattle.pin_entry.proofs.Rows.{put_within}
use Rattle.pin_entry.proofs.with_row_at.Goals as goal

pub returns-then-number-lt-ROWS : goal.returns-then-number-lt-ROWS
unfolding table_of
returns-then-number-lt-ROWS c = put_within c.args.table.rows c.args.number c.args.row c.if-number-lt-ROWS.true (omega (arith, c.well_formed.0.1.1.0.1.0.1))
