-- The flag's row and, at 2.00, the preferred class's behind it.
use Rattle.payload_rows.specs.Registrations.{preferred_rows, flag_rows}
use Rattle.rows.proofs.Laws.{put_then, put_none}
use Rattle.payload_rows.proofs.registration_rows.put_flags.Goals as goal

pub returns-in-V1 : goal.returns-in-V1
unfolding flag_rows preferred_rows
returns-in-V1 c = rw c.in-V1.is (put_none c.put_row-next.ensures)

pub returns-in-V2 : goal.returns-in-V2
unfolding flag_rows preferred_rows
returns-in-V2 c = rw c.in-V2.is (put_then c.put_row-next.ensures c.put_row.ensures)
