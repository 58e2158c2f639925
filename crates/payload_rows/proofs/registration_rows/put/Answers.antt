-- A refusal's line, or the header and the rows, one behind the other; an accepted payload's texts are inside it.
use Rattle.rows.specs.Rows.{header}
use Rattle.payload_rows.specs.Registrations.{registration_text}
use Rattle.rows.proofs.Laws.{put_then}
use Rattle.payload_rows.proofs.registration_rows.put.Goals as goal

pub returns-in-Ok : goal.returns-in-Ok
unfolding registration_text header
returns-in-Ok c = rw (← c.read_with.ensures, c.in-Ok.is) (put_then c.put_text-error.ensures (put_then c.put_classes-id.ensures (put_then c.put_texts-flag.ensures c.put_flags.ensures)))
