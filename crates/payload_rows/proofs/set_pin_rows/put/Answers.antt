-- A refusal's line, or the header and the rows, one behind the other; an accepted payload's texts are inside it.
use Rattle.rows.specs.Rows.{header}
use Rattle.payload_rows.specs.SetPins.{set_pin_text}
use Rattle.rows.proofs.Laws.{put_then}
use Rattle.payload_rows.proofs.set_pin_rows.put.Goals as goal

pub returns-in-Ok : goal.returns-in-Ok
unfolding set_pin_text header
returns-in-Ok c = rw (← c.read_with.ensures, c.in-Ok.is) (put_then c.put_text-numbers.ensures (put_then c.put_numbers-pin.ensures c.put_texts.ensures))
