-- The text is stored at its start.
use Rattle.texts.proofs.put_text.Goals as goal

pub returns : goal.returns
returns c = rw (← c.size_at.ensures.0, ← c.start_of.ensures, ← c.padded_size-room.ensures) c.put_run.ensures
