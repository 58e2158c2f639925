-- The pair of the text's start and size is stored.
use Rattle.texts.proofs.put_pair.Goals as goal

pub returns : goal.returns
returns c = rw (← c.size_at.ensures.0, ← c.start_of.ensures, ← c.place_at-pair.ensures) c.put_range.ensures
