-- The pair, placed where it says.
use Rattle.pairs.specs.Pair.{shown_at}
use Rattle.pairs.proofs.shown_at.Goals as goal

pub returns : goal.returns
unfolding shown_at
returns c = rw (← c.range_at-pair.ensures) c.place_at.ensures
