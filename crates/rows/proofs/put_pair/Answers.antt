-- The two digits.
use mathlib.Core.Path.{refl}
use Rattle.ascii.specs.Ascii.{hex_pair}
use Rattle.rows.proofs.Laws.{put_all}
use Rattle.rows.proofs.put_pair.Goals as goal

pub returns : goal.returns
unfolding hex_pair
returns c = put_all c.put_hex.ensures refl c.behind.ensures
