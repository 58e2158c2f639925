-- A tab, and the digits behind it.
use Rattle.rows.specs.Rows.{field}
use Rattle.rows.proofs.Laws.{put_then}
use Rattle.rows.proofs.put_field.Goals as goal

pub returns : goal.returns
unfolding field
returns c = put_then c.put_text-digits.ensures c.put_number.ensures
