-- No digits yet, and those of a byte more.
use Rattle.ascii.specs.Ascii.{hexed_in}
use Rattle.rows.proofs.Laws.{put_start, put_pair_next}
use Rattle.rows.proofs.put_digits.Goals as goal

pub loop-b-init : goal.loop-b-init
unfolding hexed_in
loop-b-init c = put_start c.args.out.now c.args.at

pub loop-b-preserved : goal.loop-b-preserved
loop-b-preserved c = put_pair_next c.args.text.now c.loop-b.b-index c.loop-b.invariant c.put_pair-next.ensures
