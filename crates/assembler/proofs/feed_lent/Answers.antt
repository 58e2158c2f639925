-- What lies past 4,096 bytes stays.
use borrow.Author.Tests.{le-ltb}
use lib.ListN.{length}
use Rattle.assembler.specs.Assembly.{lent_step_of}
use Rattle.assembler.proofs.Left.{lent_front}
use Rattle.assembler.proofs.feed_lent.Goals as goal

pub returns-clause-bytes_after : goal.returns-clause-bytes_after
unfolding lent_step_of
returns-clause-bytes_after c =
    let a = c.args in
    rw (le-ltb _ _ c.if-bytes-lt-MOST_INFORMATION.false)
    (lent_front a.progress a.bytes.now a.piece.now (length a.out.now) c.if-bytes-lt-MOST_INFORMATION.false c.feed_whole.ensures.bytes_after)
