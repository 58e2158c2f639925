-- The information joins the buffer, and then the counts.
use Rattle.lent.specs.LentAssembly.{GoesOn}
use Rattle.lent.proofs.GoingOn.{gone_on}
use Rattle.lent.proofs.assembly.go_on.Goals as goal

pub returns : goal.returns
returns c =
    let p = c.progress_at-progress.result in
    let G : GoesOn p c.args.piece.now = rw c.progress_at-progress.ensures.value c.requires.piece in
    rw (← c.progress_at-progress.ensures.value)
    (gone_on c.args.memory.now p c.args.piece.now c.requires.room c.progress_at-progress.ensures.message_value G c.put_bytes.ensures c.put_counts.ensures)
