-- The digits are spelled at the front of the room.
use Rattle.std.proofs.Common.{length, replicate, ap, arith}
use lib.Seq.{length-sets}
use Rattle.ascii.proofs.Laws.{spelled_front}
use Rattle.trace_step.proofs.piece_of.Goals as goal

pub returns : goal.returns
returns c =
    let a = c.args in
    let room = replicate 256 0 in (
      spelled_front a.line.now a.from a.digits room c.requires.0 (omega (arith, c.requires.1)) c.unhex.ensures,
      simp length-sets at (ap length c.unhex.ensures),
    )
