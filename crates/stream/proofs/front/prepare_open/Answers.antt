-- The rest of a piece is in the chunk; of a buffer whose stream ends the bytes held are wiped.
use mathlib.Core.Path.{sym, ◌∙◌}
use native.Mathlib.Omega.{arith}
use lib.ListN.{length-take}
use lib.Seq.{length-take-le}
use Rattle.stream.specs.Ready.{prepared_by}
use Rattle.stream.proofs.Giving.{wiped_front, piece_there}
use Rattle.stream.proofs.front.prepare_open.Goals as goal

pub slice_bounds-put_bytes-end : goal.slice_bounds-put_bytes-end
slice_bounds-put_bytes-end c = let a = c.args in simp length-take (omega (arith, c.saturating_sub-rest.ensures, (piece_there a.held a.piece.now a.chunk.now c.requires.1 _ (sym c.next_in.ensures ∙ c.in-Piece.is)).0))

pub returns-in-Ends-clause-piece_after : goal.returns-in-Ends-clause-piece_after
unfolding prepared_by
returns-in-Ends-clause-piece_after c =
    let a = c.args in
    rw (← c.next_in.ensures, c.in-Ends.is, length-take-le a.held a.piece.now c.requires.1) (wiped_front a.held a.piece.now c.requires.1 c.clear.ensures)
