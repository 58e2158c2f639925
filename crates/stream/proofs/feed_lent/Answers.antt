-- By what was prepared; the door's answer is the call's.
use native.Mathlib.Omega.{arith}
use lib.ListN.{length, length-take}
use Rattle.stream.proofs.Giving.{in_chunk, buffer_fits, buffer_wiped, buffer_same, done_gives, end_gives, chunk_gives, buffer_gives}
use Rattle.stream.proofs.feed_lent.Goals as goal

pub slice_bounds-receive_in_place-end : goal.slice_bounds-receive_in_place-end
slice_bounds-receive_in_place-end c = let a = c.args in simp length-take (omega (arith, (in_chunk a.state a.piece.now a.chunk.now (length a.out.now) c.prepare.ensures.value c.in-InChunk.is).1))

pub slice_bounds-receive_in_place-end-in-InBuffer : goal.slice_bounds-receive_in_place-end-in-InBuffer
slice_bounds-receive_in_place-end-in-InBuffer c = let a = c.args in buffer_fits a.state a.piece.now a.chunk.now (length a.out.now) c.in-InBuffer.length _ c.requires c.prepare.ensures.value c.prepare.ensures.piece_after c.in-InBuffer.is

pub slice_bounds-receive_in_place-end-in-InBuffer-2 : goal.slice_bounds-receive_in_place-end-in-InBuffer-2
slice_bounds-receive_in_place-end-in-InBuffer-2 c = let a = c.args in simp length-take (omega (arith, buffer_fits a.state a.piece.now a.chunk.now (length a.out.now) c.in-InBuffer.length _ c.requires c.prepare.ensures.value c.prepare.ensures.piece_after c.in-InBuffer.is))

pub slice_bounds-clear-end : goal.slice_bounds-clear-end
slice_bounds-clear-end c = let a = c.args in buffer_fits a.state a.piece.now a.chunk.now (length a.out.now) c.in-InBuffer.length _ c.requires c.prepare.ensures.value c.prepare.ensures.piece_after c.in-InBuffer.is

pub slice_bounds-clear-end-in-InBuffer : goal.slice_bounds-clear-end-in-InBuffer
slice_bounds-clear-end-in-InBuffer c = let a = c.args in simp length-take (omega (arith, buffer_fits a.state a.piece.now a.chunk.now (length a.out.now) c.in-InBuffer.length _ c.requires c.prepare.ensures.value c.prepare.ensures.piece_after c.in-InBuffer.is))

pub returns-in-Done : goal.returns-in-Done
returns-in-Done c =
    let a = c.args in
    done_gives a.progress a.bytes.now a.state a.piece.now a.chunk.now a.out.now c.requires c.prepare.ensures.value c.prepare.ensures.piece_after _ _ _ c.in-Done.is

pub returns-in-Ends : goal.returns-in-Ends
returns-in-Ends c =
    let a = c.args in
    end_gives a.progress a.bytes.now a.state a.piece.now a.chunk.now a.out.now c.requires c.prepare.ensures.value c.prepare.ensures.piece_after _ _ c.in-Ends.is c.end.ensures

pub returns-in-InChunk : goal.returns-in-InChunk
returns-in-InChunk c =
    let a = c.args in
    let f = c.receive_in_place-receipt.ensures in
    chunk_gives a.progress a.bytes.now a.state a.piece.now a.chunk.now a.out.now c.requires c.prepare.ensures.value c.prepare.ensures.piece_after _ c.in-InChunk.is f.value f.bytes_after f.out_after c.passed.ensures

pub shape_of-piece-in-InBuffer : goal.shape_of-piece-in-InBuffer
shape_of-piece-in-InBuffer c = let a = c.args in buffer_same a.state a.piece.now a.chunk.now (length a.out.now) c.in-InBuffer.length _ c.requires c.prepare.ensures.value c.prepare.ensures.piece_after c.in-InBuffer.is c.clear.ensures

pub returns-in-InBuffer : goal.returns-in-InBuffer
returns-in-InBuffer c =
    let a = c.args in
    let f = c.receive_in_place-receipt-in-InBuffer.ensures in
    buffer_gives a.progress a.bytes.now a.state a.piece.now a.chunk.now a.out.now c.requires c.prepare.ensures.value c.prepare.ensures.piece_after _ _ c.in-InBuffer.is f.value f.bytes_after f.out_after c.passed-in-InBuffer.ensures (buffer_wiped a.state a.piece.now a.chunk.now (length a.out.now) c.in-InBuffer.length _ c.requires c.prepare.ensures.value c.prepare.ensures.piece_after c.in-InBuffer.is c.clear.ensures)
