-- By what was prepared: the numbers and the buffer are put back, or zeros over both.
use native.Mathlib.Omega.{arith}
use lib.ListN.{length, length-take}
use Rattle.lent_stream.proofs.Memory.{taken, held_small, chunk_there, buffer_there, buffer_inside, done_gives, end_gives, chunk_gives, buffer_gives}
use Rattle.lent_stream.proofs.feed_open.Goals as goal

pub slice_bounds-prepare-end : goal.slice_bounds-prepare-end
slice_bounds-prepare-end c = (taken c.args.memory.now (length c.args.assembly.now) (length c.args.out.now) c.requires.judged).own

pub put_state-requires : goal.put_state-requires
put_state-requires c = let a = c.args in let T = taken a.memory.now (length a.assembly.now) (length a.out.now) c.requires.judged in omega (arith, held_small a.memory.now a.assembly.now a.chunk.now a.out.now T c.requires.open c.u32_at-held.ensures c.prepare.ensures.value c.prepare.ensures.piece_after c.in-Done.is)

pub slice_bounds-receive_judged-end : goal.slice_bounds-receive_judged-end
slice_bounds-receive_judged-end c = let a = c.args in let T = taken a.memory.now (length a.assembly.now) (length a.out.now) c.requires.judged in simp length-take (omega (arith, chunk_there a.memory.now a.assembly.now a.chunk.now a.out.now T c.requires.open c.u32_at-held.ensures c.prepare.ensures.value c.prepare.ensures.piece_after c.in-InChunk.is))

pub overflow_add-end : goal.overflow_add-end
overflow_add-end c = let a = c.args in let T = taken a.memory.now (length a.assembly.now) (length a.out.now) c.requires.judged in omega (arith, buffer_there a.memory.now a.assembly.now a.chunk.now a.out.now T c.requires.open c.u32_at-held.ensures c.prepare.ensures.value c.prepare.ensures.piece_after c.in-InBuffer.is)

pub slice_bounds-receive_judged-end-in-InBuffer : goal.slice_bounds-receive_judged-end-in-InBuffer
slice_bounds-receive_judged-end-in-InBuffer c = let a = c.args in let T = taken a.memory.now (length a.assembly.now) (length a.out.now) c.requires.judged in buffer_inside a.memory.now a.assembly.now a.chunk.now a.out.now T c.requires.open c.u32_at-held.ensures c.prepare.ensures.value c.prepare.ensures.piece_after c.in-InBuffer.is

pub returns-in-Done : goal.returns-in-Done
returns-in-Done c =
    let a = c.args in
    let T = taken a.memory.now (length a.assembly.now) (length a.out.now) c.requires.judged in
    done_gives a.memory.now a.assembly.now a.chunk.now a.out.now T c.requires.open c.u32_at-held.ensures c.prepare.ensures.value c.prepare.ensures.piece_after _ _ _ c.in-Done.is c.put_state.ensures

pub returns-in-Ends : goal.returns-in-Ends
returns-in-Ends c =
    let a = c.args in
    let T = taken a.memory.now (length a.assembly.now) (length a.out.now) c.requires.judged in
    end_gives a.memory.now a.assembly.now a.chunk.now a.out.now T c.requires.open c.u32_at-held.ensures c.prepare.ensures.value c.prepare.ensures.piece_after _ _ c.in-Ends.is c.put_state-in-Ends.ensures c.end_assembly.ensures c.ended_at.ensures

pub returns-in-InChunk : goal.returns-in-InChunk
returns-in-InChunk c =
    let a = c.args in
    let T = taken a.memory.now (length a.assembly.now) (length a.out.now) c.requires.judged in
    let f = c.receive_judged-received.ensures in
    chunk_gives a.memory.now a.assembly.now a.chunk.now a.out.now T c.requires.open c.u32_at-held.ensures c.prepare.ensures.value c.prepare.ensures.piece_after _ c.in-InChunk.is f.value f.memory_after f.out_after

pub returns-in-InBuffer : goal.returns-in-InBuffer
returns-in-InBuffer c =
    let a = c.args in
    let T = taken a.memory.now (length a.assembly.now) (length a.out.now) c.requires.judged in
    let f = c.receive_judged-received-in-InBuffer.ensures in
    buffer_gives a.memory.now a.assembly.now a.chunk.now a.out.now T c.requires.open c.u32_at-held.ensures c.prepare.ensures.value c.prepare.ensures.piece_after c.in-InBuffer.length _ c.in-InBuffer.is f.value f.memory_after f.out_after (c.wipe.ensures.filled (buffer_inside a.memory.now a.assembly.now a.chunk.now a.out.now T c.requires.open c.u32_at-held.ensures c.prepare.ensures.value c.prepare.ensures.piece_after c.in-InBuffer.is))
