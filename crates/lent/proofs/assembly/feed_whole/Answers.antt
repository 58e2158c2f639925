-- The core's step on the buffer in the memory, and its numbers put back.
use mathlib.Core.Path.{◌∙◌, ap}
use mathlib.Core.List.{◌++◌}
use lib.ListN.{length, drop}
use Rattle.wire.specs.Output.{over}
use Rattle.assembler.specs.Assembly.{assembly_of}
use Rattle.assembler.specs.declared.FedInPlace.{FedInPlace}
use Rattle.assembler.proofs.Left.{left, left_whole}
use Rattle.lent.specs.LentAssembly.{buffer_in, held, kept_of, progress_bytes}
use Rattle.lent.proofs.Memory.{put_back, length_progress, length_buffer, whole_step, whole_over, changed_all, left_kind}
use Rattle.std.proofs.Common.{rules}
use Rattle.lent.proofs.assembly.feed_whole.Goals as goal

pub returns : goal.returns
unfolding kept_of held
returns c =
    let m = c.args.memory.now in
    let p = c.args.progress in
    let s = c.args.piece.now in
    let n = length c.args.out.now in
    let room = c.requires.room in
    let a = assembly_of p (buffer_in m) in
    let f = rw (whole_step p m s n room) at c.feed_lent-fed.ensures in
    let q = c.feed_lent-fed.result.progress in
    let b = c.feed_lent-fed.new.bytes in
    let e = f.bytes_after ∙ whole_over _ (buffer_in m) (left_whole a s n (length_buffer m room)) (length_buffer m room) in
    let k = left_kind a s q (rw (ap (λ (x : FedInPlace). x.progress) f.value) (left a s n)) in
    record {
      value = ap (λ (x : FedInPlace). x.answer) f.value;
      memory_after = put_back m b (progress_bytes q) room (search rules) (length_progress q) (c.put_changed.ensures ∙ changed_all m (b ++ drop 4096 (drop 48 m)) p q room c.requires.message_value k)
          ∙ (λ i. over (progress_bytes (f.value i).progress ++ e i) m);
      out_after = f.out_after;
    }
