-- The mark, the rows in front of the listing, and those of the listing behind its header.
use Rattle.std.proofs.Common.{◌≡◌, ℕ, List, sym, ap, ◌∙◌, take, drop, replicate, length-take-le, arith}
use Rattle.wire.proofs.Laws.{take_rest, take_over}
use Rattle.rows.proofs.Laws.{put_then, put_kept, put_over}
use Rattle.trace.specs.Marked.{header_in}
use Rattle.trace.specs.Replay.{mark_of}
use Rattle.trace.proofs.Laws.{mark_le}
use Rattle.trace.proofs.put_marks.Goals as goal

pub slice_bounds-mark-end : goal.slice_bounds-mark-end
slice_bounds-mark-end c = sym (length-take-le c.put_mark-n.result _ (omega (arith, put_kept c.put_mark-n.ensures, c.put_mark-n.ensures.ends)))

pub returns : goal.returns
returns c =
    let a = c.args in
    let m = mark_of a.number a.replayed in
    let room : List ℕ = replicate 48 0 in
    let o = put_over c.put_mark-n.ensures (omega (arith, mark_le a.number a.replayed)) in
    let e : take c.put_mark-n.result c.put_mark-n.new.out ≡ m = ap (take c.put_mark-n.result) o.1 ∙ take_over m room c.put_mark-n.result (sym o.0) in
    let rest = drop a.head a.rows.now in
    put_then (rw e at c.put_marked-next.ensures) (rw (e, c.header_in-from.ensures.0, take_rest a.head a.rows.now, take_rest (header_in rest) rest) at c.put_marked.ensures)
