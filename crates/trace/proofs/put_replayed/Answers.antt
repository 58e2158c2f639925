-- The rows stand in their room, which is long enough; then they get their marks.
use mathlib.Core.Path.{sym}
use native.Mathlib.Omega.{arith}
use lib.Seq.{length-take-le}
use Rattle.trace.specs.Replay.{front_in, answer_text}
use Rattle.trace.proofs.Lengths.{unmarked_le}
use Rattle.trace.proofs.Laws.{stored}
use Rattle.trace.proofs.put_replayed.Goals as goal

pub put_fields-end-requires : goal.put_fields-end-requires
put_fields-end-requires c = c.requires.fronted_in

pub slice_bounds-put_marks-end : goal.slice_bounds-put_marks-end
slice_bounds-put_marks-end c =
    let a = c.args in
    let x = stored c.put_head-head.ensures c.put_fields-end.ensures (omega (arith, c.requires.rows_len, unmarked_le a.replayed (front_in a.replayed a.front.now))) in
    x.within

pub slice_bounds-put_marks-end-2 : goal.slice_bounds-put_marks-end-2
slice_bounds-put_marks-end-2 c =
    let a = c.args in
    let x = stored c.put_head-head.ensures c.put_fields-end.ensures (omega (arith, c.requires.rows_len, unmarked_le a.replayed (front_in a.replayed a.front.now))) in
    sym (length-take-le _ _ x.within)

pub put_marks-requires : goal.put_marks-requires
put_marks-requires c =
    let a = c.args in
    let x = stored c.put_head-head.ensures c.put_fields-end.ensures (omega (arith, c.requires.rows_len, unmarked_le a.replayed (front_in a.replayed a.front.now))) in
    rw (length-take-le c.put_fields-end.result _ x.within) x.ordered

pub returns : goal.returns
unfolding answer_text
returns c =
    let a = c.args in
    let x = stored c.put_head-head.ensures c.put_fields-end.ensures (omega (arith, c.requires.rows_len, unmarked_le a.replayed (front_in a.replayed a.front.now))) in
    record { rows_after = x.all; put = rw (x.first, x.second) at c.put_marks.ensures }
