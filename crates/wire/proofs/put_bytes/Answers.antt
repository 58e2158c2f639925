-- A part of the output is t then, or as much of t as has room.
use mathlib.Core.Path.{sym, ap, ◌∙◌}
use Prim.Native.Nat.{◌+◌, ◌-◌}
use native.Mathlib.Omega.{arith}
use lib.ListN.{length, take, length-take, length-drop}
use lib.Seq.{length-take-le, take-length}
use Rattle.wire.proofs.Laws.{sets_out, sets_cut, part_copied}
use Rattle.wire.proofs.put_bytes.Goals as goal

pub returns-then-out-at : goal.returns-then-out-at
returns-then-out-at c = sym (sets_out c.args.t.now c.args.out.now _ c.if-out-at.true)

pub slice_bounds-copy-end-then-room-t : goal.slice_bounds-copy-end-then-room-t
slice_bounds-copy-end-then-room-t c = let a = c.args in sym (length-take-le (length a.out.now - a.at) a.t.now (omega arith))

pub copy-requires : goal.copy-requires
copy-requires c = simp (length-take, length-drop) (omega arith)

pub returns-then-room-t : goal.returns-then-room-t
returns-then-room-t c = let a = c.args in let room = length a.out.now - a.at in part_copied (take room a.t.now) a.out.now a.at room (length-take-le room a.t.now (omega arith)) (omega arith) c.copy.ensures ∙ sets_cut a.t.now a.out.now a.at room (omega arith) (omega arith)

pub slice_bounds-copy_at_once-end-then-n-gt-MOST_IN_RUNS : goal.slice_bounds-copy_at_once-end-then-n-gt-MOST_IN_RUNS
slice_bounds-copy_at_once-end-then-n-gt-MOST_IN_RUNS c = sym (ap length (take-length c.args.t.now))

pub copy_at_once-requires : goal.copy_at_once-requires
copy_at_once-requires c = simp (length-take, length-drop) (omega arith)

pub returns-then-n-gt-MOST_IN_RUNS : goal.returns-then-n-gt-MOST_IN_RUNS
returns-then-n-gt-MOST_IN_RUNS c = let a = c.args in part_copied a.t.now a.out.now a.at (a.at + length a.t.now - a.at) (omega arith) (omega arith) (c.copy_at_once.ensures ∙ take-length a.t.now)

pub slice_bounds-copy_short-end-2 : goal.slice_bounds-copy_short-end-2
slice_bounds-copy_short-end-2 c = sym (ap length (take-length c.args.t.now))

pub copy_short-requires : goal.copy_short-requires
copy_short-requires c = simp (length-take, length-drop) (omega arith)

pub returns : goal.returns
returns c = let a = c.args in part_copied a.t.now a.out.now a.at (a.at + length a.t.now - a.at) (omega arith) (omega arith) (c.copy_short.ensures ∙ take-length a.t.now)
