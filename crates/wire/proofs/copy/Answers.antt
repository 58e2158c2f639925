-- Both ways copy all of t.
use mathlib.Core.Path.{sym, ap, ◌∙◌}
use native.Mathlib.Omega.{arith}
use lib.ListN.{length}
use lib.Seq.{take-length}
use Rattle.wire.proofs.copy.Goals as goal

pub slice_bounds-copy_at_once-end : goal.slice_bounds-copy_at_once-end
slice_bounds-copy_at_once-end c = sym (ap length (take-length c.args.t.now))

pub copy_at_once-requires : goal.copy_at_once-requires
copy_at_once-requires c = c.requires ∙ sym (ap length (take-length c.args.t.now))

pub returns-then-n-gt-MOST_IN_RUNS : goal.returns-then-n-gt-MOST_IN_RUNS
returns-then-n-gt-MOST_IN_RUNS c = c.copy_at_once.ensures ∙ take-length c.args.t.now

pub slice_bounds-copy_short-end : goal.slice_bounds-copy_short-end
slice_bounds-copy_short-end c = sym (ap length (take-length c.args.t.now))

pub copy_short-requires : goal.copy_short-requires
copy_short-requires c = rw (take-length c.args.t.now) (c.requires, omega arith)

pub returns : goal.returns
returns c = c.copy_short.ensures ∙ take-length c.args.t.now
