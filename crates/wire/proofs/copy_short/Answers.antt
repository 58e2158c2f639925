-- Both ways copy all of t.
use mathlib.Core.Path.{sym, ap, ◌∙◌}
use native.Mathlib.Omega.{arith}
use lib.ListN.{length}
use lib.Seq.{take-length}
use Rattle.wire.proofs.copy_short.Goals as goal

pub slice_bounds-copy_few-end : goal.slice_bounds-copy_few-end
slice_bounds-copy_few-end c = sym (ap length (take-length c.args.t.now))

pub copy_few-requires : goal.copy_few-requires
copy_few-requires c = rw (take-length c.args.t.now) (c.requires.0, omega arith)

pub returns-then-n-lt16 : goal.returns-then-n-lt16
returns-then-n-lt16 c = c.copy_few.ensures ∙ take-length c.args.t.now

pub slice_bounds-copy_in_runs-end : goal.slice_bounds-copy_in_runs-end
slice_bounds-copy_in_runs-end c = sym (ap length (take-length c.args.t.now))

pub copy_in_runs-requires : goal.copy_in_runs-requires
copy_in_runs-requires c = rw (take-length c.args.t.now) (c.requires.0, omega arith, c.requires.1)

pub returns : goal.returns
returns c = c.copy_in_runs.ensures ∙ take-length c.args.t.now
