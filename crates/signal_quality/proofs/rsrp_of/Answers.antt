-- The float of the difference is exact at each code that is shown.
use mathlib.Core.Path.{◌∙◌}
use Prim.Native.Nat.{◌%◌}
use native.Mathlib.Omega.{arith}
use lib.Ieee.{odd, neg, of_bits}
use Rattle.signal_quality.specs.Decibels.{exactly}
use Rattle.signal_quality.proofs.Decibels.{dbm_fits, dbm_read}
use Rattle.signal_quality.proofs.rsrp_of.Goals as goal

pub overflow_sub-dbm : goal.overflow_sub-dbm
overflow_sub-dbm c = dbm_fits (c.args.code % 128) (omega arith)

pub returns : goal.returns
unfolding exactly odd neg of_bits
returns c = c.by_table.ensures ∙ dbm_read c.args.code
