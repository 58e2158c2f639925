-- The float of half the difference is exact at each code that is shown.
use mathlib.Core.Path.{◌∙◌}
use Prim.Native.Nat.{◌%◌}
use native.Mathlib.Omega.{arith}
use lib.Ieee.{odd, neg, of_bits}
use Rattle.signal_quality.specs.Decibels.{exactly}
use Rattle.signal_quality.proofs.Decibels.{db_fits, db_read}
use Rattle.signal_quality.proofs.snr_of.Goals as goal

pub overflow_sub-twice : goal.overflow_sub-twice
overflow_sub-twice c = db_fits (c.args.code % 128) (omega arith)

pub returns : goal.returns
unfolding exactly odd neg of_bits
returns c = c.by_table.ensures ∙ db_read c.args.code
