-- The bits of 0.0, by computing.
use lib.Ieee.{odd, neg, of_bits}
use mathlib.Core.Path.{refl}
use Rattle.signal_quality.specs.Decibels.{exactly}
use Rattle.c_structs.proofs.quality.no_value.Goals as goal

pub returns : goal.returns
unfolding exactly odd neg of_bits
returns c = refl
