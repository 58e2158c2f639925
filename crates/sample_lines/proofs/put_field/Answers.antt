-- A run of digits lies in its text.
use Rattle.std.proofs.Common.{sym, arith}
use lib.Seq.{length-take-le}
use Rattle.ascii.proofs.Laws.{run_le}
use Rattle.sample_lines.proofs.put_field.Goals as goal

pub slice_bounds-unhex-end : goal.slice_bounds-unhex-end
slice_bounds-unhex-end c = sym (length-take-le c.hex_run.result _ (omega (arith, c.hex_run.ensures, run_le c.in-Some.rest.now)))
