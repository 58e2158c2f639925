-- The loop's invariant: the digits of the first bytes are put.
use Rattle.ascii.specs.Ascii.{hexed_in}
use Rattle.rows.specs.Rows.{Put}
use Rattle.rows.proofs.put_digits.Given as goal

abbrev pub invariant-loop-b : goal.invariant-loop-b
invariant-loop-b l = Put l.initial.out l.at (hexed_in l.b-index l.text) l.out l.next
