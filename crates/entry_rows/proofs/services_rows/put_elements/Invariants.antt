-- The loop's invariant: the rows of the first i elements stand in the output.
use Rattle.rows.specs.Rows.{Put}
use Rattle.entry_rows.specs.Services.{elements_rows}
use Rattle.entry_rows.proofs.services_rows.put_elements.Given as goal

abbrev pub invariant-loop-i : goal.invariant-loop-i
invariant-loop-i l = Put l.initial.out l.at (elements_rows l.payload l.i) l.out l.next
