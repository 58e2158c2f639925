-- The loop's invariant: the rows of the first j CIDs stand in the output.
use Rattle.rows.specs.Rows.{Put}
use Rattle.entry_rows.specs.Services.{cid_rows}
use Rattle.entry_rows.proofs.services_rows.put_cids.Given as goal

abbrev pub invariant-loop-j : goal.invariant-loop-j
invariant-loop-j l = Put l.initial.out l.at (cid_rows l.payload l.offset l.i l.j) l.out l.next
