-- The memory after a fragment with which the message goes on; the attribute names what proves the rest.
use mathlib.Core.Path.{sym, ap, ◌∙◌}
use Prim.Native.Nat.{◌≤◌}
use native.Mathlib.Omega.{arith}
use lib.ListN.{length}
use Rattle.std.proofs.lemmas.Grind.{common_steps}
use Rattle.protocol.specs.Verdict.{fault_if}
use Rattle.lent.specs.LentAssembly.{assembly_size, Receiving}
use Rattle.lent.proofs.GoingOn.{received_on}
use Rattle.lent.proofs.assembly.receive.Goals as goal

pub returns-then-goes_on_in-clause-memory_after : goal.returns-then-goes_on_in-clause-memory_after
unfolding fault_if
returns-then-goes_on_in-clause-memory_after c =
    let a = c.args in
    let room : assembly_size ≤ length a.memory.now = grind (arith, common_steps) in
    c.go_on.ensures ∙ sym (ap (λ (x : Receiving). x.memory) (received_on a.memory.now a.piece.now (length a.out.now) room (c.goes_on_in.ensures c.if-goes_on_in.true)))
