-- The words at the front of the room, which they fill.
use Rattle.std.proofs.Common.{ℕ, List, ◌++◌, replicate, ap, ◌∙◌, arith}
use mathlib.Core.List.{append-nil}
use lib.ListN.{length, drop_of_length-le}
use Rattle.wire.specs.Output.{over}
use Rattle.wire.proofs.Laws.{sets_over}
use Rattle.protocol.specs.Service.{id_bytes}
use Rattle.protocol.proofs.Services.{length_id}
use Rattle.trace.proofs.heads.id_bytes.Goals as goal

pub returns : goal.returns
unfolding over
returns c =
    let id = id_bytes c.args.service in
    let n = length_id c.args.service in
    let room = replicate 16 0 in
    c.put_id.ensures ∙ sets_over id room (omega (arith, n)) ∙ ap (λ (x : List ℕ). id ++ x) (drop_of_length-le room {i = length id} (omega (arith, n))) ∙ append-nil id
