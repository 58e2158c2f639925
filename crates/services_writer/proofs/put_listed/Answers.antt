-- The pair, then the element.
use Rattle.std.proofs.Common.{ap, ◌∙◌, List, ℕ, arith}
use lib.Seq.{sets}
use Rattle.services_writer.specs.ServicesWriter.{element_bytes}
use Rattle.services_writer.proofs.Laws.{element_put}
use Rattle.services_writer.proofs.put_listed.Goals as goal

pub returns-clause-out_after : goal.returns-clause-out_after
returns-clause-out_after c =
    element_put c.args.element.now c.put_range.new.out c.args.start (omega arith) c.put_fields.ensures c.put_fitting.ensures
    ∙ ap (λ (l : List ℕ). sets l c.args.start (element_bytes c.args.element.now)) (rw c.pair_place.ensures at c.put_range.ensures)
