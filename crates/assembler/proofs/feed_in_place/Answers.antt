-- An array has its length.
use mathlib.Core.Path.{◌≡◌, ap}
use lib.ListN.{length}
use Rattle.assembler.specs.Assembly.{assembly_of}
use Rattle.assembler.specs.declared.FedInPlace.{FedInPlace}
use Rattle.assembler.proofs.Delivered.{step_delivers}
use Rattle.std.proofs.Common.{rules}
use Rattle.assembler.proofs.feed_in_place.Goals as goal

pub returns-clause-delivers : goal.returns-clause-delivers
returns-clause-delivers c =
    let a = c.args in
    let whole : length a.bytes.now ≡ 4096 = search rules in
    rw (ap (λ (x : FedInPlace). x.answer) c.feed_whole.ensures.value) (step_delivers (assembly_of a.progress a.bytes.now) a.piece.now (length a.out.now) whole)
