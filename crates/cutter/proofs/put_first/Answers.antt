-- The header, what a first fragment opens with, and the information that it carries.
use Rattle.std.proofs.Common.{◌≡◌, ℕ, ◌+◌, length, take, sym, ap, arith, length-take}
use Rattle.cutter.specs.Cut.{header_bytes, opening_bytes}
use Rattle.cutter.proofs.Stored.{stored_length, first_stored}
use Rattle.cutter.proofs.put_first.Goals as goal

pub put_body-requires : goal.put_body-requires
put_body-requires c =
    let a = c.args in
    let h = header_bytes a.message (c.first_length-head.result + a.amount) a.total 0 in
    let header = stored_length a.out.now 0 h c.put_header.ensures in
    let opening = stored_length _ 20 (opening_bytes a.message (length a.information.now)) c.put_opening.ensures in
    simp length-take (omega (arith, header, opening, c.first_length-head.ensures.value, c.requires.2))

pub returns : goal.returns
returns c =
    let xs = take c.args.amount c.args.information.now in
    let l : length xs ≡ c.args.amount = simp length-take (omega arith) in
    first_stored c.args.message c.args.total _ _ _ xs c.args.out.now c.first_length-head.ensures.value (ap (λ (k : ℕ). c.first_length-head.result + k) (sym l)) c.put_header.ensures c.put_opening.ensures c.put_body.ensures
