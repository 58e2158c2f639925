-- The digits of a line that is read lie in it, and are not too many.
use Rattle.std.proofs.Common.{sym, ◌∙◌, arith}
use Rattle.request_line.proofs.Requests.{within}
use Rattle.listing.proofs.put_line.Goals as goal

pub put_spelled-requires : goal.put_spelled-requires
put_spelled-requires c =
    let w = within c.args.line.now _ _ _ _ (sym c.request_of.ensures ∙ c.in-Ok.is) in
    record { within = omega (arith, w.0); short = w.1 }
