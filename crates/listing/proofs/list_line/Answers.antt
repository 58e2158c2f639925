-- No listing is longer than the output, so it stands whole at its front.
use native.Mathlib.Omega.{arith}
use Rattle.rows.proofs.Laws.{put_over}
use Rattle.listing.proofs.Lengths.{listing_fits}
use Rattle.listing.proofs.list_line.Goals as goal

pub returns : goal.returns
returns c =
    let l = listing_fits c.args.line.now in
    let p = put_over c.put_line.ensures (omega (arith, l)) in
    record { value = p.0; out_after = p.1; upper_bound = omega (arith, l, p.0) }
