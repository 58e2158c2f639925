-- What is written has room; the round trip says what is listed in it.
use mathlib.Core.Path.{refl, sym, ◌∙◌}
use Prim.Native.Nat.{◌≤◌}
use native.Mathlib.Omega.{arith}
use lib.ListN.{length}
use lib.Seq.{length-take-le}
use Rattle.std.proofs.lemmas.Result.{err_from_is_err_and}
use Rattle.services_trip.specs.ServicesTrip.{OfWidth, asked_of}
use Rattle.services_trip.proofs.Owned.{elements_sized}
use Rattle.services_trip.proofs.RoundTrip.{written_within, written_few, listed_written}
use Rattle.services_trip.proofs.write_and_ask.Goals as goal

pub slice_bounds-is_listed-end : goal.slice_bounds-is_listed-end
slice_bounds-is_listed-end c = omega (arith, written_within c.args.list c.args.out.now _ (sym c.write.ensures.value ∙ c.in_ok-written.was), c.write.auto.out)

pub slice_bounds-is_listed-end-2 : goal.slice_bounds-is_listed-end-2
slice_bounds-is_listed-end-2 c = sym (length-take-le _ c.write.new.out (omega (arith, written_within c.args.list c.args.out.now _ (sym c.write.ensures.value ∙ c.in_ok-written.was), c.write.auto.out)))

pub returns : goal.returns
unfolding asked_of
returns c =
    let a = c.args in
    let p = a.list in
    let e = sym c.write.ensures.value ∙ c.in_ok-written.was in
    let g = c.well_formed.0.1.1.1.1.0 in
    let few : p.device_services_count ≤ length p.elements = omega (arith, written_few p a.out.now _ e, g.1.0.1) in
    let z : OfWidth p = record { sessions = omega (arith, c.well_formed.0.1.1); elements = λ i l. elements_sized p.elements g.0 i _ (omega arith) g.1.1 } in
    rw e (record { value = c.is_listed.ensures ∙ listed_written p a.out.now _ _ a.service a.cid z e c.write.ensures.out_after; out_after = c.write.ensures.out_after })

pub returns-in_err-written : goal.returns-in_err-written
unfolding asked_of
returns-in_err-written c =
    let e = err_from_is_err_and c.from_residual.result c.from_residual.ensures.1 in
    rw (e.1, e.2, sym c.write.ensures.value ∙ c.in_err-written.was) (record { value = refl; out_after = c.write.ensures.out_after })
