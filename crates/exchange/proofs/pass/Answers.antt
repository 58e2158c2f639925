-- The parts of what the cutter put into the stream come out as the claim of specs/Delivery says.
use mathlib.Core.Path.{◌≡◌, sym, ap, ◌∙◌}
use native.Mathlib.Omega.{arith}
use lib.ListN.{take, length-take}
use Rattle.assembler.specs.Assembly.{zeros, empty}
use Rattle.assembler.specs.declared.FedInPlace.{FedInPlace}
use Rattle.exchange.specs.Messages.{OfWidth, parts}
use Rattle.exchange.specs.Collected.{Collected, before, collected}
use Rattle.exchange.specs.Pass.{pass_by, pass_of}
use Rattle.exchange.proofs.Sent.{sent}
use Rattle.exchange.proofs.Delivered.{passed_empty}
use Rattle.exchange.proofs.pass.Goals as goal

pub slice_bounds-feed_parts-end : goal.slice_bounds-feed_parts-end
slice_bounds-feed_parts-end c = omega (arith, (sent c.args.message c.args.size c.args.information.now c.args.stream.now _ _ (sym c.cut.ensures.value ∙ c.in_ok-fragments.was)).room, c.cut.auto.out)

pub slice_bounds-feed_parts-end-2 : goal.slice_bounds-feed_parts-end-2
slice_bounds-feed_parts-end-2 c = simp length-take (omega (arith, (sent c.args.message c.args.size c.args.information.now c.args.stream.now _ _ (sym c.cut.ensures.value ∙ c.in_ok-fragments.was)).room, c.cut.auto.out))

pub returns : goal.returns
unfolding pass_of pass_by empty
returns c =
    let a = c.args in
    let width : OfWidth a.message = record {
      type32 = omega (arith, c.well_formed);
      transaction32 = omega (arith, c.well_formed);
      word0 = omega (arith, c.well_formed);
      word1 = omega (arith, c.well_formed);
      word2 = omega (arith, c.well_formed);
      word3 = omega (arith, c.well_formed);
      cid32 = omega (arith, c.well_formed);
      word32 = omega (arith, c.well_formed);
    } in
    let e = passed_empty a.message a.size a.information.now a.stream.now _ _ (record { width = width; accepted = sym c.cut.ensures.value ∙ c.in_ok-fragments.was }) a.out.now in
    let p = c.in_ok-fragments.fragments in
    let g : collected (before c.none-none.result zeros a.out.now) (parts p.count a.size (take p.length c.cut.new.out)) ≡ _ =
    (λ i. collected (before (c.none-none.ensures i) zeros a.out.now) (parts p.count a.size (take p.length (c.cut.ensures.out_after i)))) ∙ e in
    let f = c.feed_parts-fed.ensures in
    rw (← c.cut.ensures.value, c.in_ok-fragments.was) (record { value = ap (λ (r : FedInPlace). r.answer) f.value ∙ ap (λ (r : Collected). r.answer) g; stream_after = c.cut.ensures.out_after; bytes_after = f.bytes_after ∙ ap (λ (r : Collected). r.assembly.bytes) g; out_after = f.out_after ∙ ap (λ (r : Collected). r.output) g })
