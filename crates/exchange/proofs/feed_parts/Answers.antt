-- Each turn feeds the next part; at the end no part is left.
use mathlib.Core.Path.{◌≡◌, ap, ◌∙◌}
use Prim.Native.Nat.{◌-◌}
use native.Mathlib.Omega.{arith}
use Rattle.exchange.specs.Messages.{parts}
use Rattle.exchange.specs.Collected.{Collected, before, collected, told}
use Rattle.exchange.proofs.Collect.{now, turn, finish}
use Rattle.exchange.proofs.feed_parts.Goals as goal

pub loop-k-preserved : goal.loop-k-preserved
loop-k-preserved c =
    let l = c.loop-k in
    let f = c.feed_in_place-fed.ensures in
    turn l.fed l.bytes l.out l.rest.now c.args.size c.args.count l.k c.min.result c.loop-k-test.true c.min.ensures c.split_at.ensures.front c.split_at.ensures.back f.value f.bytes_after f.out_after ∙ l.invariant

pub returns : goal.returns
returns c =
    let l = c.loop-k in
    let a = c.args in
    let e : now l.fed l.bytes l.out ≡ collected (before a.progress a.bytes.now a.out.now) (parts a.count a.size a.stream.now) =
    finish (now l.fed l.bytes l.out) a.size (a.count - l.k) l.rest.now (omega arith) ∙ l.invariant in
    record { value = ap told e; bytes_after = ap (λ (r : Collected). r.assembly.bytes) e; out_after = ap (λ (r : Collected). r.output) e }
