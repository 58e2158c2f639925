-- The loop's invariant: feeding what is left comes to what feeding all of it does.
use mathlib.Core.Path.{◌≡◌}
use Prim.Native.Nat.{◌-◌}
use Rattle.exchange.specs.Messages.{parts}
use Rattle.exchange.specs.Collected.{collected}
use Rattle.exchange.proofs.Collect.{now}
use Rattle.exchange.proofs.feed_parts.Given as goal

abbrev pub invariant-loop-k : goal.invariant-loop-k
invariant-loop-k l = collected (now l.fed l.bytes l.out) (parts (l.count - l.k) l.size l.rest) ≡ collected (now l.initial.fed l.initial.bytes l.initial.out) (parts l.count l.size l.stream)
