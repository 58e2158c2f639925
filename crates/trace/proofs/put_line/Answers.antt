-- A step, and its rows.
use mathlib.Core.Path.{◌≡◌, ap, ◌∙◌}
use mathlib.Core.List.{List, ◌++◌}
use Prim.Native.Nat.{ℕ}
use Rattle.wire.specs.Output.{over}
use Rattle.trace_step.specs.Step.{Step, state_of, step_of}
use Rattle.trace_step.specs.declared.Stepped.{Stepped}
use Rattle.trace.specs.Heads.{head_of}
use Rattle.trace.specs.Replay.{FrontedIn}
use Rattle.trace.proofs.Laws.{holds_front, holds_fields, holds_answer}
use Rattle.std.proofs.Common.{rules}
use Rattle.trace.proofs.put_line.Goals as goal

pub put_replayed-next-requires : goal.put_replayed-next-requires
put_replayed-next-requires c =
    let a = c.args in
    let s = c.step-stepped.ensures in
    let x : Step = step_of (state_of a.replay a.host.now a.device.now) a.line.now in
    let h : FrontedIn c.step-stepped.result.replayed c.step-stepped.new.out = rw (ap (λ (z : Stepped). z.replayed) s.answer) (holds_front x.replayed x.information _ s.holds) in
    record { rows_len = search rules; fronted_in = h }

pub returns : goal.returns
returns c =
    let a = c.args in
    let s = c.step-stepped.ensures in
    let x : Step = step_of (state_of a.replay a.host.now a.device.now) a.line.now in
    let e : c.step-stepped.result.replayed ≡ x.replayed = ap (λ (z : Stepped). z.replayed) s.answer in
    let p = rw e at c.put_replayed-next.ensures in
    record {
      replay = ap (λ (z : Stepped). z.replay) s.answer;
      hosts = s.hosts;
      devices = s.devices;
      unmarked = p.rows_after ∙ ap (λ (f : List ℕ). over (head_of x.replayed ++ f) a.rows.now) (holds_fields x.replayed x.information _ s.holds);
      text = rw (holds_answer a.number x.replayed x.information _ s.holds) at p.put;
    }
