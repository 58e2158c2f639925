-- The sender's assembler, the version behind the piece, and the milliseconds.
use Rattle.std.proofs.Common.{◌≡◌, ℕ, List, ap, ◌∙◌}
use Rattle.wire.specs.Output.{over}
use Rattle.assembler.specs.Door.{Receiving, receive_of}
use Rattle.assembler.specs.declared.Progress.{Progress}
use Rattle.assembler.specs.declared.door.Received.{Received}
use Rattle.assembler.specs.declared.door.ReceiptInPlace.{ReceiptInPlace}
use Rattle.protocol.specs.declared.Version.{Version}
use Rattle.trace_step.specs.Step.{own_of, by_sender, state_of, version_after, front_for, Fronted, piece_step}
use Rattle.trace_step.proofs.Laws.{fronted, held, same_version, chosen_progress}
use Rattle.trace_step.proofs.step_piece.Goals as goal
use Rattle.std.specs.Prelude.{Some}
use Rattle.std.specs.Prelude.{Ok, Result}
use Rattle.protocol.specs.declared.Refusal.{Refusal}

pub version_after-requires : goal.version_after-requires
version_after-requires c =
    let a = c.args in
    let f = c.receive_from-receipt.ensures in
    let x : Receiving = receive_of (own_of a.sender (state_of a.replay a.host.now a.device.now)) a.piece.now 4096 in
    let h : Fronted c.receive_from-receipt.result.received (over x.information a.out.now) = fronted c.receive_from-receipt.result.received x.information a.out.now f.delivered in
    rw (← f.out_after) at h

pub returns : goal.returns
unfolding piece_step
returns c =
    let a = c.args in
    let f = c.receive_from-receipt.ensures in
    let s = state_of a.replay a.host.now a.device.now in
    let x : Receiving = receive_of (own_of a.sender s) a.piece.now 4096 in
    let p : c.receive_from-receipt.result.progress ≡ x.assembly.progress = ap (λ (z : ReceiptInPlace). z.progress) f.value in
    let r : c.receive_from-receipt.result.received ≡ x.received = ap (λ (z : ReceiptInPlace). z.received) f.value in
    let hosts = c.by_sender.ensures ∙ ap (λ (z : Progress). by_sender a.sender z a.replay.host) p ∙ chosen_progress a.sender x.assembly s.host in
    let devices = c.by_sender-2.ensures ∙ ap (λ (z : Progress). by_sender a.sender a.replay.device z) p ∙ chosen_progress a.sender s.device x.assembly in
    let v = c.version_after.ensures in
    let after : (Result Received Refusal) → List ℕ → Version = λ z o. version_after a.sender a.replay.version z (front_for z o) in
    let next : c.version_after.result ≡ version_after a.sender a.replay.version x.received x.information =
    v ∙ (λ i. after (r i) (f.out_after i)) ∙ same_version a.sender a.replay.version x.received x.information a.out.now (rw (← r) f.delivered) in
    record {
      answer = λ i. record {
        replay = record { host = hosts i; device = devices i; previous = Some a.counter; version = next i };
        replayed = Ok (record { elapsed = (c.elapsed_since.ensures i); sender = a.sender; version = a.replay.version; is_whole = (c.is_whole_piece.ensures i); received = (r i) });
      };
      hosts = f.host_after;
      devices = f.device_after;
      delivered = f.out_after;
      holds = rw f.out_after (held x.received x.information a.out.now (rw (← r) f.delivered));
    }
