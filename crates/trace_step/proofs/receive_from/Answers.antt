-- By the sender, whose assembler's buffer the call works on.
use Rattle.std.proofs.Common.{◌≡◌, length, refl, rules}
use Rattle.trace_step.proofs.receive_from.Goals as goal

pub returns-in-Host : goal.returns-in-Host
returns-in-Host c =
    let e : length c.args.out.now ≡ 4096 = search rules in
    let f = c.receive_in_place.ensures in
    rw (c.in-Host.is, ← e) (record { value = f.value; host_after = f.bytes_after; device_after = refl; out_after = f.out_after; delivered = f.delivered })

pub returns-in-Device : goal.returns-in-Device
returns-in-Device c =
    let e : length c.args.out.now ≡ 4096 = search rules in
    let f = c.receive_in_place-in-Device.ensures in
    rw (c.in-Device.is, ← e) (record { value = f.value; host_after = refl; device_after = f.bytes_after; out_after = f.out_after; delivered = f.delivered })
