-- An accepted list has at most 32 elements, each of at most 128 CIDs.
-- Assumes nothing.
use mathlib.Core.Path.{◌≡◌}
use mathlib.Core.List.{List}
use Prim.Native.Nat.{ℕ, ◌≤◌}
use Rattle.pairs.specs.Pair.{range_at}
use Rattle.pairs.specs.declared.ZeroSize.{ZeroSize}
use Rattle.device_services.specs.DeviceServices.{head_at, read_with}
use Rattle.device_services.specs.declared.DeviceServices.{DeviceServices}
use Rattle.device_services.proofs.Acceptance.{accepted}
use Rattle.entry_rows.specs.Services.{Few}
use Rattle.std.specs.Prelude.{Ok}

pub few_cids : (z : ZeroSize) (s : List ℕ) {p : DeviceServices} → read_with z s ≡ Ok p → (p.device_services_count ≤ 32) × Few s p.device_services_count
unfolding head_at range_at
few_cids z s {p} e =
    let k = accepted z s p e in
    rw k.1 (k.0.few, λ i h. (k.0.elements i h).few)
