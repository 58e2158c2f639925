-- The texts of an accepted payload can be listed: they are inside it and within their limits.
-- Assumes nothing.
use mathlib.Core.Path.{◌≡◌}
use mathlib.Core.List.{List}
use Prim.Native.Nat.{ℕ}
use native.Mathlib.Omega.{arith}
use Rattle.pairs.specs.Pair.{range_at}
use Rattle.pairs.specs.declared.ZeroSize.{ZeroSize}
use Rattle.pin.specs.SetPin.{read_with, pairs_at, texts_at, fixed_part}
use Rattle.pin.specs.declared.set_pin.SetPin.{SetPin}
use Rattle.pin.specs.declared.set_pin.SetPinTexts.{SetPinTexts}
use Rattle.pin.proofs.SetPinLaws.{accepted}
use Rattle.payload_rows.specs.SetPins.{ListableTexts}
use Rattle.payload_rows.proofs.Ranges.{listable}
use Rattle.std.specs.Prelude.{Ok}

pub listable_texts : (z : ZeroSize) (s : List ℕ) (p : SetPin) (t : SetPinTexts) → read_with z s ≡ Ok (p, t) → ListableTexts t s
unfolding texts_at pairs_at
listable_texts z s p t e =
    let k = accepted z s p t e in
    rw k.1.1 (record {
      pin = listable z fixed_part 32 s (range_at s 8) (omega arith) k.0.pin;
      new = listable z fixed_part 32 s (range_at s 16) (omega arith) k.0.new;
    })
