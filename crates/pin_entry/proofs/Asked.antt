-- What a payload that is read asks: each of its texts is one of at most 32 bytes, an even number.
-- Assumes nothing.
use Prim.Native.Nat.{ℕ, ◌-◌, ◌≤◌}
use mathlib.Core.Path.{◌≡◌}
use mathlib.Core.Logic.{◌⊎◌, inl, inr}
use mathlib.Core.List.{List}
use native.Mathlib.Omega.{arith}
use lib.ListN.{length, drop, length-drop}
use lib.Seq.{length-take-le}
use Rattle.pairs.specs.Pair.{range_at, part_of}
use Rattle.pairs.specs.Claims.{SizeFits, AbsentBy, Inside, PairFits}
use Rattle.pairs.proofs.Laws.{part_shown, part_absent}
use Rattle.pairs.specs.declared.PairKind.TheVariants.{Text}
use Rattle.pairs.specs.declared.Range.{Range}
use Rattle.pairs.specs.declared.ZeroSize.TheVariants.{Strict}
use Rattle.pin.specs.SetPin.{pairs_at, read_with}
use Rattle.pin.specs.declared.set_pin.SetPin.{SetPin}
use Rattle.pin.specs.declared.set_pin.SetPinTexts.{SetPinTexts}
use Rattle.pin.proofs.SetPinLaws.{accepted, strict_texts}
use Rattle.std.specs.Prelude.{Ok}

part_fits : (fixed limit : ℕ) (s : List ℕ) (p : Range) → PairFits Strict Text fixed limit (length s) p → SizeFits Text limit (length (part_of s p))
part_fits fixed limit s p f = go f.safe
  where
    go : AbsentBy Strict p ⊎ Inside fixed (length s) p → SizeFits Text limit (length (part_of s p))
    go (inl a) = rw (part_absent s p a.empty) (rw a.empty at f.size)
    go (inr i) =
        let long : length (drop p.start s) ≡ length s - p.start = length-drop p.start s in
        rw (part_shown s p i.within, length-take-le p.length (drop p.start s) (omega (arith, i.within))) f.size

pub new_fits : (s : List ℕ) (p : SetPin) (t : SetPinTexts) → read_with Strict s ≡ Ok (p, t) → SizeFits Text 32 (length (part_of s t.new_pin))
unfolding pairs_at
new_fits s p t e = rw (strict_texts s p t e) (part_fits 24 32 s (range_at s 16) (accepted Strict s p t e).0.new)

pub new_short : (s : List ℕ) (p : SetPin) (t : SetPinTexts) → read_with Strict s ≡ Ok (p, t) → length (part_of s t.new_pin) ≤ 32
new_short s p t e = (new_fits s p t e).small
