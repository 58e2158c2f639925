-- A pair that fits can be listed: it is inside the payload and within its limit.
-- Assumes nothing.
use mathlib.Core.Logic.{inl, inr}
use mathlib.Core.List.{List}
use Prim.Native.Nat.{ℕ, ◌+◌, ◌≤◌}
use native.Mathlib.Omega.{arith}
use lib.ListN.{length}
use Rattle.pairs.specs.Pair.{as_shown}
use Rattle.pairs.specs.Claims.{PairFits, Safe}
use Rattle.pairs.proofs.Laws.{shown_safe}
use Rattle.pairs.specs.declared.ZeroSize.{ZeroSize}
use Rattle.pairs.specs.declared.Range.{Range}
use Rattle.pairs.specs.declared.PairKind.TheVariants.{Text}
use Rattle.payload_rows.specs.Ranges.{Listable}

within : (fixed : ℕ) (s : List ℕ) (p : Range) → Safe fixed (length s) p → p.start + p.length ≤ length s
within fixed s p (inl a) = omega (arith, a.nowhere, a.empty)
within fixed s p (inr i) = i.within

pub listable : (z : ZeroSize) (fixed limit : ℕ) (s : List ℕ) (p : Range) → limit ≤ 126 → PairFits z Text fixed limit (length s) p → Listable (as_shown p) s
listable z fixed limit s p l f = record { within = within fixed s (as_shown p) (shown_safe z Text fixed limit (length s) p f); short = omega (arith, f.size.small) }
