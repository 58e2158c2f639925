-- SET_PIN: the length of the bytes, and what is known of a record and texts that fit.
-- Assumes nothing.
use mathlib.Core.Path.{◌≡◌, refl, ◌∙◌}
use mathlib.Core.List.{List}
use Prim.Native.Nat.{ℕ, ◌≤◌}
use native.Mathlib.Omega.{arith}
use lib.ListN.{length, length-append}
use lib.Seq.{sets}
use Rattle.wire.specs.Output.{over}
use Rattle.wire.proofs.Laws.{sets_then, sets_over}
use Rattle.protocol.specs.Verdict.{Kept, judge, no_fault}
use Rattle.protocol.proofs.Verdicts.{left_fits, right_fits, fits_kept}
use Rattle.pairs.specs.Pair.{range_bytes}
use Rattle.texts.specs.Texts.{texts_bytes}
use Rattle.texts.specs.Claims.{SizesFit}
use Rattle.texts.proofs.Rows.{sizes_said, end_within, length_texts}
use Rattle.pin.specs.declared.set_pin.SetPin.{SetPin}
use Rattle.pin.specs.SetPin.{fixed_part, text_rows, number_rules, two, size_rules, written_verdict, length_of, front_bytes, fixed_bytes, laid_for, bytes_of}

-- ---- lengths

pub length_fixed : (p : SetPin) (x y : List ℕ) → length (fixed_bytes p (laid_for x y)) ≡ 24
unfolding fixed_bytes front_bytes range_bytes
length_fixed p x y = refl

-- the bytes are as many as the texts need
pub length_bytes : (p : SetPin) (x y : List ℕ) → length (bytes_of p x y) ≡ length_of (length x) (length y)
unfolding bytes_of
length_bytes p x y =
    let f = fixed_bytes p (laid_for x y) in
    let ts = two x y in
    omega (arith, length-append f (texts_bytes ts), length_fixed p x y, length_texts fixed_part ts)

-- the fixed part, and the texts behind it, are the bytes
pub stored : (p : SetPin) (x y s : List ℕ) → length (bytes_of p x y) ≤ length s
    → sets (sets s 0 (fixed_bytes p (laid_for x y))) 24 (texts_bytes (two x y)) ≡ over (bytes_of p x y) s
unfolding bytes_of
stored p x y s h = sets_then (fixed_bytes p (laid_for x y)) (texts_bytes (two x y)) 0 24 s (length_fixed p x y) refl refl ∙ sets_over _ s h

-- ---- what is written fits in each part

pub record Parts (p : SetPin) (pin new : ℕ) : Type 0 where
  pub numbers : judge (number_rules p) ≡ no_fault
  pub sizes : Kept (size_rules pin new)

pub parts : (p : SetPin) (pin new : ℕ) → written_verdict p pin new ≡ no_fault → Parts p pin new
unfolding written_verdict
parts p pin new e = record {
  numbers = left_fits _ _ e;
  sizes = fits_kept (size_rules pin new) (right_fits (judge (number_rules p)) _ e);
}

pub small : (p : SetPin) (pin new : ℕ) → written_verdict p pin new ≡ no_fault → SizesFit text_rows (two pin new)
unfolding size_rules
small p pin new e = sizes_said text_rows (two pin new) (parts p pin new e).sizes

-- what is written is far below 4,096 bytes, so number 5 is never given
pub end_most : (p : SetPin) (pin new : ℕ) → written_verdict p pin new ≡ no_fault → length_of pin new ≤ 88
end_most p pin new e = end_within fixed_part 24 text_rows (two pin new) (small p pin new e) (omega arith) (omega arith)

pub bytes_most : (p : SetPin) (x y : List ℕ) → written_verdict p (length x) (length y) ≡ no_fault → length (bytes_of p x y) ≤ 88
bytes_most p x y e = omega (arith, length_bytes p x y, end_most p (length x) (length y) e)
