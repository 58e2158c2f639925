-- SET_PIN: reading what the writer gives returns the record, by either choice, and the bytes of each range shown are the text.
-- Assumes nothing.
use mathlib.Core.Path.{◌≡◌, refl, ap, ◌∙◌}
use mathlib.Core.List.{List, [], append_assoc, append-nil}
use Prim.Native.Nat.{ℕ}
use native.Mathlib.Omega.{arith}
use lib.ListN.{length}
use Rattle.wire.specs.Numbers.{u32_at}
use Rattle.wire.proofs.Laws.{num_digits}
use Rattle.protocol.specs.Verdict.{judge, first_of, open_length, no_fault}
use Rattle.protocol.proofs.Verdicts.{length_open, written_fits, written_front}
use Rattle.pairs.specs.Pair.{range_bytes}
use Rattle.pairs.specs.Claims.{shown_in}
use Rattle.pairs.specs.declared.Range.{Range}
use Rattle.pairs.specs.declared.ZeroSize.{ZeroSize}
use Rattle.texts.specs.Texts.{all_shown, end_of, ranges_bytes, texts_bytes}
use Rattle.texts.proofs.Rows.{end_behind, laid_fit, laid_shown, laid_sized, ranges_back, texts_back}
use Rattle.pin.specs.declared.set_pin.SetPin.{SetPin}
use Rattle.pin.specs.declared.set_pin.SetPinTexts.{SetPinTexts}
use Rattle.pin.specs.SetPin.{fixed_part, record_at, text_rows, texts_of, pairs_at, texts_at, number_rules, texts_verdict, shown, verdict_with, read_with, two, size_rules, written_verdict, length_of, front_bytes, fixed_bytes, laid_for, bytes_of, write_of}
use Rattle.pin.specs.SetPinClaims.{OfWidth, RoundTrip}
use Rattle.pin.proofs.SetPinParts.{length_fixed, length_bytes, parts, end_most}
use Rattle.std.specs.Prelude.{Ok}

record_back : (p : SetPin) (x y : List ℕ) → OfWidth p → record_at (bytes_of p x y) ≡ p
unfolding record_at u32_at bytes_of fixed_bytes front_bytes range_bytes
record_back p x y w = λ i. record {
  pin_type = num_digits 4 p.pin_type [] w.type i;
  pin_operation = num_digits 4 p.pin_operation [] w.operation i;
}

module _ (p : SetPin) (x y : List ℕ) (ok : written_verdict p (length x) (length y) ≡ no_fault) where
  abbrev sizes : List ℕ
  sizes = two (length x) (length y)

  pairs_back : pairs_at (bytes_of p x y) ≡ laid_for x y
  unfolding pairs_at bytes_of fixed_bytes front_bytes
  pairs_back =
      let t = texts_bytes (two x y) in
      let most = end_most p (length x) (length y) ok in
      rw (append_assoc (front_bytes p) (ranges_bytes (laid_for x y)) t)
      (ranges_back (front_bytes p) t text_rows (laid_for x y) 8 refl refl (refl, (refl, tt)) (laid_sized fixed_part sizes (omega arith)))

  abbrev laid_texts : SetPinTexts
  laid_texts = texts_of (laid_for x y)

  texts_shown : texts_at (bytes_of p x y) ≡ laid_texts
  unfolding texts_at
  texts_shown = ap (λ (ps : List Range). texts_of (all_shown ps)) pairs_back ∙ ap texts_of (laid_shown fixed_part sizes)

  texts_fit : (z : ZeroSize) → texts_verdict z (length_of (length x) (length y)) (laid_for x y) ≡ no_fault
  unfolding texts_verdict size_rules
  texts_fit z =
      laid_fit z fixed_part (end_of fixed_part sizes) fixed_part text_rows sizes (parts p (length x) (length y) ok).sizes (omega arith) refl (omega arith)

  length_fits : open_length fixed_part (length (bytes_of p x y)) ≡ no_fault
  length_fits =
      let most = end_most p (length x) (length y) ok in
      rw (length_bytes p x y) (length_open fixed_part (length_of (length x) (length y)) (end_behind fixed_part sizes) (omega arith))

  -- the bytes show the record
  pub bytes_read : (z : ZeroSize) → OfWidth p → read_with z (bytes_of p x y) ≡ Ok (p, laid_texts)
  unfolding read_with verdict_with first_of
  bytes_read z w =
      let r = record_back p x y w in
      let o = length_fits in
      (λ i. shown (first_of (o i) (first_of (judge (number_rules (r i))) (texts_verdict z (length_bytes p x y i) (pairs_back i)))) (r i) (texts_shown i))
      ∙ rw ((parts p (length x) (length y) ok).numbers, texts_fit z)

  -- the bytes of each range are the text
  pub texts_read : (shown_in (bytes_of p x y) laid_texts.pin ≡ x) × (shown_in (bytes_of p x y) laid_texts.new_pin ≡ y)
  unfolding bytes_of
  texts_read =
      let t = rw (append-nil (texts_bytes (two x y))) at (texts_back (fixed_bytes p (laid_for x y)) [] (two x y) fixed_part (length_fixed p x y)) in
      (t.0, t.1.0)

-- what the writer puts into an output is the record with its texts
pub round_trip : RoundTrip
unfolding write_of
round_trip z p x y s n w e =
    let v = written_verdict p (length x) (length y) in
    let ok = written_fits v (bytes_of p x y) s n e in
    let t = texts_read p x y ok in
    rw (written_front v (bytes_of p x y) s n e)
    (record { texts = texts_of (laid_for x y); read = bytes_read p x y ok z w; pin = t.0; new = t.1 })
