-- Reading what the writer gives returns the record, by either choice, and the bytes of each range shown are the text.
-- Assumes nothing.
use mathlib.Core.Path.{◌≡◌, refl, ap, ◌∙◌}
use mathlib.Core.List.{List, [], ◌++◌, append_assoc, append-nil}
use Prim.Native.Nat.{ℕ, ◌≤◌}
use native.Mathlib.Omega.{arith}
use lib.ListN.{length}
use Rattle.wire.specs.Numbers.{u32_at, digits}
use Rattle.wire.proofs.Laws.{num_digits}
use Rattle.protocol.specs.Verdict.{judge, first_of, open_length, no_fault}
use Rattle.protocol.specs.declared.Version.{Version}
use Rattle.protocol.proofs.Verdicts.{length_open, written_fits, written_front}
use Rattle.pairs.specs.Pair.{range_bytes}
use Rattle.pairs.specs.declared.Range.{Range}
use Rattle.pairs.specs.declared.ZeroSize.{ZeroSize}
use Rattle.texts.specs.Texts.{all_shown, laid, end_of, ranges_bytes}
use Rattle.texts.specs.Texts as pairs
use Rattle.pairs.specs.Claims.{shown_in}
use Rattle.texts.proofs.Rows.{end_behind, laid_fit, laid_shown, laid_sized, ranges_back, texts_back}
use Rattle.registration.specs.declared.RegistrationForm.{RegistrationForm}
use Rattle.registration.specs.declared.RegistrationForm.TheVariants.{V1 as Form1, V2 as Form2}
use Rattle.registration.specs.declared.Registration.{Registration}
use Rattle.registration.specs.declared.RegistrationTexts.{RegistrationTexts}
use Rattle.registration.specs.Registration.{fixed_part, form_at, record_at, text_rows, texts_of, pairs_at, texts_at, front_rules, texts_verdict, back_rules, shown, verdict_with, read_with, version_in, version_of, three, size_rules, written_verdict, laid_texts, laid_for, length_of, front_bytes, texts_bytes, preferred_bytes, back_bytes, fixed_bytes, fixed_with, bytes_of, write_of}
use Rattle.registration.specs.Claims.{in_form, FormOfWidth, OfWidth, RoundTrip}
use Rattle.registration.proofs.Laws.{fixed_four, length_fixed, length_bytes, parts, end_most}
use Rattle.std.specs.Prelude.{Ok}

-- ---- the fixed part, whatever follows

-- the shared fields, at whichever version they are read
record_back : (v : Version) (p : Registration) (t : RegistrationTexts) (rest : List ℕ) → OfWidth p
    → record_at v (fixed_with p t ++ rest) ≡ in_form (form_at v (fixed_with p t ++ rest)) p
unfolding record_at u32_at fixed_bytes front_bytes texts_bytes back_bytes range_bytes
record_back v p t rest z = λ i. record {
  nw_error = num_digits 4 p.nw_error [] z.error i;
  register_state = num_digits 4 p.register_state [] z.state i;
  register_mode = num_digits 4 p.register_mode [] z.mode i;
  available_data_class = num_digits 4 p.available_data_class [] z.available i;
  cellular_class = num_digits 4 p.cellular_class [] z.cellular i;
  registration_flag = num_digits 4 p.registration_flag [] z.flag i;
  form = form_at v (fixed_with p t ++ rest);
}

form_back : (p : Registration) (t : RegistrationTexts) (rest : List ℕ) → FormOfWidth p.form → form_at (version_of p) (fixed_with p t ++ rest) ≡ p.form
unfolding u32_at fixed_bytes front_bytes texts_bytes back_bytes range_bytes
form_back p t rest = by_form p.form
  where
    pairs : List ℕ
    pairs = texts_bytes t.provider_id t.provider_name t.roaming_text

    by_form : (f : RegistrationForm) → FormOfWidth f
        → form_at (version_in f) ((front_bytes p ++ (pairs ++ (digits 4 p.registration_flag ++ preferred_bytes f))) ++ rest) ≡ f
    by_form Form1 z = refl
    by_form (Form2 class) z = ap Form2 (num_digits 4 class [] z)

-- ---- a payload as the writer lays it out

module _ (p : Registration) (x y z : List ℕ) (ok : written_verdict p (length x) (length y) (length z) ≡ no_fault) where
  abbrev sizes : List ℕ
  sizes = three (length x) (length y) (length z)

  abbrev placed : List Range
  placed = laid (fixed_part (version_of p)) sizes

  pub pairs_back : pairs_at (bytes_of p x y z) ≡ placed
  unfolding pairs_at bytes_of laid_texts fixed_bytes front_bytes texts_bytes
  pairs_back =
      let f = fixed_part (version_of p) in
      let t = pairs.texts_bytes (three x y z) in
      let ps = placed in
      let most = end_most p (length x) (length y) (length z) ok in
      let back = ranges_back (front_bytes p) (back_bytes p ++ t) text_rows ps 20 refl refl (refl, (refl, (refl, tt))) (laid_sized f sizes (omega arith)) in
      rw (append_assoc (front_bytes p) (ranges_bytes ps ++ back_bytes p) t, append_assoc (ranges_bytes ps) (back_bytes p) t) back

  texts_shown : texts_at (bytes_of p x y z) ≡ (laid_for p x y z)
  unfolding texts_at laid_texts
  texts_shown = ap (λ (ps : List Range). texts_of (all_shown ps)) pairs_back ∙ ap texts_of (laid_shown (fixed_part (version_of p)) sizes)

  -- the pairs fit at each version whose fixed part is no longer than the writer's
  texts_fit : (v : Version) (choice : ZeroSize) → fixed_part v ≤ fixed_part (version_of p)
      → texts_verdict choice (fixed_part v) (length_of (version_of p) (length x) (length y) (length z)) placed ≡ no_fault
  unfolding texts_verdict size_rules
  texts_fit v choice h =
      let f = fixed_part (version_of p) in
      laid_fit choice (fixed_part v) (end_of f sizes) f text_rows sizes (parts p (length x) (length y) (length z) ok).sizes h (fixed_four (version_of p)) (omega arith)

  pub length_fits : (v : Version) → fixed_part v ≤ length_of (version_of p) (length x) (length y) (length z) → open_length (fixed_part v) (length (bytes_of p x y z)) ≡ no_fault
  length_fits v h =
      let most = end_most p (length x) (length y) (length z) ok in
      rw (length_bytes p x y z) (length_open (fixed_part v) (length_of (version_of p) (length x) (length y) (length z)) h (omega arith))

  pub shared_shown : (v : Version) → OfWidth p → record_at v (bytes_of p x y z) ≡ in_form (form_at v (bytes_of p x y z)) p
  unfolding bytes_of
  shared_shown v s = record_back v p (laid_for p x y z) _ s

  -- read at such a version: what is left are the rules on numbers, by that version
  pub read_back : (v : Version) (choice : ZeroSize) → fixed_part v ≤ fixed_part (version_of p) → OfWidth p
      → read_with v choice (bytes_of p x y z)
      ≡ shown (first_of (judge (front_rules v p)) (judge (back_rules (in_form (form_at v (bytes_of p x y z)) p)))) (in_form (form_at v (bytes_of p x y z)) p) (laid_for p x y z)
  unfolding read_with verdict_with first_of front_rules
  read_back v choice h s =
      let f = form_at v (bytes_of p x y z) in
      let r = shared_shown v s in
      let o = length_fits v (omega (arith, end_behind (fixed_part (version_of p)) sizes)) in
      let t = texts_fit v choice h in
      (λ i. shown (first_of (o i) (first_of (judge (front_rules v (r i))) (first_of (texts_verdict choice (fixed_part v) (length_bytes p x y z i) (pairs_back i)) (judge (back_rules (r i)))))) (r i) (texts_shown i))
      ∙ (λ i. shown (first_of (judge (front_rules v p)) (first_of (t i) (judge (back_rules (in_form f p))))) (in_form f p) (laid_for p x y z))

  -- read at the record's version: the record
  pub bytes_read : (choice : ZeroSize) → OfWidth p → read_with (version_of p) choice (bytes_of p x y z) ≡ Ok (p, (laid_for p x y z))
  unfolding first_of bytes_of
  bytes_read choice s =
      let k = parts p (length x) (length y) (length z) ok in
      let e : form_at (version_of p) (bytes_of p x y z) ≡ p.form = form_back p (laid_for p x y z) _ s.form in
      read_back (version_of p) choice (omega arith) s
      ∙ (λ i. shown (first_of (judge (front_rules (version_of p) p)) (judge (back_rules (in_form (e i) p)))) (in_form (e i) p) (laid_for p x y z))
      ∙ rw (k.front, k.back)

  -- the bytes of each range are the text
  pub texts_read : (shown_in (bytes_of p x y z) (laid_for p x y z).provider_id ≡ x)
      × ((shown_in (bytes_of p x y z) (laid_for p x y z).provider_name ≡ y) × (shown_in (bytes_of p x y z) (laid_for p x y z).roaming_text ≡ z))
  unfolding bytes_of laid_texts
  texts_read =
      let f = fixed_with p (laid_for p x y z) in
      let t = rw (append-nil (pairs.texts_bytes (three x y z))) at (texts_back f [] (three x y z) (fixed_part (version_of p)) (length_fixed p (laid_for p x y z))) in
      (t.0, (t.1.0, t.1.1.0))

-- what the writer puts into an output, read at the record's version, is the record with its texts
pub round_trip : RoundTrip
unfolding write_of
round_trip choice p x y z s n sized e =
    let v = written_verdict p (length x) (length y) (length z) in
    let ok = written_fits v (bytes_of p x y z) s n e in
    let t = texts_read p x y z ok in
    rw (written_front v (bytes_of p x y z) s n e)
    (record { texts = laid_for p x y z; read = bytes_read p x y z ok choice sized; id = t.0; name = t.1.0; roaming = t.1.1 })
