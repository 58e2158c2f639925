-- What the other version's reader shows: of bytes of 2.00 the shared fields and the texts, unless a class is of 2.00 only; bytes of 1.00
-- are refused.
-- Assumes nothing.
use mathlib.Core.Path.{◌≡◌, refl, ap, ◌∙◌}
use mathlib.Core.Bool.{Bool, true, false}
use mathlib.Core.List.{List}
use Prim.Native.Nat.{ℕ, ◌≤◌}
use native.Mathlib.Omega.{arith}
use borrow.Author.Tests.{eqb-true, eqb-false}
use lib.Bits.{bit_and}
use lib.Dec.{eqb}
use lib.ListN.{length}
use Rattle.protocol.specs.Refusal.{refusal, too_short}
use Rattle.protocol.specs.Verdict.{Kept, judge, judge_from, fault_if, first_of, open_length, no_fault, Verdict}
use Rattle.protocol.specs.DataClass.{mask_of, only_classes}
use Rattle.protocol.specs.declared.Version.TheVariants.{V1, V2}
use Rattle.protocol.proofs.Tests.{equal_kept, kept_equal}
use Rattle.protocol.proofs.Verdicts.{last_fits, fits_kept, kept_fits, open_short}
use Rattle.protocol.proofs.Classes.{later_classes}
use Rattle.pairs.specs.declared.ZeroSize.{ZeroSize}
use Rattle.texts.specs.Texts.{end_of}
use Rattle.texts.proofs.Rows.{end_behind, end_aligned, laid_inside, none_inside}
use Rattle.registration.specs.declared.RegistrationForm.{RegistrationForm}
use Rattle.registration.specs.declared.RegistrationForm.TheVariants.{V1 as Form1, V2 as Form2}
use Rattle.registration.specs.declared.Registration.{Registration}
use Rattle.registration.specs.declared.RegistrationTexts.{RegistrationTexts}
use Rattle.registration.specs.Registration.{fixed_part, record_at, text_rows, pairs_at, front_rules, texts_verdict, back_rules, shown, verdict_with, read_with, version_of, three, size_rules, written_verdict, laid_for, length_of, bytes_of}
use Rattle.registration.specs.Claims.{in_form, shown_earlier, refused_later, OfWidth, LaterReadEarlier, EarlierReadLater}
use Rattle.registration.proofs.Laws.{parts, length_bytes}
use Rattle.registration.proofs.RoundTrip.{read_back, pairs_back, shared_shown, length_fits}
use Rattle.std.specs.Prelude.{Err}

-- ---- bytes of 2.00 read at 1.00

-- the rules after the pairs hold of the shared fields
back_earlier : (p : Registration) → Kept (back_rules p) → judge (back_rules (in_form Form1 p)) ≡ no_fault
unfolding back_rules
back_earlier p = by_form p.form refl
  where
    by_form : (f : RegistrationForm) → p.form ≡ f → Kept (back_rules p) → judge (back_rules (in_form Form1 p)) ≡ no_fault
    by_form Form1 e k = let j = rw e at k in kept_fits (back_rules (in_form Form1 p)) j
    by_form (Form2 class) e k = let j = rw e at k in kept_fits (back_rules (in_form Form1 p)) (j.0, (j.1.1.0, tt))

-- of those before them, only the classes are judged otherwise
earlier_by : (p : Registration) (t : RegistrationTexts) → Kept (front_rules V2 p) → (b : Bool) → only_classes V1 p.available_data_class ≡ b
    → shown (judge (front_rules V1 p)) (in_form Form1 p) t ≡ shown_earlier p t
unfolding front_rules judge_from fault_if first_of
earlier_by p t k true e = rw (k.0, k.1.0, e, k.1.1.1.0)
earlier_by p t k false e = rw (k.0, k.1.0, e)

pub later_read_earlier : LaterReadEarlier
unfolding first_of
later_read_earlier choice p x y z e s ok =
    let k = parts p (length x) (length y) (length z) ok in
    let f : 48 ≤ fixed_part (version_of p) = rw e (omega arith) in
    let front = rw e at (fits_kept (front_rules (version_of p) p) k.front) in
    let back : judge (back_rules (in_form Form1 p)) ≡ no_fault = back_earlier p (fits_kept (back_rules p) k.back) in
    read_back p x y z ok V1 choice f s
    ∙ (λ i. shown (first_of (judge (front_rules V1 p)) (back i)) (in_form Form1 p) (laid_for p x y z))
    ∙ ap (λ (d : Verdict). shown d (in_form Form1 p) (laid_for p x y z)) (last_fits (judge (front_rules V1 p)))
    ∙ earlier_by p (laid_for p x y z) front (only_classes V1 p.available_data_class) refl

-- ---- bytes of 1.00 read at 2.00

-- the numbers before the pairs fit there too
front_later : (p : Registration) → Kept (front_rules V1 p) → judge (front_rules V2 p) ≡ no_fault
unfolding front_rules
front_later p k =
    let c = p.available_data_class in
    kept_fits (front_rules V2 p)
    (k.0, (k.1.0, (kept_equal (bit_and c (mask_of V2)) c (later_classes c (equal_kept (bit_and c (mask_of V1)) c k.1.1.0)), (k.1.1.1.0, tt))))

-- ---- by the sizes of the texts: with none the bytes are too short; else the first one that is there lies in the larger fixed part

module _ (choice : ZeroSize) (p : Registration) (x y z : List ℕ) (e : version_of p ≡ V1) where
  abbrev sizes : List ℕ
  sizes = three (length x) (length y) (length z)

  none_later : end_of 48 sizes ≡ 48 → read_with V2 choice (bytes_of p x y z) ≡ Err (refused_later (length x) (length y) (length z))
  unfolding read_with verdict_with first_of
  none_later h = rw (length_bytes p x y z, e, h, open_short 52 48 (omega arith), none_inside 48 (refusal too_short 48) text_rows sizes h)

  some_later : OfWidth p → written_verdict p (length x) (length y) (length z) ≡ no_fault → (end_of 48 sizes ≡ 48 → ⊥)
      → read_with V2 choice (bytes_of p x y z) ≡ Err (refused_later (length x) (length y) (length z))
  unfolding read_with verdict_with first_of front_rules texts_verdict size_rules
  some_later s ok h =
      let k = parts p (length x) (length y) (length z) ok in
      let n = length (bytes_of p x y z) in
      let enough : 52 ≤ length_of (version_of p) (length x) (length y) (length z) = rw e (omega (arith, end_behind 48 sizes, end_aligned 48 sizes refl)) in
      let o : open_length 52 n ≡ no_fault = length_fits p x y z ok V2 enough in
      let front : judge (front_rules V2 (record_at V2 (bytes_of p x y z))) ≡ no_fault =
      ap (λ (r : Registration). judge (front_rules V2 r)) (shared_shown p x y z ok V2 s) ∙ front_later p (rw e at (fits_kept (front_rules (version_of p) p) k.front)) in
      let texts : texts_verdict choice 52 n (pairs_at (bytes_of p x y z)) ≡ Err (refused_later (length x) (length y) (length z)) =
      rw (pairs_back p x y z ok, e) (laid_inside choice 52 n 48 (refusal too_short 48) text_rows sizes k.sizes (omega arith) (omega arith) h) in
      rw (o, front, texts)

pub earlier_read_later : EarlierReadLater
earlier_read_later choice p x y z e s ok = by_sizes (eqb (end_of 48 (three (length x) (length y) (length z))) 48) refl
  where
    by_sizes : (b : Bool) → eqb (end_of 48 (three (length x) (length y) (length z))) 48 ≡ b → read_with V2 choice (bytes_of p x y z) ≡ Err (refused_later (length x) (length y) (length z))
    by_sizes true h = none_later choice p x y z e (eqb-true (end_of 48 (three (length x) (length y) (length z))) 48 h)
    by_sizes false h = some_later choice p x y z e s ok (eqb-false (end_of 48 (three (length x) (length y) (length z))) 48 h)
