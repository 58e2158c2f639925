-- The length of the bytes, and what is known of a record and texts that fit.
-- Assumes nothing.
use mathlib.Core.Path.{◌≡◌, refl, ◌∙◌}
use mathlib.Core.List.{List, ◌++◌}
use Prim.Native.Nat.{ℕ, ◌%◌, ◌≤◌}
use native.Mathlib.Omega.{arith}
use lib.ListN.{length, length-append}
use lib.Seq.{sets}
use native.Mathlib.Nat.{zero-add}
use Rattle.wire.specs.Output.{over}
use Rattle.wire.proofs.Laws.{sets_then, sets_over}
use Rattle.wire.specs.Numbers.{digits}
use Rattle.protocol.specs.Verdict.{Kept, judge, no_fault}
use Rattle.protocol.specs.declared.Version.{Version}
use Rattle.protocol.specs.declared.Version.TheVariants.{V1, V2}
use Rattle.protocol.proofs.Verdicts.{left_fits, right_fits, fits_kept}
use Rattle.pairs.specs.Pair.{range_bytes}
use Rattle.texts.specs.Texts as pairs
use Rattle.texts.specs.Claims.{SizesFit}
use Rattle.texts.proofs.Rows.{sizes_said, end_within, length_texts}
use Rattle.registration.specs.declared.RegistrationForm.{RegistrationForm}
use Rattle.registration.specs.declared.RegistrationForm.TheVariants.{V1 as Form1, V2 as Form2}
use Rattle.registration.specs.declared.Registration.{Registration}
use Rattle.registration.specs.declared.RegistrationTexts.{RegistrationTexts}
use Rattle.registration.specs.Registration.{fixed_part, text_rows, front_rules, back_rules, version_in, version_of, three, size_rules, written_verdict, laid_for, length_of, front_bytes, texts_bytes, preferred_bytes, back_bytes, fixed_bytes, fixed_with, bytes_of}

-- ---- lengths

pub fixed_small : (v : Version) → fixed_part v ≤ 52
fixed_small V1 = omega arith
fixed_small V2 = omega arith

pub fixed_four : (v : Version) → fixed_part v % 4 ≡ 0
fixed_four V1 = refl
fixed_four V2 = refl

pub length_fixed : (p : Registration) (t : RegistrationTexts) → length (fixed_with p t) ≡ fixed_part (version_of p)
unfolding fixed_bytes front_bytes texts_bytes back_bytes range_bytes
length_fixed p t = by_form p.form
  where
    by_form : (f : RegistrationForm)
        → length (front_bytes p ++ (texts_bytes t.provider_id t.provider_name t.roaming_text ++ (digits 4 p.registration_flag ++ preferred_bytes f))) ≡ fixed_part (version_in f)
    by_form Form1 = refl
    by_form (Form2 class) = refl

-- the bytes are as many as the form and the texts have
pub length_bytes : (p : Registration) (x y z : List ℕ) → length (bytes_of p x y z) ≡ length_of (version_of p) (length x) (length y) (length z)
unfolding bytes_of
length_bytes p x y z =
    let f = fixed_with p (laid_for p x y z) in
    let ts = three x y z in
    omega (arith, length-append f (pairs.texts_bytes ts), length_fixed p (laid_for p x y z), length_texts (fixed_part (version_of p)) ts)

-- the fixed part, and the texts behind it, are the bytes
pub stored : (p : Registration) (x y z s : List ℕ) → length (bytes_of p x y z) ≤ length s
    → sets (sets s 0 (fixed_with p (laid_for p x y z))) (fixed_part (version_of p)) (pairs.texts_bytes (three x y z)) ≡ over (bytes_of p x y z) s
unfolding bytes_of
stored p x y z s h =
    let t = laid_for p x y z in
    let n = fixed_part (version_of p) in
    sets_then (fixed_with p t) (pairs.texts_bytes (three x y z)) 0 n s (length_fixed p t) refl (rw (zero-add n)) ∙ sets_over _ s h

-- ---- what is written fits in each part

pub record Parts (p : Registration) (id name roaming : ℕ) : Type 0 where
  pub front : judge (front_rules (version_of p) p) ≡ no_fault
  pub sizes : Kept (size_rules id name roaming)
  pub back : judge (back_rules p) ≡ no_fault

pub parts : (p : Registration) (id name roaming : ℕ) → written_verdict p id name roaming ≡ no_fault → Parts p id name roaming
unfolding written_verdict
parts p id name roaming e =
    let r = right_fits (judge (front_rules (version_of p) p)) _ e in
    record {
      front = left_fits _ _ e;
      sizes = fits_kept (size_rules id name roaming) (left_fits _ _ r);
      back = right_fits (judge (size_rules id name roaming)) _ r;
    }

pub small : (p : Registration) (id name roaming : ℕ) → written_verdict p id name roaming ≡ no_fault → SizesFit text_rows (three id name roaming)
unfolding size_rules
small p id name roaming e = sizes_said text_rows (three id name roaming) (parts p id name roaming e).sizes

-- what is written is far below 4,096 bytes, so number 5 is never given
pub end_most : (p : Registration) (id name roaming : ℕ) → written_verdict p id name roaming ≡ no_fault → length_of (version_of p) id name roaming ≤ 232
end_most p id name roaming e =
    end_within (fixed_part (version_of p)) 52 text_rows (three id name roaming) (small p id name roaming e) (omega arith) (fixed_small (version_of p))

pub bytes_most : (p : Registration) (x y z : List ℕ) → written_verdict p (length x) (length y) (length z) ≡ no_fault → length (bytes_of p x y z) ≤ 232
bytes_most p x y z e = omega (arith, length_bytes p x y z, end_most p (length x) (length y) (length z) e)
