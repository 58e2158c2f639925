-- What lies between the reader's choices: of a payload that is accepted by default the strict choice shows the same, or refuses an offset
-- beside a size of 0; what it accepts it shows as before, and so does the default.
-- Assumes nothing.
use mathlib.Core.Path.{◌≡◌, refl, sym, ap, ◌∙◌}
use mathlib.Core.Logic.{◌⊎◌, inl, inr}
use mathlib.Core.Bool.{Bool, true, false}
use mathlib.Core.List.{List, [], ◌∷◌}
use Prim.Native.Nat.{ℕ}
use lib.ListN.{length}
use Rattle.protocol.specs.Refusal.{refusal, offset_with_zero_size}
use Rattle.protocol.specs.Verdict.{rule, judge, judge_from, fault_if, first_of, open_length, no_fault, Verdict}
use Rattle.protocol.specs.declared.Refusal.{Refusal}
use Rattle.protocol.specs.declared.Version.{Version}
use Rattle.protocol.proofs.Verdicts.{last_fits, kept_fits}
use Rattle.pairs.specs.declared.PairKind.TheVariants.{Text}
use Rattle.pairs.specs.declared.ZeroSize.{ZeroSize}
use Rattle.pairs.specs.declared.ZeroSize.TheVariants.{Absent, Strict}
use Rattle.pairs.specs.Pair.{range_at, offset_without_size}
use Rattle.pairs.proofs.Laws.{stray_said, said_stray, fits_by_default, strict_shown, reached_same, reached_fault}
use Rattle.texts.specs.Claims.{stray_rules}
use Rattle.texts.proofs.Rows.{texts_said, said_texts, strict_of_texts}
use Rattle.registration.specs.Registration.{fixed_part, record_at, text_rows, pairs_at, texts_at, front_rules, texts_verdict, back_rules, shown, head_verdict, verdict_with, choice_verdict, read_with}
use Rattle.registration.specs.Claims.{Acceptable, StrayOffset, OnlyByDefault, StrictTexts, StrictOfAccepted, BetweenChoices, StrictWithin}
use Rattle.registration.proofs.Acceptance.{accepted, acceptable, said_fields}
use Rattle.std.specs.Prelude.{Ok, Err}

pub strict_of_accepted : StrictOfAccepted
unfolding read_with verdict_with texts_verdict first_of
strict_of_accepted v s a =
    let k = said_fields v Absent s a in
    let t = strict_of_texts (fixed_part v) (length s) text_rows (pairs_at s) (said_texts Absent (fixed_part v) (length s) text_rows (pairs_at s) k.texts) in
    rw (k.long, kept_fits (front_rules v (record_at v s)) k.front, t, kept_fits (back_rules (record_at v s)) k.back, last_fits (judge (stray_rules text_rows (pairs_at s))))

pub strict_texts : StrictTexts
unfolding texts_at pairs_at
strict_texts v s p t e =
    let k = accepted v Strict s p t e in
    let n = length s in
    rw (
      k.1.1,
      strict_shown Text (fixed_part v) 12 n (range_at s 20) k.0.id,
      strict_shown Text (fixed_part v) 40 n (range_at s 28) k.0.name,
      strict_shown Text (fixed_part v) 126 n (range_at s 36) k.0.roaming,
    )

-- what fits by a choice fits by default
loosened : (v : Version) (z : ZeroSize) (s : List ℕ) → Acceptable v z s → Acceptable v Absent s
loosened v z s a =
    let n = length s in
    record {
      fixed = a.fixed;
      most = a.most;
      numbers = a.numbers;
      id = fits_by_default z Text (fixed_part v) 12 n _ a.id;
      name = fits_by_default z Text (fixed_part v) 40 n _ a.name;
      roaming = fits_by_default z Text (fixed_part v) 126 n _ a.roaming;
    }

pub strict_within_default : StrictWithin
strict_within_default v s p t e =
    let k = accepted v Strict s p t e in
    rw (k.1.0, k.1.1) (acceptable v Absent s (loosened v Strict s k.0))

-- ---- a reader that has judged the pairs by a choice goes on by default

first_within : (a b c : Verdict) → first_of (first_of a b) c ≡ first_of a (first_of b c)
unfolding first_of
first_within (Ok _) b c = refl
first_within (Err r) b c = refl

module _ (v : Version) (z : ZeroSize) (s : List ℕ) where
  abbrev pairs : ZeroSize → Verdict
  pairs y = texts_verdict y (fixed_part v) (length s) (pairs_at s)

  -- the verdict with what comes before the pairs put together
  in_parts : (y : ZeroSize) → verdict_with v y s ≡ first_of (head_verdict v s) (first_of (pairs y) (judge (back_rules (record_at v s))))
  unfolding verdict_with head_verdict
  in_parts y = sym (first_within (open_length (fixed_part v) (length s)) (judge (front_rules v (record_at v s))) _)

  pairs_by_default : pairs z ≡ no_fault → pairs Absent ≡ no_fault
  unfolding texts_verdict pairs_at
  pairs_by_default e =
      let n = length s in
      let k = texts_said z (fixed_part v) n text_rows (pairs_at s) e in
      said_texts Absent (fixed_part v) n text_rows (pairs_at s)
      (fits_by_default z Text (fixed_part v) 12 n _ k.0, (fits_by_default z Text (fixed_part v) 40 n _ k.1.0, (fits_by_default z Text (fixed_part v) 126 n _ k.1.1.0, tt)))

  pub read_judged : choice_verdict v z s ≡ no_fault → read_with v Absent s ≡ read_with v z s
  unfolding read_with
  read_judged e = ap (λ (d : Verdict). shown d (record_at v s) (texts_at s)) (in_parts Absent ∙ reached_same (head_verdict v s) (pairs z) (pairs Absent) _ e pairs_by_default ∙ sym (in_parts z))

  pub read_faulted : (r : Refusal) → choice_verdict v z s ≡ Err r → Err r ≡ read_with v z s
  unfolding read_with
  read_faulted r e = sym (ap (λ (d : Verdict). shown d (record_at v s) (texts_at s)) (in_parts z ∙ reached_fault (head_verdict v s) (pairs z) _ r e))

-- ---- the payloads between the choices

record Faulty (v : Verdict) : Type 0 where
  refusal : Refusal
  is : v ≡ Err refusal

-- the verdict by what is tested: whether a pair has an offset beside size 0
abbrev stray_in : (id name roaming : Bool) → Verdict
stray_in id name roaming =
    judge (rule id offset_with_zero_size 20 ∷ rule name offset_with_zero_size 28 ∷ rule roaming offset_with_zero_size 36 ∷ [])

abbrev Any : Bool → Bool → Bool → Type 0
Any id name roaming = (id ≡ true) ⊎ ((name ≡ true) ⊎ (roaming ≡ true))

faulty : (a b c : Bool) → Any a b c → Faulty (stray_in a b c)
unfolding judge_from fault_if first_of
faulty true b c h = record { refusal = refusal offset_with_zero_size 20; is = refl }
faulty false true c h = record { refusal = refusal offset_with_zero_size 28; is = refl }
faulty false false true h = record { refusal = refusal offset_with_zero_size 36; is = refl }
faulty false false false (inl e) = absurd cc
faulty false false false (inr (inl e)) = absurd cc
faulty false false false (inr (inr e)) = absurd cc

any_faulty : (a b c : Bool) → (stray_in a b c ≡ no_fault → ⊥) → Any a b c
unfolding judge_from fault_if first_of
any_faulty true b c h = inl refl
any_faulty false true c h = inr (inl refl)
any_faulty false false true h = inr (inr refl)
any_faulty false false false h = absurd (h refl)

module _ (s : List ℕ) where
  abbrev strays : Verdict
  strays = stray_in (offset_without_size (range_at s 20)) (offset_without_size (range_at s 28)) (offset_without_size (range_at s 36))

  strays_same : judge (stray_rules text_rows (pairs_at s)) ≡ strays
  unfolding pairs_at
  strays_same = refl

  stray_offset : (strays ≡ no_fault → ⊥) → StrayOffset s
  stray_offset h = by_pair (any_faulty _ _ _ h)
    where
      by_pair : Any (offset_without_size (range_at s 20)) (offset_without_size (range_at s 28)) (offset_without_size (range_at s 36)) → StrayOffset s
      by_pair (inl e) = inl (stray_said (range_at s 20) e)
      by_pair (inr (inl e)) = inr (inl (stray_said (range_at s 28) e))
      by_pair (inr (inr e)) = inr (inr (stray_said (range_at s 36) e))

  offset_stray : StrayOffset s → Faulty strays
  offset_stray (inl o) = faulty _ _ _ (inl (said_stray (range_at s 20) o))
  offset_stray (inr (inl o)) = faulty _ _ _ (inr (inl (said_stray (range_at s 28) o)))
  offset_stray (inr (inr o)) = faulty _ _ _ (inr (inr (said_stray (range_at s 36) o)))

module _ (v : Version) (s : List ℕ) where
  strict_by : Acceptable v Absent s → read_with v Strict s ≡ shown (strays s) (record_at v s) (texts_at s)
  strict_by a = rw (← strays_same s) (strict_of_accepted v s a)

  -- a reader that refuses has found a fault
  none_shown : (d : Verdict) (r : Refusal) → shown d (record_at v s) (texts_at s) ≡ Err r → d ≡ no_fault → ⊥
  none_shown (Ok _) r e f = cc
  none_shown (Err q) r e f = cc

  between_said : OnlyByDefault v s → Acceptable v Absent s × StrayOffset s
  between_said o =
      let a = (accepted v Absent s (record_at v s) (texts_at s) o.accepted).0 in
      (a, stray_offset s (none_shown (strays s) o.refusal (sym (strict_by a) ∙ o.refused)))

  said_between : Acceptable v Absent s × StrayOffset s → OnlyByDefault v s
  said_between k =
      let f = offset_stray s k.1 in
      record { accepted = acceptable v Absent s k.0; refusal = f.refusal; refused = strict_by k.0 ∙ rw f.is }

pub between_choices : BetweenChoices
between_choices v s = (between_said v s, said_between v s)
