-- The texts of a record, proved once over their rows. Pairs fit exactly where each does; texts that a writer lays out are accepted, or
-- refused as lying in a longer fixed part; their pairs and their bytes are read back.
-- Assumes nothing.
use mathlib.Core.Path.{◌≡◌, refl, sym, subst, ap, ◌∙◌}
use mathlib.Core.Bool.{Bool, true, false}
use mathlib.Core.List.{List, [], ◌∷◌, ◌++◌, append_assoc}
use Prim.Native.Nat.{ℕ, zero, suc, ◌+◌, ◌%◌, ◌≤◌, ◌<◌, min}
use native.Mathlib.Numerals.{add-one}
use native.Mathlib.Omega.{arith}
use borrow.Author.Tests.{ltb-true, ltb-false, ne_eqb}
use lib.Dec.{ltb}
use lib.ListN.{length, get_or, drop, drop_of_length-le, length-append}
use lib.Seq.{drop-cons, sets}
use Rattle.wire.proofs.Laws.{sets_then, length_fitted}
use Rattle.protocol.specs.Refusal.{refusal, wrong_size, offset_with_zero_size}
use Rattle.protocol.specs.Verdict.{Rule, rule, Kept, judge, judge_from, first_of, fault_if, no_fault, Verdict}
use Rattle.protocol.specs.declared.Reason.{Reason}
use Rattle.protocol.specs.declared.Refusal.{Refusal}
use Rattle.protocol.proofs.Verdicts.{left_fits, right_fits, last_fits, fault_stays}
use Rattle.pairs.specs.declared.Range.{Range}
use Rattle.pairs.specs.declared.PairKind.TheVariants.{Text}
use Rattle.pairs.specs.declared.ZeroSize.{ZeroSize}
use Rattle.pairs.specs.declared.ZeroSize.TheVariants.{Absent, Strict}
use Rattle.pairs.specs.Pair.{range_at, unfit, offset_without_size, verdict_of, padded, shown_at, range_bytes}
use Rattle.texts.specs.Texts.{place_of, limit_of, ranges_at, all_shown, in_turn, each_verdict, texts_verdict, size_rules, laid, end_of, start_of, ranges_bytes, text_bytes, texts_bytes, sizes_of}
use Rattle.texts.specs.Claims.{TextsFit, SizesFit, TextsShown, Adjoining, RangesOfWidth, first_inside, stray_rules, TextsExactly, StrictOfTexts}
use Rattle.pairs.proofs.Laws.{size_said, said_size, fits_said, said_fits, absent_fits, strict_of_fitting, placed_fits, placed_inside, placed_sized, placed_shown, placed_back, range_back}
use Rattle.std.specs.Prelude.{Err}

-- ---- verdicts in turn

-- the first, then the others
pub turn : (v : Verdict) (vs : List Verdict) → in_turn (v ∷ vs) ≡ first_of v (in_turn vs)
turn v [] = sym (last_fits v)
turn v (w ∷ ws) = refl

-- ---- pairs fit exactly where each does, and sizes too

module _ (z : ZeroSize) (fixed n : ℕ) where
  pub texts_said : (rows : List (List ℕ)) (ps : List Range) → texts_verdict z fixed n rows ps ≡ no_fault → TextsFit z fixed n rows ps
  texts_said [] ps e = tt
  texts_said (x ∷ xs) [] e = tt
  texts_said (x ∷ xs) (p ∷ ps) e =
      let k = sym (turn (verdict_of z Text fixed (limit_of x) (place_of x) n p) (each_verdict z fixed n xs ps)) ∙ e in
      (fits_said z Text fixed (limit_of x) (place_of x) n p (left_fits _ _ k), texts_said xs ps (right_fits _ _ k))

  pub said_texts : (rows : List (List ℕ)) (ps : List Range) → TextsFit z fixed n rows ps → texts_verdict z fixed n rows ps ≡ no_fault
  unfolding first_of
  said_texts [] ps f = refl
  said_texts (x ∷ xs) [] f = refl
  said_texts (x ∷ xs) (p ∷ ps) f =
      turn _ (each_verdict z fixed n xs ps) ∙ rw (said_fits z Text fixed (limit_of x) (place_of x) n p f.0) (said_texts xs ps f.1)

pub texts_exactly : TextsExactly
texts_exactly z fixed n rows ps = (texts_said z fixed n rows ps, said_texts z fixed n rows ps)

-- ---- what the strict choice says of pairs that fit by default

-- the first rule, then the others
rule_turn : (b : Bool) (reason : Reason) (place : ℕ) (rs : List Rule) → judge (rule b reason place ∷ rs) ≡ first_of (judge (rule b reason place ∷ [])) (judge rs)
unfolding judge_from fault_if first_of
rule_turn true reason place rs = fault_stays (refusal reason place) rs
rule_turn false reason place rs = refl

pub strict_of_texts : StrictOfTexts
unfolding judge_from
strict_of_texts fixed n [] ps e = refl
strict_of_texts fixed n (x ∷ xs) [] e = refl
strict_of_texts fixed n (x ∷ xs) (p ∷ ps) e =
    let k = sym (turn (verdict_of Absent Text fixed (limit_of x) (place_of x) n p) (each_verdict Absent fixed n xs ps)) ∙ e in
    let here = strict_of_fitting Text fixed (limit_of x) (place_of x) n p (left_fits _ _ k) in
    let others = strict_of_texts fixed n xs ps (right_fits _ _ k) in
    turn _ (each_verdict Strict fixed n xs ps)
    ∙ (λ i. first_of (here i) (others i))
    ∙ sym (rule_turn (offset_without_size p) offset_with_zero_size (place_of x) (stray_rules xs ps))

pub sizes_said : (rows : List (List ℕ)) (ks : List ℕ) → Kept (size_rules rows ks) → SizesFit rows ks
sizes_said [] ks k = tt
sizes_said (x ∷ xs) [] k = tt
sizes_said (x ∷ xs) (a ∷ ks) k = (size_said Text (limit_of x) a k.0, sizes_said xs ks k.1)

pub said_sizes : (rows : List (List ℕ)) (ks : List ℕ) → SizesFit rows ks → Kept (size_rules rows ks)
said_sizes [] ks f = tt
said_sizes (x ∷ xs) [] f = tt
said_sizes (x ∷ xs) (a ∷ ks) f = (said_size Text (limit_of x) a f.0, said_sizes xs ks f.1)

-- ---- a reader's loop over the rows

module _ (z : ZeroSize) (fixed : ℕ) (s : List ℕ) where
  abbrev pub verdict_at : List ℕ → Verdict
  verdict_at x = verdict_of z Text fixed (limit_of x) (place_of x) (length s) (range_at s (place_of x))

  abbrev pub verdict_from : List (List ℕ) → ℕ → Verdict
  verdict_from rows i = texts_verdict z fixed (length s) (drop i rows) (ranges_at s (drop i rows))

  -- a row that fits is passed
  pub row_passed : (rows : List (List ℕ)) (i : ℕ) → i < length rows → verdict_at (get_or rows i []) ≡ no_fault → verdict_from rows i ≡ verdict_from rows (i + 1)
  unfolding first_of
  row_passed rows i h e = rw (drop-cons rows i [] h, add-one i, turn, e)

  -- one that does not decides
  pub row_decides : (rows : List (List ℕ)) (i : ℕ) {r : Refusal} → i < length rows → verdict_at (get_or rows i []) ≡ Err r → verdict_from rows i ≡ Err r
  unfolding first_of
  row_decides rows i h e = rw (drop-cons rows i [] h, turn, e)

  -- where the rows end, nothing is left to decide
  pub rows_end : (rows : List (List ℕ)) (i : ℕ) → length rows ≤ i → verdict_from rows i ≡ no_fault
  rows_end rows i h = rw (drop_of_length-le rows h)

-- the pair of one row
pub text_at : (s : List ℕ) (rows : List (List ℕ)) (i : ℕ) (d : Range) → i < length rows → get_or (all_shown (ranges_at s rows)) i d ≡ shown_at s (place_of (get_or rows i []))
unfolding shown_at
text_at s [] i d h = absurd (omega arith)
text_at s (x ∷ xs) zero d h = refl
text_at s (x ∷ xs) (suc i) d h = text_at s xs i d (omega arith)

pub text_past : (s : List ℕ) (rows : List (List ℕ)) (i : ℕ) (d : Range) → length rows ≤ i → get_or (all_shown (ranges_at s rows)) i d ≡ d
text_past s [] i d h = refl
text_past s (x ∷ xs) zero d h = absurd (omega arith)
text_past s (x ∷ xs) (suc i) d h = text_past s xs i d (omega arith)

-- ---- a writer's loop over the rows and the sizes

abbrev pub sizes_from : List (List ℕ) → List ℕ → ℕ → List Rule
sizes_from rows ks i = size_rules (drop i rows) (drop i ks)

-- the rule on one size
abbrev size_verdict : List (List ℕ) → List ℕ → ℕ → Verdict
size_verdict rows ks i = fault_if (unfit Text (limit_of (get_or rows i [])) (get_or ks i 0)) wrong_size (place_of (get_or rows i []))

size_next : (rows : List (List ℕ)) (ks : List ℕ) (i : ℕ) → i < length rows → i < length ks
    → judge (sizes_from rows ks i) ≡ judge_from (first_of no_fault (size_verdict rows ks i)) (sizes_from rows ks (i + 1))
unfolding judge_from
size_next rows ks i h k = rw (drop-cons rows i [] h, drop-cons ks i 0 k, add-one i)

-- a size that fits is passed
pub size_passed : (rows : List (List ℕ)) (ks : List ℕ) (i : ℕ) → i < length rows → i < length ks → size_verdict rows ks i ≡ no_fault
    → judge (sizes_from rows ks i) ≡ judge (sizes_from rows ks (i + 1))
unfolding first_of
size_passed rows ks i h k e = size_next rows ks i h k ∙ ap (λ v. judge_from (first_of no_fault v) (sizes_from rows ks (i + 1))) e

-- one that does not decides
pub size_decides : (rows : List (List ℕ)) (ks : List ℕ) (i : ℕ) {r : Refusal} → i < length rows → i < length ks → size_verdict rows ks i ≡ Err r
    → judge (sizes_from rows ks i) ≡ Err r
unfolding first_of
size_decides rows ks i {r} h k e =
    size_next rows ks i h k ∙ ap (λ v. judge_from (first_of no_fault v) (sizes_from rows ks (i + 1))) e ∙ fault_stays r (sizes_from rows ks (i + 1))

no_sizes : (rows : List (List ℕ)) → size_rules rows [] ≡ []
no_sizes [] = refl
no_sizes (x ∷ xs) = refl

sizes_end : (rows : List (List ℕ)) (ks : List ℕ) (i : ℕ) → min (length rows) (length ks) ≤ i → sizes_from rows ks i ≡ []
sizes_end rows ks i h = by_rows (ltb i (length rows)) refl
  where
    by_rows : (b : Bool) → ltb i (length rows) ≡ b → sizes_from rows ks i ≡ []
    by_rows true e =
        let l : i < length rows = ltb-true i (length rows) e in
        let k : length ks ≤ i = omega arith in
        rw (drop_of_length-le ks k) (no_sizes (drop i rows))
    by_rows false e = rw (drop_of_length-le rows (ltb-false i (length rows) e))

-- where the rows or the sizes end, nothing is left to decide
pub sizes_ended : (rows : List (List ℕ)) (ks : List ℕ) (i : ℕ) → min (length rows) (length ks) ≤ i → judge (sizes_from rows ks i) ≡ no_fault
unfolding judge_from
sizes_ended rows ks i h = rw (sizes_end rows ks i h)

-- ---- where texts go

-- behind one text more
pub start_next : (base : ℕ) (ks : List ℕ) (i : ℕ) → start_of base ks (suc i) ≡ start_of base ks i + padded (get_or ks i 0)
start_next base [] zero = omega arith
start_next base [] (suc i) = omega arith
start_next base (k ∷ ks) zero = refl
start_next base (k ∷ ks) (suc i) = start_next (base + padded k) ks i

pub end_behind : (base : ℕ) (ks : List ℕ) → base ≤ end_of base ks
end_behind base [] = omega arith
end_behind base (k ∷ ks) = omega (arith, end_behind (base + padded k) ks)

pub end_aligned : (base : ℕ) (ks : List ℕ) → base % 4 ≡ 0 → end_of base ks % 4 ≡ 0
end_aligned base [] h = h
end_aligned base (k ∷ ks) h = end_aligned (base + padded k) ks (omega arith)

-- no further than the longest that fit
abbrev pub furthest : ℕ → List (List ℕ) → ℕ
furthest base [] = base
furthest base (x ∷ xs) = furthest (base + padded (limit_of x)) xs

pub end_within : (base most : ℕ) (rows : List (List ℕ)) (ks : List ℕ) → SizesFit rows ks → length ks ≤ length rows → base ≤ most → end_of base ks ≤ furthest most rows
end_within base most [] [] f l h = h
end_within base most [] (k ∷ ks) f l h = absurd (omega arith)
end_within base most (x ∷ xs) [] f l h = omega (arith, end_within base (most + padded (limit_of x)) xs [] (no_size xs) (omega arith) (omega arith))
  where
    no_size : (xs : List (List ℕ)) → SizesFit xs []
    no_size [] = tt
    no_size (x ∷ xs) = tt
end_within base most (x ∷ xs) (k ∷ ks) f l h =
    end_within (base + padded k) (most + padded (limit_of x)) xs ks f.1 (omega arith) (omega (arith, f.0.small))

-- ---- texts that a writer lays out

-- are accepted behind the fixed part
pub laid_fit : (z : ZeroSize) (fixed n base : ℕ) (rows : List (List ℕ)) (ks : List ℕ) → Kept (size_rules rows ks) → fixed ≤ base → base % 4 ≡ 0 → end_of base ks ≤ n
    → texts_verdict z fixed n rows (laid base ks) ≡ no_fault
unfolding first_of
laid_fit z fixed n base [] ks k f a e = refl
laid_fit z fixed n base (x ∷ xs) [] k f a e = refl
laid_fit z fixed n base (x ∷ xs) (m ∷ ks) k f a e =
    let b = end_behind (base + padded m) ks in
    turn _ (each_verdict z fixed n xs (laid (base + padded m) ks))
    ∙ rw (placed_fits z Text fixed (limit_of x) (place_of x) n base m k.0 f a (omega arith)) (laid_fit z fixed n (base + padded m) xs ks k.1 (omega arith) (omega arith) e)

-- and shown as they are laid
pub laid_shown : (base : ℕ) (ks : List ℕ) → all_shown (laid base ks) ≡ laid base ks
laid_shown base [] = refl
laid_shown base (k ∷ ks) = λ i. placed_shown base k i ∷ laid_shown (base + padded k) ks i

-- and the first of them is refused as one in the fixed part where that reaches further
pub laid_inside : (z : ZeroSize) (fixed n base : ℕ) (r : Refusal) (rows : List (List ℕ)) (ks : List ℕ) → Kept (size_rules rows ks) → length ks ≤ length rows → base < fixed
    → (end_of base ks ≡ base → ⊥) → texts_verdict z fixed n rows (laid base ks) ≡ Err (first_inside r rows ks)
unfolding first_of
laid_inside z fixed n base r rows [] k l b h = absurd (h refl)
laid_inside z fixed n base r [] (m ∷ ks) k l b h = absurd (omega arith)
laid_inside z fixed n base r (x ∷ xs) (zero ∷ ks) k l b h =
    turn _ (each_verdict z fixed n xs (laid (base + padded 0) ks))
    ∙ rw (absent_fits z Text fixed (limit_of x) (place_of x) n) (laid_inside z fixed n (base + padded 0) r xs ks k.1 (omega arith) (omega arith) (λ e. h (omega (arith, e))))
laid_inside z fixed n base r (x ∷ xs) (suc m ∷ ks) k l b h =
    turn _ (each_verdict z fixed n xs (laid (base + padded (suc m)) ks))
    ∙ rw (placed_inside z Text fixed (limit_of x) (place_of x) n base (suc m) k.0 (omega arith) b, ne_eqb (suc m) 0 (omega arith))

pub none_inside : (base : ℕ) (r : Refusal) (rows : List (List ℕ)) (ks : List ℕ) → end_of base ks ≡ base → first_inside r rows ks ≡ r
none_inside base r [] ks h = refl
none_inside base r (x ∷ xs) [] h = refl
none_inside base r (x ∷ xs) (zero ∷ ks) h = none_inside (base + padded 0) r xs ks (omega arith)
none_inside base r (x ∷ xs) (suc m ∷ ks) h = absurd (omega (arith, end_behind (base + padded (suc m)) ks))

-- their pairs are of their width
pub laid_sized : (base : ℕ) (ks : List ℕ) → end_of base ks ≤ 4096 → RangesOfWidth (laid base ks)
laid_sized base [] h = tt
laid_sized base (k ∷ ks) h =
    let b = end_behind (base + padded k) ks in
    (placed_sized base k (omega arith) (omega arith), laid_sized (base + padded k) ks h)

-- ---- stored one after another

pub range_stored : (p : Range) (ps : List Range) (at : ℕ) (s : List ℕ) {s₁ s₂ : List ℕ} → s₁ ≡ sets s at (range_bytes p) → s₂ ≡ sets s₁ (at + 8) (ranges_bytes ps)
    → s₂ ≡ sets s at (ranges_bytes (p ∷ ps))
unfolding range_bytes
range_stored p ps at s e f = sets_then (range_bytes p) (ranges_bytes ps) at 8 s refl e f

pub text_stored : (t : List ℕ) (ts : List (List ℕ)) (at : ℕ) (s : List ℕ) {s₁ s₂ : List ℕ} → s₁ ≡ sets s at (text_bytes t)
    → s₂ ≡ sets s₁ (at + padded (length t)) (texts_bytes ts) → s₂ ≡ sets s at (texts_bytes (t ∷ ts))
text_stored t ts at s e f = sets_then (text_bytes t) (texts_bytes ts) at (padded (length t)) s (length_fitted (padded (length t)) t) e f

-- ---- what was put is read back

pub ranges_back : (before rest : List ℕ) (rows : List (List ℕ)) (ps : List Range) (at : ℕ) → length before ≡ at → length rows ≡ length ps → Adjoining at rows → RangesOfWidth ps
    → ranges_at (before ++ (ranges_bytes ps ++ rest)) rows ≡ ps
unfolding range_bytes
ranges_back before rest [] [] at e l c z = refl
ranges_back before rest [] (p ∷ ps) at e l c z = absurd (omega arith)
ranges_back before rest (x ∷ xs) [] at e l c z = absurd (omega arith)
ranges_back before rest (x ∷ xs) (p ∷ ps) at e l c z =
    let more = ranges_bytes ps ++ rest in
    let here = range_back before more p (place_of x) (e ∙ sym c.0) z.0 in
    let longer : length (before ++ range_bytes p) ≡ at + 8 = length-append before (range_bytes p) ∙ ap (λ (k : ℕ). k + 8) e in
    let others = rw (append_assoc before (range_bytes p) more) at (ranges_back (before ++ range_bytes p) rest xs ps (at + 8) longer (omega arith) c.1 z.1) in
    rw (append_assoc (range_bytes p) (ranges_bytes ps) rest) (λ i. here i ∷ others i)

-- each text, where a writer lays them out behind `before`
pub texts_back : (before rest : List ℕ) (ts : List (List ℕ)) (base : ℕ) → length before ≡ base
    → TextsShown (before ++ (texts_bytes ts ++ rest)) (laid base (sizes_of ts)) ts
texts_back before rest [] base e = tt
texts_back before rest (t ∷ ts) base e =
    let assoc : (text_bytes t ++ texts_bytes ts) ++ rest ≡ text_bytes t ++ (texts_bytes ts ++ rest) = append_assoc (text_bytes t) (texts_bytes ts) rest in
    let longer : length (before ++ text_bytes t) ≡ base + padded (length t) = omega (arith, length-append before (text_bytes t), length_fitted (padded (length t)) t) in
    rw assoc (placed_back before t (texts_bytes ts ++ rest) base e, subst (λ (x : List ℕ). TextsShown (before ++ x) (laid (base + padded (length t)) (sizes_of ts)) ts) (sym assoc) (rw (append_assoc before (text_bytes t) (texts_bytes ts ++ rest)) at (texts_back (before ++ text_bytes t) rest ts (base + padded (length t)) longer)))

-- they end where they are laid to
pub length_texts : (base : ℕ) (ts : List (List ℕ)) → base + length (texts_bytes ts) ≡ end_of base (sizes_of ts)
length_texts base [] = omega arith
length_texts base (t ∷ ts) = omega (arith, length-append (text_bytes t) (texts_bytes ts), length_fitted (padded (length t)) t, length_texts (base + padded (length t)) ts)
