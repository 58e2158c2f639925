-- What lies between the reader's choices: an offset beside a size of 0 at 2.00, refused by 18 under the strict choice, and nothing else.
-- Without a size there are no entries, whatever the offset.
-- Assumes nothing.
use mathlib.Core.Path.{◌≡◌, refl, sym, ap, ◌∙◌}
use mathlib.Core.Bool.{Bool, true, false}
use mathlib.Core.List.{List, [], ◌∷◌}
use Prim.Native.Nat.{ℕ}
use native.Mathlib.Omega.{arith}
use borrow.Author.Tests.{eq-eqb}
use lib.ListN.{length}
use Rattle.wire.specs.Numbers.{u32_at}
use Rattle.protocol.specs.Refusal.{refusal, offset_with_zero_size}
use Rattle.protocol.specs.Verdict.{rule, judge, judge_from, fault_if, first_of, open_length, no_fault, Verdict}
use Rattle.protocol.specs.declared.Refusal.{Refusal}
use Rattle.protocol.specs.declared.Version.{Version}
use Rattle.protocol.specs.declared.Version.TheVariants.{V1, V2}
use Rattle.protocol.proofs.Verdicts.{left_fits, right_fits, last_fits}
use Rattle.folds.specs.Folds.{list_of}
use Rattle.pairs.specs.declared.PairKind.TheVariants.{List as ListKind}
use Rattle.pairs.specs.declared.ZeroSize.{ZeroSize}
use Rattle.pairs.specs.declared.ZeroSize.TheVariants.{Absent, Strict}
use Rattle.pairs.specs.Pair.{range_at, shown_at, offset_without_size, verdict_of}
use Rattle.pairs.specs.Claims.{OffsetWithZeroSize}
use Rattle.pairs.proofs.Laws.{fits_said, said_fits, stray_said, said_stray, strict_of_fitting, fits_by_default, strict_shown, reached_same, reached_fault}
use Rattle.signal_state.specs.declared.RsrpSnr.{RsrpSnr}
use Rattle.signal_state.specs.declared.SignalForm.TheVariants.{V2 as Form2}
use Rattle.signal_state.specs.declared.SignalState.{SignalState}
use Rattle.signal_state.specs.declared.SignalStateShown.{SignalStateShown}
use Rattle.signal_state.specs.SignalState.{count_at, list_place, entry_at, sixteen, number_rules, list_rules, body_verdict, head_of, choice_verdict, verdict_at, shown, refused, record_at, shown_entries, read_with, state_at}
use Rattle.signal_state.specs.Claims.{Acceptable, StrayOffset, OnlyByDefault, BetweenChoices, StrictOfStray, StrictWithin, StrictPair, AbsentEmpty}
use Rattle.signal_state.proofs.Acceptance.{accepted, acceptable, said_fields}
use Rattle.std.specs.Prelude.{Ok, Err}

-- ---- the strict choice on a payload that is accepted by default

-- the rule that it has beside the default
abbrev stray_verdict : List ℕ → Verdict
stray_verdict s = judge (rule (offset_without_size (range_at s 20)) offset_with_zero_size 20 ∷ [])

strict_verdict : (s : List ℕ) → verdict_at V2 Absent s ≡ no_fault → verdict_at V2 Strict s ≡ stray_verdict s
unfolding verdict_at head_of first_of
strict_verdict s e =
    let p = range_at s 20 in
    let head = left_fits (head_of Absent s p (count_at s)) _ e in
    let body = right_fits (head_of Absent s p (count_at s)) _ e in
    let fields = right_fits (open_length 28 (length s)) _ head in
    let later = right_fits (judge (number_rules (u32_at s 0) (u32_at s 4))) _ fields in
    let pair = left_fits (verdict_of Absent ListKind 28 324 20 (length s) p) _ later in
    let list = right_fits (verdict_of Absent ListKind 28 324 20 (length s) p) _ later in
    rw (left_fits (open_length 28 (length s)) _ head, left_fits (judge (number_rules (u32_at s 0) (u32_at s 4))) _ fields, strict_of_fitting ListKind 28 324 20 (length s) p pair, list, last_fits (stray_verdict s), body, last_fits (stray_verdict s))

pub strict_of_stray : StrictOfStray
unfolding read_with judge_from fault_if first_of
strict_of_stray s a o =
    let e : offset_without_size (range_at s 20) ≡ true = said_stray (range_at s 20) o in
    rw (strict_verdict s (said_fields V2 Absent s a), e)

-- ---- the payloads between the choices

-- a reader that refuses has found a fault
none_shown : (d : Verdict) (p : SignalState) (es : List RsrpSnr) (r : Refusal) → shown d p es ≡ refused r → d ≡ no_fault → ⊥
none_shown (Ok _) p es r e f =
    let a : Ok p ≡ Err r = ap (λ (x : SignalStateShown). x.answer) e in
    cc
none_shown (Err q) p es r e f = cc

stray_by : (s : List ℕ) (b : Bool) → offset_without_size (range_at s 20) ≡ b → (stray_verdict s ≡ no_fault → ⊥) → OffsetWithZeroSize (range_at s 20)
unfolding judge_from fault_if first_of
stray_by s true e h = stray_said (range_at s 20) e
stray_by s false e h = absurd (h (rw e refl))

between_said : (v : Version) (s : List ℕ) → OnlyByDefault v s → Acceptable v Absent s × StrayOffset v s
unfolding read_with verdict_at
between_said V1 s o =
    let a = (accepted V1 Absent s (record_at V1 s) (shown_entries V1 s) o.accepted).0 in
    (a, none_shown (verdict_at V1 Strict s) (record_at V1 s) (shown_entries V1 s) o.refusal o.refused (said_fields V1 Absent s a))
between_said V2 s o =
    let a = (accepted V2 Absent s (record_at V2 s) (shown_entries V2 s) o.accepted).0 in
    let strict = strict_verdict s (said_fields V2 Absent s a) in
    (a, stray_by s (offset_without_size (range_at s 20)) refl (λ f. none_shown (verdict_at V2 Strict s) (record_at V2 s) (shown_entries V2 s) o.refusal o.refused (strict ∙ f)))

said_between : (v : Version) (s : List ℕ) → Acceptable v Absent s × StrayOffset v s → OnlyByDefault v s
said_between V1 s k = absurd k.1
said_between V2 s k = record { accepted = acceptable V2 Absent s k.0; refusal = refusal offset_with_zero_size 20; refused = strict_of_stray s k.0 k.1 }

pub between_choices : BetweenChoices
between_choices v s = (between_said v s, said_between v s)

-- ---- what the strict choice accepts

-- what fits by a choice fits by default
loosened : (v : Version) (z : ZeroSize) (s : List ℕ) → Acceptable v z s → Acceptable v Absent s
loosened V1 z s a = record { rssi = a.rssi; rate = a.rate; form = a.form }
loosened V2 z s a =
    let l = a.form.1.1 in
    record {
      rssi = a.rssi;
      rate = a.rate;
      form = (
        a.form.0,
        (
          a.form.1.0,
          record { pair = fits_by_default z ListKind 28 324 (length s) (range_at s 20) l.pair; list = l.list; entries = l.entries; alone = l.alone },
        ),
      );
    }

pub strict_within_default : StrictWithin
strict_within_default v s p es e =
    let k = accepted v Strict s p es e in
    rw (k.1.0, k.1.1) (acceptable v Absent s (loosened v Strict s k.0))

-- ---- a reader that has judged the pair by a choice goes on by default

by_parts : (a b c d e : Verdict) → first_of (first_of a (first_of b (first_of c d))) e ≡ first_of (first_of a b) (first_of c (first_of d e))
unfolding first_of
by_parts (Err r) b c d e = refl
by_parts (Ok _) (Err r) c d e = refl
by_parts (Ok _) (Ok _) (Err r) d e = refl
by_parts (Ok _) (Ok _) (Ok _) d e = refl

module _ (z : ZeroSize) (s : List ℕ) where
  -- before the pair, the pair, behind it
  abbrev front : Verdict
  front = first_of (open_length 28 (length s)) (judge (number_rules (u32_at s 0) (u32_at s 4)))

  abbrev pair : ZeroSize → Verdict
  pair y = verdict_of y ListKind 28 324 20 (length s) (range_at s 20)

  abbrev behind : Verdict
  behind = first_of (judge (list_rules (range_at s 20) (count_at s))) (body_verdict (u32_at s 0) (list_place s) (entry_at s (list_place s)) (count_at s))

  in_parts : (y : ZeroSize) → verdict_at V2 y s ≡ first_of front (first_of (pair y) behind)
  unfolding verdict_at head_of
  in_parts y = by_parts (open_length 28 (length s)) (judge (number_rules (u32_at s 0) (u32_at s 4))) (pair y) _ _

  pair_by_default : pair z ≡ no_fault → pair Absent ≡ no_fault
  pair_by_default e =
      let n = length s in
      let p = range_at s 20 in
      said_fits Absent ListKind 28 324 20 n p (fits_by_default z ListKind 28 324 n p (fits_said z ListKind 28 324 20 n p e))

pub read_judged : (v : Version) (z : ZeroSize) (s : List ℕ) → choice_verdict v z s ≡ no_fault → read_with v Absent s ≡ read_with v z s
unfolding read_with verdict_at
read_judged V1 z s e = refl
read_judged V2 z s e = ap (λ (d : Verdict). shown d (record_at V2 s) (shown_entries V2 s)) (in_parts z s Absent ∙ reached_same (front z s) (pair z s z) (pair z s Absent) _ e (pair_by_default z s) ∙ sym (in_parts z s z))

pub read_faulted : (v : Version) (z : ZeroSize) (s : List ℕ) (r : Refusal) → choice_verdict v z s ≡ Err r → refused r ≡ read_with v z s
unfolding read_with
read_faulted V1 z s r e = let q : ◌≡◌ {A = ℕ} 0 1 = cc in absurd (omega arith)
read_faulted V2 z s r e = sym (ap (λ (d : Verdict). shown d (record_at V2 s) (shown_entries V2 s)) (in_parts z s z ∙ reached_fault (front z s) (pair z s z) _ r e))

pub strict_pair : StrictPair
unfolding shown_at
strict_pair s p es e = strict_shown ListKind 28 324 (length s) (range_at s 20) (accepted V2 Strict s p es e).0.form.1.1.pair

-- ---- no size, no entries

pub absent_empty : AbsentEmpty
unfolding state_at list_of
absent_empty s e =
    let none : count_at s ≡ 0 = rw (eq-eqb (range_at s 20).length 0 e) in
    (ap Form2 none, ap (sixteen (entry_at s (list_place s))) none)
