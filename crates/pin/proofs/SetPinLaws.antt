-- SET_PIN: a payload is accepted exactly when it meets the rules in words of fields, and then the record and the texts shown are those at their
-- places; no text shown lies outside the payload or inside the fixed part. The reader's choice is a parameter, and the strict one refuses an offset
-- beside a size of 0 and nothing else.
-- Assumes nothing.
use mathlib.Core.Path.{◌≡◌, refl, sym, ap}
use mathlib.Core.List.{List}
use Prim.Native.Nat.{ℕ}
use borrow.Author.Tests.{ltb-false, le-ltb}
use lib.ListN.{length}
use Rattle.protocol.specs.Verdict.{Kept, judge, first_of, open_length, no_fault, Verdict}
use Rattle.protocol.proofs.Verdicts.{left_fits, right_fits, fits_kept, kept_fits, open_length_lem, length_open, written_both, both_written}
use Rattle.pairs.specs.Pair.{range_at}
use Rattle.pairs.specs.declared.PairKind.TheVariants.{Text}
use Rattle.pairs.specs.declared.ZeroSize.{ZeroSize}
use Rattle.pairs.specs.declared.ZeroSize.TheVariants.{Absent, Strict}
use Rattle.pairs.proofs.Laws.{shown_safe, fits_by_default, strict_shown}
use Rattle.texts.specs.Claims.{TextsFit}
use Rattle.texts.proofs.Rows.{texts_said, said_texts, said_sizes, strict_of_texts}
use Rattle.pin.specs.declared.set_pin.SetPin.{SetPin}
use Rattle.pin.specs.declared.set_pin.SetPinTexts.{SetPinTexts}
use Rattle.pin.specs.PinInfo.{last_type}
use Rattle.pin.specs.SetPin.{fixed_part, record_at, text_rows, pairs_at, texts_at, number_rules, texts_verdict, shown, verdict_with, read_with, two, size_rules, written_verdict, bytes_of, write_of}
use Rattle.pin.specs.SetPinClaims.{NumbersFit, Acceptable, Writable, Accepted, AcceptedExactly, EveryTextSafe, StrictTexts, StrictOfAccepted, StrictWithin, WrittenExactly}
use Rattle.pin.proofs.SetPinParts.{parts, small}
use Rattle.std.specs.Prelude.{Ok, Err}

-- ---- the rules on numbers, the same for the reader and the writer

numbers_said : (p : SetPin) → Kept (number_rules p) → NumbersFit p
unfolding number_rules
numbers_said p k = record { type = ltb-false last_type p.pin_type k.0; operation = ltb-false 3 p.pin_operation k.1.0 }

said_numbers : (p : SetPin) → NumbersFit p → Kept (number_rules p)
unfolding number_rules
said_numbers p n = (le-ltb last_type p.pin_type n.type, (le-ltb 3 p.pin_operation n.operation, tt))

-- ---- the parts of the judgement

record Kept-all (z : ZeroSize) (s : List ℕ) : Type 0 where
  long : open_length fixed_part (length s) ≡ no_fault
  numbers : Kept (number_rules (record_at s))
  texts : TextsFit z fixed_part (length s) text_rows (pairs_at s)

all_kept : (z : ZeroSize) (s : List ℕ) → verdict_with z s ≡ no_fault → Kept-all z s
unfolding verdict_with texts_verdict
all_kept z s e =
    let n = length s in
    let fields = right_fits (open_length fixed_part n) _ e in
    record {
      long = left_fits (open_length fixed_part n) _ e;
      numbers = fits_kept (number_rules (record_at s)) (left_fits _ _ fields);
      texts = texts_said z fixed_part n text_rows (pairs_at s) (right_fits (judge (number_rules (record_at s))) _ fields);
    }

kept_all : (z : ZeroSize) (s : List ℕ) → Kept-all z s → verdict_with z s ≡ no_fault
unfolding verdict_with texts_verdict first_of
kept_all z s k =
    rw (
      k.long,
      kept_fits (number_rules (record_at s)) k.numbers,
      said_texts z fixed_part (length s) text_rows (pairs_at s) k.texts,
    )

fields_said : (z : ZeroSize) (s : List ℕ) → Kept-all z s → Acceptable z s
unfolding pairs_at
fields_said z s k = record {
  fixed = (open_length_lem fixed_part (length s) k.long).0;
  most = (open_length_lem fixed_part (length s) k.long).1;
  numbers = numbers_said (record_at s) k.numbers;
  pin = k.texts.0;
  new = k.texts.1.0;
}

said_fields : (z : ZeroSize) (s : List ℕ) → Acceptable z s → Kept-all z s
unfolding pairs_at
said_fields z s a = record {
  long = length_open fixed_part (length s) a.fixed a.most;
  numbers = said_numbers (record_at s) a.numbers;
  texts = (a.pin, (a.new, tt));
}

-- ---- accepted exactly when the rules hold

shows : (d : Verdict) (p q : SetPin) (t u : SetPinTexts) → shown d p t ≡ Ok (q, u) → (d ≡ no_fault) × ((p ≡ q) × (t ≡ u))
shows (Ok _) p q t u e =
    let h : ◌≡◌ {A = SetPin × SetPinTexts} (p, t) (q, u) = cc in
    (refl, (ap (λ (x : SetPin × SetPinTexts). x.0) h, ap (λ (x : SetPin × SetPinTexts). x.1) h))
shows (Err r) p q t u e = absurd cc

-- an accepted payload keeps the rules, and shows the record and the texts at their places
pub accepted : Accepted
unfolding read_with
accepted z s p t e =
    let d = shows (verdict_with z s) (record_at s) p (texts_at s) t e in
    (fields_said z s (all_kept z s d.0), (sym d.1.0, sym d.1.1))

pub acceptable : (z : ZeroSize) (s : List ℕ) → Acceptable z s → read_with z s ≡ Ok ((record_at s), (texts_at s))
unfolding read_with
acceptable z s a = let f : verdict_with z s ≡ no_fault = kept_all z s (said_fields z s a) in rw f

pub accepted_exactly : AcceptedExactly
accepted_exactly z s = (λ e. (accepted z s (record_at s) (texts_at s) e).0, acceptable z s)

-- ---- each text shown is absent, or lies behind the fixed part, at a multiple of 4, and inside the payload

pub every_text_safe : EveryTextSafe
unfolding texts_at pairs_at
every_text_safe z s p t e =
    let k = accepted z s p t e in
    rw k.1.1
    (record { pin = shown_safe z Text fixed_part 32 (length s) _ k.0.pin; new = shown_safe z Text fixed_part 32 (length s) _ k.0.new })

-- ---- between the choices

pub strict_of_accepted : StrictOfAccepted
unfolding read_with verdict_with texts_verdict first_of
strict_of_accepted s a =
    let k = said_fields Absent s a in
    let t = strict_of_texts fixed_part (length s) text_rows (pairs_at s) (said_texts Absent fixed_part (length s) text_rows (pairs_at s) k.texts) in
    rw (k.long, kept_fits (number_rules (record_at s)) k.numbers, t)

pub strict_texts : StrictTexts
unfolding texts_at pairs_at
strict_texts s p t e =
    let k = accepted Strict s p t e in
    rw (
      k.1.1,
      strict_shown Text fixed_part 32 (length s) (range_at s 8) k.0.pin,
      strict_shown Text fixed_part 32 (length s) (range_at s 16) k.0.new,
    )

pub strict_within_default : StrictWithin
strict_within_default s p t e =
    let k = accepted Strict s p t e in
    let a = k.0 in
    rw (k.1.0, k.1.1)
    (acceptable Absent s (record {
      fixed = a.fixed;
      most = a.most;
      numbers = a.numbers;
      pin = fits_by_default Strict Text fixed_part 32 (length s) _ a.pin;
      new = fits_by_default Strict Text fixed_part 32 (length s) _ a.new;
    }))

-- ---- a writer accepts exactly what its rules allow, where it has room

writable_said : (p : SetPin) (pin new : ℕ) → written_verdict p pin new ≡ no_fault → Writable p pin new
writable_said p pin new e =
    let sizes = small p pin new e in
    record { numbers = numbers_said p (fits_kept (number_rules p) (parts p pin new e).numbers); pin = sizes.0; new = sizes.1.0 }

said_writable : (p : SetPin) (pin new : ℕ) → Writable p pin new → written_verdict p pin new ≡ no_fault
unfolding written_verdict size_rules first_of
said_writable p pin new w =
    rw (
      kept_fits (number_rules p) (said_numbers p w.numbers),
      kept_fits (size_rules pin new) (said_sizes text_rows (two pin new) (w.pin, (w.new, tt))),
    )

pub written_exactly : WrittenExactly
unfolding write_of
written_exactly p x y s =
    let v = written_verdict p (length x) (length y) in (
      λ e. let w = written_both v (bytes_of p x y) s _ e in (writable_said p (length x) (length y) w.0, w.1),
      λ w. both_written v (bytes_of p x y) s (said_writable p (length x) (length y) w.0) w.1,
    )
