-- A payload is accepted exactly when it meets the rules in words of fields, and then the record and the texts shown are those at their
-- places; no text shown lies outside the payload or inside the fixed part. The reader's choice is a parameter.
-- Assumes nothing.
use mathlib.Core.Path.{◌≡◌, refl, sym, ap}
use mathlib.Core.Logic.{◌⊎◌, ⊎_map}
use mathlib.Core.Bool.{Bool, false, not, ◌||◌}
use mathlib.Core.List.{List, [], ◌∷◌}
use Prim.Native.Nat.{ℕ, ◌≤◌}
use borrow.Author.Tests.{ltb-false, le-ltb}
use lib.Bits.{bit_and}
use lib.Dec.{eqb, ltb}
use lib.ListN.{length}
use Rattle.protocol.specs.Refusal.{contradiction}
use Rattle.protocol.specs.Verdict.{Kept, rule, judge, first_of, open_length, no_fault, Verdict}
use Rattle.protocol.specs.DataClass.{mask_of}
use Rattle.protocol.specs.declared.Version.{Version}
use Rattle.protocol.specs.declared.Version.TheVariants.{V2}
use Rattle.protocol.proofs.Tests.{and_cases, cases_and, or_none, none_or, equal_kept, kept_equal}
use Rattle.protocol.proofs.Verdicts.{left_fits, right_fits, fits_kept, kept_fits, open_length_lem, length_open, written_both, both_written}
use Rattle.texts.specs.Claims.{TextsFit}
use Rattle.texts.proofs.Rows.{texts_said, said_texts, said_sizes}
use Rattle.pairs.proofs.Laws.{shown_safe}
use Rattle.pairs.specs.declared.PairKind.TheVariants.{Text}
use Rattle.pairs.specs.declared.ZeroSize.{ZeroSize}
use Rattle.registration.specs.declared.RegistrationForm.{RegistrationForm}
use Rattle.registration.specs.declared.RegistrationForm.TheVariants.{V1 as Form1, V2 as Form2}
use Rattle.registration.specs.declared.Registration.{Registration}
use Rattle.registration.specs.declared.RegistrationTexts.{RegistrationTexts}
use Rattle.registration.specs.Registration.{fixed_part, record_at, text_rows, pairs_at, texts_at, front_rules, texts_verdict, unregistered, preferred_rules, back_rules, shown, verdict_with, read_with, version_of, three, size_rules, written_verdict, bytes_of, write_of}
use Rattle.registration.proofs.Laws.{parts, small}
use Rattle.registration.specs.Claims.{FormFits, NumbersFit, Acceptable, Writable, Accepted, AcceptedExactly, EveryTextSafe, WrittenExactly}
use Rattle.std.specs.Prelude.{Ok, Err}

-- ---- each rule as a fact

registered_said : (state class : ℕ) → unregistered state class ≡ false → (class ≡ 0) ⊎ ((3 ≤ state) × (state ≤ 5))
registered_said state class e =
    ⊎_map (equal_kept class 0) (λ h. let k = or_none (ltb state 3) (ltb 5 state) h in (ltb-false state 3 k.0, ltb-false 5 state k.1))
    (and_cases (not (eqb class 0)) (ltb state 3 || ltb 5 state) e)

said_registered : (state class : ℕ) → (class ≡ 0) ⊎ ((3 ≤ state) × (state ≤ 5)) → unregistered state class ≡ false
said_registered state class h =
    cases_and (not (eqb class 0)) (ltb state 3 || ltb 5 state)
    (⊎_map (kept_equal class 0) (λ k. none_or (ltb state 3) (ltb 5 state) (le-ltb state 3 k.0) (le-ltb 5 state k.1)) h)

-- ---- the rules on numbers, the same for the reader and the writer

module _ (p : Registration) where
  stray : Bool
  stray = unregistered p.register_state p.available_data_class

  back_said : (f : RegistrationForm) → Kept (preferred_rules f (rule stray contradiction 12 ∷ [])) → FormFits f × (stray ≡ false)
  back_said Form1 k = (tt, k.0)
  back_said (Form2 class) k = (equal_kept (bit_and class (mask_of V2)) class k.0, k.1.0)

  said_back : (f : RegistrationForm) → FormFits f → stray ≡ false → Kept (preferred_rules f (rule stray contradiction 12 ∷ []))
  said_back Form1 h e = (e, tt)
  said_back (Form2 class) h e = (kept_equal (bit_and class (mask_of V2)) class h, (e, tt))

  pub numbers_said : (v : Version) → Kept (front_rules v p) → Kept (back_rules p) → NumbersFit v p
  unfolding front_rules back_rules stray
  numbers_said v k b =
      let class = p.available_data_class in
      let last = back_said p.form b.1 in
      record {
        state = ltb-false 6 p.register_state k.0;
        mode = ltb-false 2 p.register_mode k.1.0;
        available = equal_kept (bit_and class (mask_of v)) class k.1.1.0;
        cellular = ltb-false 3 p.cellular_class k.1.1.1.0;
        flag = ltb-false 3 p.registration_flag b.0;
        form = last.0;
        registered = registered_said p.register_state class last.1;
      }

  pub said_front : (v : Version) → NumbersFit v p → Kept (front_rules v p)
  unfolding front_rules
  said_front v n =
      let class = p.available_data_class in (
        le-ltb 6 p.register_state n.state,
        (
          le-ltb 2 p.register_mode n.mode,
          (kept_equal (bit_and class (mask_of v)) class n.available, (le-ltb 3 p.cellular_class n.cellular, tt)),
        ),
      )

  pub said_rest : (v : Version) → NumbersFit v p → Kept (back_rules p)
  unfolding back_rules stray
  said_rest v n =
      (le-ltb 3 p.registration_flag n.flag, said_back p.form n.form (said_registered p.register_state p.available_data_class n.registered))

-- ---- the parts of the judgement

pub record Kept-all (v : Version) (z : ZeroSize) (s : List ℕ) : Type 0 where
  pub long : open_length (fixed_part v) (length s) ≡ no_fault
  pub front : Kept (front_rules v (record_at v s))
  pub texts : TextsFit z (fixed_part v) (length s) text_rows (pairs_at s)
  pub back : Kept (back_rules (record_at v s))

pub all_kept : (v : Version) (z : ZeroSize) (s : List ℕ) → verdict_with v z s ≡ no_fault → Kept-all v z s
unfolding verdict_with texts_verdict
all_kept v z s e =
    let f = fixed_part v in
    let n = length s in
    let fields = right_fits (open_length f n) _ e in
    let later = right_fits (judge (front_rules v (record_at v s))) _ fields in
    record {
      long = left_fits (open_length f n) _ e;
      front = fits_kept (front_rules v (record_at v s)) (left_fits _ _ fields);
      texts = texts_said z f n text_rows (pairs_at s) (left_fits (texts_verdict z f n (pairs_at s)) _ later);
      back = fits_kept (back_rules (record_at v s)) (right_fits (texts_verdict z f n (pairs_at s)) _ later);
    }

pub kept_all : (v : Version) (z : ZeroSize) (s : List ℕ) → Kept-all v z s → verdict_with v z s ≡ no_fault
unfolding verdict_with texts_verdict first_of
kept_all v z s k =
    rw (
      k.long,
      kept_fits (front_rules v (record_at v s)) k.front,
      said_texts z (fixed_part v) (length s) text_rows (pairs_at s) k.texts,
      kept_fits (back_rules (record_at v s)) k.back,
    )

-- ---- the rules of a payload

pub fields_said : (v : Version) (z : ZeroSize) (s : List ℕ) → Kept-all v z s → Acceptable v z s
unfolding pairs_at
fields_said v z s k = record {
  fixed = (open_length_lem (fixed_part v) (length s) k.long).0;
  most = (open_length_lem (fixed_part v) (length s) k.long).1;
  numbers = numbers_said (record_at v s) v k.front k.back;
  id = k.texts.0;
  name = k.texts.1.0;
  roaming = k.texts.1.1.0;
}

pub said_fields : (v : Version) (z : ZeroSize) (s : List ℕ) → Acceptable v z s → Kept-all v z s
unfolding pairs_at
said_fields v z s a = record {
  long = length_open (fixed_part v) (length s) a.fixed a.most;
  front = said_front (record_at v s) v a.numbers;
  texts = (a.id, (a.name, (a.roaming, tt)));
  back = said_rest (record_at v s) v a.numbers;
}

-- ---- accepted exactly when the rules hold

shows : (d : Verdict) (p q : Registration) (t u : RegistrationTexts) → shown d p t ≡ Ok (q, u) → (d ≡ no_fault) × ((p ≡ q) × (t ≡ u))
shows (Ok _) p q t u e =
    let h : ◌≡◌ {A = Registration × RegistrationTexts} (p, t) (q, u) = cc in
    (refl, (ap (λ (x : Registration × RegistrationTexts). x.0) h, ap (λ (x : Registration × RegistrationTexts). x.1) h))
shows (Err r) p q t u e = absurd cc

-- an accepted payload keeps the rules, and shows the record and the texts at their places
pub accepted : Accepted
unfolding read_with
accepted v z s p t e =
    let d = shows (verdict_with v z s) (record_at v s) p (texts_at s) t e in
    (fields_said v z s (all_kept v z s d.0), (sym d.1.0, sym d.1.1))

pub acceptable : (v : Version) (z : ZeroSize) (s : List ℕ) → Acceptable v z s → read_with v z s ≡ Ok ((record_at v s), (texts_at s))
unfolding read_with
acceptable v z s a = let f : verdict_with v z s ≡ no_fault = kept_all v z s (said_fields v z s a) in rw f

pub accepted_exactly : AcceptedExactly
accepted_exactly v z s = (λ e. (accepted v z s (record_at v s) (texts_at s) e).0, acceptable v z s)

-- ---- each text shown is absent, or lies behind the fixed part, at a multiple of 4, and inside the payload

pub every_text_safe : EveryTextSafe
unfolding texts_at pairs_at
every_text_safe v z s p t e =
    let k = accepted v z s p t e in
    let n = length s in
    rw k.1.1
    (record {
      id = shown_safe z Text (fixed_part v) 12 n _ k.0.id;
      name = shown_safe z Text (fixed_part v) 40 n _ k.0.name;
      roaming = shown_safe z Text (fixed_part v) 126 n _ k.0.roaming;
    })

-- ---- a writer accepts exactly what its rules allow, where it has room

writable_said : (p : Registration) (id name roaming : ℕ) → written_verdict p id name roaming ≡ no_fault → Writable p id name roaming
writable_said p id name roaming e =
    let k = parts p id name roaming e in
    let sizes = small p id name roaming e in
    record {
      numbers = numbers_said p (version_of p) (fits_kept (front_rules (version_of p) p) k.front) (fits_kept (back_rules p) k.back);
      id = sizes.0;
      name = sizes.1.0;
      roaming = sizes.1.1.0;
    }

said_writable : (p : Registration) (id name roaming : ℕ) → Writable p id name roaming → written_verdict p id name roaming ≡ no_fault
unfolding written_verdict size_rules first_of
said_writable p id name roaming w =
    rw (
      kept_fits (front_rules (version_of p) p) (said_front p (version_of p) w.numbers),
      kept_fits (size_rules id name roaming) (said_sizes text_rows (three id name roaming) (w.id, (w.name, (w.roaming, tt)))),
      kept_fits (back_rules p) (said_rest p (version_of p) w.numbers),
    )

pub written_exactly : WrittenExactly
unfolding write_of
written_exactly p x y z s =
    let v = written_verdict p (length x) (length y) (length z) in (
      λ e. let w = written_both v (bytes_of p x y z) s (length (bytes_of p x y z)) e in (writable_said p (length x) (length y) (length z) w.0, w.1),
      λ w. both_written v (bytes_of p x y z) s (said_writable p (length x) (length y) (length z) w.0) w.1,
    )
