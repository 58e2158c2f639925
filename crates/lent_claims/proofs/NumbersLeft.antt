-- What feeding leaves is taken by the next call: the numbers that feeding reaches keep the rules.
-- Assumes nothing.
use mathlib.Core.Path.{◌≡◌, refl, ap}
use mathlib.Core.Logic.{inl, inr}
use mathlib.Core.Bool.{Bool, true, false, cond, not, ◌&&◌}
use mathlib.Core.List.{List, [], ◌∷◌}
use Prim.Native.Nat.{ℕ, ◌+◌}
use native.Mathlib.Omega.{arith}
use borrow.Author.Tests.{eqb-true, eqb-false, ne_eqb, le-ltb, lt-leb}
use lib.Dec.{eqb}
use Rattle.wire.specs.Numbers.{u32_at}
use Rattle.protocol.specs.Refusal.{contradiction}
use Rattle.protocol.specs.MessageType.{INDICATE_STATUS, is_fragmented}
use Rattle.protocol.specs.Verdict.{judge_from, fault_if, first_of, rule, judge, no_fault}
use Rattle.protocol.proofs.Tests.{and_both, cases_and, not_kept}
use Rattle.protocol.proofs.Verdicts.{fits_kept, kept_fits}
use Rattle.message.specs.Message.{most_transfer, first_length, word_at, message_at, wrong_word}
use Rattle.assembler.specs.Assembly.{empty, step_of}
use Rattle.assembler.specs.Run.{Piece, run_of}
use Rattle.assembler.specs.declared.Progress.{Progress}
use Rattle.assembler.specs.declared.Assembly.{Assembly}
use Rattle.assembler.proofs.Left.{Waits, begun, joined, Left, nothing, pending, left}
use Rattle.lent_progress.specs.LentProgress.{is_none, stray_word, above_carried, pending_rules, progress_verdict}

-- ---- no message

pub none_fits : progress_verdict empty.progress ≡ no_fault
unfolding progress_verdict is_none empty judge_from fault_if first_of
none_fits = refl

-- numbers that are all 0 beside a total of 0
pub none_says : (p : Progress) → p.total ≡ 0 → is_none p ≡ true → p ≡ empty.progress
unfolding is_none empty
none_says p t e =
    let h = p.message in
    let ids = h.service.word0 + h.service.word1 + h.service.word2 + h.service.word3 in
    let headers = h.message_type + h.transaction + h.cid + h.word in
    let rest = p.next + p.information_length + p.gathered in
    let a = and_both (eqb ids 0) (eqb headers 0 && eqb rest 0) e in
    let b = and_both (eqb headers 0) (eqb rest 0) a.1 in
    let id = eqb-true ids 0 a.0 in
    let header = eqb-true headers 0 b.0 in
    let counts = eqb-true rest 0 b.1 in
    let w0 : p.message.service.word0 ≡ 0 = omega (arith, id) in
    let w1 : p.message.service.word1 ≡ 0 = omega (arith, id) in
    let w2 : p.message.service.word2 ≡ 0 = omega (arith, id) in
    let w3 : p.message.service.word3 ≡ 0 = omega (arith, id) in
    let type : p.message.message_type ≡ 0 = omega (arith, header) in
    let transaction : p.message.transaction ≡ 0 = omega (arith, header) in
    let cid : p.message.cid ≡ 0 = omega (arith, header) in
    let word : p.message.word ≡ 0 = omega (arith, header) in
    let next : p.next ≡ 0 = omega (arith, counts) in
    let declared : p.information_length ≡ 0 = omega (arith, counts) in
    let gathered : p.gathered ≡ 0 = omega (arith, counts) in
    λ i. record {
      message = record {
        message_type = type i;
        transaction = transaction i;
        service = record { word0 = w0 i; word1 = w1 i; word2 = w2 i; word3 = w3 i };
        cid = cid i;
        word = word i;
      };
      total = t i;
      next = next i;
      information_length = declared i;
      gathered = gathered i;
    }

-- ---- which of the two a progress is that is taken

pub data Taken (p : Progress) : Type 0 where
  none : p ≡ empty.progress → Taken p
  waiting : (p.total ≡ 0 → ⊥) → judge (pending_rules p) ≡ no_fault → Taken p

pub taken : (p : Progress) → progress_verdict p ≡ no_fault → Taken p
unfolding progress_verdict
taken p = go (eqb p.total 0) refl
  where
    go : (b : Bool) → eqb p.total 0 ≡ b → cond b (judge (rule (not (is_none p)) contradiction 32 ∷ [])) (judge (pending_rules p)) ≡ no_fault → Taken p
    go true t e = none (none_says p (eqb-true p.total 0 t) (not_kept (is_none p) (fits_kept (rule (not (is_none p)) contradiction 32 ∷ []) e).0))
    go false t e = waiting (eqb-false p.total 0 t) e

-- ---- words

read_word : (s : List ℕ) → wrong_word (message_at s) ≡ false → stray_word (message_at s) ≡ false
unfolding stray_word message_at word_at
read_word s k = go (eqb (u32_at s 0) INDICATE_STATUS) refl
  where
    go : (b : Bool) → eqb (u32_at s 0) INDICATE_STATUS ≡ b → stray_word (message_at s) ≡ false
    go true e = rw e
    go false e = rw e (rw e at k)

no_type : is_fragmented 0 ≡ true → ⊥
unfolding is_fragmented
no_type e = let z : ◌≡◌ {A = ℕ} 0 1 = cc in absurd (omega arith)

-- a message that was pending has the word of a first fragment
kept_word : (p : Progress) → progress_verdict p ≡ no_fault → is_fragmented p.message.message_type ≡ true → stray_word p.message ≡ false
unfolding empty
kept_word p e known = go (taken p e)
  where
    go : Taken p → stray_word p.message ≡ false
    go (none q) = absurd (no_type (rw q at known))
    go (waiting t q) = (fits_kept (pending_rules p) q).1.0

-- ---- one feed

waits_fits : (p : Progress) → Waits p → stray_word p.message ≡ false → above_carried p ≡ false → progress_verdict p ≡ no_fault
unfolding progress_verdict
waits_fits p w word header_seen =
    let some : p.total ≡ 0 → ⊥ = λ e. omega (arith, w.unfinished, e) in
    let begun : p.next ≡ 0 → ⊥ = λ e. omega (arith, w.begun, e) in
    rw (ne_eqb _ _ some)
    (kept_fits (pending_rules p) (
      ap not w.known,
      (word, (le-ltb _ _ w.few, (ne_eqb _ _ begun, (lt-leb _ _ w.unfinished, (le-ltb _ _ w.declared, (le-ltb _ _ w.within, (header_seen, tt))))))),
    ))

pub left_fits : (a : Assembly) (s : List ℕ) (p : Progress) → progress_verdict a.progress ≡ no_fault → Left a s p → progress_verdict p ≡ no_fault
unfolding above_carried
left_fits a s p e (nothing q) = rw q none_fits
left_fits a s p e (pending w (begun q v n c)) =
    waits_fits p w (rw q (read_word s (rw q at v))) (cases_and (eqb p.next 1) _ (inr (le-ltb most_transfer (first_length p.message.message_type + p.gathered) c)))
left_fits a s p e (pending w (joined q n)) =
    let more : p.next ≡ 1 → ⊥ = λ k. omega (arith, n, k) in
    waits_fits p w (rw q (kept_word a.progress e (rw q at w.known))) (cases_and (eqb p.next 1) _ (inl (ne_eqb p.next 1 more)))

-- ---- a run

run_fits : (a : Assembly) (ps : List Piece) → progress_verdict a.progress ≡ no_fault → progress_verdict (run_of a ps).end.progress ≡ no_fault
unfolding run_of
run_fits a [] e = e
run_fits a (p ∷ ps) e = run_fits (step_of a p.bytes p.room).assembly ps (left_fits a p.bytes _ e (left a p.bytes p.room))

pub reached_fits : (ps : List Piece) → progress_verdict (run_of empty ps).end.progress ≡ no_fault
reached_fits ps = run_fits empty ps none_fits
