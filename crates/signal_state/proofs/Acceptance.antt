-- A payload is accepted exactly when it meets the rules in words of fields, and then the record and the entries shown are those at their
-- places. The reader's choice is a parameter.
-- Assumes nothing.
use mathlib.Core.Path.{◌≡◌, refl, sym, ap, ◌∙◌}
use mathlib.Core.Logic.{◌⊎◌, inl, inr, ⊎_map, ⊎_elim}
use mathlib.Core.Bool.{true, false, not}
use mathlib.Core.List.{List}
use Prim.Native.Nat.{ℕ, ◌≤◌, ◌<◌}
use borrow.Author.Tests.{ltb-false, le-ltb, eqb-true, eq-eqb}
use lib.Dec.{eqb, ltb}
use lib.Count.{ones}
use lib.ListN.{length}
use Rattle.wire.specs.Numbers.{u32_at}
use Rattle.protocol.specs.Refusal.{wrong_size, contradiction}
use Rattle.protocol.specs.Verdict.{Kept, judge, first_of, fault_if, exact_length, open_length, no_fault, Verdict}
use Rattle.protocol.specs.DataClass.{one_class}
use Rattle.protocol.specs.declared.Version.{Version}
use Rattle.protocol.specs.declared.Version.TheVariants.{V1, V2}
use Rattle.protocol.proofs.Tests.{and_cases, cases_and, or_none, none_or, not_kept, kept_not, equal_kept, kept_equal}
use Rattle.protocol.proofs.Bits.{ones_power}
use Rattle.protocol.proofs.Classes.{class_said, said_class}
use Rattle.protocol.proofs.Verdicts.{left_fits, right_fits, not_broken, fits_kept, kept_fits, then_kept, kept_then, exact_length_lem, length_exact, open_length_lem, length_open, written_both, both_written}
use Rattle.folds.proofs.Laws.{fits_each, each_fits, none_each, each_none}
use Rattle.pairs.specs.Pair.{range_at, unfit}
use Rattle.lists.specs.Lists.{absent_in}
use Rattle.lists.specs.Claims.{Whole}
use Rattle.pairs.specs.declared.Range.{Range}
use Rattle.pairs.specs.declared.PairKind.TheVariants.{List as ListKind}
use Rattle.pairs.specs.declared.ZeroSize.{ZeroSize}
use Rattle.pairs.proofs.Laws.{size_said, said_size}
use Rattle.lists.proofs.Behind.{behind_said, said_behind}
use Rattle.signal_state.specs.declared.RsrpSnr.{RsrpSnr}
use Rattle.signal_state.specs.declared.SignalForm.{SignalForm}
use Rattle.signal_state.specs.declared.SignalForm.TheVariants.{V1 as Form1, V2 as Form2}
use Rattle.signal_state.specs.declared.SignalState.{SignalState}
use Rattle.signal_state.specs.declared.SignalStateShown.{SignalStateShown}
use Rattle.signal_state.specs.SignalState.{list_form, count_at, list_place, entry_place, entry_at, unmarked, number_rules, list_rules, entry_rules, entries_verdict, is_known, any_known, contradicts, body_verdict, head_of, head_verdict, verdict_at, shown, record_at, shown_entries, read_with, entry_in, size_of, limit_verdict, listed_verdict, verdict_in, bytes_of, written_verdict, write_of}
use Rattle.signal_state.specs.Claims.{info, Marked, CountFits, EntryFits, Unknown, Acceptable, FormWritable, Accepted, AcceptedExactly, WrittenExactly, OneSystemBit}
use Rattle.signal_state.proofs.Laws.{size_small, small_size}
use Rattle.std.specs.Prelude.{Ok, Err}

-- ---- each rule as a fact

marked_said : (last x : ℕ) → unmarked last x ≡ false → Marked last x
marked_said last x e = ⊎_map (equal_kept x 99) (ltb-false last x) (and_cases (not (eqb x 99)) (ltb last x) e)

said_marked : (last x : ℕ) → Marked last x → unmarked last x ≡ false
said_marked last x h = cases_and (not (eqb x 99)) (ltb last x) (⊎_map (kept_equal x 99) (le-ltb last x) h)

list_said : (p : Range) (n : ℕ) → (absent_in list_form p ≡ true) ⊎ Whole list_form p n → (p.length ≡ 0) ⊎ CountFits p n
list_said p n h = ⊎_map (eqb-true p.length 0) (λ w. record { some = w.some; most = w.most; whole = w.size }) h

pub said_list : (p : Range) (n : ℕ) → (p.length ≡ 0) ⊎ CountFits p n → (absent_in list_form p ≡ true) ⊎ Whole list_form p n
said_list p n h = ⊎_map (eq-eqb p.length 0) (λ c. record { some = c.some; most = c.most; size = c.whole }) h

entry_said : (at : ℕ) (e : RsrpSnr) → Kept (entry_rules at e) → EntryFits e
unfolding entry_rules
entry_said at e k = record {
  rsrp = ltb-false 127 e.rsrp k.0;
  snr = ltb-false 128 e.snr k.1.0;
  system = class_said V2 e.system_type (not_kept (one_class V2 e.system_type) k.1.1.0);
}

said_entry : (at : ℕ) (e : RsrpSnr) → EntryFits e → Kept (entry_rules at e)
unfolding entry_rules
said_entry at e f = (
  le-ltb 127 e.rsrp f.rsrp,
  (le-ltb 128 e.snr f.snr, (kept_not (one_class V2 e.system_type) (said_class V2 e.system_type f.system), tt)),
)

pub one_system_bit : OneSystemBit
one_system_bit e f = ap ones f.system.1.1 ∙ ones_power f.system.0

unknown_said : (e : RsrpSnr) → is_known e ≡ false → Unknown e
unknown_said e h =
    let k = or_none (not (eqb e.rsrp 127)) (not (eqb e.snr 128)) h in
    record { rsrp = equal_kept e.rsrp 127 k.0; snr = equal_kept e.snr 128 k.1 }

said_unknown : (e : RsrpSnr) → Unknown e → is_known e ≡ false
said_unknown e u = none_or (not (eqb e.rsrp 127)) (not (eqb e.snr 128)) (kept_equal e.rsrp 127 u.rsrp) (kept_equal e.snr 128 u.snr)

-- ---- the entries, and what contradicts

module _ (rssi offset : ℕ) (f : ℕ → RsrpSnr) (n : ℕ) where
  entries_said : body_verdict rssi offset f n ≡ no_fault → (i : ℕ) → i < n → EntryFits (f i)
  unfolding body_verdict entries_verdict
  entries_said e i l =
      let each = fits_each (λ j. judge (entry_rules (entry_place offset j) (f j))) n (left_fits _ _ e) i l in
      entry_said (entry_place offset i) (f i) (fits_kept (entry_rules (entry_place offset i) (f i)) each)

  alone_said : body_verdict rssi offset f n ≡ no_fault → (rssi ≡ 99) ⊎ ((i : ℕ) → i < n → Unknown (f i))
  unfolding body_verdict any_known
  alone_said e =
      let k = not_broken (contradicts rssi (any_known f n)) contradiction 0 (right_fits (entries_verdict offset f n) _ e) in
      ⊎_elim (λ h. inr (λ i l. unknown_said (f i) (none_each (λ j. is_known (f j)) n h i l))) (λ h. inl (equal_kept rssi 99 h))
      (and_cases (any_known f n) (not (eqb rssi 99)) k)

  said_body : ((i : ℕ) → i < n → EntryFits (f i)) → (rssi ≡ 99) ⊎ ((i : ℕ) → i < n → Unknown (f i)) → body_verdict rssi offset f n ≡ no_fault
  unfolding body_verdict entries_verdict any_known first_of fault_if
  said_body h a =
      let all = each_fits (λ j. judge (entry_rules (entry_place offset j) (f j))) n
      (λ i l. kept_fits (entry_rules (entry_place offset i) (f i)) (said_entry (entry_place offset i) (f i) (h i l))) in
      let quiet : contradicts rssi (any_known f n) ≡ false =
      cases_and (any_known f n) (not (eqb rssi 99))
      (⊎_elim (λ e. inr (kept_equal rssi 99 e)) (λ u. inl (each_none (λ j. is_known (f j)) n (λ i l. said_unknown (f i) (u i l)))) a) in
      rw (all, quiet)

-- ---- the rules of a payload

numbers_said : (rssi rate : ℕ) → Kept (number_rules rssi rate) → Marked 31 rssi × Marked 7 rate
unfolding number_rules
numbers_said rssi rate k = (marked_said 31 rssi k.0, marked_said 7 rate k.1.0)

said_numbers : (rssi rate : ℕ) → Marked 31 rssi → Marked 7 rate → Kept (number_rules rssi rate)
unfolding number_rules
said_numbers rssi rate a b = (said_marked 31 rssi a, (said_marked 7 rate b, tt))

fields_said : (v : Version) (z : ZeroSize) (s : List ℕ) → verdict_at v z s ≡ no_fault → Acceptable v z s
unfolding verdict_at head_of list_rules
fields_said V1 z s e =
    let k = then_kept (exact_length 20 (length s)) (number_rules (u32_at s 0) (u32_at s 4)) e in
    let n = numbers_said (u32_at s 0) (u32_at s 4) k.1 in
    record { rssi = n.0; rate = n.1; form = exact_length_lem 20 (length s) k.0 }
fields_said V2 z s e =
    let head = left_fits (head_verdict z s) _ e in
    let body = right_fits (head_verdict z s) _ e in
    let fields = right_fits (open_length 28 (length s)) _ head in
    let later = right_fits (judge (number_rules (u32_at s 0) (u32_at s 4))) _ fields in
    let long = open_length_lem 28 (length s) (left_fits _ _ head) in
    let n = numbers_said (u32_at s 0) (u32_at s 4) (fits_kept (number_rules (u32_at s 0) (u32_at s 4)) (left_fits _ _ fields)) in
    let list = behind_said z list_form 28 20 s later in
    record {
      rssi = n.0;
      rate = n.1;
      form = (
        long.0,
        (
          long.1,
          record {
            pair = list.0;
            list = list_said (range_at s 20) (count_at s) list.1;
            entries = entries_said (u32_at s 0) (list_place s) (entry_at s (list_place s)) (count_at s) body;
            alone = alone_said (u32_at s 0) (list_place s) (entry_at s (list_place s)) (count_at s) body;
          },
        ),
      );
    }

pub said_fields : (v : Version) (z : ZeroSize) (s : List ℕ) → Acceptable v z s → verdict_at v z s ≡ no_fault
unfolding verdict_at head_of list_rules first_of
said_fields V1 z s a =
    kept_then (exact_length 20 (length s)) (number_rules (u32_at s 0) (u32_at s 4)) (length_exact 20 (length s) a.form) (said_numbers (u32_at s 0) (u32_at s 4) a.rssi a.rate)
said_fields V2 z s a =
    let l = a.form.1.1 in
    rw (
      length_open 28 (length s) a.form.0 a.form.1.0,
      kept_fits (number_rules (u32_at s 0) (u32_at s 4)) (said_numbers (u32_at s 0) (u32_at s 4) a.rssi a.rate),
      said_behind z list_form 28 20 s l.pair (said_list (range_at s 20) (count_at s) l.list),
    )
    (said_body (u32_at s 0) (list_place s) (entry_at s (list_place s)) (count_at s) l.entries l.alone)

-- ---- accepted exactly when the rules hold

pub shows : (d : Verdict) (p q : SignalState) (es fs : List RsrpSnr) → shown d p es ≡ info q fs → (d ≡ no_fault) × ((p ≡ q) × (es ≡ fs))
shows (Ok _) p q es fs e =
    let a : Ok p ≡ Ok q = ap (λ (x : SignalStateShown). x.answer) e in
    (refl, (cc, ap (λ (x : SignalStateShown). x.entries) e))
shows (Err r) p q es fs e =
    let a : Err r ≡ Ok q = ap (λ (x : SignalStateShown). x.answer) e in
    cc

-- an accepted payload keeps the rules, and shows the record and the entries at their places
pub accepted : Accepted
unfolding read_with
accepted v z s p es e =
    let d = shows (verdict_at v z s) (record_at v s) p (shown_entries v s) es e in
    (fields_said v z s d.0, (sym d.1.0, sym d.1.1))

pub acceptable : (v : Version) (z : ZeroSize) (s : List ℕ) → Acceptable v z s → read_with v z s ≡ info (record_at v s) (shown_entries v s)
unfolding read_with
acceptable v z s a = ap (λ (d : Verdict). shown d (record_at v s) (shown_entries v s)) (said_fields v z s a)

pub accepted_exactly : AcceptedExactly
accepted_exactly v z s = (λ e. (accepted v z s (record_at v s) (shown_entries v s) e).0, acceptable v z s)

-- ---- a writer accepts exactly what its rules allow, where it has room

limit_said : (n : ℕ) → unfit ListKind 324 (size_of n) ≡ false → n ≤ 16
limit_said n e = size_small n (size_said ListKind 324 (size_of n) e).small

said_limit : (n : ℕ) → n ≤ 16 → unfit ListKind 324 (size_of n) ≡ false
said_limit n h = said_size ListKind 324 (size_of n) (record { small = small_size n h; even = tt })

module _ (p : SignalState) (f : ℕ → RsrpSnr) where
  numbers : Verdict
  numbers = judge (number_rules p.rssi p.error_rate)

  writable_said : (g : SignalForm) → verdict_in g p f ≡ no_fault → (Marked 31 p.rssi × Marked 7 p.error_rate) × FormWritable g p.rssi f
  unfolding listed_verdict limit_verdict numbers
  writable_said Form1 e = (numbers_said p.rssi p.error_rate (fits_kept (number_rules p.rssi p.error_rate) e), tt)
  writable_said (Form2 n) e =
      let limit = left_fits (limit_verdict p n) _ e in
      let body = right_fits (limit_verdict p n) _ e in (
        numbers_said p.rssi p.error_rate (fits_kept (number_rules p.rssi p.error_rate) (left_fits numbers _ limit)),
        record {
          few = limit_said n (not_broken (unfit ListKind 324 (size_of n)) wrong_size 20 (right_fits numbers _ limit));
          entries = entries_said p.rssi 28 f n body;
          alone = alone_said p.rssi 28 f n body;
        },
      )

  said_writable : (g : SignalForm) → Marked 31 p.rssi → Marked 7 p.error_rate → FormWritable g p.rssi f → verdict_in g p f ≡ no_fault
  unfolding listed_verdict limit_verdict first_of fault_if
  said_writable Form1 a b w = kept_fits (number_rules p.rssi p.error_rate) (said_numbers p.rssi p.error_rate a b)
  said_writable (Form2 n) a b w =
      rw (kept_fits (number_rules p.rssi p.error_rate) (said_numbers p.rssi p.error_rate a b), said_limit n w.few)
      (said_body p.rssi 28 f n w.entries w.alone)

pub written_exactly : WrittenExactly
unfolding write_of
written_exactly p es s = (
  λ e. let w = written_both (written_verdict p es) (bytes_of p es) s (length (bytes_of p es)) e in
      let k = writable_said p (entry_in es) p.form w.0 in
      (record { rssi = k.0.0; rate = k.0.1; form = k.1 }, w.1),
  λ w. both_written (written_verdict p es) (bytes_of p es) s (said_writable p (entry_in es) p.form w.0.rssi w.0.rate w.0.form) w.1,
)
