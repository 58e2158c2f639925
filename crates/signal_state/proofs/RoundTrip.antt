-- Reading what the writer gives returns the record and the entries, zero past the count, by either choice.
-- Assumes nothing.
use mathlib.Core.Path.{◌≡◌, refl, sym, ap, ◌∙◌}
use mathlib.Core.Logic.{◌⊎◌, inl, inr}
use mathlib.Core.Bool.{Bool, false, cond}
use mathlib.Core.List.{List, [], ◌++◌, append-nil}
use Prim.Native.Nat.{ℕ, zero, suc, ◌+◌, ◌*◌, ◌-◌, ◌≤◌, ◌<◌}
use native.Mathlib.Omega.{arith}
use borrow.Author.Tests.{ne_eqb}
use lib.Dec.{eqb}
use lib.ListN.{length}
use Rattle.wire.specs.Numbers.{u32_at, digits}
use Rattle.wire.proofs.Laws.{num_digits}
use Rattle.protocol.specs.Refusal.{wrong_size}
use Rattle.protocol.specs.Verdict.{Kept, judge, first_of, fault_if, exact_length, no_fault, Verdict}
use Rattle.protocol.specs.declared.Version.TheVariants.{V1, V2}
use Rattle.protocol.proofs.Verdicts.{left_fits, right_fits, not_broken, kept_fits, length_exact, length_open, written_fits, written_front}
use Rattle.folds.specs.Folds.{first_fault, any_of, list_of}
use Rattle.folds.specs.Stands.{Stands}
use Rattle.folds.proofs.Laws.{list_same}
use Rattle.folds.proofs.Standing.{whole, left, right, part, word}
use Rattle.pairs.specs.Pair.{range, range_at, unfit, placed, as_shown, shown_at, range_bytes}
use Rattle.pairs.specs.Claims.{RangeOfWidth}
use Rattle.pairs.specs.declared.Range.{Range}
use Rattle.pairs.specs.declared.PairKind.TheVariants.{List as ListKind}
use Rattle.pairs.specs.declared.ZeroSize.{ZeroSize}
use Rattle.pairs.proofs.Laws.{placed_fits, placed_sized, range_back}
use Rattle.lists.proofs.Behind.{said_list as said_behind}
use Rattle.signal_state.specs.declared.RsrpSnr.{RsrpSnr}
use Rattle.signal_state.specs.declared.SignalForm.{SignalForm}
use Rattle.signal_state.specs.declared.SignalForm.TheVariants.{V1 as Form1, V2 as Form2}
use Rattle.signal_state.specs.declared.SignalState.{SignalState}
use Rattle.signal_state.specs.declared.SignalStateShown.{SignalStateShown}
use Rattle.signal_state.specs.SignalState.{state_at, list_form, count_in, entry_place, entry_at, no_entries, sixteen, entries_at, number_rules, list_rules, entries_verdict, any_known, body_verdict, head_of, verdict_at, shown, read_with, version_in, version_of, entry_in, size_of, limit_verdict, listed_verdict, number_bytes, entry_bytes, entries_bytes, list_bytes, listed_bytes, verdict_in, bytes_in, bytes_of, written_verdict, write_of}
use Rattle.signal_state.specs.Claims.{CountFits, kept_in, OfWidth, EntryOfWidth, EntriesOfWidth, RoundTrip}
use Rattle.signal_state.proofs.Laws.{body_same, size_is, small_size, limit_small, length_numbers, length_entries, length_listed}
use Rattle.signal_state.proofs.Acceptance.{said_list}
use Rattle.std.specs.Prelude.{Ok}

-- ---- the numbers, whatever follows

state_back : (p : SignalState) (g : SignalForm) (rest : List ℕ) → OfWidth p → p.form ≡ g → state_at g (number_bytes p ++ rest) ≡ p
unfolding state_at u32_at number_bytes
state_back p g rest z e = λ i. record {
  rssi = num_digits 4 p.rssi [] z.rssi i;
  error_rate = num_digits 4 p.error_rate [] z.rate i;
  signal_strength_interval = num_digits 4 p.signal_strength_interval [] z.interval i;
  rssi_threshold = num_digits 4 p.rssi_threshold [] z.strength i;
  error_rate_threshold = num_digits 4 p.error_rate_threshold [] z.errors i;
  form = sym e i;
}

rssi_back : (p : SignalState) (rest : List ℕ) → OfWidth p → u32_at (number_bytes p ++ rest) 0 ≡ p.rssi
unfolding u32_at number_bytes
rssi_back p rest z = num_digits 4 p.rssi [] z.rssi

rate_back : (p : SignalState) (rest : List ℕ) → OfWidth p → u32_at (number_bytes p ++ rest) 4 ≡ p.error_rate
unfolding u32_at number_bytes
rate_back p rest z = num_digits 4 p.error_rate [] z.rate

pair_back : (p : SignalState) (r : Range) (rest : List ℕ) → RangeOfWidth r → range_at (number_bytes p ++ (range_bytes r ++ rest)) 20 ≡ r
pair_back p r rest z = range_back (number_bytes p) rest r 20 (length_numbers p) z

-- ---- the entries

-- an entry is read where its bytes stand
entry_back : (s : List ℕ) (offset i : ℕ) (e : RsrpSnr) → EntryOfWidth e → Stands s (entry_place offset i) (entry_bytes e) → entry_at s offset i ≡ e
unfolding entry_at entry_bytes
entry_back s offset i e z h =
    let a = digits 4 e.rsrp in
    let b = digits 4 e.snr in
    let c = digits 4 e.rsrp_threshold in
    let d = digits 4 e.snr_threshold in
    let f = digits 4 e.system_type in
    let rsrp = word e.rsrp z.rsrp (left a (b ++ (c ++ (d ++ f))) h) in
    let snr = word e.snr z.snr (left b (c ++ (d ++ f)) (right a (b ++ (c ++ (d ++ f))) 4 refl h)) in
    let strength = word e.rsrp_threshold z.strength (left c (d ++ f) (right (a ++ b) (c ++ (d ++ f)) 8 refl h)) in
    let ratio = word e.snr_threshold z.ratio (left d f (right (a ++ (b ++ c)) (d ++ f) 12 refl h)) in
    let system = word e.system_type z.system (right (a ++ (b ++ (c ++ d))) f 16 refl h) in
    λ j. record { rsrp = rsrp j; snr = snr j; rsrp_threshold = strength j; snr_threshold = ratio j; system_type = system j }

-- the bytes behind the fixed part
abbrev tail : ℕ → (ℕ → RsrpSnr) → List ℕ
tail n f = cond (eqb n 0) [] (digits 4 n ++ entries_bytes n f)

some_tail : (m : ℕ) (f : ℕ → RsrpSnr) → tail (suc m) f ≡ digits 4 (suc m) ++ entries_bytes (suc m) f
some_tail m f = rw (ne_eqb (suc m) 0 (omega arith))

module _ (p : SignalState) (m : ℕ) (f : ℕ → RsrpSnr) where
  abbrev some : List ℕ
  some = number_bytes p ++ (range_bytes (placed 28 (size_of (suc m))) ++ (digits 4 (suc m) ++ entries_bytes (suc m) f))

  count_back : suc m ≤ 16 → u32_at some 28 ≡ suc m
  unfolding u32_at number_bytes range_bytes
  count_back h = num_digits 4 (suc m) [] (omega arith)

  entries_back : ((i : ℕ) → EntryOfWidth (f i)) → (i : ℕ) → i < suc m → entry_at some 28 i ≡ f i
  unfolding range_bytes number_bytes entries_bytes
  entries_back z i l =
      let pair = range_bytes (placed 28 (size_of (suc m))) in
      let list = digits 4 (suc m) ++ entries_bytes (suc m) f in
      let behind = right (number_bytes p) (pair ++ list) 20 refl (whole some) in
      let counted = right pair list 8 refl behind in
      let all = right (digits 4 (suc m)) (entries_bytes (suc m) f) 4 refl counted in
      let one = part (λ j. entry_bytes (f j)) (suc m) i (20 * i) l (length_entries i f) all in
      entry_back some 28 i (f i) (z i) one

-- ---- the reader on a writer's bytes

-- what it shows, put together
read_fits : (z : ZeroSize) (s : List ℕ) (p : SignalState) (r : Range) (n : ℕ) (es : List RsrpSnr) → range_at s 20 ≡ r → count_in s r ≡ n → head_of z s r n ≡ no_fault
    → body_verdict (u32_at s 0) (as_shown r).start (entry_at s (as_shown r).start) n ≡ no_fault → state_at (Form2 n) s ≡ p → entries_at s (as_shown r).start n ≡ es
    → read_with V2 z s ≡ record { answer = Ok p; entries = es }
unfolding read_with verdict_at first_of shown_at
read_fits z s p r n es a b c d e f =
    let at : Range → ℕ → SignalStateShown =
    λ q k. shown (first_of (head_of z s q k) (body_verdict (u32_at s 0) (as_shown q).start (entry_at s (as_shown q).start) k)) (state_at (Form2 k) s) (entries_at s (as_shown q).start k) in
    (λ i. at (a i) (count_in s (a i))) ∙ ap (at r) b ∙ (λ i. shown (first_of (c i) (d i)) (e i) (f i))

size_said : (n : ℕ) → n ≤ 16 → (size_of n ≡ 0) ⊎ CountFits (placed 28 (size_of n)) n
size_said zero h = inl refl
size_said (suc m) h = inr (record { some = omega arith; most = h; whole = size_is m })

list_kept : (p : Range) (n : ℕ) → (p.length ≡ 0) ⊎ CountFits p n → Kept (list_rules p n)
unfolding list_rules
list_kept p n h = said_behind list_form 20 p n (said_list p n h)

head_fits : (choice : ZeroSize) (p : SignalState) (n : ℕ) (f : ℕ → RsrpSnr) → OfWidth p → limit_verdict p n ≡ no_fault
    → head_of choice (listed_bytes p n f) (placed 28 (size_of n)) n ≡ no_fault
unfolding head_of first_of limit_verdict listed_bytes
head_fits choice p n f z e =
    let s = number_bytes p ++ list_bytes n f in
    let l : length s ≡ 28 + size_of n = length_listed p n f in
    let few = limit_small p n e in
    let u = not_broken (unfit ListKind 324 (size_of n)) wrong_size 20 (right_fits (judge (number_rules p.rssi p.error_rate)) _ e) in
    let k = small_size n few in
    rw (
      length_open 28 (length s) (omega arith) (omega arith),
      rssi_back p (list_bytes n f) z,
      rate_back p (list_bytes n f) z,
      left_fits (judge (number_rules p.rssi p.error_rate)) _ e,
      placed_fits choice ListKind 28 324 20 (length s) 28 (size_of n) u (omega arith) refl (omega arith),
      kept_fits (list_rules (placed 28 (size_of n)) n) (list_kept (placed 28 (size_of n)) n (size_said n few)),
    )

-- no list: no entries
none_read : (choice : ZeroSize) (p : SignalState) (f : ℕ → RsrpSnr) → OfWidth p → p.form ≡ Form2 0 → limit_verdict p 0 ≡ no_fault
    → read_with V2 choice (listed_bytes p 0 f) ≡ record { answer = Ok p; entries = sixteen f 0 }
unfolding listed_bytes list_bytes body_verdict entries_verdict any_known first_fault any_of list_of first_of fault_if
none_read choice p f z e limit =
    let rest = range_bytes (placed 28 0) ++ [] in
    read_fits choice (listed_bytes p 0 f) p (placed 28 0) 0 (sixteen f 0) (pair_back p (placed 28 0) [] (placed_sized 28 0 (omega arith) (omega arith))) refl
    (head_fits choice p 0 f z limit) refl (state_back p (Form2 0) rest z e) refl

-- one entry or more
some_read : (choice : ZeroSize) (p : SignalState) (m : ℕ) (f : ℕ → RsrpSnr) → OfWidth p → ((i : ℕ) → EntryOfWidth (f i)) → p.form ≡ Form2 (suc m) → limit_verdict p (suc m) ≡ no_fault
    → body_verdict p.rssi 28 f (suc m) ≡ no_fault → read_with V2 choice (listed_bytes p (suc m) f) ≡ record { answer = Ok p; entries = sixteen f (suc m) }
unfolding listed_bytes list_bytes
some_read choice p m f z zs e limit body =
    let n = suc m in
    let s = some p m f in
    let few = limit_small p n limit in
    let shape : listed_bytes p n f ≡ s = ap (λ (l : List ℕ). number_bytes p ++ (range_bytes (placed 28 (size_of n)) ++ l)) (some_tail m f) in
    let rest = range_bytes (placed 28 (size_of n)) ++ (digits 4 n ++ entries_bytes n f) in
    let r : placed 28 (size_of n) ≡ range 28 (size_of n) = rw (size_is m, ne_eqb (4 + 20 * n) 0 (omega arith)) in
    let pair : range_at s 20 ≡ placed 28 (size_of n) = pair_back p (placed 28 (size_of n)) _ (placed_sized 28 (size_of n) (omega arith) (omega (arith, small_size n few))) in
    let there : eqb (size_of n) 0 ≡ false = ne_eqb (size_of n) 0 (λ q. omega (arith, size_is m)) in
    let count : count_in s (range 28 (size_of n)) ≡ n = ap (λ (b : Bool). cond b 0 (u32_at s 28)) there ∙ count_back p m f few in
    let at : (as_shown (range 28 (size_of n))).start ≡ 28 = ap (λ (b : Bool). cond b 0 28) there in
    let each = entries_back p m f zs in
    let head : head_of choice s (range 28 (size_of n)) n ≡ no_fault = (λ i. head_of choice (sym shape i) (sym r i) n) ∙ head_fits choice p n f z limit in
    let all : body_verdict (u32_at s 0) 28 (entry_at s 28) n ≡ no_fault =
    ap (λ (x : ℕ). body_verdict x 28 (entry_at s 28) n) (rssi_back p rest z) ∙ body_same p.rssi 28 (entry_at s 28) f n each ∙ body in
    let entries : entries_at s 28 n ≡ sixteen f n = ap (λ (l : List RsrpSnr). l ++ no_entries (16 - n)) (list_same (entry_at s 28) f n each) in
    ap (read_with V2 choice) shape
    ∙ read_fits choice s p (range 28 (size_of n)) n (sixteen f n) (pair ∙ r) count head (ap (λ (k : ℕ). body_verdict (u32_at s 0) k (entry_at s k) n) at ∙ all)
    (state_back p (Form2 n) rest z e) (ap (λ (k : ℕ). entries_at s k n) at ∙ entries)

-- ---- the round trip

module _ (choice : ZeroSize) (p : SignalState) (es : List RsrpSnr) (z : OfWidth p) (zs : EntriesOfWidth es) where
  listed_read : (n : ℕ) → p.form ≡ Form2 n → listed_verdict p n (entry_in es) ≡ no_fault
      → read_with V2 choice (listed_bytes p n (entry_in es)) ≡ record { answer = Ok p; entries = sixteen (entry_in es) n }
  unfolding listed_verdict
  listed_read zero e v = none_read choice p (entry_in es) z e (left_fits (limit_verdict p 0) _ v)
  listed_read (suc m) e v =
      some_read choice p m (entry_in es) z zs e (left_fits (limit_verdict p (suc m)) _ v) (right_fits (limit_verdict p (suc m)) _ v)

  numbers_read : p.form ≡ Form1 → judge (number_rules p.rssi p.error_rate) ≡ no_fault
      → read_with V1 choice (number_bytes p) ≡ record { answer = Ok p; entries = no_entries 16 }
  unfolding read_with verdict_at first_of
  numbers_read e v =
      let s = number_bytes p in
      let n : s ++ [] ≡ s = append-nil s in
      let rssi : u32_at s 0 ≡ p.rssi = rw n at (rssi_back p [] z) in
      let rate : u32_at s 4 ≡ p.error_rate = rw n at (rate_back p [] z) in
      let state : state_at Form1 s ≡ p = rw n at (state_back p Form1 [] z e) in
      let length : exact_length 20 (length s) ≡ no_fault = length_exact 20 (length s) (length_numbers p) in
      (λ i. shown (first_of (length i) (judge (number_rules (rssi i) (rate i)))) (state i) (no_entries 16))
      ∙ ap (λ (d : Verdict). shown d p (no_entries 16)) v

  form_read : (g : SignalForm) → p.form ≡ g → verdict_in g p (entry_in es) ≡ no_fault
      → read_with (version_in g) choice (bytes_in g p (entry_in es)) ≡ record { answer = Ok p; entries = kept_in g es }
  form_read Form1 e v = numbers_read e v
  form_read (Form2 n) e v = listed_read n e v

  -- the bytes of a record that fits, read at its version, show the record and its entries
  pub bytes_read : written_verdict p es ≡ no_fault → read_with (version_of p) choice (bytes_of p es) ≡ record { answer = Ok p; entries = kept_in p.form es }
  bytes_read v = form_read p.form refl v

pub round_trip : RoundTrip
unfolding write_of
round_trip choice p es z zs s n e =
    ap (read_with (version_of p) choice) (written_front (written_verdict p es) (bytes_of p es) s n e)
    ∙ bytes_read choice p es z zs (written_fits (written_verdict p es) (bytes_of p es) s n e)
