-- A table of PINs in lent memory: what is stored is taken as the table that it is, and so memory serves any entries as the plain table.
-- Assumes nothing.
use mathlib.Core.Path.{◌≡◌, refl, sym, ap, ◌∙◌}
use mathlib.Core.Logic.{◌⊎◌, inl, inr}
use mathlib.Core.Bool.{Bool, true, false, not, cond}
use mathlib.Core.List.{List, [], ◌∷◌, ◌++◌, append_assoc}
use Prim.Native.Nat.{ℕ, zero, suc, ◌+◌, ◌-◌, ◌*◌, ◌≤◌, ◌<◌, ◌^◌}
use native.Mathlib.Omega.{arith}
use native.Mathlib.Nat.{add-zero}
use borrow.Author.Tests.{le-ltb, ltb-false, eq-eqb, ne_eqb, leb-true, leb-false}
use lib.Dec.{leb, eqb}
use lib.ListN.{length, get_or, take, drop, length-append, length-drop}
use lib.Seq.{sets, length-sets, length-take-le, get_or-append-add, drop-append-add, take-take}
use Rattle.wire.specs.Numbers.{num, u32_at, digits}
use Rattle.wire.specs.Output.{fitted}
use Rattle.wire.proofs.Laws.{num_digits, num_skip, text_at}
use Rattle.protocol.specs.Verdict.{Kept, no_fault}
use Rattle.protocol.proofs.Verdicts.{fits_kept, kept_fits}
use Rattle.folds.specs.Folds.{joined}
use Rattle.folds.proofs.Laws.{fits_each, each_fits, split, length_joined}
use Rattle.pairs.specs.Claims.{SizeFits}
use Rattle.pairs.specs.declared.PairKind.TheVariants.{Text}
use Rattle.pairs.proofs.Laws.{size_said, said_size}
use Rattle.pin.specs.SetPin.{read_with, SetPinRead}
use Rattle.pairs.specs.declared.ZeroSize.TheVariants.{Strict}
use Rattle.pin_entry.specs.PinTable.{Row, Table, absent, new_row, put, filled, pin_of, Call, expected, lacks_tries, entered, step, table_after, answers_of}
use Rattle.pin_entry.specs.Meaning.{asked_by, asked_of, enter_of, no_start, start_rules, start_verdict, starts_verdict, start_row, start_row_at, started, made_of}
use Rattle.pin_entry.specs.Claims.{Counts, Unblocks}
use Rattle.pin_entry.specs.declared.PinAnswer.{PinAnswer}
use Rattle.pin_entry.specs.declared.PinAnswer.TheVariants as answer
use Rattle.pin_entry.specs.declared.starts.PinStart.{PinStart}
use Rattle.pin_entry.proofs.Asked.{new_fits}
use Rattle.pin_entry.proofs.Effects.{same_or_not, put_cases, false_true, filled_each, Shows}
use Rattle.pin_entry.proofs.Consequences.{by_effect}
use Rattle.pin_entry.proofs.Runs.{hidden_same}
use Rattle.lent_modem.specs.LentModem.{flag_number}
use Rattle.lent_pins.specs.LentPins.{pins_size, row_at, row_in, table_in, row_rules, row_verdict, rows_verdict, pins_verdict, row_bytes, row_bytes_at, table_bytes, make_in, kept_by, enter_in}
use Rattle.lent_pins.proofs.Places.{length_row, room}
use Rattle.lent_claims.specs.Given.{Bytes}
use Rattle.lent_claims.specs.Turns.{run}
use Rattle.lent_claims.specs.PinMemory.{PinsTake, ServesAsPlain, StartsOfWidth, PinMemoryServes, TakenPinsServe}
use Rattle.lent_claims.proofs.AssemblyServes.{word_small}
use Rattle.lent_claims.proofs.Fields.{stored}
use Rattle.lent_claims.proofs.ModemTaken.{flag_kept}
use Rattle.std.specs.Prelude.{Ok, Err, Result}
use Rattle.protocol.specs.declared.Refusal.{Refusal}

-- ---- the tables that memory can hold

-- a secret is a text that a payload can have, there are no more tries than at the start, and numbers are of their width
record RowFits (r : Row) : Type 0 where
  secret : SizeFits Text 32 (length r.secret)
  tries : r.tries ≤ r.start
  small : r.start < 2 ^ 32

-- each row fits, and what is no type has none
pub record TableFits (t : Table) : Type 0 where
  rows : (k : ℕ) → RowFits (t k)
  none : t 0 ≡ absent
  past : (k : ℕ) → 17 < k → t k ≡ absent

no_secret : SizeFits Text 32 0
no_secret = size_said Text 32 0 refl

absent_fits : RowFits absent
absent_fits = record { secret = no_secret; tries = omega arith; small = omega arith }

-- ---- a row is read back from where it was stored

-- behind p, with z behind it
module _ (p z : List ℕ) (r : Row) (f : RowFits r) where
  abbrev m : List ℕ
  m = p ++ (row_bytes r ++ z)

  byte : (k : ℕ) → get_or m (length p + k) 0 ≡ get_or (row_bytes r ++ z) k 0
  byte k = get_or-append-add p (row_bytes r ++ z) k 0

  word : (k : ℕ) → u32_at m (length p + k) ≡ u32_at (row_bytes r ++ z) k
  unfolding u32_at
  word k = num_skip 4 p (row_bytes r ++ z) k

  present_back : get_or m (length p) 0 ≡ flag_number r.present
  unfolding row_bytes
  present_back = ap (λ (k : ℕ). get_or m k 0) (sym (add-zero (length p))) ∙ byte 0

  enabled_back : get_or m (length p + 1) 0 ≡ flag_number r.enabled
  unfolding row_bytes
  enabled_back = byte 1

  entered_back : get_or m (length p + 2) 0 ≡ flag_number r.entered
  unfolding row_bytes
  entered_back = byte 2

  size_back : get_or m (length p + 3) 0 ≡ length r.secret
  unfolding row_bytes
  size_back = byte 3

  tries_back : u32_at m (length p + 4) ≡ r.tries
  unfolding row_bytes u32_at
  tries_back = word 4 ∙ num_digits 4 r.tries ((digits 4 r.start ++ fitted 32 r.secret) ++ z) (omega (arith, f.tries, f.small))

  start_back : u32_at m (length p + 8) ≡ r.start
  unfolding row_bytes u32_at
  start_back = word 8 ∙ num_digits 4 r.start (fitted 32 r.secret ++ z) (omega (arith, f.small))

  secret_back : take (length r.secret) (take 32 (drop (length p + 12) m)) ≡ r.secret
  unfolding row_bytes
  secret_back =
      take-take (length r.secret) 32 (drop (length p + 12) m) f.secret.small
      ∙ ap (take (length r.secret)) (drop-append-add p (row_bytes r ++ z) 12)
      ∙ text_at [] r.secret z 32 0 refl f.secret.small

  row_back : row_at m (length p) ≡ r
  unfolding row_at
  row_back =
      rw (present_back, enabled_back, entered_back, size_back, tries_back, start_back, secret_back)
      (λ i. record {
        present = (flag_kept r.present).1 i;
        enabled = (flag_kept r.enabled).1 i;
        entered = (flag_kept r.entered).1 i;
        tries = r.tries;
        start = r.start;
        secret = r.secret;
      })

  rules_kept : Kept (row_rules m (length p))
  rules_kept =
      rw (present_back, enabled_back, entered_back, size_back, tries_back, start_back)
      ((flag_kept r.present).0, ((flag_kept r.enabled).0, ((flag_kept r.entered).0, (said_size Text 32 (length r.secret) f.secret, (le-ltb r.start r.tries f.tries, tt)))))

-- ---- a table is read back

-- row i of a table at the front of memory
module _ (t : Table) (z : List ℕ) (f : TableFits t) (i : ℕ) (h : i < 17) where
  front : ((length (joined (row_bytes_at t) i) ≡ i * 44) × ((rest : List ℕ) × (table_bytes t ++ z ≡ joined (row_bytes_at t) i ++ (row_bytes_at t i ++ rest))))
  unfolding table_bytes
  front =
      let s = split (row_bytes_at t) 17 i h in
      let p = joined (row_bytes_at t) i in (
        omega (arith, length_joined (row_bytes_at t) 44 i (λ k. length_row (t (suc k)))),
        (s.rest ++ z, ap (λ (l : List ℕ). l ++ z) s.is ∙ append_assoc p (row_bytes_at t i ++ s.rest) z ∙ ap (λ (l : List ℕ). p ++ l) (append_assoc (row_bytes_at t i) s.rest z)),
      )

  row_at_back : (row_at (table_bytes t ++ z) (i * 44) ≡ t (suc i)) × Kept (row_rules (table_bytes t ++ z) (i * 44))
  row_at_back =
      let p = joined (row_bytes_at t) i in
      let r = f.rows (suc i) in
      rw (← front.0, front.1.1) (row_back p front.1.0 (t (suc i)) r, rules_kept p front.1.0 (t (suc i)) r)

-- the rows of the types 1 to n, and no others
filled_past : (f : ℕ → Row) (n j : ℕ) → n < j → filled f n j ≡ absent
unfolding filled
filled_past f zero j l = refl
filled_past f (suc n) j l = put_cases (filled f n) (suc n) (λ r. r ≡ absent) (f n) j (λ e. absurd (omega (arith, e, l))) (filled_past f n j (omega (arith, l)))

filled_none : (f : ℕ → Row) (n : ℕ) → filled f n 0 ≡ absent
unfolding filled
filled_none f zero = refl
filled_none f (suc n) = put_cases (filled f n) (suc n) (λ r. r ≡ absent) (f n) 0 (λ e. absurd (omega (arith, e))) (filled_none f n)

filled_is : (f : ℕ → Row) (t : Table) (n : ℕ) → t 0 ≡ absent → ((i : ℕ) → i < n → f i ≡ t (suc i)) → (j : ℕ) → j ≤ n → filled f n j ≡ t j
unfolding filled
filled_is f t zero z h j l = let e : j ≡ 0 = omega (arith, l) in rw e (sym z)
filled_is f t (suc n) z h j l = go (filled_is f t n z (λ i k. h i (omega (arith, k))) j) (same_or_not j (suc n))
  where
    go : (j ≤ n → filled f n j ≡ t j) → (j ≡ suc n) ⊎ (j ≡ suc n → ⊥) → put (filled f n) (suc n) (f n) j ≡ t j
    go b (inl e) = rw (eq-eqb j (suc n) e) (h n (omega arith) ∙ ap t (sym e))
    go b (inr q) = rw (ne_eqb j (suc n) q) (b (omega (arith, l, q)))

table_is : (m : List ℕ) (t : Table) → t 0 ≡ absent → ((k : ℕ) → 17 < k → t k ≡ absent) → ((i : ℕ) → i < 17 → row_in m i ≡ t (suc i)) → table_in m ≡ t
table_is m t z p h = λ i k. each k i
  where
    each : (k : ℕ) → table_in m k ≡ t k
    each k = go (leb k 17) refl
      where
        go : (b : Bool) → leb k 17 ≡ b → table_in m k ≡ t k
        go true e = filled_is (row_in m) t 17 z h k (leb-true k 17 e)
        go false e = let l = leb-false k 17 e in filled_past (row_in m) 17 k (omega (arith, l)) ∙ sym (p k (omega (arith, l)))

-- a table that memory can hold, stored at its front, is taken as it is
length_table : (t : Table) → length (table_bytes t) ≡ pins_size
unfolding table_bytes
length_table t = length_joined (row_bytes_at t) 44 17 (λ k. length_row (t (suc k)))

pub pins_held : (m : List ℕ) (t : Table) → pins_size ≤ length m → TableFits t → PinsTake (sets m 0 (table_bytes t)) t
unfolding pins_verdict rows_verdict
pins_held m t l f =
    let z = drop pins_size m in
    rw (stored (table_bytes t) m (length_table t) l) (
      rw (le-ltb (length (table_bytes t ++ z)) pins_size (omega (arith, length-append (table_bytes t) z, length_table t)))
          (each_fits (row_verdict (table_bytes t ++ z)) 17 (λ i h. kept_fits (row_rules (table_bytes t ++ z) (i * 44)) (row_at_back t z f i h).1)),
      table_is (table_bytes t ++ z) t f.none f.past (λ i h. (row_at_back t z f i h).0),
    )

-- ---- which tables memory can hold: one that is taken, one that is made, and one that an entry leaves

taken_rules : (m : List ℕ) (i : ℕ) → i < 17 → pins_verdict m ≡ no_fault → Kept (row_rules m (i * 44))
unfolding pins_verdict rows_verdict
taken_rules m i h e =
    let v : rows_verdict m ≡ no_fault = rw (le-ltb (length m) pins_size (room m e)) at e in
    fits_kept (row_rules m (i * 44)) (fits_each (row_verdict m) 17 v i h)

taken_row : (m : List ℕ) (i : ℕ) → i < 17 → Bytes m → pins_verdict m ≡ no_fault → RowFits (row_at m (i * 44))
unfolding row_at u32_at
taken_row m i h b e =
    let l = room m e in
    let at = i * 44 in
    let k = taken_rules m i h e in
    let n = size_said Text 32 (get_or m (at + 3) 0) k.1.1.1.0 in
    let rest : length (drop (at + 12) m) ≡ length m - (at + 12) = length-drop (at + 12) m in
    let all : length (take 32 (drop (at + 12) m)) ≡ 32 = length-take-le 32 (drop (at + 12) m) (omega (arith, rest, l, h)) in
    let long : length (take (get_or m (at + 3) 0) (take 32 (drop (at + 12) m))) ≡ get_or m (at + 3) 0 =
    length-take-le (get_or m (at + 3) 0) (take 32 (drop (at + 12) m)) (omega (arith, all, n.small)) in
    record { secret = rw long n; tries = ltb-false (num 4 m (at + 8)) (num 4 m (at + 4)) k.1.1.1.1.0; small = word_small m (at + 8) b }

taken_fits : (m : List ℕ) → Bytes m → pins_verdict m ≡ no_fault → TableFits (table_in m)
taken_fits m b e =
    record { rows = filled_each RowFits (row_in m) 17 absent_fits (λ i h. taken_row m i h b e); none = filled_none (row_in m) 17; past = filled_past (row_in m) 17 }

start_fits : (s : PinStart) → length s.secret ≡ 32 → s.starting_tries < 2 ^ 32 → SizeFits Text 32 s.secret_length → RowFits (start_row s)
start_fits s long small n = go (eqb s.present 0)
  where
    go : (b : Bool) → RowFits (cond b absent (new_row (not (eqb s.enabled 0)) s.starting_tries (take s.secret_length s.secret)))
    go true = absent_fits
    go false = record { secret = rw (length-take-le s.secret_length s.secret (omega (arith, long, n.small))) n; tries = omega arith; small = small }

started_fits : (rows : List PinStart) → StartsOfWidth rows → starts_verdict rows ≡ no_fault → TableFits (started rows)
unfolding starts_verdict
started_fits rows w e =
    record {
      rows = filled_each RowFits (start_row_at rows) 17 absent_fits (λ i h. one i h);
      none = filled_none (start_row_at rows) 17;
      past = filled_past (start_row_at rows) 17;
    }
  where
    one : (i : ℕ) → i < 17 → RowFits (start_row_at rows i)
    one i h =
        let s = get_or rows i no_start in
        let k = fits_kept (start_rules (i * 48) s) (fits_each (start_verdict rows) 17 e i h) in
        start_fits s (w i h).0 (w i h).1 (size_said Text 32 s.secret_length k.1.1.0)

module _ (t : Table) (c : Call) where
  -- an absent row is for no entry that counts, and for no PUK
  absent_stays : (j : ℕ) → t j ≡ absent → (entered t c).table j ≡ absent
  unfolding expected
  absent_stays j e =
      by_effect t c (λ r. r ≡ absent) j e (λ n o. gone n o) (λ w. gone w.right.counts w.own) (λ w. gone w.right.counts w.own) (λ w. free w)
    where
      gone : {A : Type 0} → Counts t c → j ≡ c.type → A
      gone n o = false_true (sym (ap (λ (r : Row). r.present) (ap t (sym o) ∙ e)) ∙ n.present)

      free : {A : Type 0} → Unblocks t c j → A
      free w = false_true (sym (ap lacks_tries (ap t (sym w.own) ∙ e)) ∙ (rw w.puk at w.right.counts.awaited))

  entered_fits : SizeFits Text 32 (length c.new) → TableFits t → TableFits (entered t c).table
  entered_fits n f = record { rows = row; none = absent_stays 0 f.none; past = λ k l. absent_stays k (f.past k l) }
    where
      row : (j : ℕ) → RowFits ((entered t c).table j)
      row j =
          let own = f.rows c.type in
          let pin = f.rows (pin_of c.type) in
          by_effect t c RowFits j (f.rows j)
          (λ _ _. record { secret = own.secret; tries = omega (arith, own.tries); small = own.small })
          (λ _. record { secret = own.secret; tries = omega arith; small = own.small })
          (λ _. record { secret = own.secret; tries = omega arith; small = own.small })
          (λ _. record { secret = n; tries = omega arith; small = pin.small })

pub entry_fits : (t : Table) (s : List ℕ) → TableFits t → TableFits (enter_of t s).table
unfolding enter_of asked_of step
entry_fits t s f = go (read_with Strict s) refl
  where
    go : (r : SetPinRead) → read_with Strict s ≡ r → TableFits (step t (asked_by s r)).table
    go (Ok (p, x)) e = entered_fits t _ (new_fits s p x e) f
    go (Err r) e = f

-- ---- memory serves

pub record PinsHold (m : List ℕ) (t : Table) : Type 0 where
  pub long : pins_size ≤ length m
  pub fits : TableFits t
  pub takes : PinsTake m t

-- a table put back at the front of the memory
pub kept_holds : (m : List ℕ) (t : Table) → pins_size ≤ length m → TableFits t → PinsHold (sets m 0 (table_bytes t)) t
kept_holds m t l f = record { long = rw (length-sets m 0 (table_bytes t)) l; fits = f; takes = pins_held m t l f }

pub made_holds : (m : List ℕ) → pins_size ≤ length m → (rows : List PinStart) → StartsOfWidth rows → starts_verdict rows ≡ no_fault → PinsHold (make_in m rows).memory (made_of rows).table
unfolding make_in made_of
made_holds m l rows w e = rw (e, le-ltb (length m) pins_size l) (kept_holds m (started rows) l (started_fits rows w e))

-- where no PIN_INFO is shown nothing has changed
pub hidden_holds : (m : List ℕ) (t : Table) (s : List ℕ) → PinsHold m t → (Shows (enter_of t s).answer → ⊥) → PinsHold m (enter_of t s).table
hidden_holds m t s H n = rw (hidden_same t s n) H

one_serves : (m : List ℕ) (t : Table) (s : List ℕ) → PinsHold m t → ((enter_in m s).answer ≡ (enter_of t s).answer) × PinsHold (enter_in m s).memory (enter_of t s).table
unfolding enter_in
one_serves m t s H = rw (H.takes.0, H.takes.1) (refl, go (enter_of t s).answer refl)
  where
    go : (a : (Result PinAnswer Refusal)) → (enter_of t s).answer ≡ a → PinsHold (kept_by a (enter_of t s).table m) (enter_of t s).table
    go (Ok (answer.Info status i)) e = kept_holds m (enter_of t s).table H.long (entry_fits t s H.fits)
    go (Ok (answer.Failed status)) e = hidden_holds m t s H (λ h. rw e at h)
    go (Err r) e = hidden_holds m t s H (λ h. rw e at h)

pub serves : (m : List ℕ) (t : Table) (ss : List (List ℕ)) → PinsHold m t → ServesAsPlain t m ss
unfolding run answers_of table_after enter_of
serves m t [] H = record { answers = refl; held = H.takes }
serves m t (s ∷ ss) H =
    let o = one_serves m t s H in
    let r = serves (enter_in m s).memory (enter_of t s).table ss o.1 in
    record { answers = λ i. o.0 i ∷ r.answers i; held = r.held }

pub pin_memory_serves : PinMemoryServes
pin_memory_serves m l rows w e ss = serves (make_in m rows).memory (made_of rows).table ss (made_holds m l rows w e)

pub taken_pins_serve : TakenPinsServe
taken_pins_serve m b e ss = serves m (table_in m) ss (record { long = room m e; fits = taken_fits m b e; takes = (e, refl) })
