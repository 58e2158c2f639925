-- The rows of the code's table as those of the plain one, and the pairs.
-- Assumes nothing.
use Prim.Native.Nat.{ℕ, zero, suc, ◌+◌, ◌-◌, ◌≤◌, ◌<◌}
use mathlib.Core.Path.{◌≡◌, refl, sym, ap, ◌∙◌, fun_ext}
use mathlib.Core.Logic.{◌⊎◌, inl, inr}
use mathlib.Core.Bool.{Bool, true, false, cond, ◌&&◌, ◌||◌}
use mathlib.Core.List.{List, [], ◌∷◌}
use native.Mathlib.Omega.{arith}
use native.Mathlib.Numerals.{add-one}
use borrow.Author.Tests.{eqb-true, eqb-false, leb-true, lt-ltb, le-ltb}
use lib.Dec.{eqb, leb}
use lib.ListN.{length, get_or, set, replicate, get_or-eq_default}
use lib.Seq.{get_or-set_same, get_or-set_other}
use Rattle.folds.specs.Folds.{first_fault}
use Rattle.protocol.specs.Verdict.{Verdict, no_fault}
use Rattle.pin_entry.specs.PinTable.{Row, Table, absent, empty, put, filled, puks, pins, puk_of, pin_of}
use Rattle.pin_entry.specs.Claims.{PairsAgree}
use Rattle.pin_entry.specs.Meaning.{row_of, no_row, row_from, table_of, put_at}
use Rattle.pin_entry.specs.declared.PinRow.{PinRow}
use Rattle.pin_entry.specs.declared.PinTable.{PinTable}

pub row_past : (rows : List PinRow) (k : ℕ) → length rows < k → row_from rows k ≡ absent
row_past rows zero h = absurd (omega arith)
row_past rows (suc i) h = ap row_of (get_or-eq_default rows no_row (omega arith))

false_true : {A : Type 0} → false ≡ true → A
false_true e = absurd cc

pub row_placed : (rows : List PinRow) (i k : ℕ) → i + 1 ≡ k → row_of (get_or rows i no_row) ≡ row_from rows k
row_placed rows i zero e = absurd (omega arith)
row_placed rows i (suc k) e = let d : i ≡ k = omega arith in rw d

-- 0 and what is past the last are no types
pub none_absent : (p : PinTable) → table_of p 0 ≡ absent
unfolding table_of
none_absent p = refl

pub no_type : (p : PinTable) (k : ℕ) → length p.rows ≡ 17 → (k ≡ 0) ⊎ (17 < k) → table_of p k ≡ absent
unfolding table_of
no_type p k l (inl e) = rw e
no_type p k l (inr h) = row_past p.rows k (omega arith)

-- a row that is stored is the one of its type
pub put_row : (rows : List PinRow) (k : ℕ) (r : PinRow) → 0 < k → k ≤ length rows → row_from (set rows (k - 1) r) ≡ put (row_from rows) k (row_of r)
put_row rows zero r p q = absurd (omega arith)
put_row rows (suc i) r p q =
    let e : suc i - 1 ≡ i = omega arith in
    rw e (fun_ext (λ j. at j (eqb j (suc i)) refl))
  where
    at : (j : ℕ) (b : Bool) → eqb j (suc i) ≡ b → row_from (set rows i r) j ≡ cond b (row_of r) (row_from rows j)
    at zero true e = let z : zero ≡ suc i = eqb-true zero (suc i) e in absurd (omega arith)
    at zero false e = refl
    at (suc j) true e =
        let z : j ≡ i = omega (arith, eqb-true (suc j) (suc i) e) in
        rw z (ap row_of (get_or-set_same rows i r no_row (omega arith)))
    at (suc j) false e =
        ap row_of (get_or-set_other rows i j r no_row (λ z. eqb-false (suc j) (suc i) e (ap suc z)))

pub row_put : (rows : List PinRow) (i k : ℕ) (r : PinRow) → i + 1 ≡ k → i < length rows → row_from (set rows i r) ≡ put (row_from rows) k (row_of r)
row_put rows i k r e h = let d : k - 1 ≡ i = omega arith in rw d at (put_row rows k r (omega arith) (omega arith))

split_both : (a b : Bool) → (a && b) ≡ true → (a ≡ true) × (b ≡ true)
split_both true b e = (refl, e)
split_both false b e = false_true e

-- ---- rows that are all the same

repeated : (n i : ℕ) (r : PinRow) → row_of r ≡ absent → row_of (get_or (replicate n r) i no_row) ≡ absent
repeated zero i r e = refl
repeated (suc n) zero r e = e
repeated (suc n) (suc i) r e = repeated n i r e

pub all_absent : (n : ℕ) (r : PinRow) → row_of r ≡ absent → row_from (replicate n r) ≡ empty
all_absent n r e = fun_ext (λ k. go k)
  where
    go : (k : ℕ) → row_from (replicate n r) k ≡ absent
    go zero = refl
    go (suc i) = repeated n i r e

-- ---- a row by its number

pub put_at_lem : (t : Table) (i : ℕ) (r : Row) → i < 17 → put_at t i r ≡ put t (i + 1) r
unfolding put_at
put_at_lem t i r h = rw (lt-ltb i 17 h, add-one i)

pub put_within : (rows : List PinRow) (i : ℕ) (r : PinRow) → i < 17 → length rows ≡ 17 → row_from (set rows i r) ≡ put_at (row_from rows) i (row_of r)
put_within rows i r h l = row_put rows i (i + 1) r refl (omega arith) ∙ sym (put_at_lem (row_from rows) i (row_of r) h)

pub put_past : (t : Table) (i : ℕ) (r : Row) → 17 ≤ i → put_at t i r ≡ t
unfolding put_at
put_past t i r h = rw (le-ltb i 17 h)

pub filled_none : (f : ℕ → Row) → filled f 0 ≡ empty
unfolding filled
filled_none f = refl

-- one row more
pub filled_next : (f : ℕ → Row) (i : ℕ) {t u : Table} → i < 17 → t ≡ filled f i → u ≡ put_at t i (f i) → u ≡ filled f (i + 1)
unfolding filled
filled_next f i {t} h p q = q ∙ put_at_lem t i (f i) h ∙ rw (p, add-one i)

-- ---- rows judged

pub none_judged : (f : ℕ → Verdict) → first_fault f 0 ≡ no_fault
unfolding first_fault
none_judged f = refl

-- ---- the pairs

abbrev all_of : (ℕ → Bool) → List ℕ → Bool
all_of f [] = true
all_of f (x ∷ xs) = f x && all_of f xs

-- what holds of 0 and of all numbers of a list holds at each place
each : (f : ℕ → Bool) (l : List ℕ) → f 0 ≡ true → all_of f l ≡ true → (k : ℕ) → f (get_or l k 0) ≡ true
each f [] z e k = z
each f (x ∷ xs) z e zero = (split_both (f x) (all_of f xs) e).0
each f (x ∷ xs) z e (suc k) = each f xs z (split_both (f x) (all_of f xs) e).1 k

pub puk_within : (k : ℕ) → puk_of k ≤ 17
unfolding puk_of
puk_within k = leb-true (get_or puks k 0) 17 (each (λ x. leb x 17) puks refl refl k)

-- a PUK's PIN is no PUK
pub pin_no_puk : (k : ℕ) → pin_of (pin_of k) ≡ 0
unfolding pin_of
pin_no_puk k = eqb-true (get_or pins (get_or pins k 0) 0) 0 (each (λ x. eqb (get_or pins x 0) 0) pins refl refl k)

-- what holds of each number below n
abbrev all_below : (ℕ → Bool) → ℕ → Bool
all_below f zero = true
all_below f (suc n) = f n && all_below f n

below : (f : ℕ → Bool) (n : ℕ) → all_below f n ≡ true → (k : ℕ) → k < n → f k ≡ true
below f zero e k h = absurd (omega arith)
below f (suc n) e k h = go (eqb k n) refl (below f n (split_both (f n) (all_below f n) e).1 k)
  where
    go : (b : Bool) → eqb k n ≡ b → (k < n → f k ≡ true) → f k ≡ true
    go true q g = rw (eqb-true k n q) (split_both (f n) (all_below f n) e).0
    go false q g = let z : k ≡ n → ⊥ = eqb-false k n q in g (omega arith)

pub pairs_agree : PairsAgree
unfolding puk_of pin_of
pairs_agree k j h p = (one puks pins refl, one pins puks refl)
  where
    back : List ℕ → List ℕ → ℕ → Bool
    back a b i = eqb (get_or a i 0) 0 || eqb (get_or b (get_or a i 0) 0) i

    one : (a b : List ℕ) → all_below (back a b) 18 ≡ true → get_or a k 0 ≡ j → get_or b j 0 ≡ k
    one a b all e = go (eqb (get_or a k 0) 0) refl (below (back a b) 18 all k h)
      where
        go : (t : Bool) → eqb (get_or a k 0) 0 ≡ t → (t || eqb (get_or b (get_or a k 0) 0) k) ≡ true → get_or b j 0 ≡ k
        go true z r = let w = eqb-true (get_or a k 0) 0 z in absurd (omega arith)
        go false z r = rw e at (eqb-true (get_or b (get_or a k 0) 0) k r)
