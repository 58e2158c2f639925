-- Laws of the end of a line as it is read: its column is the right one, and it is found where it stands.
-- Assumes nothing.
use mathlib.Core.Path.{◌≡◌, refl, sym, ap, ◌∙◌}
use mathlib.Core.Bool.{Bool, true, false, cond, not}
use mathlib.Core.List.{List, [], ◌∷◌, ◌++◌}
use Prim.Native.Nat.{ℕ, ◌+◌, ◌-◌, ◌%◌, ◌≤◌, ◌<◌}
use native.Mathlib.Omega.{arith}
use borrow.Author.Tests.{eqb-true, eqb-false, eq-eqb, ne_eqb, ltb-true, ltb-false, lt-ltb, le-ltb}
use lib.Dec.{eqb, ltb}
use lib.ListN.{length, take, drop, get_or, length-append, length-drop, length-take, get_or-eq_default}
use lib.Seq.{get_or-drop, get_or-take, get_or-append_seam, length-take-le}
use Rattle.ascii.specs.Ascii.{line_feed, hex_run}
use Rattle.ascii.proofs.Laws.{run_le}
use Rattle.text_parts.specs.Parts.{whole, stops, further}
use Rattle.text_parts.specs.Hex.{reach_hex_line, HexDigits, hex_digits_at, line_end_at, end_column}
use Rattle.text_parts.proofs.Hex.{hex_at, hex_found, hex_digits_le}
use Rattle.text_parts.proofs.Cut.{hex_digits_cut}
use Rattle.std.specs.Prelude.{Ok, Err}

-- the digits lie in the text
pub hex_digits_within : (most : ℕ) (s : List ℕ) (from : ℕ) → hex_digits_at most s from ≤ length s - from
unfolding hex_digits_at
hex_digits_within most s from = omega (arith, run_le (take most (drop from s)), length-take most (drop from s), length-drop from s)

-- a line feed lies in the text
pub feed_inside : (s : List ℕ) (e : ℕ) → get_or s e 0 ≡ 10 → e < length s
feed_inside s e f = go (ltb e (length s)) refl
  where
    go : (t : Bool) → ltb e (length s) ≡ t → e < length s
    go true h = ltb-true e (length s) h
    go false h = let z = get_or-eq_default s 0 {n = e} (ltb-false e (length s) h) in absurd (omega (arith, z))

-- ---- the column

odd_even : (n : ℕ) → eqb (n % 2) 0 ≡ not (eqb (n % 2) 1)
odd_even n = go (eqb (n % 2) 1) refl
  where
    go : (t : Bool) → eqb (n % 2) 1 ≡ t → eqb (n % 2) 0 ≡ not t
    go true e = let f = eqb-true (n % 2) 1 e in ne_eqb (n % 2) 0 (λ z. omega arith)
    go false e = let f = eqb-false (n % 2) 1 e in eq-eqb (n % 2) 0 (omega arith)

pub end_column_lem : (most : ℕ) (s : List ℕ) (from : ℕ) → end_column (line_end_at most s from) ≡ further from (reach_hex_line most (drop from s))
unfolding line_end_at hex_digits_at
end_column_lem most s from =
    let n = hex_digits_at most s from in
    go (eqb (n % 2) 1) (eqb (n % 2) 0) (eqb (get_or s (from + n) 0) 10) (ltb (from + n + 1) (length s)) n (odd_even n) ∙ sym (hex_at most from s n refl)
  where
    go : (a a' b c : Bool) (n : ℕ) → a' ≡ not a
        → end_column (cond a (Err (from + n)) (cond b (cond c (Err (from + n + 1)) (Ok n)) (Err (from + n))))
        ≡ cond a' (cond b (cond c (stops (from + n + 1)) whole) (stops (from + n))) (stops (from + n))
    go true a' b c n p = rw p
    go false a' false c n p = rw p
    go false a' true true n p = rw p
    go false a' true false n p = rw p

-- ---- found where it stands, and only there

pub end_found : (most : ℕ) (hex : List ℕ) → HexDigits most hex → (s : List ℕ) (from : ℕ) → drop from s ≡ hex ++ (line_feed ∷ []) → line_end_at most s from ≡ Ok (length hex)
unfolding line_end_at hex_digits_at
end_found most hex p s from e =
    let d : hex_digits_at most s from ≡ length hex = ap (λ (u : List ℕ). hex_run (take most u)) e ∙ hex_found most hex p in
    let f : get_or s (from + length hex) 0 ≡ line_feed =
    sym (get_or-drop from s (length hex) 0) ∙ ap (λ (u : List ℕ). get_or u (length hex) 0) e ∙ get_or-append_seam hex line_feed [] 0 in
    let n : length s ≡ from + length hex + 1 = omega (arith, ap length e, length-drop from s, length-append hex (line_feed ∷ [])) in
    let even : eqb (length hex % 2) 1 ≡ false = ne_eqb (length hex % 2) 1 (λ o. omega (arith, p.even)) in
    rw (d, even, f, n, le-ltb (from + length hex + 1) (from + length hex + 1) (omega arith))

-- its digits and the line feed end the text
abbrev pub Within : ℕ → List ℕ → ℕ → ℕ → Type 0
Within most s from n = (from + n + 1 ≡ length s) × (n ≤ most)

pub end_within : (most : ℕ) (s : List ℕ) (from n : ℕ) → line_end_at most s from ≡ Ok n → Within most s from n
unfolding line_end_at
end_within most s from n e =
    let k = hex_digits_at most s from in
    go (eqb (k % 2) 1) (eqb (get_or s (from + k) 0) line_feed) (ltb (from + k + 1) (length s)) refl refl e
  where
    go : (a b c : Bool) → eqb (get_or s (from + hex_digits_at most s from) 0) line_feed ≡ b → ltb (from + hex_digits_at most s from + 1) (length s) ≡ c
        → cond a (Err (from + hex_digits_at most s from)) (cond b (cond c (Err (from + hex_digits_at most s from + 1)) (Ok (hex_digits_at most s from))) (Err (from + hex_digits_at most s from))) ≡ Ok n
        → Within most s from n
    go true b c f h p = let z : ◌≡◌ {A = ℕ} 0 1 = cc in absurd (omega arith)
    go false false c f h p = let z : ◌≡◌ {A = ℕ} 0 1 = cc in absurd (omega arith)
    go false true true f h p = let z : ◌≡◌ {A = ℕ} 0 1 = cc in absurd (omega arith)
    go false true false f h p =
        let d : hex_digits_at most s from ≡ n = cc in
        let k = hex_digits_at most s from in
        (omega (arith, ltb-false (from + k + 1) (length s) h, feed_inside s (from + k) (eqb-true (get_or s (from + k) 0) line_feed f)), omega (arith, hex_digits_le most s from))

-- ---- of a text that is cut behind it

pub end_cut : (most from n : ℕ) (s : List ℕ) → from + most + 2 ≤ n → n ≤ length s → line_end_at most (take n s) from ≡ line_end_at most s from
unfolding line_end_at
end_cut most from n s h l =
    let k = hex_digits_at most s from in
    let d = hex_digits_le most s from in
    let c : hex_digits_at most (take n s) from ≡ k = hex_digits_cut most from n s (omega arith) in
    let g : get_or (take n s) (from + k) 0 ≡ get_or s (from + k) 0 = get_or-take n s (from + k) 0 (omega arith) in
    let x : ltb (from + k + 1) n ≡ true = lt-ltb (from + k + 1) n (omega arith) in
    let y : ltb (from + k + 1) (length s) ≡ true = lt-ltb (from + k + 1) (length s) (omega arith) in
    rw (c, g, length-take-le n s l, x, y)
