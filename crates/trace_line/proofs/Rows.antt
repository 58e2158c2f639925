-- A trace line as a row of parts: the same lines as in words, and the column that the reader finds.
-- Assumes nothing.
use mathlib.Core.Path.{◌≡◌, refl, sym, ap, ◌∙◌}
use mathlib.Core.Bool.{Bool, true, false, cond}
use mathlib.Core.List.{List, [], ◌∷◌, ◌++◌}
use Prim.Native.Nat.{ℕ, ◌+◌}
use native.Mathlib.Omega.{arith}
use borrow.Author.Tests.{eqb-true}
use lib.Dec.{ltb, eqb}
use lib.ListN.{drop, get_or}
use Rattle.ascii.specs.Ascii.{tab, line_feed}
use Rattle.text_parts.specs.Parts.{one_of, Then, Reach, Right, further, reach_then, length_taken, last}
use Rattle.text_parts.specs.Decimals.{is_digit, number_part, no_digit, number_of}
use Rattle.text_parts.specs.Hex.{byte, HexLine, reach_hex_line, line_end_at, end_column}
use Rattle.text_parts.proofs.Parts.{differ, same_right, one_right, one_then, then_one, run_at, byte_at, further_zero}
use Rattle.text_parts.proofs.Decimals.{number_right, number_said, said_number, number_taken}
use Rattle.text_parts.proofs.Hex.{hex_right, hex_said, said_hex}
use Rattle.text_parts.proofs.Ends.{end_column_lem}
use Rattle.trace_line.specs.declared.Sender.{Sender}
use Rattle.trace_line.specs.declared.Sender.TheVariants.{Host, Device}
use Rattle.trace_line.specs.declared.Line.{Line}
use Rattle.trace_line.specs.Good.{letter, most_decimal, largest, most_digits, text_of, Good}
use Rattle.trace_line.specs.TraceLine.{is_sender, sender_of, line_by, bytes_from, sender_from, line_of, column_of}
use Rattle.std.specs.Prelude.{Ok, Err}
use Rattle.text_parts.specs.Hex.{LineEnd}
use Rattle.std.specs.Prelude.{Result}

-- ---- the row, and how far a text goes with it

abbrev Tabbed : List ℕ → Type 0
Tabbed = Then (byte tab) false (HexLine most_digits)

abbrev Sent : List ℕ → Type 0
Sent = Then (one_of is_sender) false Tabbed

abbrev Row : List ℕ → Type 0
Row = Then (number_part most_decimal largest) no_digit (Then (byte tab) false Sent)

abbrev reach_tabbed : List ℕ → Reach
reach_tabbed = reach_then (byte tab) false (reach_hex_line most_digits)

abbrev reach_sent : List ℕ → Reach
reach_sent = reach_then (one_of is_sender) false reach_tabbed

abbrev reach_row : List ℕ → Reach
reach_row = reach_then (number_part most_decimal largest) no_digit (reach_then (byte tab) false reach_sent)

digit_tab : (b : ℕ) → is_digit b ≡ true → eqb b tab ≡ true → ⊥
digit_tab b h e = let q : b ≡ 9 = eqb-true b 9 e in differ (sym (rw q at h))

row_right : (s : List ℕ) → Right Row s (reach_row s)
row_right = number_right most_decimal largest (λ b. eqb b tab) Sent (reach_then (byte tab) false reach_sent) sent digit_tab (omega arith)
  where
    tabbed : (s : List ℕ) → Right Tabbed s (reach_tabbed s)
    tabbed = one_right (λ b. eqb b tab) (HexLine most_digits) (reach_hex_line most_digits) (hex_right most_digits refl) 9 refl

    letters : (s : List ℕ) → Right Sent s (reach_sent s)
    letters = one_right is_sender Tabbed reach_tabbed tabbed 72 refl

    sent : (s : List ℕ) → Right (Then (byte tab) false Sent) s (reach_then (byte tab) false reach_sent s)
    sent = one_right (λ b. eqb b tab) Sent reach_sent letters 9 refl

-- ---- the same lines

letter_sender : (b : ℕ) → is_sender b ≡ true → letter (sender_of b) ≡ b
letter_sender b h = go (eqb b 72) refl
  where
    go : (t : Bool) → eqb b 72 ≡ t → letter (cond t Host Device) ≡ b
    go true e = sym (eqb-true b 72 e)
    go false e = sym (eqb-true b 68 (rw e at h))

pub sender_letter : (x : Sender) → is_sender (letter x) ≡ true
sender_letter Host = refl
sender_letter Device = refl

glue : (x : Sender) (w h : List ℕ) {s t₁ t₂ t₃ t₄ : List ℕ} {b₁ b₂ b₃ : ℕ} → s ≡ w ++ t₁ → t₁ ≡ b₁ ∷ t₂ → b₁ ≡ tab → t₂ ≡ b₂ ∷ t₃ → letter x ≡ b₂
    → t₃ ≡ b₃ ∷ t₄ → b₃ ≡ tab → t₄ ≡ h ++ (line_feed ∷ []) → s ≡ text_of w x h
glue x w h e₁ e₂ p e₃ q e₄ r e₅ = cc

row_good : (s : List ℕ) → Row s → Good s
row_good s r =
    let a = one_then (λ b. eqb b tab) Sent r.1 r.3 in
    let b = one_then is_sender Tabbed a.1 a.3 in
    let c = one_then (λ b. eqb b tab) (HexLine most_digits) b.1 b.3 in
    let d = hex_said most_digits c.1 c.3 in (
      r.0,
      sender_of b.0,
      d.0,
      record { counter = number_said most_decimal largest r.0 r.2; bytes = d.1 },
      glue (sender_of b.0) r.0 d.0 r.4 a.4 (eqb-true a.0 tab a.2) b.4 (letter_sender b.0 b.2) c.4 (eqb-true c.0 tab c.2) d.2,
    )

good_row : (s : List ℕ) → Good s → Row s
good_row s g =
    let h = g.2 in (
      g.0,
      tab ∷ letter g.1 ∷ tab ∷ (h ++ (line_feed ∷ [])),
      said_number most_decimal largest g.0 g.3.counter,
      then_one (λ b. eqb b tab) Sent tab (letter g.1 ∷ tab ∷ (h ++ (line_feed ∷ []))) refl
          (then_one is_sender Tabbed (letter g.1) (tab ∷ (h ++ (line_feed ∷ []))) (sender_letter g.1)
          (then_one (λ b. eqb b tab) (HexLine most_digits) tab (h ++ (line_feed ∷ [])) refl (said_hex most_digits h g.3.bytes))),
      g.4,
    )

-- ---- the column

choose : (t : Bool) (a b : (Result Line ℕ)) (x y : Reach) → column_of a ≡ x → column_of b ≡ y → column_of (cond t a b) ≡ cond t x y
choose true a b x y p q = p
choose false a b x y p q = q

bytes_column : (s : List ℕ) (counter : ℕ) (sender : Sender) (from : ℕ) → column_of (bytes_from s counter sender from) ≡ further from (reach_hex_line most_digits (drop from s))
unfolding bytes_from
bytes_column s counter sender from = shown (line_end_at most_digits s from) ∙ end_column_lem most_digits s from
  where
    shown : (x : LineEnd) → column_of (line_by counter sender from x) ≡ end_column x
    shown (Ok n) = refl
    shown (Err c) = refl

sender_column : (s : List ℕ) (counter at : ℕ) → column_of (sender_from s counter at) ≡ further at (reach_sent (drop at s))
unfolding sender_from
sender_column s counter at =
    let e : at + 2 ≡ at + 1 + 1 = omega arith in
    choose (is_sender (get_or s at 0)) _ _ _ _
    (choose (eqb (get_or s (at + 1) 0) tab) _ _ _ _ (bytes_column s counter (sender_of (get_or s at 0)) (at + 2) ∙ ap (λ (k : ℕ). further k (reach_hex_line most_digits (drop k s))) e) refl
    ∙ sym (byte_at (λ b. eqb b tab) (reach_hex_line most_digits) (at + 1) s refl))
    refl
    ∙ sym (byte_at is_sender reach_tabbed at s refl)

line_column : (s : List ℕ) → column_of (line_of s) ≡ reach_row s
unfolding line_of number_of
line_column s =
    let part = number_part most_decimal largest in
    let c = last part no_digit s in
    let n : 0 + length_taken part no_digit s ≡ c.digits = sym (number_taken most_decimal largest no_digit s) in
    choose (ltb 0 c.digits) _ _ _ _
    (choose (eqb (get_or s c.digits 0) tab) _ _ _ _ (sender_column s c.value (c.digits + 1)) refl
    ∙ sym (byte_at (λ b. eqb b tab) reach_sent c.digits s refl))
    refl
    ∙ sym (sym (further_zero (reach_row s)) ∙ run_at part (reach_then (byte tab) false reach_sent) no_digit 0 s ∙ rw n)

-- ---- the claims

-- what the reader answers is right: a line is good, or the column is where its longest good beginning ends
pub line_right : (s : List ℕ) → Right Good s (column_of (line_of s))
line_right s = rw (line_column s) (same_right Good Row row_good good_row s (reach_row s) (row_right s))
