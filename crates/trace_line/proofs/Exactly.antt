-- A line is accepted exactly where it is good, with its parts; else the column is where its longest good beginning ends.
-- Assumes nothing.
use mathlib.Core.Path.{◌≡◌, refl, sym, ap, ◌∙◌}
use mathlib.Core.List.{List, [], ◌∷◌, ◌++◌}
use Prim.Native.Nat.{ℕ, ◌+◌}
use native.Mathlib.Omega.{arith}
use borrow.Author.Tests.{lt-ltb}
use lib.ListN.{length, drop}
use lib.Seq.{get_or-append_seam, get_or-append-add, drop-append-add}
use Rattle.ascii.specs.Ascii.{tab, line_feed, value_from}
use Rattle.text_parts.specs.Parts.{Longest}
use Rattle.text_parts.proofs.Parts.{longest_one}
use Rattle.text_parts.proofs.Decimals.{number_found}
use Rattle.text_parts.proofs.Ends.{end_found}
use Rattle.trace_line.specs.declared.Sender.{Sender}
use Rattle.trace_line.specs.declared.Sender.TheVariants.{Host, Device}
use Rattle.trace_line.specs.declared.Line.{Line}
use Rattle.trace_line.specs.Good.{letter, most_decimal, largest, most_digits, GoodParts, text_of, Good, GoodWith}
use Rattle.trace_line.specs.TraceLine.{sender_of, counter_of, line_by, bytes_from, sender_from, line_of}
use Rattle.trace_line.specs.Claims.{AcceptedExactly, BadExactly}
use Rattle.trace_line.proofs.Rows.{sender_letter, line_right}
use Rattle.std.specs.Prelude.{Ok, Err, Result}

-- ---- the parts of a good line are found

sender_of_letter : (x : Sender) → sender_of (letter x) ≡ x
sender_of_letter Host = refl
sender_of_letter Device = refl

module _ (d : List ℕ) (x : Sender) (h : List ℕ) (p : GoodParts d h) where
  counter_found : counter_of (text_of d x h) ≡ record { digits = length d; value = value_from 0 d }
  counter_found = number_found most_decimal largest d tab (letter x ∷ tab ∷ (h ++ (line_feed ∷ []))) p.counter refl

  rest : drop (length d + 3) (text_of d x h) ≡ h ++ (line_feed ∷ [])
  rest = drop-append-add d (tab ∷ letter x ∷ tab ∷ (h ++ (line_feed ∷ []))) 3

  bytes_found : (counter : ℕ) → bytes_from (text_of d x h) counter x (length d + 3) ≡ Ok (record { counter = counter; sender = x; from = (length d + 3); digits = (length h) })
  unfolding bytes_from
  bytes_found counter = ap (line_by counter x (length d + 3)) (end_found most_digits h p.bytes (text_of d x h) (length d + 3) rest)

  line_found : line_of (text_of d x h) ≡ Ok (record { counter = (value_from 0 d); sender = x; from = (length d + 3); digits = (length h) })
  unfolding line_of sender_from
  line_found =
      let e : length d + 1 + 2 ≡ length d + 3 = omega arith in
      let k : length d + 1 + 1 ≡ length d + 2 = omega arith in
      let u = tab ∷ letter x ∷ tab ∷ (h ++ (line_feed ∷ [])) in
      rw (counter_found, lt-ltb 0 (length d) p.counter.some, get_or-append_seam d tab (letter x ∷ tab ∷ (h ++ (line_feed ∷ []))) 0, get_or-append-add d u 1 0, sender_letter x, k, get_or-append-add d u 2 0, sender_of_letter x, e) (bytes_found (value_from 0 d))

-- ---- the claims

-- (1) accepted exactly: the answer is a line with these parts where the text is a good line with these parts, and nowhere else
pub accepted : (s : List ℕ) (counter : ℕ) (x : Sender) (from n : ℕ) → line_of s ≡ Ok (record { counter = counter; sender = x; from = from; digits = n }) → GoodWith s counter x from n
accepted s counter x from n e =
    let g : Good s = rw e at (line_right s) in
    let a : Line = record { counter = counter; sender = x; from = from; digits = n } in
    let b : Line = record { counter = value_from 0 g.0; sender = g.1; from = length g.0 + 3; digits = length g.2 } in
    let same : ◌≡◌ {A = Result Line ℕ} (Ok a) (Ok b) = sym e ∙ ap line_of g.4 ∙ line_found g.0 g.1 g.2 g.3 in
    let p : a ≡ b = cc in
    let k : g.1 ≡ x = sym (ap (λ (l : Line). l.sender) p) in
    (g.0, g.2, g.3, rw k at g.4, ap (λ (l : Line). l.counter) p, ap (λ (l : Line). l.from) p, ap (λ (l : Line). l.digits) p)

pub acceptable : (s : List ℕ) (counter : ℕ) (x : Sender) (from n : ℕ) → GoodWith s counter x from n → line_of s ≡ Ok (record { counter = counter; sender = x; from = from; digits = n })
acceptable s counter x from n g = rw (g.3, g.4, g.5, g.6) (line_found g.0 x g.1 g.2)

pub accepted_exactly : AcceptedExactly
accepted_exactly s counter x from n = (accepted s counter x from n, acceptable s counter x from n)

-- (2) the column: the first c bytes begin a good line and no more do, and the text is not a good line itself
pub bad_column : (s : List ℕ) (c : ℕ) → line_of s ≡ Err c → Longest Good s c × (Good s → ⊥)
bad_column s c e = rw e at (line_right s)

pub column_bad : (s : List ℕ) (c : ℕ) → Longest Good s c → (Good s → ⊥) → line_of s ≡ Err c
column_bad s c p never = go (line_of s) refl
  where
    go : (r : (Result Line ℕ)) → line_of s ≡ r → r ≡ Err c
    go (Ok line) e = absurd (never (rw e at (line_right s)))
    go (Err d) e = ap Err (longest_one Good s d c (bad_column s d e).0 p)

pub bad_exactly : BadExactly
bad_exactly s c = (bad_column s c, λ h. column_bad s c h.0 h.1)
