-- What is kept of a line decides: a line and its front of at least 527 bytes say the same.
-- Assumes nothing.
use mathlib.Core.Path.{◌≡◌, refl, ap}
use mathlib.Core.Bool.{Bool, true, false}
use mathlib.Core.List.{List}
use Prim.Native.Nat.{ℕ, ◌+◌, ◌≤◌}
use native.Mathlib.Omega.{arith}
use borrow.Author.Tests.{leb-true, leb-false}
use lib.Dec.{leb}
use lib.ListN.{length, take}
use lib.Seq.{get_or-take, take_all}
use Rattle.text_parts.proofs.Decimals.{number_few, number_cut}
use Rattle.text_parts.proofs.Ends.{end_cut}
use Rattle.trace_line.specs.Good.{most_decimal, largest, most_digits}
use Rattle.trace_line.specs.Claims.{LineCut}
use Rattle.trace_line.specs.TraceLine.{counter_of, line_by, bytes_from, sender_from, line_of}
use Rattle.trace_line.specs.declared.Sender.{Sender}

bytes_cut : (n : ℕ) (s : List ℕ) (counter : ℕ) (sender : Sender) (from : ℕ) → from ≤ 13 → 527 ≤ n → n ≤ length s
    → bytes_from (take n s) counter sender from ≡ bytes_from s counter sender from
unfolding bytes_from
bytes_cut n s counter sender from h l m = ap (line_by counter sender from) (end_cut most_digits from n s (omega arith) m)

sender_cut : (n : ℕ) (s : List ℕ) (counter at : ℕ) → at ≤ 11 → 527 ≤ n → n ≤ length s → sender_from (take n s) counter at ≡ sender_from s counter at
unfolding sender_from
sender_cut n s counter at h l m =
    rw (get_or-take n s at 0 (omega arith), get_or-take n s (at + 1) 0 (omega arith), bytes_cut n s counter _ (at + 2) (omega arith) l m)

long_cut : (n : ℕ) (s : List ℕ) → 527 ≤ n → n ≤ length s → line_of (take n s) ≡ line_of s
unfolding line_of
long_cut n s l m =
    let few = number_few most_decimal largest s in
    rw (number_cut most_decimal largest n s (omega arith), get_or-take n s (counter_of s).digits 0 (omega arith), sender_cut n s (counter_of s).value ((counter_of s).digits + 1) (omega arith) l m)

pub line_cut : LineCut
line_cut n s l = go (leb n (length s)) refl
  where
    go : (t : Bool) → leb n (length s) ≡ t → line_of (take n s) ≡ line_of s
    go true e = long_cut n s l (leb-true n (length s) e)
    go false e = let k : length s ≤ n = omega (arith, leb-false n (length s) e) in rw (take_all n s k)
