-- What is claimed of a trace's lines: which are good, and the column of a bad one. Proved in proofs/Exactly, LineCut in proofs/Cut.
use Rattle.std.specs.Prelude.{ℕ, ◌≤◌, ◌≡◌, ◌↔◌, List, take}
use Rattle.text_parts.specs.Parts.{Longest}
use Rattle.trace_line.specs.Good.{Good, GoodWith}
use Rattle.trace_line.specs.TraceLine.{line_of}
use Rattle.trace_line.specs.declared.Sender.{Sender}
use Rattle.std.specs.Prelude.{Ok, Err}

-- a line is read with these parts where it is good with them, and nowhere else
abbrev pub AcceptedExactly : Type 0
AcceptedExactly = (s : List ℕ) (counter : ℕ) (sender : Sender) (from n : ℕ) → (line_of s ≡ Ok (record { counter = counter; sender = sender; from = from; digits = n })) ↔ GoodWith s counter sender from n

-- "the first column, from 0, where no good line can go on or end": the length of the longest beginning that it shares with a good line
abbrev pub BadExactly : Type 0
BadExactly = (s : List ℕ) (c : ℕ) → (line_of s ≡ Err c) ↔ (Longest Good s c × (Good s → ⊥))

-- what is kept of a long line decides: no good line has more than 526 bytes
abbrev pub LineCut : Type 0
LineCut = (n : ℕ) (s : List ℕ) → 527 ≤ n → line_of (take n s) ≡ line_of s
