-- The claim about whole runs: whatever was fed before, each piece with its own room, every message that the cutter accepts is received.
-- In this order: what is given; the claim with an output for each piece; the claim with one output. Proved in proofs/Delivered.
use Rattle.std.specs.Prelude.{ℕ, zero, suc, ◌-◌, Bool, false, ◌≡◌, List, ◌++◌, length, take}
use Rattle.message.specs.declared.MessageHeader.{MessageHeader}
use Rattle.assembler.specs.Assembly.{empty, is_pending}
use Rattle.assembler.specs.Run.{Piece, Run, run_of}
use Rattle.cutter.specs.Cut.{cut_of}
use Rattle.wire.specs.Output.{over}
use Rattle.exchange.specs.Messages.{OfWidth, parts, pieces, last_seen, received}
use Rattle.exchange.specs.Collected.{Collected, before, collected}
use Rattle.std.specs.Prelude.{Ok}

-- one run after another
abbrev pub then_run : Run → Run → Run
then_run r t = record { seen = r.seen ++ t.seen; end = t.end }

-- the cutter put `count` fragments into the first n bytes of its output
pub record CutInto (m : MessageHeader) (size : ℕ) (information out : List ℕ) (count n : ℕ) : Type 0 where
  pub width : OfWidth m
  pub accepted : (cut_of m size information out).answer ≡ Ok (record { count = count; length = n })

-- after any earlier pieces, fed from empty, the parts of the cutter's output complete the message at the last one, if that one has room for
-- the information, and leave the empty assembly
abbrev pub Delivered : Type 0
Delivered = (m : MessageHeader) (size : ℕ) (information out : List ℕ) (count n : ℕ) → CutInto m size information out count n → (room : ℕ → ℕ) (earlier : List Piece)
    → run_of empty (earlier ++ pieces room 0 (parts count size (take n (cut_of m size information out).output)))
    ≡ then_run (run_of empty earlier) (received m information (is_pending (run_of empty earlier).end.progress) (room (count - 1)) (count - 1))

-- a message in one part says itself whether another was dropped, one in several says so at its first part
abbrev pub last_says : ℕ → Bool → Bool
last_says zero dropped = dropped
last_says (suc n) dropped = false

-- what is left of the parts of a message in one output: the information and then what it held before, or 11 and all that it held before
abbrev pub passed_on : MessageHeader → List ℕ → Bool → List ℕ → Collected
passed_on m information dropped out = record {
  assembly = empty;
  answer = (last_seen m information dropped (length out)).answer;
  output = over (last_seen m information dropped (length out)).information out;
}

-- the same claim where all parts have one output
abbrev pub Passed : Type 0
Passed = (m : MessageHeader) (size : ℕ) (information stream : List ℕ) (count n : ℕ) → CutInto m size information stream count n → (earlier : List Piece) (out : List ℕ)
    → collected (before (run_of empty earlier).end.progress (run_of empty earlier).end.bytes out) (parts count size (take n (cut_of m size information stream).output))
    ≡ passed_on m information (last_says (count - 1) (is_pending (run_of empty earlier).end.progress)) out
