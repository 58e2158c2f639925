-- What is claimed of the cutter beside its promise. Proved in proofs/Whole.
use Rattle.std.specs.Prelude.{ℕ, ◌≤◌, List, length}
use Rattle.message.specs.declared.MessageHeader.{MessageHeader}
use Rattle.cutter.specs.Cut.{fragments_of, joined}

-- the fragments of a message take at most 6,004 bytes together, at any transfer size
abbrev pub MostCut : Type 0
MostCut = (m : MessageHeader) (size : ℕ) (information : List ℕ) → 64 ≤ size → length information ≤ 4096 → length (joined (fragments_of m size information)) ≤ 6004
