-- Damage stays local in lent memory too (document 02, order 9): the two claims of exchange/specs/Damage, about pieces that memory receives once it was emptied. A run
-- of `run_in` is one of cvr_receive. Whole messages among the pieces don't reach the assembler: of the others, which are `fed`, the claims hold as by value.
-- Proved in proofs/DamageInMemory.
use Rattle.std.specs.Prelude.{ℕ, ◌≤◌, ◌≡◌, List, ◌++◌, length}
use Rattle.assembler.specs.Run.{Piece, Seen}
use Rattle.lent.specs.LentAssembly.{assembly_size, emptied}
use Rattle.exchange.specs.Damage.{CompletesOne, seen_after, OnlyItsFragments}
use Rattle.exchange.specs.Received.{fed, answers}
use Rattle.lent_claims.specs.AssemblyMemory.{AllBytes, MemoryRun, run_in}

-- the memory m, emptied, receives the pieces ps
abbrev pub received_in : List ℕ → List Piece → MemoryRun
received_in m ps = run_in (emptied m).memory ps

-- what is answered to those that are fed
abbrev pub answers_in : List ℕ → List Piece → List Seen
answers_in m ps = answers ps (received_in m ps).seen

-- the pieces of a message after earlier ones: the answers and the information of the message alone, apart from the note, and the memory that it leaves, byte for byte
pub record RecoveredIn (m : List ℕ) (earlier message : List Piece) : Type 0 where
  pub seen : answers_in m (earlier ++ message) ≡ seen_after (answers_in m earlier) (answers_in m message)
  pub memory : (received_in m (earlier ++ message)).memory ≡ (received_in m message).memory

abbrev pub MemoryRecovers : Type 0
MemoryRecovers = (m : List ℕ) → assembly_size ≤ length m → (earlier message : List Piece) → AllBytes earlier → AllBytes message
    → CompletesOne (answers_in m message) → RecoveredIn m earlier message

-- no message comes out but of its fragments
abbrev pub MemoryInventsNothing : Type 0
MemoryInventsNothing = (m : List ℕ) → assembly_size ≤ length m → (ps : List Piece) → AllBytes ps → OnlyItsFragments (fed ps) (answers_in m ps)
