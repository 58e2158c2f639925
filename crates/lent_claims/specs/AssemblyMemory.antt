-- When lent memory holds an assembly (document 01: "each feed gets the assembly .. as the one before left it, changed by nothing else").
-- In this order: the numbers of an assembly, and which are taken; the memory that holds an assembly; a run in memory, and what is claimed of it.
use Rattle.std.specs.Prelude.{ℕ, ◌≤◌, ◌≡◌, List, [], ◌∷◌, length, Err}
use Rattle.protocol.specs.Refusal.{number_of, contradiction}
use Rattle.protocol.specs.declared.Refusal.{Refusal}
use Rattle.assembler.specs.Assembly.{empty, step_of}
use Rattle.assembler.specs.Run.{Piece, run_of}
use Rattle.assembler.specs.Door.{Seen, receive_all}
use Rattle.assembler.specs.declared.Progress.{Progress}
use Rattle.assembler.specs.declared.Assembly.{Assembly}
use Rattle.lent_progress.specs.LentProgress.{progress_verdict}
use Rattle.lent.specs.LentAssembly.{assembly_size, progress_in, buffer_in, emptied, Receiving, receive_in}
use Rattle.lent_claims.specs.Given.{WordsOfWidth, Bytes}
use Rattle.protocol.specs.Verdict.{no_fault}

-- the numbers of an assembly
abbrev pub words_of : Progress → List ℕ
words_of p =
    p.message.message_type ∷ p.message.transaction
    ∷ p.message.service.word0 ∷ p.message.service.word1 ∷ p.message.service.word2 ∷ p.message.service.word3
    ∷ p.message.cid ∷ p.message.word ∷ p.total ∷ p.next ∷ p.information_length ∷ p.gathered ∷ []

abbrev pub AllBytes : List Piece → Type 0
AllBytes [] = Unit
AllBytes (p ∷ ps) = Bytes p.bytes × AllBytes ps

-- numbers that feeding pieces of bytes from the empty assembly reaches
pub record NumbersReached (p : Progress) : Type 0 where
  pub pieces : List Piece
  pub given : AllBytes pieces
  pub end : (run_of empty pieces).end.progress ≡ p

-- they are the numbers that are taken; the bytes of the buffer are not looked at
abbrev pub NumbersTakenExactly : Type 0
NumbersTakenExactly = (p : Progress) → WordsOfWidth (words_of p) → (progress_verdict p ≡ no_fault → NumbersReached p) × (NumbersReached p → progress_verdict p ≡ no_fault)

-- a fault of the memory is told from one of the piece by its number: 10 is the memory's, and no piece meets it
pub record ToldApart : Type 0 where
  pub memory : (p : Progress) (r : Refusal) → progress_verdict p ≡ Err r → number_of r.reason ≡ number_of contradiction
  pub piece : (a : Assembly) (s : List ℕ) (room : ℕ) (r : Refusal) → (step_of a s room).answer ≡ Err r → number_of r.reason ≡ number_of contradiction → ⊥

-- ---- the memory m holds the assembly a, one that the next call takes

pub record Holds (m : List ℕ) (a : Assembly) : Type 0 where
  pub room : assembly_size ≤ length m
  pub numbers : progress_in m ≡ a.progress
  pub buffer : buffer_in m ≡ a.bytes
  pub fits : progress_verdict a.progress ≡ no_fault
  pub small : WordsOfWidth (words_of a.progress)

-- ---- a run in memory

abbrev pub seen_in : Receiving → Seen
seen_in f = record { received = f.received; information = f.information }

pub record MemoryRun : Type 0 where
  pub seen : List Seen
  pub memory : List ℕ

abbrev pub and_then_in : Receiving → MemoryRun → MemoryRun
and_then_in f r = record { seen = seen_in f ∷ r.seen; memory = r.memory }

unfoldable pub run_in : List ℕ → List Piece → MemoryRun
run_in m [] = record { seen = []; memory = m }
run_in m (p ∷ ps) = and_then_in (receive_in m p.bytes p.room) (run_in (receive_in m p.bytes p.room).memory ps)

-- whatever pieces emptied memory receives, each is answered as by value from the empty assembly, and the memory holds what that run leaves
pub record AsByValue (m : List ℕ) (ps : List Piece) : Type 0 where
  pub seen : (run_in (emptied m).memory ps).seen ≡ (receive_all empty ps).seen
  pub held : Holds (run_in (emptied m).memory ps).memory (receive_all empty ps).end

abbrev pub MemoryServes : Type 0
MemoryServes = (m : List ℕ) → assembly_size ≤ length m → (ps : List Piece) → AllBytes ps → AsByValue m ps
