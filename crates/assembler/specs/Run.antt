-- A run of the assembler: "each feed gets the assembly .. as the one before left it, changed by nothing else".
-- In this order: pieces, each with the room in the output; what a caller sees of each feed, and the assembly at the end; clean assemblies.
use Rattle.std.specs.Prelude.{ℕ, ◌-◌, ◌≡◌, List, [], ◌∷◌, length, drop, replicate}
use Rattle.assembler.specs.Assembly.{Step, empty, step_of}
use Rattle.assembler.specs.declared.Assembly.{Assembly}
use Rattle.assembler.specs.declared.Answer.{Answer}
use Rattle.std.specs.Prelude.{Result}
use Rattle.protocol.specs.declared.Refusal.{Refusal}

pub record Piece : Type 0 where
  pub bytes : List ℕ
  pub room : ℕ

pub record Seen : Type 0 where
  pub answer : Result Answer Refusal
  pub information : List ℕ

abbrev pub seen_of : Step → Seen
seen_of s = record { answer = s.answer; information = s.information }

pub record Run : Type 0 where
  pub seen : List Seen
  pub end : Assembly

abbrev pub and_then : Seen → Run → Run
and_then s r = record { seen = s ∷ r.seen; end = r.end }

unfoldable pub run_of : Assembly → List Piece → Run
run_of a [] = record { seen = []; end = a }
run_of a (p ∷ ps) = and_then (seen_of (step_of a p.bytes p.room)) (run_of (step_of a p.bytes p.room).assembly ps)

-- "holds 4,096 bytes, all zero when empty, and zero past those gathered"
pub record Clean (a : Assembly) : Type 0 where
  pub whole : length a.bytes ≡ 4096
  pub past : drop a.progress.gathered a.bytes ≡ replicate (4096 - a.progress.gathered) 0
  pub idle : a.progress.total ≡ 0 → a ≡ empty

-- whatever is fed from the empty assembly
abbrev pub Reached : Type 0
Reached = (ps : List Piece) → Clean (run_of empty ps).end
