-- What a call that stores into lent memory gives: a verdict, and the memory after it. Too little memory is 11 at the bytes needed, and stays as it was.
use Rattle.std.specs.Prelude.{ℕ, cond, List, ltb, length, Err}
use Rattle.std.proofs.lemmas.List.Edits.{sets}
use Rattle.protocol.specs.Refusal.{refusal, output_too_small}
use Rattle.protocol.specs.declared.Refusal.{Refusal}
use Rattle.protocol.specs.Verdict.{no_fault, Verdict}

pub record Stored : Type 0 where
  pub verdict : Verdict
  pub memory : List ℕ

abbrev pub unstored : Refusal → List ℕ → Stored
unstored r m = record { verdict = Err r; memory = m }

-- the bytes at the front of memory that has room for so many
abbrev pub stored : ℕ → List ℕ → List ℕ → Stored
stored size bytes m = cond (ltb (length m) size) (unstored (refusal output_too_small size) m) record { verdict = no_fault; memory = sets m 0 bytes }
