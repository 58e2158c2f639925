-- What a range keeps to where its text is listed: inside the payload, and no longer than a text can be (proofs/Ranges).
use Rattle.std.specs.Prelude.{ℕ, ◌+◌, ◌≤◌, List, length}
use Rattle.pairs.specs.declared.Range.{Range}

pub record Listable (p : Range) (s : List ℕ) : Type 0 where
  pub within : p.start + p.length ≤ length s
  pub short : p.length ≤ 126
