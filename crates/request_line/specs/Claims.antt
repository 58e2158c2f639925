-- What is claimed of request lines: which are accepted, and the column of a bad one. Proved in proofs/Exactly.
use Rattle.std.specs.Prelude.{ℕ, ◌↔◌, List, ◌≡◌}
use Rattle.request_line.specs.Good.{GoodWith, Good}
use Rattle.protocol.specs.declared.service.Kind.{Kind}
use Rattle.protocol.specs.declared.Version.{Version}
use Rattle.request_line.specs.Request.{request_of}
use Rattle.text_parts.specs.Parts.{Longest}
use Rattle.std.specs.Prelude.{Ok, Err}

-- accepted exactly where it is good, with the kind, the version and the digits that it is good with
abbrev pub AcceptedExactly : Type 0
AcceptedExactly = (s : List ℕ) (kind : Kind) (v : Version) (from n : ℕ) → (request_of s ≡ Ok (record { kind = kind; version = v; from = from; digits = n })) ↔ GoodWith s kind v from n

-- refused at c exactly where it is not good and c is the length of the longest beginning that it shares with a good line
abbrev pub BadExactly : Type 0
BadExactly = (s : List ℕ) (c : ℕ) → (request_of s ≡ Err c) ↔ (Longest Good s c × (Good s → ⊥))
