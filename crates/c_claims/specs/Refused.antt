-- Which answers of the library are refusals.
use Rattle.std.specs.Prelude.{Bool, true, false, Result, Ok, Err}
use Rattle.protocol.specs.declared.Refusal.{Refusal}
use Rattle.stream.specs.declared.Said.{Said}
use Rattle.stream.specs.declared.Said.TheVariants as said

-- 'not listed', 'no reading' and 'no payload' are answers; a failed command or entry is answered with its status, and is no refusal
abbrev pub is_refused : {A : Type 0} → Result A Refusal → Bool
is_refused (Ok x) = false
is_refused (Err r) = true

-- a chunk of a stream: a piece still short is an answer
abbrev pub said_refused : Said → Bool
said_refused said.Nothing = false
said_refused (said.Piece x) = is_refused x
said_refused (said.Ended r) = true
said_refused (said.Refused r) = true
