-- What is claimed of whole messages beside the promises. Proved in proofs/Written.
use Rattle.std.specs.Prelude.{ℕ, ◌^◌, ◌<◌, ◌≡◌, cond, List, eqb, take}
use Rattle.protocol.specs.MessageType.{CLOSE}
use Rattle.message.specs.Message.{whole_of, write_whole_of}
use Rattle.std.specs.Prelude.{Ok}

-- what the judge accepts of a message that was written is what was written; CLOSE has no number
abbrev pub WholeBack : Type 0
WholeBack = (t transaction word : ℕ) → t < 2 ^ 32 → transaction < 2 ^ 32 → word < 2 ^ 32 → (out : List ℕ) (n : ℕ)
    → (write_whole_of t transaction word out).answer ≡ Ok n
    → whole_of (take n (write_whole_of t transaction word out).output) ≡ Ok (record { message_type = t; transaction = transaction; word = (cond (eqb t CLOSE) 0 word) })
