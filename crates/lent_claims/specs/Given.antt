-- What any caller can give: numbers of their width, and bytes.
use Rattle.std.specs.Prelude.{ℕ, ◌<◌, ◌^◌, List, [], ◌∷◌, get_or}
use Rattle.message.specs.declared.MessageHeader.{MessageHeader}

abbrev pub WordsOfWidth : List ℕ → Type 0
WordsOfWidth [] = Unit
WordsOfWidth (x ∷ xs) = (x < 2 ^ 32) × WordsOfWidth xs

-- the numbers of a message's header
abbrev pub message_words : MessageHeader → List ℕ
message_words h =
    h.message_type ∷ h.transaction ∷ h.service.word0 ∷ h.service.word1 ∷ h.service.word2 ∷ h.service.word3 ∷ h.cid ∷ h.word ∷ []

-- a list of bytes
abbrev pub Bytes : List ℕ → Type 0
Bytes s = (i : ℕ) → get_or s i 0 < 256
