-- Messages and fragments (document 01, "Messages and fragments"): "type at 0, length at 4, transaction at 8".
-- In this order: limits; whole messages, judged and written; the header of every fragment; the header of a first fragment; one fragment.
use Rattle.std.specs.Prelude.{ℕ, ◌+◌, ◌-◌, Bool, not, cond, ◌&&◌, ◌||◌, List, [], ◌∷◌, ◌++◌, ltb, leb, eqb, length}
use Rattle.wire.specs.Numbers.{u32_at, digits}
use Rattle.protocol.specs.Refusal.{too_short, wrong_length, unknown, wrong_fragment, too_long, outside_table, wrong_transfer_size}
use Rattle.protocol.specs.Verdict.{Rule, rule, judge, Writing, writing}
use Rattle.protocol.specs.MessageType.{CLOSE, COMMAND, INDICATE_STATUS, is_whole, is_fragmented}
use Rattle.protocol.specs.Service.{id_at}
use Rattle.message.specs.declared.Whole.{Whole}
use Rattle.message.specs.declared.FragmentHeader.{FragmentHeader}
use Rattle.message.specs.declared.MessageHeader.{MessageHeader}
use Rattle.message.specs.declared.FirstHeader.{FirstHeader}
use Rattle.message.specs.declared.Fragment.{Fragment}
use Rattle.message.specs.declared.Fragment.TheVariants as fragment
use Rattle.std.specs.Prelude.{Ok, Err}
use Rattle.protocol.specs.Verdict.{Verdict}
use Rattle.std.specs.Prelude.{Result}
use Rattle.protocol.specs.declared.Refusal.{Refusal}

-- the most information bytes of a message
abbrev pub most_information : ℕ
most_information = 4096

-- the most bytes of a fragment
abbrev pub most_transfer : ℕ
most_transfer = 4096

-- the most fragments of a message
abbrev pub most_fragments : ℕ
most_fragments = 128

abbrev pub Header : Type 0
Header = Result FragmentHeader Refusal

abbrev pub First : Type 0
First = Result FirstHeader Refusal

-- ---- whole messages

-- "exact length": CLOSE has 12 bytes, each other one 16
unfoldable pub whole_length : ℕ → ℕ
whole_length t = cond (eqb t CLOSE) 12 16

abbrev pub whole_rules : List ℕ → List Rule
whole_rules s =
    rule (ltb (length s) 12) too_short (length s)
    ∷ rule (not (eqb (u32_at s 4) (length s))) wrong_length 4
    ∷ rule (not (is_whole (u32_at s 0))) unknown 0
    ∷ rule (not (eqb (whole_length (u32_at s 0)) (length s))) wrong_length 4
    ∷ []

-- the one number of a whole message, at 12: OPEN's transfer size, a reply's status, an error's code; CLOSE has none
unfoldable pub whole_word_at : ℕ → List ℕ → ℕ
whole_word_at t s = cond (eqb t CLOSE) 0 (u32_at s 12)

unfoldable pub whole_by : Verdict → List ℕ → Result Whole Refusal
whole_by (Ok _) s = Ok (record { message_type = (u32_at s 0); transaction = (u32_at s 8); word = (whole_word_at (u32_at s 0) s) })
whole_by (Err r) s = Err r

unfoldable pub whole_of : List ℕ → Result Whole Refusal
whole_of s = whole_by (judge (whole_rules s)) s

-- its bytes: type, length, transaction and, but for CLOSE, its number
unfoldable pub head_bytes : ℕ → ℕ → List ℕ
head_bytes t transaction = digits 4 t ++ (digits 4 (whole_length t) ++ digits 4 transaction)

unfoldable pub whole_bytes : ℕ → ℕ → ℕ → List ℕ
whole_bytes t transaction word = head_bytes t transaction ++ cond (eqb t CLOSE) [] (digits 4 word)

-- what the writer gives: the type is judged, then the room
unfoldable pub write_whole_of : ℕ → ℕ → ℕ → List ℕ → Writing
write_whole_of t transaction word s = writing (judge (rule (not (is_whole t)) unknown 0 ∷ [])) (whole_bytes t transaction word) s

-- a piece is a whole message's by its type, as soon as the type's four bytes are there
unfoldable pub is_whole_piece : List ℕ → Bool
is_whole_piece s = not (ltb (length s) 4) && is_whole (u32_at s 0)

-- ---- the header of every fragment: "total at 12, number at 16 from 0"

abbrev pub header_at : List ℕ → FragmentHeader
header_at s = record { message_type = u32_at s 0; transaction = u32_at s 8; total = u32_at s 12; number = u32_at s 16 }

-- "total is 1 to 128"
unfoldable pub wrong_total : ℕ → Bool
wrong_total total = eqb total 0 || ltb most_fragments total

abbrev pub header_rules : List ℕ → List Rule
header_rules s =
    rule (ltb (length s) 20) too_short (length s)
    ∷ rule (not (eqb (u32_at s 4) (length s))) wrong_length 4
    ∷ rule (ltb most_transfer (length s)) wrong_transfer_size 4
    ∷ rule (not (is_fragmented (u32_at s 0))) unknown 0
    ∷ rule (wrong_total (u32_at s 12)) wrong_fragment 12
    ∷ rule (leb (u32_at s 12) (u32_at s 16)) wrong_fragment 16
    ∷ []

unfoldable pub header_by : Verdict → List ℕ → Header
header_by (Ok _) s = Ok (header_at s)
header_by (Err r) s = Err r

unfoldable pub header_of : List ℕ → Header
header_of s = header_by (judge (header_rules s)) s

-- ---- the header of a first fragment: "the service at 20 and CID at 36"

-- where the information length stands: at 44, for INDICATE at 40
unfoldable pub length_place : ℕ → ℕ
length_place t = cond (eqb t INDICATE_STATUS) 40 44

-- the bytes before the information
abbrev pub first_length : ℕ → ℕ
first_length t = length_place t + 4

-- a command's type or a reply's status stands at 40; INDICATE has no such word
unfoldable pub word_at : ℕ → List ℕ → ℕ
word_at t s = cond (eqb t INDICATE_STATUS) 0 (u32_at s 40)

unfoldable pub message_at : List ℕ → MessageHeader
message_at s = record {
  message_type = u32_at s 0;
  transaction = u32_at s 8;
  service = id_at s 20;
  cid = u32_at s 36;
  word = word_at (u32_at s 0) s;
}

-- the information that it declares, and how much of it it carries
abbrev pub declared_at : List ℕ → ℕ
declared_at s = u32_at s (length_place (u32_at s 0))

abbrev pub carried_by : List ℕ → ℕ
carried_by s = length s - first_length (u32_at s 0)

-- a command's type is 0, query, or 1, set
unfoldable pub wrong_word : MessageHeader → Bool
wrong_word m = eqb m.message_type COMMAND && ltb 1 m.word

-- "bytes above the declared, or unequal at the last fragment"
unfoldable pub wrong_amount : Bool → ℕ → ℕ → Bool
wrong_amount last gathered declared = ltb declared gathered || (last && not (eqb gathered declared))

abbrev pub first_rules : List ℕ → List Rule
first_rules s =
    rule (ltb (length s) (first_length (u32_at s 0))) too_short (length s)
    ∷ rule (wrong_word (message_at s)) outside_table 40
    ∷ rule (ltb most_information (declared_at s)) too_long (length_place (u32_at s 0))
    ∷ rule (wrong_amount (eqb (u32_at s 12) 1) (carried_by s) (declared_at s)) wrong_length (length_place (u32_at s 0))
    ∷ []

unfoldable pub first_by : Verdict → List ℕ → First
first_by (Ok _) s = Ok (record { message = message_at s; information_length = declared_at s })
first_by (Err r) s = Err r

unfoldable pub first_header_of : List ℕ → First
first_header_of s = first_by (judge (first_rules s)) s

-- ---- one fragment: "if the number is 0", also the header of a first one

unfoldable pub opened_by : FragmentHeader → First → Result Fragment Refusal
opened_by h (Ok f) = Ok (fragment.First h f)
opened_by h (Err r) = Err r

unfoldable pub fragment_by : List ℕ → Header → Result Fragment Refusal
fragment_by s (Ok h) = cond (eqb h.number 0) (opened_by h (first_header_of s)) (Ok (fragment.Later h))
fragment_by s (Err r) = Err r

unfoldable pub fragment_of : List ℕ → Result Fragment Refusal
fragment_of s = fragment_by s (header_of s)
