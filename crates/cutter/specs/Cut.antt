-- The cutter (document 01, "Messages and fragments"): "as full as the transfer size allows, first fragment first, one after another".
-- In this order: the bytes of a fragment; the fragments of a message; the rules; what the cutter answers and leaves.
use Rattle.std.specs.Prelude.{ℕ, zero, suc, ◌+◌, ◌-◌, ◌/◌, Bool, cond, not, ◌||◌, List, [], ◌∷◌, ◌++◌, length, take, drop, ◌==◌, nat_lt}
use Rattle.wire.specs.Numbers.{digits}
use Rattle.wire.specs.Output.{over}
use Rattle.protocol.specs.Refusal.{unknown, too_long, outside_table, wrong_transfer_size}
use Rattle.protocol.specs.Verdict.{Rule, rule, judge, with_room}
use Rattle.protocol.specs.MessageType.{INDICATE_STATUS, is_fragmented}
use Rattle.protocol.specs.Service.{id_bytes}
use Rattle.message.specs.Message.{most_information, most_transfer, first_length, wrong_word}
use Rattle.message.specs.declared.MessageHeader.{MessageHeader}
use Rattle.cutter.specs.declared.Fragments.{Fragments}
use Rattle.std.specs.Prelude.{Ok, Err}
use Rattle.protocol.specs.Verdict.{no_fault}
use Rattle.protocol.specs.Verdict.{Verdict}
use Rattle.std.specs.Prelude.{Result}
use Rattle.protocol.specs.declared.Refusal.{Refusal}

-- ---- the bytes of a fragment

-- "type at 0, length at 4, transaction at 8", "total at 12, number at 16"
unfoldable pub header_bytes : MessageHeader → ℕ → ℕ → ℕ → List ℕ
header_bytes m n total number =
    digits 4 m.message_type ++ (digits 4 n ++ (digits 4 m.transaction ++ (digits 4 total ++ digits 4 number)))

-- a fragment that carries the bytes xs after the header
unfoldable pub fragment_bytes : MessageHeader → ℕ → ℕ → List ℕ → List ℕ
fragment_bytes m total number xs = header_bytes m (20 + length xs) total number ++ xs

-- a command's type or a reply's status; an indication has no such word
unfoldable pub word_bytes : MessageHeader → List ℕ
word_bytes m = cond (m.message_type == INDICATE_STATUS) [] (digits 4 m.word)

-- "the service at 20 and CID at 36", the word, and the length n of the information
unfoldable pub opening_bytes : MessageHeader → ℕ → List ℕ
opening_bytes m n = id_bytes m.service ++ (digits 4 m.cid ++ (word_bytes m ++ digits 4 n))

-- the first fragment of n bytes of information, of which it carries xs
unfoldable pub first_bytes : MessageHeader → ℕ → ℕ → List ℕ → List ℕ
first_bytes m total n xs = fragment_bytes m total 0 (opening_bytes m n ++ xs)

-- ---- the fragments of a message

-- how many fragments follow the first, where it carries up to `first` bytes of n and each other `each`
unfoldable pub later_count : ℕ → ℕ → ℕ → ℕ
later_count first each n = (n - first + (each - 1)) / each

-- the last `left` of `total` fragments, numbered from `number` on, of the information xs
unfoldable pub later_fragments : MessageHeader → ℕ → ℕ → ℕ → ℕ → List ℕ → List (List ℕ)
later_fragments m each total number zero xs = []
later_fragments m each total number (suc left) xs =
    fragment_bytes m total number (take each xs) ∷ later_fragments m each total (number + 1) left (drop each xs)

-- the first fragment and `later` others
unfoldable pub fragments_by : MessageHeader → ℕ → ℕ → ℕ → List ℕ → List (List ℕ)
fragments_by m first each later information =
    first_bytes m (1 + later) (length information) (take first information) ∷ later_fragments m each (1 + later) 1 later (drop first information)

-- all fragments at a transfer size
unfoldable pub fragments_of : MessageHeader → ℕ → List ℕ → List (List ℕ)
fragments_of m size information =
    fragments_by m (size - first_length m.message_type) (size - 20)
    (later_count (size - first_length m.message_type) (size - 20) (length information)) information

-- one after another
unfoldable pub joined : List (List ℕ) → List ℕ
joined [] = []
joined (p ∷ ps) = p ++ joined ps

-- ---- rules: "it judges 16, type 3, transaction (9 at 8 ..), command type 9 at 40, 5, 11"

abbrev pub least_transfer : ℕ
least_transfer = 64

unfoldable pub wrong_size : ℕ → Bool
wrong_size size = nat_lt size least_transfer || nat_lt most_transfer size

-- "0 for COMMAND or DONE, nonzero for INDICATE"
unfoldable pub wrong_transaction : MessageHeader → Bool
wrong_transaction m = cond (m.message_type == INDICATE_STATUS) (not (m.transaction == 0)) (m.transaction == 0)

abbrev pub message_rules : MessageHeader → ℕ → ℕ → List Rule
message_rules m size n =
    rule (wrong_size size) wrong_transfer_size 0
    ∷ rule (not (is_fragmented m.message_type)) unknown 0
    ∷ rule (wrong_transaction m) outside_table 8
    ∷ rule (wrong_word m) outside_table 40
    ∷ rule (nat_lt most_information n) too_long 0
    ∷ []

-- ---- what the cutter answers, and what the output s then holds

pub record Cut : Type 0 where
  pub answer : Result Fragments Refusal
  pub output : List ℕ

unfoldable pub cut_by : Verdict → List (List ℕ) → List ℕ → Cut
cut_by (Ok _) ps s = record { answer = Ok (record { count = (length ps); length = (length (joined ps)) }); output = over (joined ps) s }
cut_by (Err r) ps s = record { answer = Err r; output = s }

-- by the verdict on the message, then by the room for all its fragments
unfoldable pub cut_after : Verdict → MessageHeader → ℕ → List ℕ → List ℕ → Cut
cut_after v m size information s = cut_by (with_room v (joined (fragments_of m size information)) s) (fragments_of m size information) s

abbrev pub fitting_of : MessageHeader → ℕ → List ℕ → List ℕ → Cut
fitting_of m size information s = cut_after no_fault m size information s

unfoldable pub cut_of : MessageHeader → ℕ → List ℕ → List ℕ → Cut
cut_of m size information s = cut_after (judge (message_rules m size (length information))) m size information s
