-- The numbers of an assembly in lent memory: which of them feeding from empty can have left: no message, every number 0, or a pending one;
-- else 10 at the field's place. The bytes of the buffer are not looked at: those past the gathered ones are never shown.
use Rattle.std.specs.Prelude.{◌+◌, Bool, not, cond, ◌&&◌, List, [], ◌∷◌, ltb, leb, eqb}
use Rattle.protocol.specs.Refusal.{contradiction}
use Rattle.protocol.specs.Verdict.{Rule, rule, judge, Verdict}
use Rattle.protocol.specs.MessageType.{INDICATE_STATUS, is_fragmented}
use Rattle.message.specs.Message.{most_information, most_transfer, most_fragments, first_length, wrong_word}
use Rattle.message.specs.declared.MessageHeader.{MessageHeader}
use Rattle.assembler.specs.declared.Progress.{Progress}

-- numbers are 0 exactly when their sum is
unfoldable pub is_none : Progress → Bool
is_none p =
    let h = p.message in
    eqb (h.service.word0 + h.service.word1 + h.service.word2 + h.service.word3) 0
    && (eqb (h.message_type + h.transaction + h.cid + h.word) 0 && eqb (p.next + p.information_length + p.gathered) 0)

-- the word of a message that no first fragment has: an indication has none, and shows 0
unfoldable pub stray_word : MessageHeader → Bool
stray_word h = cond (eqb h.message_type INDICATE_STATUS) (not (eqb h.word 0)) (wrong_word h)

-- more than the one fragment that came can carry; two can carry any message's information
unfoldable pub above_carried : Progress → Bool
above_carried p = eqb p.next 1 && ltb most_transfer (first_length p.message.message_type + p.gathered)

abbrev pub pending_rules : Progress → List Rule
pending_rules p =
    rule (not (is_fragmented p.message.message_type)) contradiction 0
    ∷ rule (stray_word p.message) contradiction 28
    ∷ rule (ltb most_fragments p.total) contradiction 32
    ∷ rule (eqb p.next 0) contradiction 36
    ∷ rule (leb p.total p.next) contradiction 36
    ∷ rule (ltb most_information p.information_length) contradiction 40
    ∷ rule (ltb p.information_length p.gathered) contradiction 44
    ∷ rule (above_carried p) contradiction 44
    ∷ []

unfoldable pub progress_verdict : Progress → Verdict
progress_verdict p =
    cond (eqb p.total 0) (judge (rule (not (is_none p)) contradiction 32 ∷ [])) (judge (pending_rules p))
