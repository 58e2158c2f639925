-- Damage stays local (document 02, order 9): two claims about runs of the assembler, over any list of pieces, each with the room in its output, fed from empty.
-- A run is `run_of` in assembler/specs/Run, over the step `step_of` in assembler/specs/Assembly; it shows the answer and the information of each feed, and the end.
-- In this order: what an answer says; the first claim, with pieces that complete one message and the note that something was dropped; the second claim, with the
-- fragments that a message is made of. Proved in proofs/Recovered and proofs/Made. lent_claims/specs/DamageInMemory says both of the C functions.
use Rattle.std.specs.Prelude.{ℕ, ◌+◌, ◌≤◌, ◌<◌, ◌≡◌, Bool, true, false, cond, List, [], ◌∷◌, ◌++◌, map, eqb, length, get_or, take, drop}
use Rattle.wire.specs.Numbers.{u32_at}
use Rattle.protocol.specs.Verdict.{judge}
use Rattle.message.specs.Message.{header_at, header_rules, first_length, message_at}
use Rattle.message.specs.declared.MessageHeader.{MessageHeader}
use Rattle.cutter.specs.Cut.{joined}
use Rattle.assembler.specs.Assembly.{empty}
use Rattle.assembler.specs.Run.{Piece, Seen, run_of}
use Rattle.assembler.specs.declared.Answer.{Answer}
use Rattle.assembler.specs.declared.Answer.TheVariants.{Pending, Complete}
use Rattle.protocol.specs.Verdict.{no_fault}
use Rattle.std.specs.Prelude.{Ok, Err, Result}
use Rattle.protocol.specs.declared.Refusal.{Refusal}

-- ---- what an answer says: that more is to come, or that a message is complete

abbrev pub waits : (Result Answer Refusal) → Bool
waits (Ok (Pending dropped)) = true
waits (Ok (Complete m n dropped)) = false
waits (Err r) = false

abbrev pub completes : (Result Answer Refusal) → Bool
completes (Ok (Pending dropped)) = false
completes (Ok (Complete m n dropped)) = true
completes (Err r) = false

-- ---- "After any sequence of pieces fed to the assembler from empty, refused or not, the next message that an empty one would complete, fed in order from its
-- ---- first fragment, with room in the output, comes out as from an empty assembly, apart from the note that something was dropped."

-- pieces that complete one message, with their last and not before: each but the last waits
abbrev pub CompletesOne : List Seen → Type 0
CompletesOne [] = ⊥
CompletesOne (x ∷ []) = completes x.answer ≡ true
CompletesOne (x ∷ (y ∷ ys)) = (waits x.answer ≡ true) × CompletesOne (y ∷ ys)

-- the first of the answers with another note
abbrev pub with_note : Bool → (Result Answer Refusal) → Result Answer Refusal
with_note note (Ok (Pending dropped)) = Ok (Pending note)
with_note note (Ok (Complete m n dropped)) = Ok (Complete m n note)
with_note note (Err r) = Err r

abbrev pub first_noted : Bool → List Seen → List Seen
first_noted note [] = []
first_noted note (x ∷ xs) = record { answer = with_note note x.answer; information = x.information } ∷ xs

-- the last of the answers waits; where there is none, as it was before
unfoldable pub last_waits : Bool → List Seen → Bool
last_waits before [] = before
last_waits before (x ∷ xs) = last_waits (waits x.answer) xs

-- what is seen of earlier pieces and then of a message, of which an empty assembly shows `alone`: the note says that the piece before the message waits
abbrev pub seen_after : List Seen → List Seen → List Seen
seen_after earlier alone = earlier ++ first_noted (last_waits false earlier) alone

abbrev pub Recovers : Type 0
Recovers = (earlier message : List Piece) → CompletesOne (run_of empty message).seen
    → run_of empty (earlier ++ message) ≡ record { seen = seen_after (run_of empty earlier).seen (run_of empty message).seen; end = (run_of empty message).end }

-- ---- "in such a run no message comes out unless its fragments were fed one after the other, numbers 0 to total less 1, with nothing accepted or refused between,
-- ---- its information being exactly what they carried, joined"

-- the piece at a position of a run, and what its caller saw; positions count from 0
abbrev pub piece_at : List Piece → ℕ → List ℕ
piece_at ps i = (get_or ps i (record { bytes = []; room = 0 })).bytes

abbrev pub seen_at : List Seen → ℕ → Seen
seen_at seen i = get_or seen i (record { answer = Ok (Pending false); information = [] })

-- the piece s is fragment `number` of `total` of the message m: its header breaks no rule and says so
pub record FragmentOf (m : MessageHeader) (total number : ℕ) (s : List ℕ) : Type 0 where
  pub accepted : judge (header_rules s) ≡ no_fault
  pub says : header_at s ≡ record { message_type = m.message_type; transaction = m.transaction; total = total; number = number }

-- the information that a fragment carries: all behind its header, which is longer in the first one
unfoldable pub carried : List ℕ → List ℕ
carried s = drop (cond (eqb (u32_at s 16) 0) (first_length (u32_at s 0)) 20) s

-- what fragments carry, joined
abbrev pub all_carried : List Piece → List ℕ
all_carried ps = joined (map (λ (p : Piece). carried p.bytes) ps)

-- of the pieces ps, answered as in `seen`, those at `first` to `last` are all fragments of the message m, in order, and each but the last waited; m is the header
-- of the first one, and the n bytes of information are what they carry
pub record MadeOf (ps : List Piece) (seen : List Seen) (last : ℕ) (m : MessageHeader) (n : ℕ) : Type 0 where
  pub first : ℕ
  pub total : ℕ
  pub some : 1 ≤ total
  pub together : first + total ≡ last + 1
  pub fragments : (k : ℕ) → k < total → FragmentOf m total k (piece_at ps (first + k))
  pub waited : (k : ℕ) → k + 1 < total → waits (seen_at seen (first + k)).answer ≡ true
  pub header : m ≡ message_at (piece_at ps first)
  pub information : (seen_at seen last).information ≡ all_carried (take total (drop first ps))
  pub amount : length (seen_at seen last).information ≡ n

-- what comes out at a position, by the answer there: a message that is made of fragments, or nothing
abbrev pub ComesOut : List Piece → List Seen → ℕ → (Result Answer Refusal) → Type 0
ComesOut ps seen i (Ok (Complete m n dropped)) = MadeOf ps seen i m n
ComesOut ps seen i (Ok (Pending dropped)) = (seen_at seen i).information ≡ []
ComesOut ps seen i (Err r) = (seen_at seen i).information ≡ []

abbrev pub OnlyItsFragments : List Piece → List Seen → Type 0
OnlyItsFragments ps seen = (i : ℕ) → ComesOut ps seen i (seen_at seen i).answer

abbrev pub InventsNothing : Type 0
InventsNothing = (ps : List Piece) → OnlyItsFragments ps (run_of empty ps).seen
