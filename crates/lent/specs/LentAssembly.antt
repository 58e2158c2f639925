-- The assembly in lent memory (document 01: "the assembly holds 4,096 bytes, all zero when empty"): 48 bytes of numbers, then the 4,096.
-- In this order: places; emptying; feeding; any received piece. Which numbers feeding from empty can have left stands in crate lent_progress.
use Rattle.std.specs.Prelude.{ℕ, ◌+◌, ◌-◌, ◌≤◌, ◌≡◌, true, false, cond, List, [], ◌++◌, ltb, length, take, drop, replicate, Ok, Err, Result}
use Rattle.std.proofs.lemmas.List.Edits.{sets}
use Rattle.wire.specs.Numbers.{u32_at, digits}
use Rattle.wire.specs.Output.{over}
use Rattle.protocol.specs.Refusal.{refusal, output_too_small}
use Rattle.protocol.specs.Service.{id_at, id_bytes}
use Rattle.protocol.specs.MessageType.{is_fragmented}
use Rattle.protocol.specs.declared.Refusal.{Refusal}
use Rattle.message.specs.Message.{most_information, most_transfer, most_fragments, is_whole_piece}
use Rattle.message.specs.declared.MessageHeader.{MessageHeader}
use Rattle.assembler.specs.Assembly.{assembly_of, Step, step_of}
use Rattle.assembler.specs.declared.Progress.{Progress}
use Rattle.assembler.specs.declared.Assembly.{Assembly}
use Rattle.assembler.specs.declared.Answer.{Answer}
use Rattle.assembler.specs.Door.{whole_shown, fed_shown}
use Rattle.assembler.specs.declared.door.Received.{Received}
use Rattle.lent_progress.specs.LentProgress.{stray_word, progress_verdict}
use Rattle.lent.specs.Stored.{Stored, unstored}
use Rattle.protocol.specs.Verdict.{no_fault, Verdict}

-- ---- places

abbrev pub assembly_size : ℕ
assembly_size = 4144

-- type 0, transaction 4, service 8, CID 24, word 28
unfoldable pub message_in : List ℕ → MessageHeader
message_in m = record {
  message_type = u32_at m 0;
  transaction = u32_at m 4;
  service = id_at m 8;
  cid = u32_at m 24;
  word = u32_at m 28;
}

-- total 32, expected number 36, declared information 40, gathered 44
unfoldable pub progress_in : List ℕ → Progress
progress_in m = record {
  message = message_in m;
  total = u32_at m 32;
  next = u32_at m 36;
  information_length = u32_at m 40;
  gathered = u32_at m 44;
}

-- the buffer from 48 on
abbrev pub buffer_in : List ℕ → List ℕ
buffer_in m = take 4096 (drop 48 m)

abbrev pub assembly_in : List ℕ → Assembly
assembly_in m = assembly_of (progress_in m) (buffer_in m)

unfoldable pub message_bytes : MessageHeader → List ℕ
message_bytes h =
    digits 4 h.message_type ++ (digits 4 h.transaction ++ (id_bytes h.service ++ (digits 4 h.cid ++ digits 4 h.word)))

unfoldable pub count_bytes : Progress → List ℕ
count_bytes p =
    digits 4 p.total ++ (digits 4 p.next ++ (digits 4 p.information_length ++ digits 4 p.gathered))

unfoldable pub progress_bytes : Progress → List ℕ
progress_bytes p = message_bytes p.message ++ count_bytes p

-- the numbers after a feed: where two fragments or more were taken, the message was there before
unfoldable pub changed_in : Progress → List ℕ → List ℕ
changed_in p m = cond (ltb p.next 2) (sets m 0 (progress_bytes p)) (sets m 32 (count_bytes p))

-- the memory that holds an assembly; what is lent past its end stays as it was
unfoldable pub held : Assembly → List ℕ → List ℕ
held a m = over (progress_bytes a.progress ++ a.bytes) m

-- ---- emptying

abbrev pub too_small : Refusal
too_small = refusal output_too_small assembly_size

-- 4,144 zeros
unfoldable pub cleared : List ℕ → List ℕ
cleared m = over (replicate assembly_size 0) m

unfoldable pub emptied : List ℕ → Stored
emptied m = cond (ltb (length m) assembly_size) (unstored too_small m) record { verdict = no_fault; memory = cleared m }

-- ---- feeding the piece s, with room for so many bytes in the output, in memory that has the room for an assembly

pub record Feeding : Type 0 where
  pub memory : List ℕ
  pub answer : Result Answer Refusal
  pub information : List ℕ

abbrev pub kept : Step → List ℕ → Feeding
kept x m = record { memory = held x.assembly m; answer = x.answer; information = x.information }

unfoldable pub kept_of : Progress → List ℕ → List ℕ → ℕ → Feeding
kept_of p m s room = kept (step_of (assembly_of p (buffer_in m)) s room) m

-- "a refused fragment leaves an empty assembly"
abbrev pub judged_in : Verdict → Progress → List ℕ → List ℕ → ℕ → Feeding
judged_in (Ok _) p m s room = kept_of p m s room
judged_in (Err r) p m s room = record { memory = cleared m; answer = Err r; information = [] }

unfoldable pub feed_in : List ℕ → List ℕ → ℕ → Feeding
feed_in m s room = judged_in (progress_verdict (progress_in m)) (progress_in m) m s room

-- ---- a later fragment s with which the message goes on that p tells of: neither is then judged rule by rule

-- it is a fragment with the header that the message waits for
pub record NextPiece (p : Progress) (s : List ℕ) : Type 0 where
  pub long : 20 ≤ length s
  pub short : length s ≤ most_transfer
  pub all : u32_at s 4 ≡ length s
  pub type : u32_at s 0 ≡ p.message.message_type
  pub transaction : u32_at s 8 ≡ p.message.transaction
  pub total : u32_at s 12 ≡ p.total
  pub number : u32_at s 16 ≡ p.next

-- two fragments or more came, and two or more are still to come
pub record Amid (p : Progress) : Type 0 where
  pub known : is_fragmented p.message.message_type ≡ true
  pub word : stray_word p.message ≡ false
  pub few : p.total ≤ most_fragments
  pub later : 2 ≤ p.next
  pub more : p.next + 2 ≤ p.total
  pub declared : p.information_length ≤ most_information

pub record GoesOn (p : Progress) (s : List ℕ) : Type 0 where
  pub piece : NextPiece p s
  pub message : Amid p
  pub within : p.gathered + (length s - 20) ≤ p.information_length

-- ---- any received piece: the room is judged, then a whole message, which leaves the memory as it was; any other piece is fed

pub record Receiving : Type 0 where
  pub memory : List ℕ
  pub received : Result Received Refusal
  pub information : List ℕ

abbrev pub untouched : List ℕ → (Result Received Refusal) → Receiving
untouched m x = record { memory = m; received = x; information = [] }

abbrev pub fed_in : List ℕ → Feeding → Receiving
fed_in s f = record { memory = f.memory; received = fed_shown s f.answer; information = f.information }

unfoldable pub receive_in : List ℕ → List ℕ → ℕ → Receiving
receive_in m s room =
    cond (ltb (length m) assembly_size) (untouched m (Err too_small))
    (cond (is_whole_piece s) (untouched m (whole_shown s)) (fed_in s (feed_in m s room)))
