-- A whole trace: the fold of the step over its lines, each from what the one before left. What is claimed of it is proved in proofs/Runs and proofs/Cut.
-- In this order: the run; its good lines; the pieces of one sender; the claim.
use Rattle.std.specs.Prelude.{◌≡◌, ℕ, ◌/◌, ◌≤◌, List, [], ◌∷◌, take, drop}
use Rattle.ascii.specs.Ascii.{unhexed}
use Rattle.protocol.specs.declared.Version.{Version}
use Rattle.message.specs.Message.{most_information}
use Rattle.assembler.specs.Run.{Piece as Fed}
use Rattle.assembler.specs.Door.{Seen, receive_all}
use Rattle.trace_line.specs.TraceLine.{line_of}
use Rattle.trace_line.specs.declared.Sender.{Sender}
use Rattle.trace_line.specs.declared.Sender.TheVariants.{Host, Device}
use Rattle.trace_line.specs.declared.Line.{Line}
use Rattle.trace_step.specs.Step.{State, Step, own_of, elapsed_of, version_from, step_of}
use Rattle.trace_step.specs.declared.Piece.{Piece}
use Rattle.std.specs.Prelude.{Some}
use Rattle.trace_step.specs.Step.{Previous}
use Rattle.std.specs.Prelude.{Ok, Err, Result}
use Rattle.protocol.specs.declared.Refusal.{Refusal}

-- ---- the run

-- what a line gives
pub record Answered : Type 0 where
  pub replayed : Result Piece Refusal
  pub information : List ℕ

abbrev pub answered_of : Step → Answered
answered_of x = record { replayed = x.replayed; information = x.information }

pub record Run : Type 0 where
  pub answers : List Answered
  pub end : State

abbrev pub and_then : Answered → Run → Run
and_then a r = record { answers = a ∷ r.answers; end = r.end }

unfoldable pub run_of : State → List (List ℕ) → Run
run_of s [] = record { answers = []; end = s }
run_of s (l ∷ ls) = and_then (answered_of (step_of s l)) (run_of (step_of s l).state ls)

-- ---- the good lines of a trace, and the answers to them

abbrev pub cons_if_good : (Result Line ℕ) → List ℕ → List (List ℕ) → List (List ℕ)
cons_if_good (Err c) l ls = ls
cons_if_good (Ok line) l ls = l ∷ ls

unfoldable pub good_lines : List (List ℕ) → List (List ℕ)
good_lines [] = []
good_lines (l ∷ ls) = cons_if_good (line_of l) l (good_lines ls)

abbrev pub cons_if_piece : (Result Piece Refusal) → Answered → List Answered → List Answered
cons_if_piece (Err r) a xs = xs
cons_if_piece (Ok piece) a xs = a ∷ xs

unfoldable pub good_answers : List Answered → List Answered
good_answers [] = []
good_answers (a ∷ xs) = cons_if_piece a.replayed a (good_answers xs)

-- ---- of one sender: its pieces, as the trace has them, and what the answers to them show

abbrev pub own : {A : Type 0} → Sender → Sender → A → List A → List A
own Host Host x xs = x ∷ xs
own Host Device x xs = xs
own Device Host x xs = xs
own Device Device x xs = x ∷ xs

abbrev pub cons_piece : Sender → List ℕ → (Result Line ℕ) → List Fed → List Fed
cons_piece who l (Err c) ps = ps
cons_piece who l (Ok line) ps = own who line.sender (record { bytes = unhexed (line.digits / 2) (take line.digits (drop line.from l)); room = most_information }) ps

unfoldable pub pieces_of : Sender → List (List ℕ) → List Fed
pieces_of who [] = []
pieces_of who (l ∷ ls) = cons_piece who l (line_of l) (pieces_of who ls)

abbrev pub cons_seen : Sender → Answered → (Result Piece Refusal) → List Seen → List Seen
cons_seen who a (Err r) ss = ss
cons_seen who a (Ok piece) ss = own who piece.sender (record { received = piece.received; information = a.information }) ss

unfoldable pub seen_by : Sender → List Answered → List Seen
seen_by who [] = []
seen_by who (a ∷ xs) = cons_seen who a a.replayed (seen_by who xs)

-- ---- elapsed milliseconds: those of the answers, and those of the trace's counters

abbrev pub cons_elapsed : (Result Piece Refusal) → List ℕ → List ℕ
cons_elapsed (Err r) es = es
cons_elapsed (Ok piece) es = piece.elapsed ∷ es

unfoldable pub elapsed_in : List Answered → List ℕ
elapsed_in [] = []
elapsed_in (a ∷ xs) = cons_elapsed a.replayed (elapsed_in xs)

abbrev pub cons_counter : (Result Line ℕ) → List ℕ → List ℕ
cons_counter (Err c) ns = ns
cons_counter (Ok line) ns = line.counter ∷ ns

unfoldable pub counters_of : List (List ℕ) → List ℕ
counters_of [] = []
counters_of (l ∷ ls) = cons_counter (line_of l) (counters_of ls)

unfoldable pub steps_from : Previous → List ℕ → List ℕ
steps_from p [] = []
steps_from p (n ∷ ns) = elapsed_of p n ∷ steps_from (Some n) ns

-- ---- the version after what was seen of D

unfoldable pub last_version : Version → List Seen → Version
last_version v [] = v
last_version v (x ∷ xs) = last_version (version_from v x.received x.information) xs

-- ---- the claim: of every trace, from any state

pub record EveryTrace (s : State) (ls : List (List ℕ)) : Type 0 where
  -- bad lines could be left out without changing any other line's answer, or the end
  pub answers : good_answers (run_of s ls).answers ≡ (run_of s (good_lines ls)).answers
  pub end : (run_of s ls).end ≡ (run_of s (good_lines ls)).end
  -- what a sender's lines show is what an assembler shows that gets its pieces and no others, and it is left as that one
  pub apart : (who : Sender)
      → (seen_by who (run_of s ls).answers ≡ (receive_all (own_of who s) (pieces_of who ls)).seen) × (own_of who (run_of s ls).end ≡ (receive_all (own_of who s) (pieces_of who ls)).end)
  -- each good line's milliseconds are those since the good line before it
  pub elapsed : elapsed_in (run_of s ls).answers ≡ steps_from s.previous (counters_of ls)
  -- D's replies, and nothing else, decide the version
  pub version : (run_of s ls).end.version ≡ last_version s.version (receive_all s.device (pieces_of Device ls)).seen

abbrev pub WholeTraces : Type 0
WholeTraces = (s : State) (ls : List (List ℕ)) → EveryTrace s ls

-- what is kept of a long line decides (proofs/Cut)
abbrev pub StepCut : Type 0
StepCut = (n : ℕ) (s : State) (text : List ℕ) → 527 ≤ n → step_of s (take n text) ≡ step_of s text
