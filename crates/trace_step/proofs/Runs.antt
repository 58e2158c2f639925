-- What holds of every trace: bad lines could be left out, the senders are apart, milliseconds go by the counters, and D's replies decide the version.
-- Assumes nothing.
use Rattle.std.proofs.Common.{◌≡◌, ℕ, ◌/◌, List, [], ◌∷◌, take, drop, refl, ap}
use Rattle.ascii.specs.Ascii.{unhexed}
use Rattle.message.specs.Message.{most_information}
use Rattle.assembler.specs.Door.{Seen, seen_of, receive_of, receive_all}
use Rattle.trace_line.specs.TraceLine.{line_of}
use Rattle.trace_line.specs.declared.Sender.{Sender}
use Rattle.trace_line.specs.declared.Sender.TheVariants.{Host, Device}
use Rattle.trace_line.specs.declared.Line.{Line}
use Rattle.trace_step.specs.Step.{State, own_of, elapsed_of, piece_step, step_by, step_of}
use Rattle.trace_step.specs.Run.{Answered, answered_of, run_of, good_lines, good_answers, pieces_of, seen_by, elapsed_in, counters_of, steps_from, last_version, WholeTraces}
use Rattle.std.specs.Prelude.{Ok, Err, Result}

-- ---- bad lines

bad_answers : (s : State) (ls : List (List ℕ)) → good_answers (run_of s ls).answers ≡ (run_of s (good_lines ls)).answers
unfolding run_of good_answers good_lines step_of step_by piece_step
bad_answers s [] = refl
bad_answers s (l ∷ ls) = go (line_of l) refl (bad_answers s ls) (λ t. bad_answers t ls)
  where
    go : (r : (Result Line ℕ)) → line_of l ≡ r → good_answers (run_of s ls).answers ≡ (run_of s (good_lines ls)).answers
        → ((t : State) → good_answers (run_of t ls).answers ≡ (run_of t (good_lines ls)).answers)
        → good_answers (run_of s (l ∷ ls)).answers ≡ (run_of s (good_lines (l ∷ ls))).answers
    go (Err c) e h k = rw e h
    go (Ok line) e h k = rw (e, e) (ap (λ (x : List Answered). answered_of (step_by s l (Ok line)) ∷ x) (k (step_by s l (Ok line)).state))

bad_end : (s : State) (ls : List (List ℕ)) → (run_of s ls).end ≡ (run_of s (good_lines ls)).end
unfolding run_of good_lines step_of step_by
bad_end s [] = refl
bad_end s (l ∷ ls) = go (line_of l) refl (bad_end s ls) (λ t. bad_end t ls)
  where
    go : (r : (Result Line ℕ)) → line_of l ≡ r → (run_of s ls).end ≡ (run_of s (good_lines ls)).end → ((t : State) → (run_of t ls).end ≡ (run_of t (good_lines ls)).end)
        → (run_of s (l ∷ ls)).end ≡ (run_of s (good_lines (l ∷ ls))).end
    go (Err c) e h k = rw e h
    go (Ok line) e h k = rw (e, e) (k (step_by s l (Ok line)).state)

-- ---- one sender

Apart : Sender → State → List (List ℕ) → Type 0
Apart who s ls =
    (seen_by who (run_of s ls).answers ≡ (receive_all (own_of who s) (pieces_of who ls)).seen) × (own_of who (run_of s ls).end ≡ (receive_all (own_of who s) (pieces_of who ls)).end)

apart : (who : Sender) (s : State) (ls : List (List ℕ)) → Apart who s ls
unfolding Apart run_of seen_by pieces_of receive_all step_of step_by piece_step
apart who s [] = (refl, refl)
apart who s (l ∷ ls) = go who (line_of l) refl (λ t. apart who t ls)
  where
    go : (x : Sender) (r : (Result Line ℕ)) → line_of l ≡ r → ((t : State) → Apart x t ls) → Apart x s (l ∷ ls)
    go x (Err c) e k = rw e (k s)
    go x (Ok line) e k = good x line.counter line.sender line.from line.digits e k
      where
        good : (x : Sender) (counter : ℕ) (sender : Sender) (from n : ℕ) → line_of l ≡ Ok (record { counter = counter; sender = sender; from = from; digits = n })
            → ((t : State) → Apart x t ls) → Apart x s (l ∷ ls)
        good Host counter Host from n e k = rw e (let h = k (step_by s l (Ok (record { counter = counter; sender = Host; from = from; digits = n }))).state in (ap (λ (q : List Seen). seen_of (receive_of (own_of Host s) (unhexed (n / 2) (take n (drop from l))) most_information) ∷ q) h.0, h.1))
        good Host counter Device from n e k = rw e (k (step_by s l (Ok (record { counter = counter; sender = Device; from = from; digits = n }))).state)
        good Device counter Host from n e k = rw e (k (step_by s l (Ok (record { counter = counter; sender = Host; from = from; digits = n }))).state)
        good Device counter Device from n e k = rw e (let h = k (step_by s l (Ok (record { counter = counter; sender = Device; from = from; digits = n }))).state in (ap (λ (q : List Seen). seen_of (receive_of (own_of Device s) (unhexed (n / 2) (take n (drop from l))) most_information) ∷ q) h.0, h.1))

-- ---- elapsed milliseconds

elapsed_steps : (s : State) (ls : List (List ℕ)) → elapsed_in (run_of s ls).answers ≡ steps_from s.previous (counters_of ls)
unfolding run_of elapsed_in counters_of steps_from step_of step_by piece_step
elapsed_steps s [] = refl
elapsed_steps s (l ∷ ls) = go (line_of l) refl (λ t. elapsed_steps t ls)
  where
    go : (r : (Result Line ℕ)) → line_of l ≡ r → ((t : State) → elapsed_in (run_of t ls).answers ≡ steps_from t.previous (counters_of ls))
        → elapsed_in (run_of s (l ∷ ls)).answers ≡ steps_from s.previous (counters_of (l ∷ ls))
    go (Err c) e k = rw e (k s)
    go (Ok line) e k = rw e (ap (λ (q : List ℕ). elapsed_of s.previous line.counter ∷ q) (k (step_by s l (Ok line)).state))

-- ---- the version

versions : (s : State) (ls : List (List ℕ)) → (run_of s ls).end.version ≡ last_version s.version (receive_all s.device (pieces_of Device ls)).seen
unfolding run_of pieces_of receive_all last_version step_of step_by piece_step
versions s [] = refl
versions s (l ∷ ls) = go (line_of l) refl (λ t. versions t ls)
  where
    go : (r : (Result Line ℕ)) → line_of l ≡ r → ((t : State) → (run_of t ls).end.version ≡ last_version t.version (receive_all t.device (pieces_of Device ls)).seen)
        → (run_of s (l ∷ ls)).end.version ≡ last_version s.version (receive_all s.device (pieces_of Device (l ∷ ls))).seen
    go (Err c) e k = rw e (k s)
    go (Ok line) e k = good line.counter line.sender line.from line.digits e k
      where
        good : (counter : ℕ) (sender : Sender) (from n : ℕ) → line_of l ≡ Ok (record { counter = counter; sender = sender; from = from; digits = n })
            → ((t : State) → (run_of t ls).end.version ≡ last_version t.version (receive_all t.device (pieces_of Device ls)).seen)
            → (run_of s (l ∷ ls)).end.version ≡ last_version s.version (receive_all s.device (pieces_of Device (l ∷ ls))).seen
        good counter Host from n e k = rw e (k (step_by s l (Ok (record { counter = counter; sender = Host; from = from; digits = n }))).state)
        good counter Device from n e k = rw e (k (step_by s l (Ok (record { counter = counter; sender = Device; from = from; digits = n }))).state)

pub whole_traces : WholeTraces
unfolding Apart
whole_traces s ls = record {
  answers = bad_answers s ls;
  end = bad_end s ls;
  apart = λ who. apart who s ls;
  elapsed = elapsed_steps s ls;
  version = versions s ls;
}
