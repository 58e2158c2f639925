-- The two claims of specs/Delivery.
-- Assumes nothing.
use mathlib.Core.Path.{◌≡◌, refl, sym, ap, ◌∙◌}
use mathlib.Core.List.{List, [], ◌∷◌, ◌++◌}
use Prim.Native.Nat.{ℕ, ◌-◌}
use native.Mathlib.Omega.{arith}
use lib.ListN.{length, take}
use Rattle.message.specs.Message.{first_length}
use Rattle.message.proofs.Headers.{place_most}
use Rattle.assembler.specs.Assembly.{zeros, empty, is_pending, step_of}
use Rattle.assembler.specs.Run.{Piece, seen_of, and_then, run_of}
use Rattle.assembler.specs.declared.Assembly.{Assembly}
use Rattle.assembler.proofs.Clean.{reached}
use Rattle.cutter.specs.Cut.{later_count, fragments_of, cut_of}
use Rattle.cutter.proofs.Whole.{count_holds, count_few}
use Rattle.exchange.specs.Messages.{parts, pieces, received}
use Rattle.exchange.specs.Delivery.{then_run, CutInto, Delivered, passed_on, Passed}
use Rattle.exchange.specs.Collected.{before, collected}
use Rattle.exchange.proofs.Passed.{collected_run, false_says}
use Rattle.assembler.specs.declared.Answer.TheVariants.{Pending}
use Rattle.message.specs.declared.MessageHeader.{MessageHeader}
use mathlib.Core.Bool.{Bool, false}
use Rattle.exchange.proofs.Runs.{all_run}
use Rattle.exchange.proofs.Sent.{sent, sent_parts}
use Rattle.std.specs.Prelude.{Ok}

-- a run is made of its parts
pub run_append : (a : Assembly) (ps qs : List Piece) → run_of a (ps ++ qs) ≡ then_run (run_of a ps) (run_of (run_of a ps).end qs)
unfolding run_of
run_append a [] qs = refl
run_append a (p ∷ ps) qs = ap (and_then (seen_of (step_of a p.bytes p.room))) (run_append (step_of a p.bytes p.room).assembly ps qs)

-- the fragments themselves, fed to an assembly that earlier pieces left
pub fragments_received : (m : MessageHeader) (size : ℕ) (information out : List ℕ) (count n : ℕ) → CutInto m size information out count n → (room : ℕ → ℕ) (earlier : List Piece)
    → run_of (run_of empty earlier).end (pieces room 0 (fragments_of m size information))
    ≡ received m information (is_pending (run_of empty earlier).end.progress) (room (count - 1)) (count - 1)
unfolding fragments_of
fragments_received m size information out count n C room earlier =
    let S = sent m size information out count n C.accepted in
    let a = (run_of empty earlier).end in
    let first = size - first_length m.message_type in
    let later = later_count first (size - 20) (length information) in
    let e : count - 1 ≡ later = omega (arith, S.counted) in
    let h = place_most m.message_type in
    all_run m C.width S.known S.word a (reached earlier).whole room first (size - 20) information later (omega (arith, S.low, S.high)) (omega (arith, S.low, S.high)) S.small
    (count_few first (size - 20) (length information) (omega (arith, S.low)) S.small)
    (count_holds first (size - 20) (length information) (omega (arith, S.low)) S.small)
    ∙ ap (λ (k : ℕ). received m information (is_pending a.progress) (room k) k) (sym e)

pub delivered : Delivered
delivered m size information out count n C room earlier =
    ap (λ (ps : List (List ℕ)). run_of empty (earlier ++ pieces room 0 ps)) (sent_parts m size information out count n (sent m size information out count n C.accepted))
    ∙ run_append empty earlier (pieces room 0 (fragments_of m size information))
    ∙ ap (then_run (run_of empty earlier)) (fragments_received m size information out count n C room earlier)

-- the same with one output for all parts
pub passed : Passed
passed m size information stream count n C earlier out =
    let a = (run_of empty earlier).end in
    ap (collected (before a.progress a.bytes out)) (sent_parts m size information stream count n (sent m size information stream count n C.accepted))
    ∙ collected_run m information (length out) (fragments_of m size information) (count - 1) 0 (is_pending a.progress) a (Ok (Pending false)) out refl
    (fragments_received m size information stream count n C (λ _. length out) earlier)

-- from the empty assembly nothing is dropped
pub passed_empty : (m : MessageHeader) (size : ℕ) (information stream : List ℕ) (count n : ℕ) → CutInto m size information stream count n → (out : List ℕ)
    → collected (before empty.progress zeros out) (parts count size (take n (cut_of m size information stream).output)) ≡ passed_on m information false out
unfolding run_of empty
passed_empty m size information stream count n C out =
    passed m size information stream count n C [] out ∙ ap (λ (d : Bool). passed_on m information d out) (false_says (count - 1))
