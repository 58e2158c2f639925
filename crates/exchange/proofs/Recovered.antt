-- After any pieces a message comes out as from an empty assembly: its first piece begins anew and leaves the same assembly, so that the rest of the run is the same.
-- Assumes nothing.
use mathlib.Core.Path.{◌≡◌, refl, sym, ap, ◌∙◌}
use mathlib.Core.Bool.{Bool, true, false, cond, true≢false}
use mathlib.Core.List.{List, [], ◌∷◌, ◌++◌}
use Prim.Native.Nat.{ℕ, ◌+◌, ◌<◌}
use native.Mathlib.Omega.{arith}
use borrow.Author.Tests.{lt-ltb, not-false}
use lib.Dec.{eqb, ltb}
use lib.ListN.{length, drop}
use Rattle.protocol.specs.Refusal.{refusal, output_too_small}
use Rattle.protocol.specs.Verdict.{judge}
use Rattle.protocol.specs.declared.Refusal.{Refusal}
use Rattle.protocol.proofs.Verdicts.{fits_kept}
use Rattle.message.specs.Message.{first_length, fragment_of}
use Rattle.message.specs.declared.FragmentHeader.{FragmentHeader}
use Rattle.message.specs.declared.Fragment.{Fragment}
use Rattle.message.proofs.Headers.{Accepted, FragmentView, refuses, opens, follows, fragment_view}
use Rattle.assembler.specs.Assembly.{Step, empty, assembly_of, is_pending, refused, waiting, completed, grown, gather_of, begun_progress, continues, join_rules, join_of, judged_by, judged_of, step_by, step_of}
use Rattle.assembler.specs.Run.{Piece, Seen, seen_of, and_then, run_of, Clean}
use Rattle.assembler.specs.declared.Assembly.{Assembly}
use Rattle.assembler.specs.declared.Answer.{Answer}
use Rattle.assembler.specs.declared.Answer.TheVariants.{Pending, Complete}
use Rattle.assembler.proofs.Laws.{Gathers, continues_says}
use Rattle.assembler.proofs.View.{GatherView, refuses as refuses_it, waits as waits_on, completes as completes_it, StepView, bad, starts, joins, step_view}
use Rattle.assembler.proofs.Clean.{clean_empty, begun_zeros, reached}
use Rattle.exchange.specs.Delivery.{then_run}
use Rattle.exchange.specs.Damage.{waits, completes, CompletesOne, with_note, first_noted, last_waits, Recovers}
use Rattle.exchange.proofs.Delivered.{run_append}
use Rattle.std.specs.Prelude.{Ok, Err}
use Rattle.protocol.specs.Verdict.{Verdict}
use Rattle.std.specs.Prelude.{Result}

-- ---- a message is unfinished exactly where the last answer waits

pending_gather : (a : Assembly) (xs : List ℕ) (d : Bool) (s : Step) → Gathers a.progress xs → GatherView a xs d s → is_pending s.assembly.progress ≡ waits s.answer
unfolding refused waiting completed grown empty
pending_gather a xs d s G (refuses_it r e) = rw e refl
pending_gather a xs d s G (waits_on e) = let some : 0 < a.progress.total = omega (arith, G.0.2) in rw e (lt-ltb 0 a.progress.total some)
pending_gather a xs d s G (completes_it last e) = rw e refl

pending_step : (a : Assembly) (p : List ℕ) (room : ℕ) → is_pending (step_of a p room).assembly.progress ≡ waits (step_of a p room).answer
unfolding refused empty
pending_step a p room = go (step_view a p room)
  where
    go : {s : Step} → StepView a s → is_pending s.assembly.progress ≡ waits s.answer
    go (bad r e) = rw e refl
    go {s} (starts h f xs G v) = pending_gather _ xs _ s G v
    go {s} (joins xs G v) = pending_gather a xs _ s G v

pending_run : (ps : List Piece) (a : Assembly) → is_pending (run_of a ps).end.progress ≡ last_waits (is_pending a.progress) (run_of a ps).seen
unfolding run_of last_waits
pending_run [] a = refl
pending_run (p ∷ ps) a =
    pending_run ps (step_of a p.bytes p.room).assembly
    ∙ ap (λ (b : Bool). last_waits b (run_of (step_of a p.bytes p.room).assembly ps).seen) (pending_step a p.bytes p.room)

-- ---- the first piece

-- a step with another note
abbrev noted : Bool → Step → Step
noted d s = record { assembly = s.assembly; answer = with_note d s.answer; information = s.information }

-- the note is all that a gathered piece takes over from the assembly before
noted_gather : (a : Assembly) (xs : List ℕ) (d e : Bool) (room : ℕ) → gather_of a xs d room ≡ noted d (gather_of a xs e room)
unfolding gather_of refused waiting completed
noted_gather a xs d e room = go (eqb (a.progress.next + 1) a.progress.total) (ltb room a.progress.information_length)
  where
    go : (last small : Bool)
        → cond last (cond small (refused (refusal output_too_small a.progress.information_length)) (completed a xs d)) (waiting (grown a xs) d)
        ≡ noted d (cond last (cond small (refused (refusal output_too_small a.progress.information_length)) (completed a xs e)) (waiting (grown a xs) e))
    go true true = refl
    go true false = refl
    go false small = refl

abbrev is_refused : (Result Answer Refusal) → Bool
is_refused (Ok (Pending d)) = false
is_refused (Ok (Complete m n d)) = false
is_refused (Err r) = true

-- what can't be said of a refusal is said of an answer that is none
accepted : (says : (Result Answer Refusal) → Bool) → ((r : Refusal) → says (Err r) ≡ false) → (x : (Result Answer Refusal)) → says x ≡ true → is_refused x ≡ false
accepted says never (Ok (Pending d)) e = refl
accepted says never (Ok (Complete m n d)) e = refl
accepted says never (Err r) e = absurd (true≢false (sym e ∙ never r))

-- an empty assembly takes no later piece
stray : (s : List ℕ) (h : FragmentHeader) → Accepted s h → (v : Verdict) → judge (join_rules empty.progress h (length s)) ≡ v → (room : ℕ)
    → is_refused (step_by empty.bytes s room (join_of v empty.progress)).answer ≡ true
unfolding step_by join_of refused empty
stray s h A (Ok _) e room =
    let c = continues_says empty.progress h (not-false (continues empty.progress h) (fits_kept (join_rules empty.progress h (length s)) e).0) in
    absurd (omega (arith, c.total, A.some))
stray s h A (Err r) e room = refl

-- what an empty assembly doesn't refuse begins a message, whatever the assembly is
first_step : (a : Assembly) → Clean a → (s : List ℕ) (room : ℕ) → is_refused (step_of empty s room).answer ≡ false → step_of a s room ≡ noted (is_pending a.progress) (step_of empty s room)
unfolding step_of step_by judged_of judged_by refused
first_step a C s room = go (fragment_view s) refl
  where
    go : {f : (Result Fragment Refusal)} → FragmentView s f → fragment_of s ≡ f → is_refused (step_of empty s room).answer ≡ false → step_of a s room ≡ noted (is_pending a.progress) (step_of empty s room)
    go (refuses r) e q = let z : ◌≡◌ {A = ℕ} 0 1 = cc in absurd (omega arith)
    go (opens h f A n O) e q =
        let zeroed = begun_zeros a C ∙ sym (begun_zeros empty clean_empty) in
        rw e
        (ap (λ (b : List ℕ). gather_of (assembly_of (begun_progress h f) b) (drop (first_length h.message_type) s) (is_pending a.progress) room) zeroed
        ∙ noted_gather _ (drop (first_length h.message_type) s) (is_pending a.progress) (is_pending empty.progress) room)
    go (follows h A n) e q =
        let t = stray s h A (judge (join_rules empty.progress h (length s))) refl room in
        let z : ◌≡◌ {A = Bool} true false = cc in
        absurd (true≢false z)

-- ---- the whole run

-- nothing is unfinished in an empty assembly
idle : is_pending empty.progress ≡ false
unfolding empty
idle = refl

-- pieces that complete a message have a first one, which is not refused
accepted_first : (x : Seen) (xs : List Seen) → CompletesOne (x ∷ xs) → is_refused x.answer ≡ false
accepted_first x [] c = accepted completes (λ r. refl) x.answer c
accepted_first x (y ∷ ys) c = accepted waits (λ r. refl) x.answer c.0

-- a message fed to a clean assembly: all is as from empty, but the note of its first piece
from_first : (a : Assembly) → Clean a → (ps : List Piece) → CompletesOne (run_of empty ps).seen
    → run_of a ps ≡ record { seen = first_noted (is_pending a.progress) (run_of empty ps).seen; end = (run_of empty ps).end }
unfolding run_of
from_first a C [] c = absurd c
from_first a C (p ∷ ps) c =
    let s = step_of empty p.bytes p.room in
    let e = first_step a C p.bytes p.room (accepted_first (seen_of s) (run_of s.assembly ps).seen c) in
    λ i. and_then (seen_of (e i)) (run_of (e i).assembly ps)

pub recovers : Recovers
recovers earlier message c =
    let a = (run_of empty earlier).end in
    run_append empty earlier message
    ∙ ap (then_run (run_of empty earlier)) (from_first a (reached earlier) message c)
    ∙ ap (λ (d : Bool). record { seen = (run_of empty earlier).seen ++ first_noted d (run_of empty message).seen; end = (run_of empty message).end })
    (pending_run earlier empty ∙ ap (λ (d : Bool). last_waits d (run_of empty earlier).seen) idle)
