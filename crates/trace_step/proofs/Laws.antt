-- Laws of a step, each in the form that the code asks for.
-- Assumes nothing.
use Rattle.std.proofs.Common.{◌≡◌, ℕ, ◌+◌, ◌≤◌, List, [], ◌∷◌, ◌++◌, length, drop, refl, ap, arith, length-append, length-drop}
use Rattle.wire.specs.Output.{over}
use Rattle.wire.proofs.Laws.{take_over}
use Rattle.ascii.specs.Ascii.{tab, line_feed}
use Rattle.protocol.specs.declared.Version.{Version}
use Rattle.assembler.specs.declared.Assembly.{Assembly}
use Rattle.assembler.specs.declared.door.Received.{Received}
use Rattle.assembler.specs.declared.door.Received.TheVariants as received
use Rattle.assembler.specs.Door.{Delivered}
use Rattle.trace_line.specs.Good.{letter}
use Rattle.trace_line.specs.TraceLine.{line_of}
use Rattle.trace_line.specs.declared.Sender.{Sender}
use Rattle.trace_line.specs.declared.Sender.TheVariants.{Host, Device}
use Rattle.trace_line.proofs.Exactly.{accepted}
use Rattle.trace_step.specs.Step.{by_sender, version_after, version_from, Fronted, front_for, Held}
use Rattle.std.specs.Prelude.{Ok, Err, Result}
use Rattle.protocol.specs.declared.Refusal.{Refusal}

-- ---- a complete message's information is the front of the output

pub fronted : (x : (Result Received Refusal)) (information out : List ℕ) → Delivered x information (length out) → Fronted x (over information out)
unfolding over
fronted (Ok (received.Complete m n d)) information out h = rw (length-append information (drop (length information) out), length-drop (length information) out) (omega (arith, h.0, h.1))
fronted (Ok (received.Whole t x w)) information out h = tt
fronted (Ok (received.Pending t x d)) information out h = tt
fronted (Err r) information out h = tt

pub held : (x : (Result Received Refusal)) (information out : List ℕ) → Delivered x information (length out) → Held x information (over information out)
held (Ok (received.Complete m n d)) information out h = (fronted (Ok (received.Complete m n d)) information out h, take_over information out n h.0)
held (Ok (received.Whole t x w)) information out h = tt
held (Ok (received.Pending t x d)) information out h = tt
held (Err r) information out h = tt

pub same_version : (sender : Sender) (v : Version) (x : (Result Received Refusal)) (information out : List ℕ) → Delivered x information (length out)
    → version_after sender v x (front_for x (over information out)) ≡ version_after sender v x information
unfolding version_from
same_version sender v (Ok (received.Complete m n d)) information out h =
    ap (λ (s : List ℕ). version_after sender v (Ok (received.Complete m n d)) s) (take_over information out n h.0)
same_version sender v (Ok (received.Whole t x w)) information out h = refl
same_version sender v (Ok (received.Pending t x d)) information out h = refl
same_version sender v (Err r) information out h = refl

-- ---- of two assemblies the progress of the one for the sender

pub chosen_progress : (sender : Sender) (a b : Assembly) → by_sender sender a.progress b.progress ≡ (by_sender sender a b).progress
chosen_progress Host a b = refl
chosen_progress Device a b = refl

-- ---- the digits of a good line

-- they are all in the line, before its line feed, and an even number of at most 512
pub record Within (s : List ℕ) (from n : ℕ) : Type 0 where
  pub ends : from + n ≤ length s
  pub few : n ≤ 512

pub within : (s : List ℕ) (counter : ℕ) (sender : Sender) (from n : ℕ) → line_of s ≡ Ok (record { counter = counter; sender = sender; from = from; digits = n }) → Within s from n
within s counter sender from n e =
    let g = accepted s counter sender from n e in
    record { ends = omega (arith, ap length g.3, length-append g.0 (tab ∷ letter sender ∷ tab ∷ (g.1 ++ (line_feed ∷ []))), length-append g.1 (line_feed ∷ []), g.5, g.6); few = omega (arith, g.2.bytes.short, g.6) }
