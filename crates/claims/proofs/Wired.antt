-- Over the wire every message that is sent arrives as it was sent.
-- Assumes nothing.
use mathlib.Core.Path.{◌≡◌, refl, ap, ◌∙◌}
use mathlib.Core.Logic.{◌⊎◌, inl, inr}
use mathlib.Core.Bool.{Bool, false}
use mathlib.Core.List.{List}
use Prim.Native.Nat.{ℕ, zero, suc, ◌-◌, ◌≤◌}
use native.Mathlib.Omega.{arith}
use borrow.Author.Tests.{le-ltb}
use lib.ListN.{length}
use Rattle.protocol.specs.MessageType.{COMMAND, COMMAND_DONE}
use Rattle.message.specs.declared.MessageHeader.{MessageHeader}
use Rattle.assembler.specs.Assembly.{empty, is_pending}
use Rattle.assembler.specs.Run.{Run, run_of}
use Rattle.cutter.specs.Cut.{fragments_of, joined}
use Rattle.cutter.proofs.Whole.{most_cut}
use Rattle.exchange.specs.Messages.{header_seen, pieces, received}
use Rattle.exchange.proofs.Delivered.{fragments_received}
use Rattle.exchange.proofs.Sent.{sent, sent_parts}
use Rattle.handshake_claims.specs.Run.{Message, sends}
use Rattle.claims.specs.Wire.{parts_by, last_arrived, arrives, Sendable, ArrivesWhole}
use Rattle.claims.proofs.Accepts.{HeaderKept, numbered_kept, kept_accepted}

header_kept : (m : Message) → Sendable m → HeaderKept m.header
header_kept m s = numbered_kept m.header s.kind s.numbered s.word

-- neither a COMMAND nor a COMMAND_DONE loses its word
same_header : (h : MessageHeader) → (h.message_type ≡ COMMAND) ⊎ (h.message_type ≡ COMMAND_DONE) → header_seen h ≡ h
unfolding header_seen
same_header h (inl e) = rw e refl
same_header h (inr e) = rw e refl

-- the last of the pieces that a message is received in shows it
last_received : (h : MessageHeader) (s : List ℕ) (d : Bool) (room n : ℕ) → length s ≤ room → last_arrived (received h s d room n).seen ≡ sends (record { header = header_seen h; information = s })
unfolding received
last_received h s d room zero l = rw (le-ltb room (length s) l)
last_received h s d room (suc zero) l = rw (le-ltb room (length s) l)
last_received h s d room (suc (suc n)) l = last_received h s false room (suc n) l

pub arrives_whole : ArrivesWhole
unfolding arrives parts_by
arrives_whole w o m s =
    let h = m.header in
    let x = m.information in
    let k = length (fragments_of h w.size x) in
    let l = length (joined (fragments_of h w.size x)) in
    let a = kept_accepted h w.size x w.stream (header_kept m s) o.low o.high s.few (omega (arith, most_cut h w.size x o.low s.few, o.long)) in
    let e = sent_parts h w.size x w.stream k l (sent h w.size x w.stream k l a) in
    let r = fragments_received h w.size x w.stream k l (record { width = s.width; accepted = a }) w.room w.earlier in
    rw a (ap (λ (ps : List (List ℕ)). last_arrived (run_of (run_of empty w.earlier).end (pieces w.room 0 ps)).seen) e
    ∙ ap (λ (y : Run). last_arrived y.seen) r
    ∙ last_received h x (is_pending (run_of empty w.earlier).end.progress) (w.room (k - 1)) (k - 1) (omega (arith, o.wide (k - 1), s.few))
    ∙ ap (λ (y : MessageHeader). sends (record { header = y; information = x })) (same_header h s.kind))
