-- What feeding leaves: no message, or one that is pending, whatever assembly was there before.
-- Assumes nothing.
use mathlib.Core.Path.{◌≡◌, refl, ap, ◌∙◌}
use mathlib.Core.Bool.{Bool, true, false, cond}
use mathlib.Core.List.{List, ◌++◌}
use Prim.Native.Nat.{ℕ, ◌+◌, ◌≤◌, ◌<◌}
use native.Mathlib.Omega.{arith}
use borrow.Author.Tests.{eqb-false, not-false}
use lib.Dec.{eqb, ltb}
use lib.ListN.{length, take, drop, length-drop, length-replicate}
use lib.Seq.{length-sets, length-take-le}
use Rattle.wire.specs.Numbers.{u32_at}
use Rattle.wire.specs.Output.{over}
use Rattle.protocol.specs.Refusal.{refusal, output_too_small}
use Rattle.protocol.specs.MessageType.{is_fragmented}
use Rattle.protocol.specs.Verdict.{judge}
use Rattle.protocol.proofs.Verdicts.{fits_kept}
use Rattle.message.specs.Message.{most_information, most_transfer, first_length, message_at, wrong_word}
use Rattle.message.specs.declared.MessageHeader.{MessageHeader}
use Rattle.message.specs.declared.FragmentHeader.{FragmentHeader}
use Rattle.message.specs.declared.FirstHeader.{FirstHeader}
use Rattle.message.specs.declared.Fragment.{Fragment}
use Rattle.message.proofs.Headers.{Accepted, Opened, FragmentView, refuses as no_fragment, opens, follows, fragment_view}
use Rattle.assembler.specs.Assembly.{assembly_of, empty, is_pending, refused, waiting, completed, grown, gather_of, begun_progress, begun_bytes, continues, join_rules, join_of, judged_by, judged_of, step_by, step_of}
use Rattle.assembler.specs.declared.Progress.{Progress}
use Rattle.assembler.specs.declared.Assembly.{Assembly}
use Rattle.assembler.specs.declared.Gathering.{Gathering}
use Rattle.assembler.proofs.Laws.{front_over, Gathers, brings, Continues, continues_says}
use Rattle.std.specs.Prelude.{Ok, Err}
use Rattle.protocol.specs.Verdict.{Verdict}
use Rattle.std.specs.Prelude.{Result}
use Rattle.protocol.specs.declared.Refusal.{Refusal}

-- a message that waits for its next fragment
pub record Waits (p : Progress) : Type 0 where
  pub known : is_fragmented p.message.message_type ≡ true
  pub few : p.total ≤ 128
  pub begun : 0 < p.next
  pub unfinished : p.next < p.total
  pub declared : p.information_length ≤ most_information
  pub within : p.gathered ≤ p.information_length

-- where a message comes from that waits after the piece s was fed to the assembly a: it began with the piece, which carries all that is gathered, or was there before
pub data From (a : Assembly) (s : List ℕ) (next gathered : ℕ) (m : MessageHeader) : Type 0 where
  begun : m ≡ message_at s → wrong_word m ≡ false → next ≡ 1 → first_length m.message_type + gathered ≤ most_transfer → From a s next gathered m
  joined : m ≡ a.progress.message → 1 < next → From a s next gathered m

pub data Left (a : Assembly) (s : List ℕ) (p : Progress) : Type 0 where
  nothing : p ≡ empty.progress → Left a s p
  pending : Waits p → From a s p.next p.gathered p.message → Left a s p

-- the progress q may gather the bytes xs of the piece s, and is of a message that may wait
record Ready (a : Assembly) (s xs : List ℕ) (q : Progress) : Type 0 where
  known : is_fragmented q.message.message_type ≡ true
  few : q.total ≤ 128
  from : From a s (q.next + 1) (q.gathered + length xs) q.message

gathers_left : (a : Assembly) (s bytes xs : List ℕ) (d : Bool) (room : ℕ) (q : Progress) → Ready a s xs q → Gathers q xs → Left a s (gather_of (assembly_of q bytes) xs d room).assembly.progress
unfolding gather_of refused waiting completed grown
gathers_left a s bytes xs d room q R G = go (eqb (q.next + 1) q.total) refl (ltb room q.information_length)
  where
    go : (last : Bool) → eqb (q.next + 1) q.total ≡ last → (small : Bool)
        → Left a s (cond last (cond small (refused (refusal output_too_small q.information_length)) (completed (assembly_of q bytes) xs d)) (waiting (grown (assembly_of q bytes) xs) d)).assembly.progress
    go true e true = nothing refl
    go true e false = nothing refl
    go false e small =
        let more : q.next + 1 ≡ q.total → ⊥ = eqb-false _ _ e in
        pending (record {
          known = R.known;
          few = R.few;
          begun = omega arith;
          unfinished = omega (arith, G.0.2);
          declared = G.0.1;
          within = G.0.0;
        }) R.from

begun_ready : (a : Assembly) (s : List ℕ) (h : FragmentHeader) (f : FirstHeader) → Accepted s h → Opened s f → Ready a s (drop (first_length h.message_type) s) (begun_progress h f)
unfolding message_at
begun_ready a s h f A O =
    let t : f.message.message_type ≡ u32_at s 0 = ap (λ (m : MessageHeader). m.message_type) O.message in
    let k : u32_at s 0 ≡ h.message_type = ap (λ (x : FragmentHeader). x.message_type) A.is in
    record {
      known = rw t A.known;
      few = A.few;
      from = begun O.message (rw O.message O.word) refl (rw (t, ← k) (simp length-drop (omega (arith, A.short, O.long))));
    }

joined_ready : (a : Assembly) (s xs : List ℕ) (h : FragmentHeader) → Accepted s h → (h.number ≡ 0 → ⊥) → Continues a.progress h → Ready a s xs a.progress
joined_ready a s xs h A later C = record {
  known = rw (C.type, ← A.is) A.known;
  few = omega (arith, A.few, C.total);
  from = joined refl (omega (arith, later, C.number));
}

ready : (a : Assembly) (s : List ℕ) (g : Gathering) → judged_of a.progress s ≡ Ok g → Ready a s (drop g.from s) g.progress
unfolding judged_of judged_by join_of
ready a s g = go (fragment_view s)
  where
    p : Progress
    p = a.progress

    joins : (h : FragmentHeader) → Accepted s h → (h.number ≡ 0 → ⊥) → (v : Verdict) → judge (join_rules p h (length s)) ≡ v → join_of v p ≡ Ok g → Ready a s (drop g.from s) g.progress
    joins h A later (Ok _) ev k =
        let same : record { progress = p; from = 20; dropped = false } ≡ g = cc in
        rw (← same) (joined_ready a s (drop 20 s) h A later (continues_says p h (not-false (continues p h) (fits_kept (join_rules p h (length s)) ev).0)))
    joins h A later (Err r) ev k = let z : ◌≡◌ {A = ℕ} 0 1 = cc in absurd (omega arith)

    go : {f : Result Fragment Refusal} → FragmentView s f → judged_by p (length s) f ≡ Ok g → Ready a s (drop g.from s) g.progress
    go (no_fragment r) k = let z : ◌≡◌ {A = ℕ} 0 1 = cc in absurd (omega arith)
    go (opens h f A z o) k =
        let same : record { progress = begun_progress h f; from = first_length h.message_type; dropped = is_pending p } ≡ g = cc in
        rw (← same) (begun_ready a s h f A o)
    go (follows h A z) k = joins h A z (judge (join_rules p h (length s))) refl k

pub left : (a : Assembly) (s : List ℕ) (room : ℕ) → Left a s (step_of a s room).assembly.progress
unfolding step_of step_by refused
left a s room = go (judged_of a.progress s) refl
  where
    go : (j : (Result Gathering Refusal)) → judged_of a.progress s ≡ j → Left a s (step_by a.bytes s room j).assembly.progress
    go (Err r) e = nothing refl
    go (Ok gathering) e = gathers_left a s (begun_bytes gathering.dropped a.bytes) (drop gathering.from s) gathering.dropped room gathering.progress (ready a s gathering e) (brings a.progress s gathering e).1

-- the buffer stays as long as it is
pub left_whole : (a : Assembly) (s : List ℕ) (room : ℕ) → length a.bytes ≡ 4096 → length (step_of a s room).assembly.bytes ≡ 4096
unfolding step_of step_by gather_of refused waiting completed grown begun_bytes empty
left_whole a s room whole = go (judged_of a.progress s)
  where
    begun : (d : Bool) → length (begun_bytes d a.bytes) ≡ 4096
    begun true = length-replicate {A = ℕ} 4096 0
    begun false = whole

    gathered : (q : Progress) (xs : List ℕ) (d last small : Bool)
        → length (cond last (cond small (refused (refusal output_too_small q.information_length)) (completed (assembly_of q (begun_bytes d a.bytes)) xs d)) (waiting (grown (assembly_of q (begun_bytes d a.bytes)) xs) d)).assembly.bytes ≡ 4096
    gathered q xs d true true = length-replicate {A = ℕ} 4096 0
    gathered q xs d true false = length-replicate {A = ℕ} 4096 0
    gathered q xs d false small = length-sets (begun_bytes d a.bytes) q.gathered xs ∙ begun d

    go : (j : (Result Gathering Refusal)) → length (step_by a.bytes s room j).assembly.bytes ≡ 4096
    go (Err r) = length-replicate {A = ℕ} 4096 0
    go (Ok gathering) = gathered gathering.progress (drop gathering.from s) gathering.dropped (eqb (gathering.progress.next + 1) gathering.progress.total) (ltb room gathering.progress.information_length)

-- and what is left of it stands before the rest of a longer one
pub lent_front : (p : Progress) (bytes s : List ℕ) (room : ℕ) {b : List ℕ} → 4096 ≤ length bytes → b ≡ (step_of (assembly_of p (take 4096 bytes)) s room).assembly.bytes
    → b ++ drop 4096 bytes ≡ over (step_of (assembly_of p (take 4096 bytes)) s room).assembly.bytes bytes
lent_front p bytes s room h e = front_over _ bytes e (left_whole (assembly_of p (take 4096 bytes)) s room (length-take-le 4096 bytes h))
