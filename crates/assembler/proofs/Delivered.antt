-- The information of a complete message is as long as its answer says, and has room.
-- Assumes nothing.
use mathlib.Core.Path.{◌≡◌, refl, ◌∙◌}
use mathlib.Core.Bool.{Bool, true, false, cond}
use mathlib.Core.List.{List}
use Prim.Native.Nat.{ℕ, ◌+◌}
use native.Mathlib.Omega.{arith}
use borrow.Author.Tests.{eqb-true, ltb-false}
use lib.Dec.{eqb, ltb}
use lib.ListN.{length, take, drop, length-append, length-replicate}
use lib.Seq.{length-take-le}
use Rattle.protocol.specs.Refusal.{refusal, output_too_small}
use Rattle.message.specs.Message.{whole_of}
use Rattle.message.specs.declared.Whole.{Whole}
use Rattle.assembler.specs.Assembly.{Step, assembly_of, is_pending, refused, waiting, completed, grown, gather_of, begun_bytes, step_by, step_of, Delivers}
use Rattle.assembler.specs.Door.{shown_by, whole_shown, fed_shown, Delivered}
use Rattle.assembler.specs.declared.Assembly.{Assembly}
use Rattle.assembler.specs.declared.Answer.{Answer}
use Rattle.assembler.specs.declared.Answer.TheVariants as answer
use Rattle.assembler.specs.declared.Gathering.{Gathering}
use Rattle.assembler.proofs.Laws.{Gathers, JudgedView, refuses, starts, joins, judged_view}
use Rattle.std.specs.Prelude.{Ok, Err, Result}
use Rattle.protocol.specs.declared.Refusal.{Refusal}

gather_delivers : (a : Assembly) (xs : List ℕ) (d : Bool) (room : ℕ) → length a.bytes ≡ 4096 → Gathers a.progress xs
    → Delivers (gather_of a xs d room).answer (gather_of a xs d room).information room
unfolding gather_of refused waiting completed
gather_delivers a xs d room w G = go (eqb (a.progress.next + 1) a.progress.total) (ltb room a.progress.information_length) refl refl
  where
    step : Bool → Bool → Step
    step last small = cond last (cond small (refused (refusal output_too_small a.progress.information_length)) (completed a xs d)) (waiting (grown a xs) d)

    go : (last small : Bool) → eqb (a.progress.next + 1) a.progress.total ≡ last → ltb room a.progress.information_length ≡ small
        → Delivers (step last small).answer (step last small).information room
    go true true p q = tt
    go true false p q =
        let l = length-take-le a.progress.gathered a.bytes (omega (arith, G.0.0, G.0.1)) in
        let k = G.1 (eqb-true (a.progress.next + 1) a.progress.total p) in
        (length-append (take a.progress.gathered a.bytes) xs ∙ omega (arith, l, k), ltb-false room a.progress.information_length q)
    go false small p q = tt

begun_whole : (t : Bool) (bytes : List ℕ) → length bytes ≡ 4096 → length (begun_bytes t bytes) ≡ 4096
unfolding begun_bytes
begun_whole true bytes w = length-replicate {A = ℕ} 4096 0
begun_whole false bytes w = w

pub step_delivers : (a : Assembly) (s : List ℕ) (room : ℕ) → length a.bytes ≡ 4096 → Delivers (step_of a s room).answer (step_of a s room).information room
unfolding step_of step_by refused
step_delivers a s room w = go (judged_view a.progress s)
  where
    go : {j : (Result Gathering Refusal)} → JudgedView a.progress s j → Delivers (step_by a.bytes s room j).answer (step_by a.bytes s room j).information room
    go (refuses r e) = rw e tt
    go (starts h f n e l G) = rw e (gather_delivers (assembly_of _ (begun_bytes (is_pending a.progress) a.bytes)) (drop n s) (is_pending a.progress) room (begun_whole (is_pending a.progress) a.bytes w) G)
    go (joins n e l G) = rw e (gather_delivers (assembly_of a.progress (begun_bytes false a.bytes)) (drop n s) false room (begun_whole false a.bytes w) G)

pub shown_delivers : (s : List ℕ) (x : (Result Answer Refusal)) (information : List ℕ) (room : ℕ) → Delivers x information room → Delivered (fed_shown s x) information room
unfolding fed_shown
shown_delivers s (Ok (answer.Complete m n d)) information room f = f
shown_delivers s (Ok (answer.Pending d)) information room f = tt
shown_delivers s (Err r) information room f = tt

whole_delivers : (x : (Result Whole Refusal)) (information : List ℕ) (room : ℕ) → Delivered (shown_by x) information room
whole_delivers (Ok message) information room = tt
whole_delivers (Err r) information room = tt

pub whole_delivered : (s information : List ℕ) (room : ℕ) → Delivered (whole_shown s) information room
unfolding whole_shown
whole_delivered s information room = whole_delivers (whole_of s) information room
