-- What a feed can be, case by case: proofs about runs go by these cases and not by the tests.
-- Assumes nothing.
use mathlib.Core.Path.{◌≡◌, refl}
use mathlib.Core.Bool.{Bool, true, false, cond}
use mathlib.Core.List.{List}
use Prim.Native.Nat.{ℕ, ◌+◌}
use borrow.Author.Tests.{eqb-true}
use lib.Dec.{eqb, ltb}
use lib.ListN.{drop}
use Rattle.protocol.specs.Refusal.{refusal, output_too_small}
use Rattle.protocol.specs.declared.Refusal.{Refusal}
use Rattle.message.specs.declared.FragmentHeader.{FragmentHeader}
use Rattle.message.specs.declared.FirstHeader.{FirstHeader}
use Rattle.assembler.specs.Assembly.{Step, assembly_of, is_pending, refused, waiting, completed, grown, gather_of, begun_progress, begun_bytes, step_by, step_of}
use Rattle.assembler.specs.declared.Assembly.{Assembly}
use Rattle.assembler.specs.declared.Gathering.{Gathering}
use Rattle.assembler.proofs.Laws as judge
use Rattle.assembler.proofs.Laws.{Gathers, JudgedView, judged_view}
use Rattle.std.specs.Prelude.{Result}

-- the bytes xs joined a: the step is refused, waits, or completes
pub data GatherView (a : Assembly) (xs : List ℕ) (dropped : Bool) (s : Step) : Type 0 where
  refuses : (r : Refusal) → s ≡ refused r → GatherView a xs dropped s
  waits : s ≡ waiting (grown a xs) dropped → GatherView a xs dropped s
  completes : a.progress.next + 1 ≡ a.progress.total → s ≡ completed a xs dropped → GatherView a xs dropped s

pub gather_view : (a : Assembly) (xs : List ℕ) (dropped : Bool) (room : ℕ) → GatherView a xs dropped (gather_of a xs dropped room)
unfolding gather_of
gather_view a xs dropped room = go (eqb (a.progress.next + 1) a.progress.total) refl (ltb room a.progress.information_length)
  where
    go : (last : Bool) → eqb (a.progress.next + 1) a.progress.total ≡ last → (small : Bool) → GatherView a xs dropped (cond last (cond small (refused (refusal output_too_small a.progress.information_length)) (completed a xs dropped)) (waiting (grown a xs) dropped))
    go true e true = refuses _ refl
    go true e false = completes (eqb-true _ _ e) refl
    go false e small = waits refl

-- a piece is refused, begins a message, or joins the pending one
pub data StepView (a : Assembly) (s : Step) : Type 0 where
  bad : (r : Refusal) → s ≡ refused r → StepView a s
  starts : (h : FragmentHeader) (f : FirstHeader) (xs : List ℕ) → Gathers (begun_progress h f) xs
      → GatherView (assembly_of (begun_progress h f) (begun_bytes (is_pending a.progress) a.bytes)) xs (is_pending a.progress) s → StepView a s
  joins : (xs : List ℕ) → Gathers a.progress xs → GatherView a xs false s → StepView a s

pub step_view : (a : Assembly) (p : List ℕ) (room : ℕ) → StepView a (step_of a p room)
unfolding step_of step_by begun_bytes
step_view a p room = go (judged_view a.progress p)
  where
    go : {j : (Result Gathering Refusal)} → JudgedView a.progress p j → StepView a (step_by a.bytes p room j)
    go (judge.refuses r e) = rw e (bad r refl)
    go (judge.starts h f n e l g) = rw e (starts h f (drop n p) g (gather_view _ (drop n p) _ room))
    go (judge.joins n e l g) = rw e (joins (drop n p) g (gather_view a (drop n p) false room))
