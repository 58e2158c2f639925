-- Every assembly that feeding reaches from the empty one holds 4,096 bytes, all zero when empty, and zero past those gathered.
-- Assumes nothing.
use mathlib.Core.Path.{◌≡◌, refl, sym, ap, ◌∙◌}
use mathlib.Core.Bool.{Bool, true, false}
use mathlib.Core.List.{List, [], ◌∷◌}
use Prim.Native.Nat.{ℕ, zero, suc, ◌+◌, ◌-◌, ◌≤◌, ◌<◌}
use native.Mathlib.Omega.{arith}
use borrow.Author.Tests.{ltb-false}
use lib.ListN.{length, drop, replicate, length-replicate}
use lib.Seq.{length-sets, drop-drop}
use Rattle.wire.proofs.Laws.{drop_sets}
use Rattle.message.specs.declared.FragmentHeader.{FragmentHeader}
use Rattle.message.specs.declared.FirstHeader.{FirstHeader}
use Rattle.assembler.specs.Assembly.{Step, zeros, assembly_of, empty, is_pending, refused, waiting, completed, grown, begun_progress, begun_bytes, step_of}
use Rattle.assembler.specs.Run.{Piece, run_of, Clean, Reached}
use Rattle.assembler.specs.declared.Assembly.{Assembly}
use Rattle.assembler.proofs.Laws.{Gathers}
use Rattle.assembler.proofs.View.{GatherView, refuses, waits, completes, StepView, bad, starts, joins, step_view}

drop_zeros : (n k m : ℕ) → m ≡ k - n → drop n (replicate {A = ℕ} k 0) ≡ replicate m 0
drop_zeros zero k m e = let f : k ≡ m = omega arith in ap (λ (j : ℕ). replicate j 0) f
drop_zeros (suc n) zero m e = let f : 0 ≡ m = omega arith in ap (λ (j : ℕ). replicate j 0) f
drop_zeros (suc n) (suc k) m e = drop_zeros n k m (omega arith)

pub clean_empty : Clean empty
unfolding empty
clean_empty = record { whole = length-replicate {A = ℕ} 4096 0; past = drop_zeros 0 4096 4096 refl; idle = λ e. refl }

-- over an empty assembly the buffer is zero already, over an unfinished message it is cleared
pub begun_zeros : (a : Assembly) → Clean a → begun_bytes (is_pending a.progress) a.bytes ≡ zeros
unfolding begun_bytes empty
begun_zeros a C = go (is_pending a.progress) refl
  where
    go : (b : Bool) → is_pending a.progress ≡ b → begun_bytes b a.bytes ≡ zeros
    go true e = refl
    go false e = ap (λ (x : Assembly). x.bytes) (C.idle (let l : a.progress.total ≤ 0 = ltb-false 0 a.progress.total e in omega arith))

clean_begun : (a : Assembly) (h : FragmentHeader) (f : FirstHeader) → Clean a → 0 < h.total
    → Clean (assembly_of (begun_progress h f) (begun_bytes (is_pending a.progress) a.bytes))
clean_begun a h f C some = record {
  whole = ap length (begun_zeros a C) ∙ length-replicate {A = ℕ} 4096 0;
  past = ap (drop 0) (begun_zeros a C) ∙ drop_zeros 0 4096 4096 refl;
  idle = λ e. absurd (omega arith);
}

clean_grown : (a : Assembly) (xs : List ℕ) → Clean a → Gathers a.progress xs → Clean (grown a xs)
unfolding grown
clean_grown a xs C G =
    let g = a.progress.gathered in
    let fits : g + length xs ≤ length a.bytes = omega (arith, C.whole, G.0) in
    record {
      whole = length-sets a.bytes g xs ∙ C.whole;
      past = drop_sets a.bytes xs g fits ∙ sym (drop-drop (length xs) g a.bytes) ∙ ap (drop (length xs)) C.past
          ∙ drop_zeros (length xs) (4096 - g) (4096 - (g + length xs)) (omega arith);
      idle = λ e. absurd (omega (arith, G.0));
    }

clean_gather : (a : Assembly) (xs : List ℕ) (d : Bool) (s : Step) → Clean a → Gathers a.progress xs → GatherView a xs d s → Clean s.assembly
unfolding refused waiting completed
clean_gather a xs d s C G (refuses r e) = rw e clean_empty
clean_gather a xs d s C G (waits e) = rw e (clean_grown a xs C G)
clean_gather a xs d s C G (completes last e) = rw e clean_empty

-- feeding keeps an assembly clean
pub clean_step : (a : Assembly) (p : List ℕ) (room : ℕ) → Clean a → Clean (step_of a p room).assembly
unfolding refused
clean_step a p room C = go (step_view a p room)
  where
    go : {s : Step} → StepView a s → Clean s.assembly
    go (bad r e) = rw e clean_empty
    go {s} (starts h f xs G v) = clean_gather _ xs _ s (clean_begun a h f C G.0.2) G v
    go {s} (joins xs G v) = clean_gather a xs _ s C G v

pub clean_run : (a : Assembly) (ps : List Piece) → Clean a → Clean (run_of a ps).end
unfolding run_of
clean_run a [] C = C
clean_run a (p ∷ ps) C = clean_run (step_of a p.bytes p.room).assembly ps (clean_step a p.bytes p.room C)

-- whatever is fed from the empty assembly
pub reached : Reached
reached ps = clean_run empty ps clean_empty
