-- The claims of order 9 in lent memory: by `memory_serves` each piece is answered as by value, and the memory is the same bytes wherever it holds the same assembly.
-- Assumes nothing.
use mathlib.Core.Path.{◌≡◌, refl, sym, ap, ◌∙◌, subst}
use mathlib.Core.Bool.{Bool, true, false, cond}
use mathlib.Core.List.{List, [], ◌∷◌, ◌++◌}
use Prim.Native.Nat.{ℕ, ◌≤◌}
use borrow.Author.Tests.{le-ltb}
use lib.ListN.{length, drop}
use lib.Seq.{drop_at}
use Rattle.wire.specs.Output.{over}
use Rattle.message.specs.Message.{is_whole_piece}
use Rattle.assembler.specs.Assembly.{empty, step_of}
use Rattle.assembler.specs.Run.{Piece, Run, run_of}
use Rattle.assembler.specs.Door.{whole_shown, whole_received, fed_received, receive_of, receive_all}
use Rattle.assembler.specs.declared.Assembly.{Assembly}
use Rattle.lent.specs.LentAssembly.{assembly_size, held, emptied, Feeding, feed_in, untouched, fed_in, receive_in}
use Rattle.lent.proofs.Memory.{length_buffer}
use Rattle.exchange.specs.Received.{fed, answers}
use Rattle.exchange.proofs.Recovered.{recovers}
use Rattle.exchange.proofs.Made.{invents_nothing}
use Rattle.exchange.proofs.Received.{received_as_fed, fed_append}
use Rattle.lent_claims.specs.AssemblyMemory.{AllBytes, Holds, run_in}
use Rattle.lent_claims.specs.DamageInMemory.{received_in, answers_in, MemoryRecovers, MemoryInventsNothing}
use Rattle.lent_claims.proofs.AssemblyServes.{length_held, fed_in_lem, zeros_empty, empty_holds, receive_holds, memory_serves}

-- ---- memory that holds an assembly is told by it, whatever the memory held before

-- the first of two stores of the same length leaves no trace
pub over_again : (x y m : List ℕ) → length x ≡ length y → over x (over y m) ≡ over x m
unfolding over
over_again x y m e = ap (λ (l : List ℕ). x ++ l) (drop_at y (drop (length y) m) (length x) (sym e) ∙ ap (λ (k : ℕ). drop k m) (sym e))

-- so an assembly that is put into memory leaves nothing of the one before
held_again : (a b : Assembly) (m : List ℕ) → length a.bytes ≡ 4096 → length b.bytes ≡ 4096 → held b (held a m) ≡ held b m
unfolding held
held_again a b m wa wb = over_again _ _ m (length_held b m wb ∙ sym (length_held a m wa))

holds_whole : {m : List ℕ} {a : Assembly} → Holds m a → length a.bytes ≡ 4096
holds_whole {m} H = sym (ap length H.buffer) ∙ length_buffer m H.room

-- one received piece
received_memory : (a : Assembly) (m s : List ℕ) (room : ℕ) → Holds (held a m) a → length (receive_of a s room).assembly.bytes ≡ 4096
    → (receive_in (held a m) s room).memory ≡ held (receive_of a s room).assembly m
unfolding receive_in receive_of
received_memory a m s room H = rw (le-ltb _ _ H.room) (go (is_whole_piece s))
  where
    go : (w : Bool) → length (cond w (whole_received a s) (fed_received s (step_of a s room))).assembly.bytes ≡ 4096
        → (cond w (untouched (held a m) (whole_shown s)) (fed_in s (feed_in (held a m) s room))).memory ≡ held (cond w (whole_received a s) (fed_received s (step_of a s room))).assembly m
    go true l = refl
    go false l = ap (λ (f : Feeding). f.memory) (fed_in_lem (held a m) a s room H) ∙ held_again a (step_of a s room).assembly m (holds_whole H) l

-- memory after a run is told by the assembly that the run by value leaves
run_memory : (ps : List Piece) (a : Assembly) (m : List ℕ) → AllBytes ps → Holds (held a m) a → (run_in (held a m) ps).memory ≡ held (receive_all a ps).end m
unfolding run_in receive_all
run_memory [] a m bs H = refl
run_memory (p ∷ ps) a m bs H =
    let after = (receive_of a p.bytes p.room).assembly in
    let h = (receive_holds (held a m) a p.bytes p.room bs.0 H).2 in
    let e = received_memory a m p.bytes p.room H (holds_whole h) in
    ap (λ (l : List ℕ). (run_in l ps).memory) e ∙ run_memory ps after m bs.1 (subst (λ (l : List ℕ). Holds l after) e h)

emptied_is : (m : List ℕ) → assembly_size ≤ length m → (emptied m).memory ≡ held empty m
unfolding emptied
emptied_is m room = rw (le-ltb _ _ room) (zeros_empty m)

memory_left : (m : List ℕ) → assembly_size ≤ length m → (ps : List Piece) → AllBytes ps → (received_in m ps).memory ≡ held (receive_all empty ps).end m
memory_left m room ps bs =
    let e = emptied_is m room in
    ap (λ (l : List ℕ). (run_in l ps).memory) e ∙ run_memory ps empty m bs (subst (λ (l : List ℕ). Holds l empty) e (empty_holds m room))

-- ---- the run by value over the pieces that are fed

answers_are : (m : List ℕ) → assembly_size ≤ length m → (ps : List Piece) → AllBytes ps → answers_in m ps ≡ (run_of empty (fed ps)).seen
answers_are m room ps bs = ap (answers ps) (memory_serves m room ps bs).seen ∙ (received_as_fed empty ps).seen

memory_is : (m : List ℕ) → assembly_size ≤ length m → (ps : List Piece) → AllBytes ps → (received_in m ps).memory ≡ held (run_of empty (fed ps)).end m
memory_is m room ps bs = memory_left m room ps bs ∙ ap (λ (a : Assembly). held a m) (received_as_fed empty ps).end

both_bytes : (ps qs : List Piece) → AllBytes ps → AllBytes qs → AllBytes (ps ++ qs)
both_bytes [] qs bs cs = cs
both_bytes (p ∷ ps) qs bs cs = (bs.0, both_bytes ps qs bs.1 cs)

-- ---- the two claims

pub memory_invents_nothing : MemoryInventsNothing
memory_invents_nothing m room ps bs = rw (answers_are m room ps bs) (invents_nothing (fed ps))

pub memory_recovers : MemoryRecovers
memory_recovers m room earlier message bs cs c =
    let both = both_bytes earlier message bs cs in
    let r = ap (run_of empty) (fed_append earlier message) ∙ recovers (fed earlier) (fed message) (rw (answers_are m room message cs) at c) in
    record {
      seen = rw (answers_are m room (earlier ++ message) both, answers_are m room earlier bs, answers_are m room message cs) (ap (λ (x : Run). x.seen) r);
      memory = memory_is m room (earlier ++ message) both ∙ ap (λ (x : Run). held x.end m) r ∙ sym (memory_is m room message cs);
    }
