-- A call in lent memory that is given a byte takes one or refuses: what is held is shorter than the piece that it becomes.
-- Assumes nothing.
use mathlib.Core.Path.{◌≡◌, refl, ap, ◌∙◌}
use mathlib.Core.Logic.{◌⊎◌, inl, inr}
use mathlib.Core.Bool.{Bool, true, false, cond}
use mathlib.Core.List.{List, ◌++◌}
use Prim.Native.Nat.{ℕ, ◌<◌}
use native.Mathlib.Omega.{arith}
use borrow.Author.Tests.{le-ltb}
use lib.Dec.{eqb}
use lib.ListN.{length, take, drop}
use lib.Seq.{take-take}
use Rattle.wire.specs.Numbers.{u32_at}
use Rattle.protocol.specs.Verdict.{judge, no_fault, Verdict}
use Rattle.message.specs.Message.{most_information}
use Rattle.stream.specs.declared.front.Next.{Next}
use Rattle.stream.specs.declared.front.Next.TheVariants as next
use Rattle.stream.specs.declared.Said.TheVariants.{Ended}
use Rattle.stream.specs.Stream.{next_of, length_fault, feed_by, feed_on}
use Rattle.stream.proofs.Starts.{piece_past}
use Rattle.lent_stream.specs.LentStream.{piece_in, is_short, is_unfinished, feed_rules, memory_door, FeedingIn, unfed_in, stored_in, fed_in, fed_by, feed_in}
use Rattle.lent_stream.proofs.Memory.{taken}
use Rattle.stream_claims.specs.Memory.{is_refusal, MemoryProgresses}
use Rattle.stream_claims.proofs.Left.{is_short_says}
use Rattle.std.specs.Prelude.{Ok, Err}

abbrev Moves : FeedingIn → Type 0
Moves f = (0 < f.fed.taken) ⊎ (is_refusal f.fed.said ≡ true)

next_moves : (m a h piece c : List ℕ) (v : Next) → next_of h ≡ next.Short → next_of (h ++ c) ≡ v → 0 < length c → Moves (stored_in m (feed_by memory_door a h piece c v))
unfolding stored_in feed_by
next_moves m a h piece c next.Short k e l = inl l
next_moves m a h piece c (next.Ends t) k e l = inr refl
next_moves m a h piece c (next.Piece n) k e l = inl (omega (arith, piece_past h c n k e))

open_moves : (m a c : List ℕ) (room : ℕ) → judge (feed_rules m (length a) room) ≡ no_fault → 0 < length c → Moves (fed_in m a c room)
unfolding fed_in feed_on is_unfinished
open_moves m a c room e l =
    let T = taken m (length a) room e in
    let h = take (u32_at m 0) (piece_in m) in
    let same : h ≡ take (u32_at m 0) (drop 8 m) = take-take (u32_at m 0) 4096 (drop 8 m) (omega (arith, T.few)) in
    let k : next_of h ≡ next.Short = is_short_says (next_of h) (ap (λ (x : List ℕ). is_short (next_of x)) same ∙ T.unfinished) in
    rw (le-ltb room most_information T.output) (next_moves m a h (piece_in m) c (next_of (h ++ c)) k refl l)

pub memory_progresses : MemoryProgresses
unfolding feed_in
memory_progresses m a c room l = go (judge (feed_rules m (length a) room)) refl
  where
    by_flag : (b : Bool) → Moves (fed_in m a c room) → Moves (cond b (unfed_in m a (Ended length_fault)) (fed_in m a c room))
    by_flag true x = inr refl
    by_flag false x = x

    go : (v : Verdict) → judge (feed_rules m (length a) room) ≡ v → Moves (fed_by v m a c room)
    go (Ok _) e = by_flag (eqb (u32_at m 4) 1) (open_moves m a c room e l)
    go (Err r) e = inr refl
