-- A call of a stream up to the door, as the code of every form makes it: what is left to do, and the buffer made ready for it.
-- `finished` in proofs/Finished is what the door makes of it, and it is the call (specs/Stream).
use Rattle.std.specs.Prelude.{ℕ, ◌+◌, ◌-◌, false, cond, ◌||◌, List, ◌++◌, ltb, eqb, length, take}
use Rattle.std.proofs.lemmas.List.Edits.{sets}
use Rattle.message.specs.Message.{most_information, most_transfer}
use Rattle.stream.specs.declared.State.{State}
use Rattle.stream.specs.declared.Said.{Said}
use Rattle.stream.specs.declared.Said.TheVariants.{Nothing, Ended, Refused}
use Rattle.stream.specs.declared.front.Next.{Next}
use Rattle.stream.specs.declared.front.Next.TheVariants as next
use Rattle.stream.specs.declared.front.Ready.{Ready}
use Rattle.stream.specs.declared.front.Ready.TheVariants.{Done, Ends, InChunk, InBuffer}
use Rattle.stream.specs.Stream.{state_of, held_in, next_of, small, length_fault, wiped}

pub record Prepared : Type 0 where
  pub ready : Ready
  pub piece : List ℕ

abbrev pub prepared : Ready → List ℕ → Prepared
prepared x piece = record { ready = x; piece = piece }

abbrev pub done_by : State → Said → Ready
done_by s x = Done s x 0

unfoldable pub prepared_by : List ℕ → List ℕ → List ℕ → Next → Prepared
prepared_by h piece c next.Short = prepared (Done (state_of (length h + length c) false) Nothing (length c)) (sets piece (length h) c)
prepared_by h piece c (next.Ends t) = prepared (Ends t (8 - length h)) (wiped (length h) piece)
prepared_by h piece c (next.Piece n) =
    cond (eqb (length h) 0) (prepared (InChunk n) piece) (prepared (InBuffer n (n - length h)) (sets piece (length h) (take (n - length h) c)))

-- a buffer of fewer than 4,096 bytes is refused as a small output is
unfoldable pub prepared_of : State → List ℕ → List ℕ → ℕ → Prepared
prepared_of s piece c room =
    cond (ltb room most_information || ltb (length piece) most_transfer) (prepared (done_by s (Refused small)) piece)
    (cond s.ended (prepared (done_by s (Ended length_fault)) piece) (prepared_by (held_in s piece) piece c (next_of (held_in s piece ++ c))))
