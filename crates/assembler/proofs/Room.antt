-- Room for 4,096 bytes is as good as more: no message has more information.
-- Assumes nothing.
use mathlib.Core.Path.{◌≡◌, refl, ap}
use mathlib.Core.Bool.{Bool, cond}
use mathlib.Core.List.{List}
use Prim.Native.Nat.{ℕ, ◌≤◌}
use native.Mathlib.Omega.{arith}
use borrow.Author.Tests.{le-ltb}
use lib.ListN.{drop}
use Rattle.message.specs.Message.{most_information, is_whole_piece}
use Rattle.assembler.specs.Assembly.{Step, assembly_of, gather_of, begun_bytes, judged_of, step_by, step_of}
use Rattle.assembler.specs.Door.{whole_received, fed_received, receive_of}
use Rattle.assembler.specs.declared.Assembly.{Assembly}
use Rattle.assembler.specs.declared.Gathering.{Gathering}
use Rattle.assembler.proofs.Laws.{brings}
use Rattle.std.specs.Prelude.{Ok, Err, Result}
use Rattle.protocol.specs.declared.Refusal.{Refusal}

gather_room : (a : Assembly) (xs : List ℕ) (d : Bool) (room : ℕ) → a.progress.information_length ≤ most_information → most_information ≤ room
    → gather_of a xs d room ≡ gather_of a xs d most_information
unfolding gather_of
gather_room a xs d room l h =
    rw (le-ltb room a.progress.information_length (omega arith), le-ltb most_information a.progress.information_length l)

pub step_room : (a : Assembly) (s : List ℕ) (room : ℕ) → most_information ≤ room → step_of a s room ≡ step_of a s most_information
unfolding step_of step_by
step_room a s room h = go (judged_of a.progress s) refl
  where
    go : (j : (Result Gathering Refusal)) → judged_of a.progress s ≡ j → step_by a.bytes s room j ≡ step_by a.bytes s most_information j
    go (Err r) e = refl
    go (Ok gathering) e = gather_room (assembly_of gathering.progress (begun_bytes gathering.dropped a.bytes)) (drop gathering.from s) gathering.dropped room (brings a.progress s gathering e).1.0.1 h

-- of the door too
pub receive_room : (a : Assembly) (s : List ℕ) (room : ℕ) → most_information ≤ room → receive_of a s room ≡ receive_of a s most_information
unfolding receive_of
receive_room a s room h = ap (λ (x : Step). cond (is_whole_piece s) (whole_received a s) (fed_received s x)) (step_room a s room h)
