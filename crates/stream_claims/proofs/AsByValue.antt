-- Through the door in memory the pieces of a stream are answered as by value: each is received so, by `receive_holds`.
-- Assumes nothing.
use mathlib.Core.Path.{◌≡◌, refl}
use mathlib.Core.Bool.{Bool, true, false, cond}
use mathlib.Core.List.{List, [], ◌∷◌}
use Prim.Native.Nat.{ℕ, zero, suc, ◌+◌, ◌≤◌}
use native.Mathlib.Omega.{arith}
use native.Mathlib.Decide.{dec_le}
use lib.ListN.{length, get_or, take, drop}
use lib.Seq.{get_or-take, get_or-drop}
use Rattle.protocol.specs.MessageType.{is_whole}
use Rattle.message.specs.Message.{most_information}
use Rattle.assembler.specs.Assembly.{empty}
use Rattle.assembler.specs.Door.{receive_of}
use Rattle.assembler.specs.declared.Assembly.{Assembly}
use Rattle.lent.specs.LentAssembly.{emptied, receive_in}
use Rattle.lent_claims.specs.Given.{Bytes}
use Rattle.lent_claims.specs.AssemblyMemory.{Holds}
use Rattle.lent_claims.proofs.AssemblyServes.{empty_holds, receive_holds}
use Rattle.stream.specs.declared.Said.TheVariants as said
use Rattle.stream.specs.declared.front.Next.{Next}
use Rattle.stream.specs.declared.front.Next.TheVariants as next
use Rattle.stream.specs.Stream.{next_of, value_door}
use Rattle.stream.specs.OneByOne.{Behind, unfinished, fault, split_in, split_of, each_of, one_by_one}
use Rattle.stream.proofs.Split.{split_short, split_fault, split_piece}
use Rattle.lent_stream.specs.LentStream.{memory_door}
use Rattle.stream_claims.specs.Memory.{MemoryAsByValue}

-- ---- a part of bytes is bytes

get_d_out : (n : ℕ) (x : List ℕ) (i : ℕ) → n ≤ i → get_or (take n x) i 0 ≡ 0
get_d_out zero x i l = refl
get_d_out (suc n) [] i l = refl
get_d_out (suc n) (y ∷ ys) zero l = absurd (omega arith)
get_d_out (suc n) (y ∷ ys) (suc i) l = get_d_out n ys i (omega arith)

bytes_take : (n : ℕ) (x : List ℕ) → Bytes x → Bytes (take n x)
bytes_take n x b i = elim (dec_le n i) [
  | yes l ↦ omega (arith, get_d_out n x i l)
  | no l ↦ omega (arith, get_or-take n x i 0 (omega arith), b i)
]

bytes_drop : (n : ℕ) (x : List ℕ) → Bytes x → Bytes (drop n x)
bytes_drop n x b i = omega (arith, get_or-drop n x i 0, b (n + i))

abbrev AllBytes : List (List ℕ) → Type 0
AllBytes [] = Unit
AllBytes (p ∷ ps) = Bytes p × AllBytes ps

pieces_bytes : (k : ℕ) (x : List ℕ) → Bytes x → AllBytes (split_in k x).pieces
unfolding split_in
pieces_bytes zero x b = tt
pieces_bytes (suc k) x b = go (λ y. pieces_bytes k y) (next_of x) refl
  where
    go : ((y : List ℕ) → Bytes y → AllBytes (split_in k y).pieces) → (v : Next) → next_of x ≡ v → AllBytes (split_in (suc k) x).pieces
    go later next.Short e = rw (split_short (suc k) x e) tt
    go later (next.Ends t) e = rw (split_fault k x t e) tt
    go later (next.Piece n) e = rw (split_piece k x n e) (bytes_take n x b, later (drop n x) (bytes_drop n x b))

-- ---- the pieces, and what is behind them

abbrev Same : List ℕ → Assembly → List (List ℕ) → Behind → Type 0
Same m a ps b = ((each_of memory_door m ps b).seen ≡ (each_of value_door a ps b).seen) × Holds (each_of memory_door m ps b).end.assembly (each_of value_door a ps b).end.assembly

each_same : (ps : List (List ℕ)) (b : Behind) (m : List ℕ) (a : Assembly) → AllBytes ps → Holds m a → Same m a ps b
unfolding each_of
each_same [] (unfinished x) m a bs H = (refl, H)
each_same [] (fault t x) m a bs H = (refl, go (is_whole t))
  where
    go : (w : Bool) → Holds (cond w m (emptied m).memory) (cond w a empty)
    go true = H
    go false = empty_holds m H.room
each_same (p ∷ ps) b m a bs H =
    let f = receive_holds m a p most_information bs.0 H in
    let r = each_same ps b (receive_in m p most_information).memory (receive_of a p most_information).assembly bs.1 f.2 in
    (λ i. record { said = said.Piece (f.0 i); information = f.1 i } ∷ r.0 i, r.1)

pub memory_as_by_value : MemoryAsByValue
unfolding one_by_one
memory_as_by_value a room x b =
    let r = each_same (split_of x).pieces (split_of x).behind (emptied a).memory empty (pieces_bytes (length x) x b) (empty_holds a room) in
    record { seen = r.0; held = r.1 }
