-- The pieces of a stream as the door receives them, and the claims of order 9 about them.
-- Assumes nothing.
use mathlib.Core.Path.{◌≡◌, refl, sym, ap, ◌∙◌}
use mathlib.Core.List.{List, [], ◌∷◌, ◌++◌, map, map-append, append_assoc}
use Prim.Native.Nat.{ℕ, zero, suc, ◌≤◌}
use native.Mathlib.Omega.{arith}
use lib.ListN.{length, take, drop, length-append, length-drop}
use lib.Seq.{take-append-le, drop-append-le}
use Rattle.message.specs.Message.{most_information}
use Rattle.assembler.specs.Assembly.{empty}
use Rattle.assembler.specs.Run.{Run as AssemblerRun, run_of as assembler_run}
use Rattle.assembler.specs.Door as door
use Rattle.assembler.specs.Door.{receive_of, receive_all}
use Rattle.assembler.specs.declared.Assembly.{Assembly}
use Rattle.exchange.specs.Received.{fed, answers}
use Rattle.exchange.proofs.Received.{received_as_fed, fed_append}
use Rattle.exchange.proofs.Recovered.{recovers}
use Rattle.exchange.proofs.Made.{invents_nothing}
use Rattle.stream.specs.declared.front.Next.{Next}
use Rattle.stream.specs.declared.front.Next.TheVariants as next
use Rattle.stream.specs.Stream.{next_of, value_door}
use Rattle.stream.specs.OneByOne.{Behind, unfinished, fault, Split, and_piece, split_in, split_of, Run, each_of, one_by_one}
use Rattle.stream.specs.Run.{Chunk, joined, WithRoom}
use Rattle.stream.proofs.Starts.{piece_bounds, piece_front}
use Rattle.stream.proofs.Split.{few_short, split_short, split_fault, split_piece, split_enough}
use Rattle.stream.proofs.Cut.{cut_anywhere}
use Rattle.stream_claims.specs.Pieces.{with_room, pieces_of, of_pieces, AsReceived, answers_to, StreamInventsNothing, StreamRecovers}

-- ---- as the door receives them

each_received : (a : Assembly) (ps : List (List ℕ)) (b : Behind) → of_pieces (each_of value_door a ps b).seen ≡ (receive_all a (map with_room ps)).seen
unfolding each_of receive_all
each_received a [] (unfinished x) = refl
each_received a [] (fault t x) = refl
each_received a (p ∷ ps) b =
    let x = receive_of a p most_information in
    ap (λ (l : List door.Seen). door.seen_of x ∷ l) (each_received x.assembly ps b)

pub as_received : AsReceived
unfolding one_by_one
as_received cs w =
    ap (λ (r : Run Assembly). of_pieces r.seen) (cut_anywhere Assembly value_door empty cs w) ∙ each_received empty (split_of (joined cs)).pieces (split_of (joined cs)).behind

pub answers_are : (cs : List Chunk) → WithRoom cs → answers_to cs ≡ (assembler_run empty (fed (pieces_of (joined cs)))).seen
answers_are cs w = ap (answers (pieces_of (joined cs))) (as_received cs w) ∙ (received_as_fed empty (pieces_of (joined cs))).seen

pub stream_invents_nothing : StreamInventsNothing
stream_invents_nothing cs w = rw (answers_are cs w) (invents_nothing (fed (pieces_of (joined cs))))

-- ---- bytes that end where a piece ends, and more behind them

abbrev pub after_pieces : List (List ℕ) → Split → Split
after_pieces ps s = record { pieces = ps ++ s.pieces; behind = s.behind }

is_nothing : (x y : List ℕ) → ◌≡◌ {A = Behind} (unfinished x) (unfinished []) → split_of (x ++ y) ≡ after_pieces [] (split_of y)
is_nothing x y e = let none : x ≡ [] = cc in ap (λ (z : List ℕ). split_of (z ++ y)) none

pub split_append : (k : ℕ) (x y : List ℕ) → length x ≤ k → (split_in k x).behind ≡ unfinished [] → split_of (x ++ y) ≡ after_pieces (split_in k x).pieces (split_of y)
split_append zero x y l = go (split_short zero x (few_short x l))
  where
    go : split_in zero x ≡ record { pieces = []; behind = unfinished x } → (split_in zero x).behind ≡ unfinished [] → split_of (x ++ y) ≡ after_pieces (split_in zero x).pieces (split_of y)
    go s = rw s (is_nothing x y)
split_append (suc k) x y l = go (λ z. split_append k z y) (next_of x) refl
  where
    go : ((z : List ℕ) → length z ≤ k → (split_in k z).behind ≡ unfinished [] → split_of (z ++ y) ≡ after_pieces (split_in k z).pieces (split_of y)) → (v : Next) → next_of x ≡ v
        → (split_in (suc k) x).behind ≡ unfinished [] → split_of (x ++ y) ≡ after_pieces (split_in (suc k) x).pieces (split_of y)
    go later next.Short e = rw (split_short (suc k) x e) (is_nothing x y)
    go later (next.Ends t) e = rw (split_fault k x t e) (λ z. let q : ◌≡◌ {A = ℕ} 0 1 = cc in absurd (omega arith))
    go later (next.Piece n) e =
        let b = piece_bounds x n e in
        let f = piece_front x y n e in
        let front = take-append-le n x y b.2 in
        let behind = drop-append-le n x y b.2 in
        rw (split_piece k x n e)
        (λ z.
        split_enough (length (x ++ y)) (suc (length (x ++ y))) (x ++ y) (omega arith) (omega arith)
        ∙ split_piece (length (x ++ y)) (x ++ y) n f
        ∙ (λ i. and_piece (front i) (split_in (length (x ++ y)) (behind i)))
        ∙ ap (and_piece (take n x)) (split_enough (length (x ++ y)) (length (drop n x ++ y)) (drop n x ++ y) (omega (arith, length-append (drop n x) y, length-append x y, length-drop n x)) (omega arith)
        ∙ later (drop n x) (omega (arith, length-drop n x, b.0, l)) z))

pieces_append : (x y : List ℕ) → (split_of x).behind ≡ unfinished [] → pieces_of (x ++ y) ≡ pieces_of x ++ pieces_of y
pieces_append x y e =
    ap (λ (s : Split). map with_room s.pieces) (split_append (length x) x y (omega arith) e) ∙ map-append with_room (split_of x).pieces (split_of y).pieces

joined_append : (cs ds : List Chunk) → joined (cs ++ ds) ≡ joined cs ++ joined ds
joined_append [] ds = refl
joined_append (c ∷ cs) ds = ap (λ (x : List ℕ). c.bytes ++ x) (joined_append cs ds) ∙ sym (append_assoc c.bytes (joined cs) (joined ds))

pub both_room : (cs ds : List Chunk) → WithRoom cs → WithRoom ds → WithRoom (cs ++ ds)
both_room [] ds v w = w
both_room (c ∷ cs) ds v w = (v.0, both_room cs ds v.1 w)

pub pieces_both : (earlier message : List Chunk) → (split_of (joined earlier)).behind ≡ unfinished []
    → pieces_of (joined (earlier ++ message)) ≡ pieces_of (joined earlier) ++ pieces_of (joined message)
pieces_both earlier message whole = ap pieces_of (joined_append earlier message) ∙ pieces_append (joined earlier) (joined message) whole

pub stream_recovers : StreamRecovers
stream_recovers earlier message v w whole c =
    let ps = pieces_of (joined earlier) in
    let qs = pieces_of (joined message) in
    let both = pieces_both earlier message whole in
    let r = recovers (fed ps) (fed qs) (rw (answers_are message w) at c) in
    rw (answers_are (earlier ++ message) (both_room earlier message v w), answers_are earlier v, answers_are message w, both, fed_append ps qs) (ap (λ (x : AssemblerRun). x.seen) r)
