-- What the cutter wrote, fed as a stream: its fragments are the stream's pieces, and none of them is a whole message.
-- Assumes nothing.
use mathlib.Core.Path.{◌≡◌, refl, sym, ap, ◌∙◌}
use mathlib.Core.Bool.{Bool, true, false}
use mathlib.Core.List.{List, [], ◌∷◌, ◌++◌, map}
use Prim.Native.Nat.{ℕ, zero, suc, ◌+◌, ◌-◌, ◌≤◌}
use native.Mathlib.Omega.{arith}
use borrow.Author.Tests.{le-ltb, eqb-true, not-false}
use lib.ListN.{length}
use lib.Seq.{take_all, drop-length}
use Rattle.wire.specs.Numbers.{u32_at}
use Rattle.protocol.specs.MessageType.{is_whole}
use Rattle.protocol.specs.Verdict.{judge, no_fault, Verdict}
use Rattle.protocol.specs.declared.Refusal.{Refusal}
use Rattle.protocol.proofs.Verdicts.{fits_kept}
use Rattle.message.specs.Message.{most_information, header_rules, header_of, header_by, fragment_by, fragment_of, is_whole_piece}
use Rattle.message.specs.declared.MessageHeader.{MessageHeader}
use Rattle.message.specs.declared.FragmentHeader.{FragmentHeader}
use Rattle.message.specs.declared.Fragment.{Fragment}
use Rattle.message.specs.declared.Fragment.TheVariants as fragment
use Rattle.message.proofs.Headers.{Accepted, FragmentView, refuses, opens, follows, fragment_view}
use Rattle.assembler.specs.Assembly.{is_pending, empty, refused, judged_by, judged_of, step_by, step_of}
use Rattle.assembler.specs.Run as assembler
use Rattle.assembler.specs.Run.{Piece, run_of}
use Rattle.assembler.specs.declared.Assembly.{Assembly}
use Rattle.assembler.specs.declared.Answer.{Answer}
use Rattle.assembler.specs.declared.Answer.TheVariants as answer
use Rattle.cutter.specs.Cut.{fragments_of}
use Rattle.cutter.specs.Cut as cutter
use Rattle.exchange.specs.Messages.{pieces, received}
use Rattle.exchange.specs.Received.{fed}
use Rattle.exchange.proofs.Sent.{sent}
use Rattle.exchange.proofs.Delivered.{run_append, fragments_received}
use Rattle.exchange.proofs.Received.{fed_append}
use Rattle.lent.proofs.GoingOn.{never, type_fragmented}
use Rattle.stream.specs.declared.front.Next.TheVariants as next
use Rattle.stream.specs.Stream.{wrong_start, next_of}
use Rattle.stream.specs.OneByOne.{unfinished, Split, and_piece, split_in, split_of}
use Rattle.stream.specs.Run.{joined}
use Rattle.stream.proofs.Starts.{is_piece}
use Rattle.stream.proofs.Split.{split_short, split_piece, split_enough}
use Rattle.stream.proofs.Keeping.{nothing_held}
use Rattle.stream_claims.specs.Pieces.{with_room, pieces_of, StreamDelivers}
use Rattle.stream_claims.proofs.Received.{answers_are, after_pieces, split_append, pieces_both, both_room}
use Rattle.std.specs.Prelude.{Ok, Err, Result}

-- ---- a fragment whose header is accepted is a piece of a stream, and no whole message

record Fragmented (p : List ℕ) : Type 0 where
  sized : next_of p ≡ next.Piece (length p)
  apart : is_whole_piece p ≡ false

field_right : (p : List ℕ) → judge (header_rules p) ≡ no_fault → u32_at p 4 ≡ length p
field_right p e = eqb-true _ _ (not-false _ (fits_kept (header_rules p) e).1.0)

right_start : (t n : ℕ) → is_whole t ≡ false → 20 ≤ n → n ≤ 4096 → wrong_start t n ≡ false
unfolding wrong_start
right_start t n w l m = rw (w, le-ltb n 20 l, le-ltb 4096 n m)

is_fragmented : (p : List ℕ) (h : FragmentHeader) → judge (header_rules p) ≡ no_fault → Accepted p h → Fragmented p
unfolding is_whole_piece
is_fragmented p h e A =
    let w = type_fragmented (u32_at p 0) A.known in
    record {
      sized = is_piece p (length p) (record {
        long = omega (arith, A.long);
        field = field_right p e;
        right = right_start (u32_at p 0) (length p) w A.long A.short;
        there = omega arith;
      });
      apart = rw (w, le-ltb (length p) 4 (omega (arith, A.long))) refl;
    }

-- ---- a piece that the assembler does not refuse is one

abbrev refuses_it : (Result Answer Refusal) → Bool
refuses_it (Ok (answer.Pending d)) = false
refuses_it (Ok (answer.Complete m n d)) = false
refuses_it (Err r) = true

header_fits : (p : List ℕ) {f : (Result Fragment Refusal)} → fragment_of p ≡ f → ((r : Refusal) → f ≡ Err r → ⊥) → judge (header_rules p) ≡ no_fault
unfolding fragment_of fragment_by header_of header_by
header_fits p {f} e other = go (judge (header_rules p)) refl
  where
    go : (v : Verdict) → judge (header_rules p) ≡ v → v ≡ no_fault
    go (Ok _) ev = refl
    go (Err r) ev = absurd (other r (sym e ∙ (rw ev refl)))

taken_is : (a : Assembly) (p : List ℕ) (room : ℕ) → refuses_it (step_of a p room).answer ≡ false → Fragmented p
unfolding step_of step_by judged_of judged_by refused
taken_is a p room = go (fragment_view p) refl
  where
    go : {f : (Result Fragment Refusal)} → FragmentView p f → fragment_of p ≡ f → refuses_it (step_by a.bytes p room (judged_by a.progress (length p) f)).answer ≡ false → Fragmented p
    go (refuses r) e n = never (sym n)
    go (opens h f A z o) e n = is_fragmented p h (header_fits p e (λ r q. let w : ◌≡◌ {A = ℕ} 0 1 = cc in absurd (omega arith))) A
    go (follows h A z) e n = is_fragmented p h (header_fits p e (λ r q. let w : ◌≡◌ {A = ℕ} 0 1 = cc in absurd (omega arith))) A

abbrev NoneRefused : List assembler.Seen → Type 0
NoneRefused [] = Unit
NoneRefused (x ∷ xs) = (refuses_it x.answer ≡ false) × NoneRefused xs

abbrev AllFragmented : List (List ℕ) → Type 0
AllFragmented [] = Unit
AllFragmented (p ∷ ps) = Fragmented p × AllFragmented ps

all_taken : (ps : List (List ℕ)) (a : Assembly) → NoneRefused (run_of a (map with_room ps)).seen → AllFragmented ps
unfolding run_of
all_taken [] a n = tt
all_taken (p ∷ ps) a n = (taken_is a p most_information n.0, all_taken ps (step_of a p most_information).assembly n.1)

-- ---- a message that is received has no refused fragment

none_refused : (m : MessageHeader) (information : List ℕ) (d : Bool) (k : ℕ) → length information ≤ most_information → NoneRefused (received m information d most_information k).seen
unfolding received
none_refused m information d zero l = rw (le-ltb most_information (length information) l) (refl, tt)
none_refused m information d (suc k) l = (refl, none_refused m information false k l)

const_pieces : (ps : List (List ℕ)) (k : ℕ) → pieces (λ j. most_information) k ps ≡ map with_room ps
unfolding pieces
const_pieces [] k = refl
const_pieces (p ∷ ps) k = ap (λ (l : List Piece). with_room p ∷ l) (const_pieces ps (k + 1))

-- ---- fragments one after another are split into themselves, and all are fed

one_split : (p : List ℕ) → Fragmented p → split_of p ≡ record { pieces = p ∷ []; behind = unfinished [] }
one_split p F =
    split_enough (length p) (suc (length p)) p (omega arith) (omega arith)
    ∙ split_piece (length p) p (length p) F.sized
    ∙ (λ i. and_piece (take_all (length p) p (omega arith) i) (split_in (length p) (drop-length p i)))
    ∙ ap (and_piece p) (split_short (length p) [] nothing_held)

all_split : (ps : List (List ℕ)) → AllFragmented ps → split_of (cutter.joined ps) ≡ record { pieces = ps; behind = unfinished [] }
unfolding cutter.joined
all_split [] w = split_short 0 [] nothing_held
all_split (p ∷ ps) w =
    let s = one_split p w.0 in
    split_append (length p) p (cutter.joined ps) (omega arith) (ap (λ (x : Split). x.behind) s)
    ∙ (λ i. after_pieces (s i).pieces (all_split ps w.1 i))

all_fed : (ps : List (List ℕ)) → AllFragmented ps → fed (map with_room ps) ≡ map with_room ps
unfolding fed
all_fed [] w = refl
all_fed (p ∷ ps) w = rw w.0.apart (ap (λ (l : List Piece). with_room p ∷ l) (all_fed ps w.1))

-- ---- the claim

pub stream_delivers : StreamDelivers
stream_delivers m size information out count n C earlier message v w whole is =
    let S = sent m size information out count n C.accepted in
    let fs = fragments_of m size information in
    let ps = fed (pieces_of (joined earlier)) in
    let received_from : (qs : List Piece) → run_of (run_of empty qs).end (map with_room fs) ≡ received m information (is_pending (run_of empty qs).end.progress) most_information (count - 1) =
    λ qs. ap (run_of (run_of empty qs).end) (sym (const_pieces fs 0)) ∙ fragments_received m size information out count n C (λ j. most_information) qs in
    let all : AllFragmented fs = all_taken fs (run_of empty []).end (rw (received_from []) (none_refused m information _ (count - 1) S.small)) in
    let mine : pieces_of (joined message) ≡ map with_room fs = ap (λ (x : List ℕ). map with_room (split_of x).pieces) (is ∙ S.front) ∙ ap (λ (x : Split). map with_room x.pieces) (all_split fs all) in
    let both : fed (pieces_of (joined (earlier ++ message))) ≡ ps ++ map with_room fs =
    ap fed (pieces_both earlier message whole) ∙ fed_append (pieces_of (joined earlier)) (pieces_of (joined message)) ∙ ap (λ (qs : List Piece). ps ++ fed qs) mine ∙ ap (λ (qs : List Piece). ps ++ qs) (all_fed fs all) in
    answers_are (earlier ++ message) (both_room earlier message v w)
    ∙ ap (λ (qs : List Piece). (run_of empty qs).seen) both
    ∙ ap (λ (r : assembler.Run). r.seen) (run_append empty ps (map with_room fs))
    ∙ (λ i. sym (answers_are earlier v) i ++ (received_from ps i).seen)
