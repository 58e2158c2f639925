-- No message comes out but of its fragments: what an assembly holds are the pieces fed last, one after the other, and a complete message is what they carry.
-- Assumes nothing.
use mathlib.Core.Path.{◌≡◌, refl, sym, ap, ◌∙◌, subst}
use mathlib.Core.Bool.{Bool, true, false, true≢false}
use mathlib.Core.List.{List, [], ◌∷◌, ◌++◌, append_assoc, append-nil}
use Prim.Native.Nat.{ℕ, zero, suc, ◌+◌, ◌≤◌, ◌<◌}
use native.Mathlib.Omega.{arith}
use native.Mathlib.Decide.{dec_le}
use lib.ListN.{length, take, drop, length-append, length-drop, length-replicate, get_or-append}
use lib.Seq.{length-sets, length-take-le, drop-length, drop-append-le, take-append-add, get_or-append_seam}
use Rattle.wire.proofs.Laws.{take_sets}
use Rattle.protocol.specs.declared.Refusal.{Refusal}
use Rattle.message.specs.Message.{message_at}
use Rattle.message.specs.declared.MessageHeader.{MessageHeader}
use Rattle.cutter.specs.Cut.{joined}
use Rattle.assembler.specs.Assembly.{Step, empty, assembly_of, refused, waiting, completed, grown, step_of}
use Rattle.assembler.specs.Run.{Piece, Seen, seen_of, run_of, Clean}
use Rattle.assembler.specs.declared.Progress.{Progress}
use Rattle.assembler.specs.declared.Assembly.{Assembly}
use Rattle.assembler.specs.declared.Answer.{Answer}
use Rattle.assembler.specs.declared.Answer.TheVariants.{Pending, Complete}
use Rattle.assembler.proofs.View.{GatherView, refuses, waits as waits_on, completes as completes_it, StepView, step_view}
use Rattle.assembler.proofs.View as view
use Rattle.assembler.proofs.Clean.{clean_empty, clean_step}
use Rattle.exchange.specs.Damage.{piece_at, seen_at, FragmentOf, carried, all_carried, waits, completes, MadeOf, ComesOut, InventsNothing}
use Rattle.exchange.proofs.Feeds.{Next, FeedView, bad, starts, joins, feed_view}
use Rattle.std.specs.Prelude.{Ok, Err, Result}

-- ---- positions where a list goes on

piece_before : (hs ps : List Piece) (i : ℕ) → i < length hs → piece_at (hs ++ ps) i ≡ piece_at hs i
piece_before hs ps i l = ap (λ (x : Piece). x.bytes) (get_or-append hs ps (record { bytes = []; room = 0 }) i l)

piece_here : (hs : List Piece) (p : Piece) (ps : List Piece) (i : ℕ) → i ≡ length hs → piece_at (hs ++ (p ∷ ps)) i ≡ p.bytes
piece_here hs p ps i e = ap (piece_at (hs ++ (p ∷ ps))) e ∙ ap (λ (x : Piece). x.bytes) (get_or-append_seam hs p ps (record { bytes = []; room = 0 }))

seen_before : (xs ys : List Seen) (i : ℕ) → i < length xs → seen_at (xs ++ ys) i ≡ seen_at xs i
seen_before xs ys i l = get_or-append xs ys (record { answer = Ok (Pending false); information = [] }) i l

seen_here : (xs : List Seen) (y : Seen) (ys : List Seen) (i : ℕ) → i ≡ length xs → seen_at (xs ++ (y ∷ ys)) i ≡ y
seen_here xs y ys i e = ap (seen_at (xs ++ (y ∷ ys))) e ∙ get_or-append_seam xs y ys (record { answer = Ok (Pending false); information = [] })

-- ---- what fragments carry, one more

carried_more : (ps : List Piece) (p : Piece) → all_carried (ps ++ (p ∷ [])) ≡ all_carried ps ++ carried p.bytes
unfolding joined
carried_more [] p = append-nil (carried p.bytes)
carried_more (q ∷ qs) p =
    ap (λ (l : List ℕ). carried q.bytes ++ l) (carried_more qs p) ∙ sym (append_assoc (carried q.bytes) (all_carried qs) (carried p.bytes))

-- ---- what an assembly holds after the pieces hs, whose answers are xs: those from `first` on, which wait for the next

record Held (hs : List Piece) (xs : List Seen) (a : Assembly) : Type 0 where
  first : ℕ
  place : first + a.progress.next ≡ length hs
  fragments : (k : ℕ) → k < a.progress.next → FragmentOf a.progress.message a.progress.total k (piece_at hs (first + k))
  waited : (k : ℕ) → k < a.progress.next → waits (seen_at xs (first + k)).answer ≡ true
  header : 0 < a.progress.next → a.progress.message ≡ message_at (piece_at hs first)
  counted : a.progress.gathered ≡ length (all_carried (drop first hs))
  bytes : take a.progress.gathered a.bytes ≡ all_carried (drop first hs)
  whole : length a.bytes ≡ 4096

-- a message not yet begun
held_none : (hs : List Piece) (xs : List Seen) (q : Progress) (bytes : List ℕ) → q.next ≡ 0 → q.gathered ≡ 0 → length bytes ≡ 4096 → Held hs xs (assembly_of q bytes)
unfolding joined
held_none hs xs q bytes en eg w =
    let d : all_carried (drop (length hs) hs) ≡ [] = ap all_carried (drop-length hs) in
    record {
      first = length hs;
      place = omega (arith, en);
      fragments = λ k l. absurd (omega (arith, en));
      waited = λ k l. absurd (omega (arith, en));
      header = λ l. absurd (omega (arith, en));
      counted = eg ∙ sym (ap length d);
      bytes = ap (λ (n : ℕ). take n bytes) eg ∙ sym d;
      whole = w;
    }

held_empty : (hs : List Piece) (xs : List Seen) → Held hs xs empty
unfolding empty
held_empty hs xs = held_none hs xs empty.progress empty.bytes refl refl (length-replicate {A = ℕ} 4096 0)

-- ---- one piece more: the fragment p joins the assembly b, which holds the pieces from `first` on

module _ (hs : List Piece) (xs : List Seen) (b : Assembly) (H : Held hs xs b) (p : Piece) (N : Next b.progress p.bytes)
    (opened : b.progress.next ≡ 0 → b.progress.message ≡ message_at p.bytes) (same : length xs ≡ length hs) where
  -- the pieces from `first` to p are fragments of the message, whatever follows them
  fragment_at : (ps : List Piece) (k : ℕ) → k < b.progress.next + 1 → FragmentOf b.progress.message b.progress.total k (piece_at (hs ++ (p ∷ ps)) (H.first + k))
  fragment_at ps k l = elim (dec_le (k + 1) b.progress.next) [
    | yes h ↦ rw (piece_before hs (p ∷ ps) (H.first + k) (omega (arith, H.place))) (H.fragments k (omega arith))
    | no h ↦ let e : b.progress.next ≡ k = omega arith in
        rw (piece_here hs p ps (H.first + k) (omega (arith, H.place)), ← e) N.fragment
  ]

  header_at : (ps : List Piece) → b.progress.message ≡ message_at (piece_at (hs ++ (p ∷ ps)) H.first)
  header_at ps = elim (dec_le 1 b.progress.next) [
    | yes h ↦ rw (piece_before hs (p ∷ ps) H.first (omega (arith, H.place))) (H.header (omega arith))
    | no h ↦ rw (piece_here hs p ps H.first (omega (arith, H.place))) (opened (omega arith))
  ]

  waited_at : (ys : List Seen) (k : ℕ) → k < b.progress.next → waits (seen_at (xs ++ ys) (H.first + k)).answer ≡ true
  waited_at ys k l = rw (seen_before xs ys (H.first + k) (omega (arith, H.place, same))) (H.waited k l)

  carried_at : all_carried (drop H.first hs ++ (p ∷ [])) ≡ take b.progress.gathered b.bytes ++ carried p.bytes
  carried_at = carried_more (drop H.first hs) p ∙ ap (λ (l : List ℕ). l ++ carried p.bytes) (sym H.bytes)

  long : length (take b.progress.gathered b.bytes ++ carried p.bytes) ≡ b.progress.gathered + length (carried p.bytes)
  long =
      length-append (take b.progress.gathered b.bytes) (carried p.bytes)
      ∙ ap (λ (k : ℕ). k + length (carried p.bytes)) (length-take-le b.progress.gathered b.bytes (omega (arith, N.gathers.0.0, N.gathers.0.1, H.whole)))

  -- it waits
  held_more : (d : Bool) → Held (hs ++ (p ∷ [])) (xs ++ (record { answer = Ok (Pending d); information = [] } ∷ [])) (grown b (carried p.bytes))
  unfolding grown
  held_more d =
      let n : length hs + 1 ≡ length (hs ++ (p ∷ [])) = sym (length-append hs (p ∷ [])) in
      let c : all_carried (drop H.first (hs ++ (p ∷ []))) ≡ take b.progress.gathered b.bytes ++ carried p.bytes =
      ap all_carried (drop-append-le H.first hs (p ∷ []) (omega (arith, H.place))) ∙ carried_at in
      let room : b.progress.gathered + length (carried p.bytes) ≤ length b.bytes = omega (arith, N.gathers.0.0, N.gathers.0.1, H.whole) in
      let t = take_sets b.bytes (carried p.bytes) b.progress.gathered room ∙ sym c in
      record {
        first = H.first;
        place = omega (arith, H.place, n);
        fragments = fragment_at [];
        waited = λ k l. elim (dec_le (k + 1) b.progress.next) [
          | yes h ↦ waited_at _ k (omega arith)
          | no h ↦ rw (seen_here xs _ [] (H.first + k) (omega (arith, H.place, same))) refl
        ];
        header = λ l. header_at [];
        counted = sym (ap length c ∙ long);
        bytes = t;
        whole = length-sets b.bytes b.progress.gathered (carried p.bytes) ∙ H.whole;
      }

  -- it completes the message
  made : (ps : List Piece) (ys : List Seen) (answer : (Result Answer Refusal)) → b.progress.next + 1 ≡ b.progress.total
      → MadeOf (hs ++ (p ∷ ps)) (xs ++ (record { answer = answer; information = take b.progress.gathered b.bytes ++ carried p.bytes } ∷ ys)) (length hs) b.progress.message
      b.progress.information_length
  made ps ys answer last =
      let l = drop H.first hs in
      let n : length l ≡ b.progress.next = length-drop H.first hs ∙ omega (arith, H.place) in
      let t : b.progress.total ≡ length l + 1 = omega (arith, n, last) in
      let these : take b.progress.total (drop H.first (hs ++ (p ∷ ps))) ≡ l ++ (p ∷ []) =
      (λ i. take (t i) (drop-append-le H.first hs (p ∷ ps) (omega (arith, H.place)) i)) ∙ take-append-add l (p ∷ ps) 1 in
      let here = seen_here xs (record { answer = answer; information = take b.progress.gathered b.bytes ++ carried p.bytes }) ys (length hs) (sym same) in
      record {
        first = H.first;
        total = b.progress.total;
        some = omega (arith, last);
        together = omega (arith, H.place, last);
        fragments = λ k h. fragment_at ps k (omega (arith, h, last));
        waited = λ k h. waited_at _ k (omega (arith, h, last));
        header = header_at ps;
        information = ap (λ (x : Seen). x.information) here ∙ sym carried_at ∙ sym (ap all_carried these);
        amount = ap (λ (x : Seen). length x.information) here ∙ long ∙ N.gathers.1 last;
      }

-- ---- one feed

-- after one piece more: what is held, and the message that came out
record After (hs : List Piece) (xs : List Seen) (p : Piece) (s : Step) : Type 0 where
  held : Held (hs ++ (p ∷ [])) (xs ++ (seen_of s ∷ [])) s.assembly
  origin : (ps : List Piece) (ys : List Seen) (m : MessageHeader) (n : ℕ) (d : Bool) → s.answer ≡ Ok (Complete m n d) → MadeOf (hs ++ (p ∷ ps)) (xs ++ (seen_of s ∷ ys)) (length hs) m n

after_refused : (hs : List Piece) (xs : List Seen) (p : Piece) (s : Step) (r : Refusal) → s ≡ refused r → After hs xs p s
unfolding refused
after_refused hs xs p s r e = rw e (record { held = held_empty _ _; origin = λ ps ys m n d q. let z : ◌≡◌ {A = ℕ} 0 1 = cc in absurd (omega arith) })

gather_after : (hs : List Piece) (xs : List Seen) (b : Assembly) → Held hs xs b → (p : Piece) → Next b.progress p.bytes
    → (b.progress.next ≡ 0 → b.progress.message ≡ message_at p.bytes) → length xs ≡ length hs → (d : Bool) (s : Step) → GatherView b (carried p.bytes) d s → After hs xs p s
unfolding waiting completed
gather_after hs xs b H p N opened same d s (refuses r e) = after_refused hs xs p s r e
gather_after hs xs b H p N opened same d s (waits_on e) =
    rw e (record { held = held_more hs xs b H p N opened same d; origin = λ ps ys m n f q. let z : ◌≡◌ {A = ℕ} 0 1 = cc in absurd (omega arith) })
gather_after hs xs b H p N opened same d s (completes_it last e) = rw e (record {
  held = held_empty _ _;
  origin = λ ps ys m n f q.
      let em : b.progress.message ≡ m = cc in
      let en : b.progress.information_length ≡ n = cc in
      rw (← em, ← en) (made hs xs b H p N opened same ps ys _ last);
})

step_after : (hs : List Piece) (xs : List Seen) (a : Assembly) → Clean a → Held hs xs a → length xs ≡ length hs → (p : Piece) → After hs xs p (step_of a p.bytes p.room)
step_after hs xs a C H same p = go (feed_view a C p.bytes p.room)
  where
    go : {s : Step} → FeedView a p.bytes s → After hs xs p s
    go {s} (bad r e) = after_refused hs xs p s r e
    go {s} (starts q bytes d en eg w m N v) = gather_after hs xs (assembly_of q bytes) (held_none hs xs q bytes en eg w) p N (λ _. m) same d s v
    go {s} (joins later N v) = gather_after hs xs a H p N (λ z. absurd (omega (arith, later))) same false s v

-- ---- then a run

-- the first of what follows goes over to what was before
moved : (hs : List Piece) (p : Piece) (ps : List Piece) (xs : List Seen) (y : Seen) (ys : List Seen) (i : ℕ) (m : MessageHeader) (n : ℕ)
    → MadeOf ((hs ++ (p ∷ [])) ++ ps) ((xs ++ (y ∷ [])) ++ ys) (length (hs ++ (p ∷ [])) + i) m n → MadeOf (hs ++ (p ∷ ps)) (xs ++ (y ∷ ys)) (length hs + suc i) m n
moved hs p ps xs y ys i m n r =
    let at : length (hs ++ (p ∷ [])) + i ≡ length hs + suc i = omega (arith, length-append hs (p ∷ [])) in
    subst (λ (k : ℕ). MadeOf (hs ++ (p ∷ ps)) (xs ++ (y ∷ ys)) k m n) at
    (subst (λ (l : List Piece). MadeOf l (xs ++ (y ∷ ys)) (length (hs ++ (p ∷ [])) + i) m n) (append_assoc hs (p ∷ []) ps)
    (subst (λ (l : List Seen). MadeOf ((hs ++ (p ∷ [])) ++ ps) l (length (hs ++ (p ∷ [])) + i) m n) (append_assoc xs (y ∷ []) ys) r))

here : (hs : List Piece) (p : Piece) (ps : List Piece) (xs ys : List Seen) (m : MessageHeader) (n : ℕ)
    → MadeOf (hs ++ (p ∷ ps)) (xs ++ ys) (length hs) m n → MadeOf (hs ++ (p ∷ ps)) (xs ++ ys) (length hs + 0) m n
here hs p ps xs ys m n r = let at : length hs ≡ length hs + 0 = omega arith in subst (λ (k : ℕ). MadeOf (hs ++ (p ∷ ps)) (xs ++ ys) k m n) at r

one_longer : (hs : List Piece) (p : Piece) (xs : List Seen) (y : Seen) → length xs ≡ length hs → length (xs ++ (y ∷ [])) ≡ length (hs ++ (p ∷ []))
one_longer hs p xs y same = length-append xs (y ∷ []) ∙ ap (λ (k : ℕ). k + 1) same ∙ sym (length-append hs (p ∷ []))

-- what comes out of a run that goes on from an assembly that holds the last of hs
from_held : (ps : List Piece) (hs : List Piece) (xs : List Seen) (a : Assembly) → Clean a → Held hs xs a → length xs ≡ length hs → (i : ℕ) (m : MessageHeader) (n : ℕ) (d : Bool)
    → (seen_at (run_of a ps).seen i).answer ≡ Ok (Complete m n d) → MadeOf (hs ++ ps) (xs ++ (run_of a ps).seen) (length hs + i) m n
unfolding run_of
from_held [] hs xs a C H same i m n d e = let z : ◌≡◌ {A = ℕ} 0 1 = cc in absurd (omega arith)
from_held (p ∷ ps) hs xs a C H same zero m n d e =
    here hs p ps xs _ m n ((step_after hs xs a C H same p).origin ps (run_of (step_of a p.bytes p.room).assembly ps).seen m n d e)
from_held (p ∷ ps) hs xs a C H same (suc i) m n d e =
    let s = step_of a p.bytes p.room in
    moved hs p ps xs (seen_of s) (run_of s.assembly ps).seen i m n
    (from_held ps (hs ++ (p ∷ [])) (xs ++ (seen_of s ∷ [])) s.assembly (clean_step a p.bytes p.room C) (step_after hs xs a C H same p).held (one_longer hs p xs (seen_of s) same) i m n d e)

-- ---- where no message is complete, nothing comes out

quiet_gather : (b : Assembly) (xs : List ℕ) (d : Bool) (s : Step) → GatherView b xs d s → completes s.answer ≡ false → s.information ≡ []
unfolding refused waiting completed
quiet_gather b xs d s (refuses r e) c = ap (λ (x : Step). x.information) e
quiet_gather b xs d s (waits_on e) c = ap (λ (x : Step). x.information) e
quiet_gather b xs d s (completes_it last e) c = absurd (true≢false (sym (ap (λ (x : Step). completes x.answer) e) ∙ c))

quiet_step : (a : Assembly) (p : List ℕ) (room : ℕ) → completes (step_of a p room).answer ≡ false → (step_of a p room).information ≡ []
unfolding refused
quiet_step a p room = go (step_view a p room)
  where
    go : {s : Step} → StepView a s → completes s.answer ≡ false → s.information ≡ []
    go (view.bad r e) c = ap (λ (x : Step). x.information) e
    go {s} (view.starts h f xs G v) c = quiet_gather _ xs _ s v c
    go {s} (view.joins xs G v) c = quiet_gather a xs _ s v c

quiet : (ps : List Piece) (a : Assembly) (i : ℕ) → completes (seen_at (run_of a ps).seen i).answer ≡ false → (seen_at (run_of a ps).seen i).information ≡ []
unfolding run_of
quiet [] a i c = refl
quiet (p ∷ ps) a zero c = quiet_step a p.bytes p.room c
quiet (p ∷ ps) a (suc i) c = quiet ps (step_of a p.bytes p.room).assembly i c

pub invents_nothing : InventsNothing
invents_nothing ps i = go (seen_at (run_of empty ps).seen i).answer refl
  where
    go : (x : (Result Answer Refusal)) → (seen_at (run_of empty ps).seen i).answer ≡ x → ComesOut ps (run_of empty ps).seen i x
    go (Ok (Complete m n d)) e =
        let at : 0 + i ≡ i = omega arith in
        subst (λ (k : ℕ). MadeOf ps (run_of empty ps).seen k m n) at (from_held ps [] [] empty clean_empty (held_empty [] []) refl i m n d e)
    go (Ok (Pending d)) e = quiet ps empty i (ap completes e)
    go (Err r) e = quiet ps empty i (ap completes e)
