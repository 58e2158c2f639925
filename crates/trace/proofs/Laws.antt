-- Rows with marks, and how long marks are.
-- Assumes nothing.
use mathlib.Core.Path.{◌≡◌, refl, sym, ap, ◌∙◌}
use mathlib.Core.Bool.{Bool, true, false, cond}
use mathlib.Core.List.{List, [], ◌∷◌, ◌++◌, append_assoc, append-nil}
use Prim.Native.Nat.{ℕ, suc, ◌+◌, ◌≤◌, ◌<◌}
use native.Mathlib.Omega.{arith}
use lib.Dec.{eqb}
use lib.ListN.{length, take, drop, length-append, length-drop, drop_of_length-le}
use lib.Seq.{drop-drop, drop_at, take_at}
use Rattle.wire.specs.Output.{over}
use Rattle.wire.proofs.Laws.{take_over}
use Rattle.ascii.specs.Ascii.{line_feed, agreement, through}
use Rattle.ascii.proofs.Laws.{length_decimal}
use Rattle.rows.specs.Rows.{Put}
use Rattle.rows.proofs.Laws.{put_then, put_kept, put_over}
use Rattle.rows.proofs.Lengths.{field_le}
use Rattle.trace_line.specs.declared.Sender.{Sender}
use Rattle.trace_line.specs.declared.Sender.TheVariants.{Host, Device}
use Rattle.trace_step.specs.declared.Piece.{Piece}
use Rattle.protocol.specs.declared.Version.{Version}
use Rattle.assembler.specs.declared.door.Received.{Received}
use Rattle.assembler.specs.declared.door.Received.TheVariants as received
use Rattle.payload.specs.Payload.{shown_of}
use Rattle.trace_step.specs.Step.{Fronted, front_for, Held, Holds}
use Rattle.trace.specs.Marked.{marked_from, marked, without_header}
use Rattle.trace.specs.Heads.{head_of}
use Rattle.trace.specs.Replay.{sender_text, mark_of, fields_by, fields_in, fields_of, answer_text, FrontedIn, front_in}
use Rattle.std.specs.Prelude.{Ok, Err, Result}
use Rattle.protocol.specs.declared.Refusal.{Refusal}

-- ---- a row and the rows behind it

inside : (mark s : List ℕ) → marked_from mark false s ≡ take (through s line_feed) s ++ marked mark (drop (through s line_feed) s)
unfolding marked_from through
inside mark [] = refl
inside mark (b ∷ s) = go (eqb b line_feed) (inside mark s)
  where
    go : (t : Bool) → marked_from mark false s ≡ take (through s line_feed) s ++ marked mark (drop (through s line_feed) s)
        → b ∷ marked_from mark t s ≡ take (cond t 1 (suc (through s line_feed))) (b ∷ s) ++ marked mark (drop (cond t 1 (suc (through s line_feed))) (b ∷ s))
    go true h = refl
    go false h = ap (λ (x : List ℕ). b ∷ x) h

marked_row : (mark s : List ℕ) → 0 < length s → marked mark s ≡ (mark ++ take (through s line_feed) s) ++ marked mark (drop (through s line_feed) s)
unfolding marked_from
marked_row mark [] h = absurd (omega arith)
marked_row mark (b ∷ s) h = ap (λ (x : List ℕ). mark ++ x) (inside mark (b ∷ s)) ∙ sym (append_assoc mark (take (through (b ∷ s) line_feed) (b ∷ s)) (marked mark (drop (through (b ∷ s) line_feed) (b ∷ s))))

pub marked_next : (mark text done : List ℕ) (i n : ℕ) → i < length text → n ≡ through (drop i text) line_feed → done ++ marked mark (drop i text) ≡ marked mark text
    → (done ++ (mark ++ take n (drop i text))) ++ marked mark (drop (i + n) text) ≡ marked mark text
marked_next mark text done i n l e h =
    let r = drop i text in
    let d : drop n r ≡ drop (i + n) text = drop-drop n i text in
    append_assoc done (mark ++ take n r) (marked mark (drop (i + n) text))
    ∙ ap (λ (x : List ℕ). done ++ ((mark ++ take n r) ++ marked mark x)) (sym d)
    ∙ ap (λ (k : ℕ). done ++ ((mark ++ take k r) ++ marked mark (drop k r))) e
    ∙ ap (λ (x : List ℕ). done ++ x) (sym (marked_row mark r (rw (length-drop i text) (omega arith))))
    ∙ h

pub marked_end : (mark text done : List ℕ) (i : ℕ) → length text ≤ i → done ++ marked mark (drop i text) ≡ marked mark text → done ≡ marked mark text
unfolding marked_from
marked_end mark text done i l h = sym (append-nil done) ∙ (rw (drop_of_length-le text l) at h)

-- ---- marks are short

sender_le : (sender : Sender) → length (sender_text sender) ≤ 3
sender_le Host = omega arith
sender_le Device = omega arith

pub mark_le : (number : ℕ) (x : (Result Piece Refusal)) → length (mark_of number x) ≤ 48
unfolding mark_of
mark_le number (Err r) = simp length-append (omega (arith, length_decimal 20 number))
mark_le number (Ok piece) = simp length-append (omega (arith, length_decimal 20 number, field_le piece.elapsed, sender_le piece.sender))

-- ---- a word that a text agrees with is no longer than the text

pub agreement_le : (s w : List ℕ) → agreement s w ≤ length s
unfolding agreement
agreement_le s [] = omega arith
agreement_le [] (x ∷ w) = omega arith
agreement_le (b ∷ s) (x ∷ w) = go (eqb b x) (agreement_le s w)
  where
    go : (t : Bool) → agreement s w ≤ length s → cond t (suc (agreement s w)) 0 ≤ suc (length s)
    go true h = omega arith
    go false h = omega arith

-- ---- two texts put at the front of a room that is long enough for both

pub record Stored (s : List ℕ) (x y : List ℕ) (t : List ℕ) (n m : ℕ) : Type 0 where
  pub all : t ≡ over (x ++ y) s
  pub within : m ≤ length t
  pub ordered : n ≤ m
  pub first : take n (take m t) ≡ x
  pub second : drop n (take m t) ≡ y

pub stored : {s u t : List ℕ} {x y : List ℕ} {n m : ℕ} → Put s 0 x u n → Put u n y t m → length (x ++ y) ≤ length s → Stored s x y t n m
stored {s} {u} {t} {x} {y} {n} {m} p q h =
    let l = length-append x y in
    let a = put_over p (omega arith) in
    let b = put_over (put_then p q) h in
    let e : take m t ≡ x ++ y = ap (take m) b.1 ∙ take_over (x ++ y) s m (sym b.0) in
    record {
      all = b.1;
      within = omega (arith, put_kept (put_then p q), b.0);
      ordered = omega (arith, a.0, b.0);
      first = ap (take n) e ∙ take_at x y n (sym a.0);
      second = ap (drop n) e ∙ drop_at x y n (sym a.0);
    }

-- ---- the payload at the front of the bytes that a step gave is the information of the message

held_front : (x : (Result Received Refusal)) (information out : List ℕ) → Held x information out → Fronted x out
held_front (Ok (received.Complete m n d)) information out h = h.0
held_front (Ok (received.Whole t k w)) information out h = tt
held_front (Ok (received.Pending t k d)) information out h = tt
held_front (Err r) information out h = tt

pub holds_front : (x : (Result Piece Refusal)) (information out : List ℕ) → Holds x information out → FrontedIn x out
holds_front (Err r) information out h = tt
holds_front (Ok piece) information out h = held_front piece.received information out h

held_fields : (v : Version) (x : (Result Received Refusal)) (information out : List ℕ) → Held x information out → fields_in v (front_for x out) x ≡ fields_in v information x
unfolding fields_in
held_fields v (Ok (received.Complete m n d)) information out h = ap (λ (s : List ℕ). fields_by v s (shown_of m)) h.1
held_fields v (Ok (received.Whole t k w)) information out h = refl
held_fields v (Ok (received.Pending t k d)) information out h = refl
held_fields v (Err r) information out h = refl

pub holds_fields : (x : (Result Piece Refusal)) (information out : List ℕ) → Holds x information out → fields_of x (front_in x out) ≡ fields_of x information
unfolding fields_of
holds_fields (Err r) information out h = refl
holds_fields (Ok piece) information out h = held_fields piece.version piece.received information out h

pub holds_answer : (number : ℕ) (x : (Result Piece Refusal)) (information out : List ℕ) → Holds x information out → answer_text number x (front_in x out) ≡ answer_text number x information
unfolding answer_text
holds_answer number x information out h =
    ap (λ (f : List ℕ). marked (mark_of number x) (head_of x) ++ marked (mark_of number x) (without_header f)) (holds_fields x information out h)
