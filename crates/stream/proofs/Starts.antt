-- What stands at the front of some bytes, and that more bytes behind them don't change it.
-- Assumes nothing.
use mathlib.Core.Path.{◌≡◌, refl, sym, ap, ◌∙◌}
use mathlib.Core.Bool.{Bool, true, false, not, cond, ◌||◌}
use mathlib.Core.List.{List, ◌++◌}
use Prim.Native.Nat.{ℕ, zero, suc, ◌+◌, ◌≤◌, ◌<◌}
use native.Mathlib.Omega.{arith}
use native.Mathlib.Decide.{dec_le}
use borrow.Author.Tests.{ltb-true, ltb-false, eqb-true, le-ltb, not-false}
use lib.Dec.{ltb, eqb}
use lib.ListN.{length, length-append, get_or-append}
use Rattle.wire.specs.Numbers.{num, u32_at}
use Rattle.protocol.specs.MessageType.{is_whole, CLOSE}
use Rattle.message.specs.Message.{whole_length}
use Rattle.stream.specs.declared.front.Next.{Next}
use Rattle.stream.specs.declared.front.Next.TheVariants.{Short, Ends, Piece}
use Rattle.stream.specs.Stream.{wrong_start, next_of}

-- ---- numbers at the front

num_front : (n : ℕ) (y r : List ℕ) (at : ℕ) → at + n ≤ length y → num n (y ++ r) at ≡ num n y at
num_front zero y r at h = refl
num_front (suc n) y r at h = rw (get_or-append y r 0 at (omega arith), num_front n y r (suc at) (omega arith))

pub word_front : (y r : List ℕ) (at : ℕ) → at + 4 ≤ length y → u32_at (y ++ r) at ≡ u32_at y at
unfolding u32_at
word_front y r at h = num_front 4 y r at h

-- ---- a length field that doesn't end the stream is 12 to 4,096

whole_bounds : (t : ℕ) → (12 ≤ whole_length t) × (whole_length t ≤ 16)
unfolding whole_length
whole_bounds t = go (eqb t CLOSE)
  where
    go : (b : Bool) → (12 ≤ cond b 12 16) × (cond b 12 16 ≤ 16)
    go true = (omega arith, omega arith)
    go false = (omega arith, omega arith)

pub right_start : (t n : ℕ) → wrong_start t n ≡ false → (12 ≤ n) × (n ≤ 4096)
unfolding wrong_start
right_start t n = go (is_whole t) (ltb n 20) refl
  where
    go : (w l : Bool) → ltb n 20 ≡ l → cond w (not (eqb n (whole_length t))) (l || ltb 4096 n) ≡ false → (12 ≤ n) × (n ≤ 4096)
    go true l e h =
        let k : n ≡ whole_length t = eqb-true _ _ (not-false _ h) in
        let z = whole_bounds t in
        (omega arith, omega arith)
    go false true e h = let z : ◌≡◌ {A = ℕ} 0 1 = cc in absurd (omega arith)
    go false false e h = (omega (arith, ltb-false n 20 e), ltb-false 4096 n h)

-- ---- what stands at the front of x, in words

pub record IsPiece (x : List ℕ) (n : ℕ) : Type 0 where
  pub long : 8 ≤ length x
  pub field : u32_at x 4 ≡ n
  pub right : wrong_start (u32_at x 0) n ≡ false
  pub there : n ≤ length x

pub record IsFault (x : List ℕ) (t : ℕ) : Type 0 where
  pub long : 8 ≤ length x
  pub type : u32_at x 0 ≡ t
  pub wrong : wrong_start t (u32_at x 4) ≡ true

pub data IsShort (x : List ℕ) : Type 0 where
  head : length x < 8 → IsShort x
  body : 8 ≤ length x → wrong_start (u32_at x 0) (u32_at x 4) ≡ false → length x < u32_at x 4 → IsShort x

abbrev Says : List ℕ → Next → Type 0
Says x Short = IsShort x
Says x (Ends t) = IsFault x t
Says x (Piece n) = IsPiece x n

pub says : (x : List ℕ) → Says x (next_of x)
unfolding next_of
says x = go (ltb (length x) 8) refl (wrong_start (u32_at x 0) (u32_at x 4)) refl (ltb (length x) (u32_at x 4)) refl
  where
    go : (a : Bool) → ltb (length x) 8 ≡ a → (b : Bool) → wrong_start (u32_at x 0) (u32_at x 4) ≡ b → (d : Bool) → ltb (length x) (u32_at x 4) ≡ d
        → Says x (cond a Short (cond b (Ends (u32_at x 0)) (cond d Short (Piece (u32_at x 4)))))
    go true ea b eb d ed = head (ltb-true _ _ ea)
    go false ea true eb d ed = record { long = ltb-false _ _ ea; type = refl; wrong = eb }
    go false ea false eb true ed = body (ltb-false _ _ ea) eb (ltb-true _ _ ed)
    go false ea false eb false ed = record { long = ltb-false _ _ ea; field = refl; right = eb; there = ltb-false _ _ ed }

pub piece_says : (x : List ℕ) (n : ℕ) → next_of x ≡ Piece n → IsPiece x n
piece_says x n e = rw e at (says x)

pub fault_says : (x : List ℕ) (t : ℕ) → next_of x ≡ Ends t → IsFault x t
fault_says x t e = rw e at (says x)

pub short_says : (x : List ℕ) → next_of x ≡ Short → IsShort x
short_says x e = rw e at (says x)

pub is_piece : (x : List ℕ) (n : ℕ) → IsPiece x n → next_of x ≡ Piece n
unfolding next_of
is_piece x n P = rw (P.field, le-ltb (length x) 8 P.long, P.right, le-ltb (length x) n P.there)

is_fault : (x : List ℕ) (t : ℕ) → IsFault x t → next_of x ≡ Ends t
unfolding next_of
is_fault x t F = rw (P-type, le-ltb (length x) 8 F.long, F.wrong)
  where
    P-type : u32_at x 0 ≡ t
    P-type = F.type

-- the bytes that a piece has, held and fed
pub piece_bounds : (x : List ℕ) (n : ℕ) → next_of x ≡ Piece n → (12 ≤ n) × (n ≤ 4096) × (n ≤ length x)
piece_bounds x n e =
    let P = piece_says x n e in
    let b = right_start (u32_at x 0) n P.right in
    (b.0, b.1, P.there)

-- fewer than 4,096 bytes are held
pub short_bound : (x : List ℕ) → next_of x ≡ Short → length x < 4096
short_bound x e = go (short_says x e)
  where
    go : IsShort x → length x < 4096
    go (head l) = omega arith
    go (body f r l) = omega (arith, (right_start _ _ r).1)

-- ---- more bytes behind change nothing

pub piece_front : (x r : List ℕ) (n : ℕ) → next_of x ≡ Piece n → next_of (x ++ r) ≡ Piece n
piece_front x r n e =
    let P = piece_says x n e in
    is_piece (x ++ r) n (record {
      long = omega (arith, P.long, length-append x r);
      field = word_front x r 4 P.long ∙ P.field;
      right = ap (λ (t : ℕ). wrong_start t n) (word_front x r 0 (omega (arith, P.long))) ∙ P.right;
      there = omega (arith, P.there, length-append x r);
    })

pub fault_front : (x r : List ℕ) (t : ℕ) → next_of x ≡ Ends t → next_of (x ++ r) ≡ Ends t
fault_front x r t e =
    let P = fault_says x t e in
    is_fault (x ++ r) t (record {
      long = omega (arith, P.long, length-append x r);
      type = word_front x r 0 (omega (arith, P.long)) ∙ P.type;
      wrong = ap (wrong_start t) (word_front x r 4 P.long) ∙ P.wrong;
    })

-- ---- so what is held of an unfinished piece is shorter than the piece, and than a field that ends the stream

pub piece_past : (h c : List ℕ) (n : ℕ) → next_of h ≡ Short → next_of (h ++ c) ≡ Piece n → length h < n
piece_past h c n s e = elim (dec_le n (length h)) [
  | yes l ↦ (
      let P = piece_says (h ++ c) n e in
      let b = right_start (u32_at (h ++ c) 0) n P.right in
      let long : 8 ≤ length h = omega (arith, b.0) in
      let q : next_of h ≡ Piece n = is_piece h n (record {
        long = long;
        field = sym (word_front h c 4 long) ∙ P.field;
        right = ap (λ (t : ℕ). wrong_start t n) (sym (word_front h c 0 (omega arith))) ∙ P.right;
        there = l;
      }) in
      let z : ◌≡◌ {A = ℕ} 0 1 = cc in absurd (omega arith))
  | no l ↦ omega arith
]

pub fault_past : (h c : List ℕ) (t : ℕ) → next_of h ≡ Short → next_of (h ++ c) ≡ Ends t → length h < 8
fault_past h c t s e = elim (dec_le 8 (length h)) [
  | yes l ↦ (
      let P = fault_says (h ++ c) t e in
      let q : next_of h ≡ Ends t = is_fault h t (record {
        long = l;
        type = sym (word_front h c 0 (omega arith)) ∙ P.type;
        wrong = ap (wrong_start t) (sym (word_front h c 4 l)) ∙ P.wrong;
      }) in
      let z : ◌≡◌ {A = ℕ} 0 1 = cc in absurd (omega arith))
  | no l ↦ omega arith
]
