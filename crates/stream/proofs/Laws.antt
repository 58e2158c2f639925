-- Laws of the bytes held and then a chunk, for the code.
-- Assumes nothing.
use mathlib.Core.Path.{◌≡◌, sym, ap, ◌∙◌}
use mathlib.Core.List.{List, ◌++◌}
use Prim.Native.Nat.{ℕ, ◌+◌, ◌-◌, ◌≤◌, ◌<◌, min}
use native.Mathlib.Omega.{arith}
use native.Mathlib.Decide.{dec_le}
use lib.ListN.{length, get_or, take, length-append, get_or-append}
use lib.Seq.{length-take-le, get_or-take, get_or-append-add, take_all}
use Rattle.wire.specs.Numbers.{num, u32_at}
use Rattle.wire.proofs.Laws.{num_skip, num_in}
use Rattle.stream.proofs.Starts.{word_front}

-- no more bytes are held than the buffer has
pub take_least : (k m : ℕ) (piece : List ℕ) → m ≡ min k (length piece) → take m piece ≡ take k piece
take_least k m piece e = elim (dec_le k (length piece)) [
  | yes f ↦ (let g : m ≡ k = omega arith in ap (λ (j : ℕ). take j piece) g)
  | no f ↦ take_all m piece (omega arith) ∙ sym (take_all k piece (omega arith))
]

-- ---- the bytes held and then a chunk

module _ (held : ℕ) (piece chunk : List ℕ) (fits : held ≤ length piece) where
  pub held_length : length (take held piece ++ chunk) ≡ held + length chunk
  held_length = omega (arith, length-append (take held piece) chunk, length-take-le held piece fits)

  pub byte_held : (at : ℕ) → at < held → get_or piece at 0 ≡ get_or (take held piece ++ chunk) at 0
  byte_held at l =
      sym (get_or-append (take held piece) chunk 0 at (omega (arith, length-take-le held piece fits)) ∙ get_or-take held piece at 0 l)

  pub byte_fed : (at : ℕ) → held ≤ at → get_or chunk (at - held) 0 ≡ get_or (take held piece ++ chunk) at 0
  byte_fed at l =
      let e : length (take held piece) + (at - held) ≡ at = omega (arith, length-take-le held piece fits) in
      sym (get_or-append-add (take held piece) chunk (at - held) 0) ∙ ap (λ (k : ℕ). get_or (take held piece ++ chunk) k 0) e

  -- a number that lies in the one or in the other
  pub word_held : (at : ℕ) → at + 4 ≤ held → u32_at piece at ≡ u32_at (take held piece ++ chunk) at
  unfolding u32_at
  word_held at l =
      let e : 0 + at ≡ at = omega arith in
      sym (num_in 4 held piece 0 at l ∙ ap (num 4 piece) e) ∙ sym (word_front (take held piece) chunk at (omega (arith, length-take-le held piece fits)))

  pub word_fed : (at : ℕ) → held ≤ at → u32_at chunk (at - held) ≡ u32_at (take held piece ++ chunk) at
  unfolding u32_at
  word_fed at l =
      let e : length (take held piece) + (at - held) ≡ at = omega (arith, length-take-le held piece fits) in
      sym (num_skip 4 (take held piece) chunk (at - held)) ∙ ap (num 4 (take held piece ++ chunk)) e
