-- A whole message that is written is judged good, and is what was written.
-- Assumes nothing.
use Prim.Native.Nat.{ℕ, ◌^◌, ◌≤◌, ◌<◌}
use mathlib.Core.Path.{◌≡◌, refl}
use mathlib.Core.Bool.{Bool, true, false, cond}
use mathlib.Core.List.{[], ◌++◌}
use native.Mathlib.Omega.{arith}
use borrow.Author.Tests.{eq-eqb, le-ltb}
use lib.Dec.{eqb}
use lib.ListN.{length}
use Rattle.wire.specs.Numbers.{u32_at, digits}
use Rattle.wire.proofs.Laws.{num_digits}
use Rattle.protocol.specs.MessageType.{CLOSE, is_whole}
use Rattle.protocol.specs.Verdict.{Kept}
use Rattle.protocol.proofs.Tests.{not_kept}
use Rattle.protocol.proofs.Verdicts.{fits_kept, kept_fits, written_fits, written_front}
use Rattle.message.specs.Message.{whole_length, whole_rules, whole_word_at, whole_by, whole_of, head_bytes, whole_bytes, write_whole_of}
use Rattle.message.specs.Claims.{WholeBack}
use Rattle.std.specs.Prelude.{Ok}

-- the bytes are as many as the type has
pub length_whole_bytes : (t x w : ℕ) → length (whole_bytes t x w) ≡ whole_length t
unfolding whole_bytes head_bytes whole_length
length_whole_bytes t x w = go (eqb t CLOSE)
  where
    go : (b : Bool) → length (head_bytes t x ++ cond b [] (digits 4 w)) ≡ cond b 12 16
    go true = refl
    go false = refl

least : (t : ℕ) → 12 ≤ whole_length t
unfolding whole_length
least t = go (eqb t CLOSE)
  where
    go : (b : Bool) → 12 ≤ cond b 12 16
    go true = omega arith
    go false = omega arith

module _ (t x w : ℕ) (t32 : t < 2 ^ 32) (x32 : x < 2 ^ 32) (w32 : w < 2 ^ 32) where
  at_0 : u32_at (whole_bytes t x w) 0 ≡ t
  unfolding whole_bytes head_bytes u32_at
  at_0 = num_digits 4 t [] t32

  at_4 : u32_at (whole_bytes t x w) 4 ≡ whole_length t
  unfolding whole_bytes head_bytes u32_at whole_length
  at_4 = go (eqb t CLOSE)
    where
      go : (b : Bool) → u32_at (digits 4 t ++ (digits 4 (cond b 12 16) ++ (digits 4 x ++ []))) 4 ≡ cond b 12 16
      go true = refl
      go false = refl

  at_8 : u32_at (whole_bytes t x w) 8 ≡ x
  unfolding whole_bytes head_bytes u32_at
  at_8 = num_digits 4 x [] x32

  at_word : whole_word_at t (whole_bytes t x w) ≡ cond (eqb t CLOSE) 0 w
  unfolding whole_bytes head_bytes u32_at whole_word_at
  at_word = go (eqb t CLOSE)
    where
      go : (b : Bool) → cond b 0 (u32_at (head_bytes t x ++ cond b [] (digits 4 w)) 12) ≡ cond b 0 w
      go true = refl
      go false = num_digits 4 w [] w32

  kept : is_whole t ≡ true → Kept (whole_rules (whole_bytes t x w))
  kept known =
      rw (at_0, at_4, length_whole_bytes t x w, known, eq-eqb (whole_length t) (whole_length t) refl) (le-ltb _ _ (least t), (refl, (refl, (refl, tt))))

  judged : is_whole t ≡ true → whole_of (whole_bytes t x w) ≡ Ok (record { message_type = t; transaction = x; word = (cond (eqb t CLOSE) 0 w) })
  unfolding whole_of whole_by
  judged known = rw (kept_fits (whole_rules (whole_bytes t x w)) (kept known), at_0, at_8, at_word)

pub whole_back : WholeBack
unfolding write_whole_of
whole_back t x w t32 x32 w32 out n e =
    rw (written_front _ (whole_bytes t x w) out n e)
    (judged t x w t32 x32 w32 (not_kept (is_whole t) (fits_kept _ (written_fits _ (whole_bytes t x w) out n e)).0))
