-- The bytes of an id, the id read from them, and when two are the same.
-- Assumes nothing.
use mathlib.Core.Path.{◌≡◌, refl, ap, ◌∙◌}
use mathlib.Core.Bool.{true}
use mathlib.Core.List.{List, ◌++◌}
use Prim.Native.Nat.{ℕ, ◌+◌, ◌≤◌}
use native.Mathlib.Omega.{arith}
use borrow.Author.Tests.{eqb-true, eq-eqb}
use lib.Dec.{eqb}
use lib.ListN.{length}
use lib.Seq.{sets}
use Rattle.wire.specs.Numbers.{u32_at, digits}
use Rattle.wire.proofs.Laws.{num_out, sets_then}
use Rattle.protocol.specs.Service.{id_at, id_bytes, same_id}
use Rattle.protocol.specs.declared.service.ServiceId.{ServiceId}
use Rattle.protocol.proofs.Tests.{and_both, both_and}

pub length_id : (i : ServiceId) → length (id_bytes i) ≡ 16
unfolding id_bytes
length_id i = refl

-- ids are the same exactly where they are equal
pub same_said : (a b : ServiceId) → same_id a b ≡ true → a ≡ b
unfolding same_id
same_said a b e =
    let k = and_both (eqb a.word0 b.word0) _ e in
    let l = and_both (eqb a.word1 b.word1) _ k.1 in
    let m = and_both (eqb a.word2 b.word2) _ l.1 in
    λ i. record {
      word0 = eqb-true a.word0 b.word0 k.0 i;
      word1 = eqb-true a.word1 b.word1 l.0 i;
      word2 = eqb-true a.word2 b.word2 m.0 i;
      word3 = eqb-true a.word3 b.word3 m.1 i;
    }

pub said_same : (a b : ServiceId) → a ≡ b → same_id a b ≡ true
unfolding same_id
said_same a b e =
    rw e
    (both_and (eqb b.word0 b.word0) _ (eq-eqb b.word0 b.word0 refl)
    (both_and (eqb b.word1 b.word1) _ (eq-eqb b.word1 b.word1 refl)
    (both_and (eqb b.word2 b.word2) _ (eq-eqb b.word2 b.word2 refl) (eq-eqb b.word3 b.word3 refl))))

-- past the end all words are zero
pub id_out : (s : List ℕ) (at : ℕ) → length s ≤ at → id_at s at ≡ record { word0 = 0; word1 = 0; word2 = 0; word3 = 0 }
unfolding id_at u32_at
id_out s at h = rw (num_out 4 s at h, num_out 4 s (at + 4) (omega arith), num_out 4 s (at + 8) (omega arith), num_out 4 s (at + 12) (omega arith))

-- four words stored one after another
pub four_words : (i : ServiceId) (s : List ℕ) (at : ℕ) {s₁ s₂ s₃ s₄ : List ℕ} → s₁ ≡ sets s at (digits 4 i.word0)
    → s₂ ≡ sets s₁ (at + 4) (digits 4 i.word1) → s₃ ≡ sets s₂ (at + 8) (digits 4 i.word2) → s₄ ≡ sets s₃ (at + 12) (digits 4 i.word3)
    → s₄ ≡ sets s at (id_bytes i)
unfolding id_bytes
four_words i s at {s₁} {s₂} {s₃} p q r t =
    let a : at + 8 ≡ at + 4 + 4 = omega arith in
    let b : at + 12 ≡ at + 8 + 4 = omega arith in
    let x = digits 4 i.word0 in
    let y = digits 4 i.word1 in
    let z = digits 4 i.word2 in
    let w = digits 4 i.word3 in
    let last : _ ≡ sets s₂ (at + 8) (z ++ w) = sets_then z w (at + 8) 4 s₂ refl r (t ∙ ap (λ (k : ℕ). sets s₃ k w) b) in
    let later : _ ≡ sets s₁ (at + 4) (y ++ (z ++ w)) = sets_then y (z ++ w) (at + 4) 4 s₁ refl q (last ∙ ap (λ (k : ℕ). sets s₂ k (z ++ w)) a) in
    sets_then x (y ++ (z ++ w)) at 4 s refl p later
