-- The bytes of a fragment: how long they are, and the stores that make them.
-- Assumes nothing.
use Rattle.std.proofs.Common.{◌≡◌, ℕ, ◌+◌, Bool, true, false, cond, eqb, List, [], ◌++◌, length, refl, ap, ◌∙◌, arith, length-append}
use lib.Seq.{sets, length-sets}
use Rattle.wire.specs.Numbers.{digits}
use Rattle.wire.proofs.Laws.{sets_then}
use Rattle.protocol.specs.MessageType.{INDICATE_STATUS}
use Rattle.protocol.specs.Service.{id_bytes}
use Rattle.message.specs.Message.{length_place, first_length}
use Rattle.message.specs.declared.MessageHeader.{MessageHeader}
use Rattle.cutter.specs.Cut.{header_bytes, fragment_bytes, word_bytes, opening_bytes, first_bytes}

-- what is stored leaves the length
pub stored_length : (s : List ℕ) (at : ℕ) (xs : List ℕ) {t : List ℕ} → t ≡ sets s at xs → length t ≡ length s
stored_length s at xs e = ap length e ∙ length-sets s at xs

pub length_header : (m : MessageHeader) (n total number : ℕ) → length (header_bytes m n total number) ≡ 20
unfolding header_bytes
length_header m n total number = refl

pub length_fragment : (m : MessageHeader) (total number : ℕ) (xs : List ℕ) → length (fragment_bytes m total number xs) ≡ 20 + length xs
unfolding fragment_bytes
length_fragment m total number xs =
    length-append (header_bytes m (20 + length xs) total number) xs ∙ ap (λ (k : ℕ). k + length xs) (length_header m (20 + length xs) total number)

-- what stands before the information of a first fragment has the length of its header
pub length_opening : (m : MessageHeader) (n : ℕ) → 20 + length (opening_bytes m n) ≡ first_length m.message_type
unfolding opening_bytes word_bytes id_bytes length_place
length_opening m n = go (eqb m.message_type INDICATE_STATUS)
  where
    go : (b : Bool) → 20 + length (id_bytes m.service ++ (digits 4 m.cid ++ (cond b [] (digits 4 m.word) ++ digits 4 n))) ≡ cond b 40 44 + 4
    go true = refl
    go false = refl

pub length_first : (m : MessageHeader) (total n : ℕ) (xs : List ℕ) → length (first_bytes m total n xs) ≡ first_length m.message_type + length xs
unfolding first_bytes
length_first m total n xs =
    length_fragment m total 0 (opening_bytes m n ++ xs) ∙ omega (arith, length-append (opening_bytes m n) xs, length_opening m n)

-- the stores of a first fragment: its header, what it opens with, and the information
pub first_stored : (m : MessageHeader) (total n len head : ℕ) (xs s : List ℕ) {s₁ s₂ s₃ : List ℕ} → head ≡ first_length m.message_type → len ≡ head + length xs
    → s₁ ≡ sets s 0 (header_bytes m len total 0) → s₂ ≡ sets s₁ 20 (opening_bytes m n) → s₃ ≡ sets s₂ head xs → s₃ ≡ sets s 0 (first_bytes m total n xs)
unfolding first_bytes fragment_bytes
first_stored m total n len head xs s {s₁} {s₂} eh el p q r =
    let o = opening_bytes m n in
    let place : head ≡ 20 + length o = omega (arith, length_opening m n) in
    let all : len ≡ 20 + length (o ++ xs) = omega (arith, length-append o xs, length_opening m n) in
    let tail : _ ≡ sets s₁ 20 (o ++ xs) = sets_then o xs 20 (length o) s₁ refl q (r ∙ ap (λ (k : ℕ). sets s₂ k xs) place) in
    sets_then (header_bytes m (20 + length (o ++ xs)) total 0) (o ++ xs) 0 20 s (length_header m (20 + length (o ++ xs)) total 0)
    (p ∙ ap (λ (k : ℕ). sets s 0 (header_bytes m k total 0)) all) tail
