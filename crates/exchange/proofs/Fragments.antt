-- What the judges find in a fragment that was cut.
-- Assumes nothing.
use mathlib.Core.Path.{◌≡◌, refl, sym, ap, ◌∙◌}
use mathlib.Core.Bool.{Bool, true, false, cond, ◌&&◌}
use mathlib.Core.List.{List, [], ◌++◌}
use Prim.Native.Nat.{ℕ, ◌+◌, ◌-◌, ◌^◌, ◌≤◌, ◌<◌}
use native.Mathlib.Omega.{arith}
use lib.Dec.{eqb, ltb}
use lib.ListN.{length, drop, length-append}
use lib.Seq.{drop_at, drop-drop}
use Rattle.wire.specs.Numbers.{u32_at}
use Rattle.wire.proofs.Laws.{num_digits}
use Rattle.protocol.specs.MessageType.{COMMAND, INDICATE_STATUS, is_fragmented}
use Rattle.protocol.specs.Service.{id_at, id_bytes}
use Rattle.message.specs.Message.{most_information, most_transfer, fragment_of, length_place, first_length, word_at, message_at, declared_at, carried_by, wrong_word, wrong_amount}
use Rattle.message.specs.declared.FragmentHeader.{FragmentHeader}
use Rattle.message.specs.declared.MessageHeader.{MessageHeader}
use Rattle.message.specs.declared.Fragment.TheVariants as fragment
use Rattle.message.proofs.Headers.{accepted_later, accepted_opening}
use Rattle.cutter.specs.Cut.{header_bytes, fragment_bytes, word_bytes, opening_bytes, first_bytes}
use Rattle.cutter.proofs.Stored.{length_fragment, length_opening, length_first}
use Rattle.exchange.specs.Messages.{OfWidth, header_seen}
use Rattle.std.specs.Prelude.{Ok}

-- ---- any fragment

abbrev pub header_of : MessageHeader → ℕ → ℕ → FragmentHeader
header_of m total number = record { message_type = m.message_type; transaction = m.transaction; total = total; number = number }

module _ (m : MessageHeader) (F : OfWidth m) (total number : ℕ) (xs : List ℕ) (total32 : total < 2 ^ 32) (number32 : number < 2 ^ 32) (fits : 20 + length xs < 2 ^ 32) where
  at_0 : u32_at (fragment_bytes m total number xs) 0 ≡ m.message_type
  unfolding fragment_bytes header_bytes u32_at
  at_0 = num_digits 4 m.message_type [] F.type32

  at_4 : u32_at (fragment_bytes m total number xs) 4 ≡ 20 + length xs
  unfolding fragment_bytes header_bytes u32_at
  at_4 = num_digits 4 (20 + length xs) [] fits

  at_8 : u32_at (fragment_bytes m total number xs) 8 ≡ m.transaction
  unfolding fragment_bytes header_bytes u32_at
  at_8 = num_digits 4 m.transaction [] F.transaction32

  at_12 : u32_at (fragment_bytes m total number xs) 12 ≡ total
  unfolding fragment_bytes header_bytes u32_at
  at_12 = num_digits 4 total [] total32

  at_16 : u32_at (fragment_bytes m total number xs) 16 ≡ number
  unfolding fragment_bytes header_bytes u32_at
  at_16 = num_digits 4 number [] number32

  -- a later one is accepted with its own header
  pub later_judged : is_fragmented m.message_type ≡ true → total ≤ 128 → number < total → 0 < number → 20 + length xs ≤ most_transfer
      → fragment_of (fragment_bytes m total number xs) ≡ Ok (fragment.Later (header_of m total number))
  later_judged known few less later short =
      accepted_later (fragment_bytes m total number xs) (rw length_fragment (omega arith)) (at_4 ∙ sym (length_fragment m total number xs))
      (rw length_fragment short) (ap is_fragmented at_0 ∙ known) (rw at_12 (omega arith)) (rw at_12 few) (rw (at_16, at_12) less) (rw at_16 later)
      ∙ (λ i. Ok (fragment.Later (record { message_type = at_0 i; transaction = at_8 i; total = at_12 i; number = at_16 i })))

pub drop_fragment : (m : MessageHeader) (total number : ℕ) (xs : List ℕ) → drop 20 (fragment_bytes m total number xs) ≡ xs
unfolding fragment_bytes header_bytes
drop_fragment m total number xs = refl

-- ---- a first fragment of n bytes of information, of which it carries xs

carried_word : (m : MessageHeader) → wrong_word m ≡ false → wrong_word (header_seen m) ≡ false
unfolding wrong_word header_seen
carried_word m h = go (eqb m.message_type INDICATE_STATUS) (eqb m.message_type COMMAND) h
  where
    go : (b k : Bool) → (k && ltb 1 m.word) ≡ false → (k && ltb 1 (cond b 0 m.word)) ≡ false
    go true true e = refl
    go true false e = refl
    go false k e = e

module _ (m : MessageHeader) (F : OfWidth m) (total n : ℕ) (xs : List ℕ) (total32 : total < 2 ^ 32) (n32 : n < 2 ^ 32) where
  at_20 : id_at (first_bytes m total n xs) 20 ≡ m.service
  unfolding first_bytes fragment_bytes header_bytes opening_bytes id_bytes id_at u32_at
  at_20 = λ i. record {
    word0 = num_digits 4 m.service.word0 [] F.word0 i;
    word1 = num_digits 4 m.service.word1 [] F.word1 i;
    word2 = num_digits 4 m.service.word2 [] F.word2 i;
    word3 = num_digits 4 m.service.word3 [] F.word3 i;
  }

  at_36 : u32_at (first_bytes m total n xs) 36 ≡ m.cid
  unfolding first_bytes fragment_bytes header_bytes opening_bytes id_bytes u32_at
  at_36 = num_digits 4 m.cid [] F.cid32

  at_word : word_at m.message_type (first_bytes m total n xs) ≡ (header_seen m).word
  unfolding first_bytes fragment_bytes header_bytes opening_bytes word_bytes id_bytes u32_at word_at header_seen
  at_word = go (eqb m.message_type INDICATE_STATUS) refl
    where
      go : (b : Bool) → eqb m.message_type INDICATE_STATUS ≡ b → word_at m.message_type (first_bytes m total n xs) ≡ (header_seen m).word
      go true e = rw e refl
      go false e = rw e (num_digits 4 m.word [] F.word32)

  at_length : u32_at (first_bytes m total n xs) (length_place m.message_type) ≡ n
  unfolding first_bytes fragment_bytes header_bytes opening_bytes word_bytes id_bytes u32_at length_place
  at_length = go (eqb m.message_type INDICATE_STATUS) refl
    where
      go : (b : Bool) → eqb m.message_type INDICATE_STATUS ≡ b → u32_at (first_bytes m total n xs) (length_place m.message_type) ≡ n
      go true e = rw e (num_digits 4 n [] n32)
      go false e = rw e (num_digits 4 n [] n32)

-- it is accepted with the message that was cut
module _ (m : MessageHeader) (F : OfWidth m) (total n : ℕ) (xs : List ℕ) (few : total ≤ 128) (small : n ≤ most_information) (short : first_length m.message_type + length xs ≤ most_transfer) where
  fits : 20 + length (opening_bytes m n ++ xs) ≤ most_transfer
  fits = omega (arith, short, length_opening m n, length-append (opening_bytes m n) xs)

  first_0 : u32_at (first_bytes m total n xs) 0 ≡ m.message_type
  unfolding first_bytes
  first_0 = at_0 m F total 0 (opening_bytes m n ++ xs) (omega arith) (omega arith) (omega (arith, fits))

  first_8 : u32_at (first_bytes m total n xs) 8 ≡ m.transaction
  unfolding first_bytes
  first_8 = at_8 m F total 0 (opening_bytes m n ++ xs) (omega arith) (omega arith) (omega (arith, fits))

  first_12 : u32_at (first_bytes m total n xs) 12 ≡ total
  unfolding first_bytes
  first_12 = at_12 m F total 0 (opening_bytes m n ++ xs) (omega arith) (omega arith) (omega (arith, fits))

  message_read : message_at (first_bytes m total n xs) ≡ header_seen m
  unfolding message_at header_seen
  message_read = λ i. record {
    message_type = first_0 i;
    transaction = first_8 i;
    service = at_20 m F total n xs (omega arith) (omega arith) i;
    cid = at_36 m F total n xs (omega arith) (omega arith) i;
    word = (ap (λ (t : ℕ). word_at t (first_bytes m total n xs)) first_0 ∙ at_word m F total n xs (omega arith) (omega arith)) i;
  }

  declared_read : declared_at (first_bytes m total n xs) ≡ n
  declared_read = ap (λ (t : ℕ). u32_at (first_bytes m total n xs) (length_place t)) first_0 ∙ at_length m F total n xs (omega arith) (omega arith)

  carried_read : carried_by (first_bytes m total n xs) ≡ length xs
  carried_read =
      (λ i. length_first m total n xs i - first_length (first_0 i)) ∙ omega arith

  first_4 : u32_at (first_bytes m total n xs) 4 ≡ length (first_bytes m total n xs)
  unfolding first_bytes
  first_4 = at_4 m F total 0 (opening_bytes m n ++ xs) (omega arith) (omega arith) (omega (arith, fits)) ∙ sym (length_fragment m total 0 (opening_bytes m n ++ xs))

  first_16 : u32_at (first_bytes m total n xs) 16 ≡ 0
  unfolding first_bytes
  first_16 = at_16 m F total 0 (opening_bytes m n ++ xs) (omega arith) (omega arith) (omega (arith, fits))

  pub first_judged : is_fragmented m.message_type ≡ true → 0 < total → wrong_word m ≡ false → wrong_amount (eqb total 1) (length xs) n ≡ false
      → fragment_of (first_bytes m total n xs) ≡ Ok (fragment.First (header_of m total 0) (record { message = header_seen m; information_length = n }))
  first_judged known some word amount =
      accepted_opening (first_bytes m total n xs) first_4 (rw length_first short) (ap is_fragmented first_0 ∙ known) (rw first_12 some) (rw first_12 few) first_16
      (rw (first_0, length_first) (omega arith)) (ap wrong_word message_read ∙ carried_word m word) (rw declared_read small)
      ((λ i. wrong_amount (eqb (first_12 i) 1) (carried_read i) (declared_read i)) ∙ amount)
      ∙ (λ i. Ok (fragment.First (record { message_type = first_0 i; transaction = first_8 i; total = first_12 i; number = first_16 i }) (record { message = message_read i; information_length = declared_read i })))

pub drop_first : (m : MessageHeader) (total n : ℕ) (xs : List ℕ) → drop (first_length m.message_type) (first_bytes m total n xs) ≡ xs
unfolding first_bytes
drop_first m total n xs =
    ap (λ (k : ℕ). drop k (fragment_bytes m total 0 (opening_bytes m n ++ xs))) (sym (length_opening m n))
    ∙ sym (drop-drop (length (opening_bytes m n)) 20 (fragment_bytes m total 0 (opening_bytes m n ++ xs)))
    ∙ ap (drop (length (opening_bytes m n))) (drop_fragment m total 0 (opening_bytes m n ++ xs)) ∙ drop_at (opening_bytes m n) xs (length (opening_bytes m n)) refl
