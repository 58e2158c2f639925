-- Numbers that are taken are reached: a first fragment, one that carries the rest of what is gathered, and then fragments that carry nothing.
-- Assumes nothing.
use mathlib.Core.Path.{◌≡◌, refl, sym, ap, ◌∙◌}
use mathlib.Core.Logic.{◌⊎◌, inl, inr}
use mathlib.Core.Bool.{Bool, true, false, cond}
use mathlib.Core.List.{List, [], ◌∷◌, ◌++◌}
use Prim.Native.Nat.{ℕ, zero, suc, ◌+◌, ◌-◌, ◌/◌, ◌≤◌, ◌<◌}
use native.Mathlib.Omega.{arith}
use borrow.Author.Tests.{eqb-false, ne_eqb, ltb-false, leb-false}
use lib.Dec.{eqb, ltb}
use lib.ListN.{length, replicate, length-replicate}
use lib.Seq.{sets}
use Rattle.wire.specs.Numbers.{digits}
use Rattle.protocol.specs.MessageType.{COMMAND, INDICATE_STATUS, is_fragmented}
use Rattle.protocol.specs.Service.{id_bytes}
use Rattle.protocol.specs.Verdict.{Kept, no_fault}
use Rattle.protocol.proofs.Tests.{and_cases, cases_and, not_kept, equal_kept}
use Rattle.protocol.proofs.Verdicts.{fits_kept}
use Rattle.message.specs.Message.{most_information, most_transfer, first_length, wrong_word}
use Rattle.message.specs.declared.MessageHeader.{MessageHeader}
use Rattle.message.proofs.Headers.{place_most, right_less}
use Rattle.assembler.specs.Assembly.{empty, is_pending, waiting, begun_bytes, step_of}
use Rattle.assembler.specs.Run.{Piece, run_of}
use Rattle.assembler.specs.declared.Progress.{Progress}
use Rattle.assembler.specs.declared.Assembly.{Assembly}
use Rattle.cutter.specs.Cut.{header_bytes, fragment_bytes, word_bytes, opening_bytes, first_bytes}
use Rattle.exchange.specs.Messages.{OfWidth, header_seen}
use Rattle.exchange.proofs.Runs.{held, first_step, next_step, gather_wait}
use Rattle.lent_progress.specs.LentProgress.{stray_word, above_carried, pending_rules, progress_verdict}
use Rattle.lent_claims.specs.Given.{WordsOfWidth, Bytes}
use Rattle.lent_claims.specs.AssemblyMemory.{words_of, AllBytes, NumbersReached, NumbersTakenExactly}
use Rattle.lent_claims.proofs.NumbersLeft.{Taken, none, waiting as pending, taken, reached_fits}

-- ---- fragments are bytes

none_bytes : Bytes []
none_bytes i = omega arith

append_bytes : (a b : List ℕ) → Bytes a → Bytes b → Bytes (a ++ b)
append_bytes [] b p q i = q i
append_bytes (x ∷ xs) b p q zero = p 0
append_bytes (x ∷ xs) b p q (suc i) = append_bytes xs b (λ j. p (suc j)) q i

digits_bytes : (n v : ℕ) → Bytes (digits n v)
digits_bytes zero v i = omega arith
digits_bytes (suc n) v zero = omega arith
digits_bytes (suc n) v (suc i) = digits_bytes n (v / 256) i

zeros_bytes : (n : ℕ) → Bytes (replicate n 0)
zeros_bytes zero i = omega arith
zeros_bytes (suc n) zero = omega arith
zeros_bytes (suc n) (suc i) = zeros_bytes n i

fragment_bytes_lem : (m : MessageHeader) (total number : ℕ) (xs : List ℕ) → Bytes xs → Bytes (fragment_bytes m total number xs)
unfolding fragment_bytes header_bytes
fragment_bytes_lem m total number xs b =
    let n = 20 + length xs in
    let t₃ = digits 4 total ++ digits 4 number in
    let t₂ = digits 4 m.transaction ++ t₃ in
    let t₁ = digits 4 n ++ t₂ in
    append_bytes (header_bytes m n total number) xs
    (append_bytes (digits 4 m.message_type) t₁ (digits_bytes 4 m.message_type)
    (append_bytes (digits 4 n) t₂ (digits_bytes 4 n)
    (append_bytes (digits 4 m.transaction) t₃ (digits_bytes 4 m.transaction) (append_bytes (digits 4 total) (digits 4 number) (digits_bytes 4 total) (digits_bytes 4 number))))) b

word_bytes_lem : (m : MessageHeader) → Bytes (word_bytes m)
unfolding word_bytes
word_bytes_lem m = go (eqb m.message_type INDICATE_STATUS)
  where
    go : (b : Bool) → Bytes (cond b [] (digits 4 m.word))
    go true = none_bytes
    go false = digits_bytes 4 m.word

id_bytes_lem : (m : MessageHeader) → Bytes (id_bytes m.service)
unfolding id_bytes
id_bytes_lem m =
    let s = m.service in
    let t₂ = digits 4 s.word2 ++ digits 4 s.word3 in
    let t₁ = digits 4 s.word1 ++ t₂ in
    append_bytes (digits 4 s.word0) t₁ (digits_bytes 4 s.word0)
    (append_bytes (digits 4 s.word1) t₂ (digits_bytes 4 s.word1) (append_bytes (digits 4 s.word2) (digits 4 s.word3) (digits_bytes 4 s.word2) (digits_bytes 4 s.word3)))

first_bytes_lem : (m : MessageHeader) (total n : ℕ) (xs : List ℕ) → Bytes xs → Bytes (first_bytes m total n xs)
unfolding first_bytes opening_bytes
first_bytes_lem m total n xs b =
    let t₂ = word_bytes m ++ digits 4 n in
    let t₁ = digits 4 m.cid ++ t₂ in
    fragment_bytes_lem m total 0 (opening_bytes m n ++ xs)
    (append_bytes (opening_bytes m n) xs
    (append_bytes (id_bytes m.service) t₁ (id_bytes_lem m) (append_bytes (digits 4 m.cid) t₂ (digits_bytes 4 m.cid) (append_bytes (word_bytes m) (digits 4 n) (word_bytes_lem m) (digits_bytes 4 n)))) b)

-- ---- a message of which `declared` bytes are to come in `total` fragments

abbrev piece : List ℕ → Piece
piece s = record { bytes = s; room = 0 }

-- the progress once `number` fragments came
abbrev at : MessageHeader → ℕ → ℕ → ℕ → ℕ → Progress
at m total declared number gathered = record { message = header_seen m; total = total; next = number; information_length = declared; gathered = gathered }

module _ (m : MessageHeader) (F : OfWidth m) (known : is_fragmented m.message_type ≡ true) (word : wrong_word m ≡ false) (total declared : ℕ) (few : total ≤ 128) (small : declared ≤ most_information) where
  begins : (xs : List ℕ) → 1 < total → length xs ≤ declared → first_length m.message_type + length xs ≤ most_transfer → (a : Assembly)
      → (b : List ℕ) × ((step_of a (first_bytes m total declared xs) 0).assembly ≡ held m total declared 1 (0 + length xs) b)
  unfolding waiting
  begins xs more within short a =
      let last : 1 ≡ total → ⊥ = λ e. omega (arith, more, e) in
      let single : total ≡ 1 → ⊥ = λ e. omega (arith, more, e) in
      let d = is_pending a.progress in
      let start = begun_bytes d a.bytes in (
        sets start 0 xs,
        ap (λ s. s.assembly) (first_step m F known total few a 0 declared xs (omega (arith, more)) word small short
            (right_less (eqb total 1) (length xs) declared (ne_eqb total 1 single) within)
            ∙ gather_wait m total declared 0 0 start xs d 0 last),
      )

  joins : (number gathered : ℕ) (bytes xs : List ℕ) → 0 < number → number + 1 < total → gathered + length xs ≤ declared → 20 + length xs ≤ most_transfer
      → (step_of (held m total declared number gathered bytes) (fragment_bytes m total number xs) 0).assembly ≡ held m total declared (number + 1) (gathered + length xs) (sets bytes gathered xs)
  unfolding waiting
  joins number gathered bytes xs some more within short =
      let last : number + 1 ≡ total → ⊥ = λ e. omega (arith, more, e) in
      ap (λ s. s.assembly) (next_step m F known total few declared number gathered bytes xs 0 some (omega (arith, more)) short small
      (right_less (eqb (number + 1) total) (gathered + length xs) declared (ne_eqb (number + 1) total last) within)
      ∙ gather_wait m total declared number gathered bytes xs false 0 last)

  -- fragments that carry nothing
  empties : ℕ → ℕ → List Piece
  empties number zero = []
  empties number (suc n) = piece (fragment_bytes m total number []) ∷ empties (number + 1) n

  empties_given : (number n : ℕ) → AllBytes (empties number n)
  unfolding empties
  empties_given number zero = tt
  empties_given number (suc n) = (fragment_bytes_lem m total number [] none_bytes, empties_given (number + 1) n)

  empties_run : (n number gathered : ℕ) (bytes : List ℕ) → 0 < number → number + n < total → gathered ≤ declared
      → (run_of (held m total declared number gathered bytes) (empties number n)).end.progress ≡ at m total declared (number + n) gathered
  unfolding empties run_of
  empties_run zero number gathered bytes some more within = let e : number ≡ number + 0 = omega arith in ap (λ (k : ℕ). at m total declared k gathered) e
  empties_run (suc n) number gathered bytes some more within =
      let e : number + 1 + n ≡ number + suc n = omega arith in
      let z : gathered + 0 ≡ gathered = omega arith in
      rw (joins number gathered bytes [] some (omega (arith, more)) (omega (arith, within)) (omega arith))
      (empties_run n (number + 1) (gathered + 0) (sets bytes gathered []) (omega arith) (omega (arith, more)) (omega (arith, within))
      ∙ (λ i. at m total declared (e i) (z i)))

  -- one fragment came
  reach_one : (g : ℕ) → 1 < total → g ≤ declared → first_length m.message_type + g ≤ most_transfer → NumbersReached (at m total declared 1 g)
  unfolding run_of
  reach_one g more within short =
      let xs = replicate {A = ℕ} g 0 in
      let l : length xs ≡ g = length-replicate {A = ℕ} g 0 in
      let s = begins xs more (omega (arith, l, within)) (omega (arith, l, short)) empty in
      record {
        pieces = piece (first_bytes m total declared xs) ∷ [];
        given = (first_bytes_lem m total declared xs (zeros_bytes g), tt);
        end = ap (λ (a : Assembly). a.progress) s.1 ∙ ap (at m total declared 1) (let z : 0 + length xs ≡ g = omega (arith, l) in z);
      }

  -- two or more: the second carries up to 48 bytes, the first what is before them
  reach_more : (n g : ℕ) → 2 + n < total → g ≤ declared → NumbersReached (at m total declared (2 + n) g)
  unfolding run_of
  reach_more n g more within =
      let xs = replicate {A = ℕ} (g - 48) 0 in
      let ys = replicate {A = ℕ} (g - (g - 48)) 0 in
      let lx : length xs ≡ g - 48 = length-replicate {A = ℕ} (g - 48) 0 in
      let ly : length ys ≡ g - (g - 48) = length-replicate {A = ℕ} (g - (g - 48)) 0 in
      let head : first_length m.message_type ≤ 48 = omega (arith, place_most m.message_type) in
      let s = begins xs (omega (arith, more)) (omega (arith, lx, within)) (omega (arith, lx, within, small, head)) empty in
      let all : 0 + length xs + length ys ≡ g = omega (arith, lx, ly) in
      record {
        pieces = piece (first_bytes m total declared xs) ∷ piece (fragment_bytes m total 1 ys) ∷ empties 2 n;
        given = (first_bytes_lem m total declared xs (zeros_bytes (g - 48)), (fragment_bytes_lem m total 1 ys (zeros_bytes (g - (g - 48))), empties_given 2 n));
        end = rw (s.1, joins 1 (0 + length xs) s.0 ys (omega arith) (omega (arith, more)) (omega (arith, all, within)) (omega (arith, ly)))
            (empties_run n 2 (0 + length xs + length ys) (sets s.0 (0 + length xs) ys) (omega arith) more (omega (arith, all, within)) ∙ ap (at m total declared (2 + n)) all);
      }

-- ---- any numbers that are taken

words_fit : (p : Progress) → WordsOfWidth (words_of p) → OfWidth p.message
words_fit p x = record {
  type32 = x.0;
  transaction32 = x.1.0;
  word0 = x.1.1.0;
  word1 = x.1.1.1.0;
  word2 = x.1.1.1.1.0;
  word3 = x.1.1.1.1.1.0;
  cid32 = x.1.1.1.1.1.1.0;
  word32 = x.1.1.1.1.1.1.1.0;
}

-- a word that a first fragment has is header_seen as it is, and is none that the judge refuses
own_word : (m : MessageHeader) → stray_word m ≡ false → (header_seen m ≡ m) × (wrong_word m ≡ false)
unfolding stray_word header_seen wrong_word
own_word m k = go (eqb m.message_type INDICATE_STATUS) refl
  where
    go : (b : Bool) → eqb m.message_type INDICATE_STATUS ≡ b → (header_seen m ≡ m) × (wrong_word m ≡ false)
    go true e =
        let w : m.word ≡ 0 = equal_kept m.word 0 (rw e at k) in (
          rw e (λ i. record { message_type = m.message_type; transaction = m.transaction; service = m.service; cid = m.cid; word = sym w i }),
          cases_and (eqb m.message_type COMMAND) (ltb 1 m.word) (inr (rw w refl)),
        )
    go false e = (rw e refl, rw e at k)

carried_fits : (p : Progress) → p.next ≡ 1 → above_carried p ≡ false → first_length p.message.message_type + p.gathered ≤ most_transfer
unfolding above_carried
carried_fits p n k = go (and_cases (eqb p.next 1) _ k)
  where
    go : (eqb p.next 1 ≡ false) ⊎ (ltb most_transfer (first_length p.message.message_type + p.gathered) ≡ false) → first_length p.message.message_type + p.gathered ≤ most_transfer
    go (inl e) = absurd (eqb-false p.next 1 e n)
    go (inr e) = ltb-false _ _ e

pub numbers_reached : (p : Progress) → WordsOfWidth (words_of p) → progress_verdict p ≡ no_fault → NumbersReached p
unfolding run_of
numbers_reached p x e = go (taken p e)
  where
    m : MessageHeader
    m = p.message

    more : Kept (pending_rules p) → (n : ℕ) → p.next ≡ n → NumbersReached p
    more k zero n = absurd (eqb-false p.next 0 k.1.1.1.0 n)
    more k (suc zero) n =
        let own = own_word m k.1.0 in
        let c = carried_fits p n k.1.1.1.1.1.1.1.0 in
        let l = leb-false p.total p.next k.1.1.1.1.0 in
        let e : at m p.total p.information_length 1 p.gathered ≡ p =
        λ i. record { message = own.0 i; total = p.total; next = sym n i; information_length = p.information_length; gathered = p.gathered } in
        rw e at (reach_one m (words_fit p x) (not_kept _ k.0) own.1 p.total p.information_length (ltb-false _ _ k.1.1.0) (ltb-false _ _ k.1.1.1.1.1.0)
        p.gathered (omega (arith, l, n)) (ltb-false _ _ k.1.1.1.1.1.1.0) c)
    more k (suc (suc j)) n =
        let own = own_word m k.1.0 in
        let l = leb-false p.total p.next k.1.1.1.1.0 in
        let two : 2 + j ≡ p.next = omega (arith, n) in
        let e : at m p.total p.information_length (2 + j) p.gathered ≡ p =
        λ i. record { message = own.0 i; total = p.total; next = two i; information_length = p.information_length; gathered = p.gathered } in
        rw e at (reach_more m (words_fit p x) (not_kept _ k.0) own.1 p.total p.information_length (ltb-false _ _ k.1.1.0) (ltb-false _ _ k.1.1.1.1.1.0)
        j p.gathered (omega (arith, l, n)) (ltb-false _ _ k.1.1.1.1.1.1.0))

    go : Taken p → NumbersReached p
    go (none q) = record { pieces = []; given = tt; end = sym q }
    go (pending t q) = more (fits_kept (pending_rules p) q) p.next refl

pub numbers_taken_exactly : NumbersTakenExactly
numbers_taken_exactly p x = (numbers_reached p x, λ r. rw (← r.end) (reached_fits r.pieces))
