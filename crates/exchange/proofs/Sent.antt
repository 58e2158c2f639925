-- Every message that the cutter accepts: what its acceptance says of it, and how its fragments stand in the output.
-- Assumes nothing.
use mathlib.Core.Path.{◌≡◌, refl, sym, ap, ◌∙◌}
use mathlib.Core.Bool.{true, false}
use mathlib.Core.List.{List, [], ◌∷◌, ◌++◌, append-nil}
use Prim.Native.Nat.{ℕ, zero, suc, ◌+◌, ◌-◌, ◌*◌, ◌≤◌, ◌<◌}
use native.Mathlib.Omega.{arith}
use native.Mathlib.Nat.{suc-mul, div-mul-le_self}
use native.Mathlib.Numerals.{one-add}
use borrow.Author.Tests.{ltb-false, not-false}
use lib.ListN.{length, take, drop, length-take, length-drop}
use lib.Seq.{take_at, drop_at, take_all}
use Rattle.wire.proofs.Laws.{take_over}
use Rattle.protocol.specs.MessageType.{is_fragmented}
use Rattle.protocol.specs.Verdict.{judge, with_room}
use Rattle.protocol.proofs.Verdicts.{fits_kept, was_fit, has_room}
use Rattle.message.specs.Message.{most_information, most_transfer, first_length, wrong_word}
use Rattle.message.specs.declared.MessageHeader.{MessageHeader}
use Rattle.message.proofs.Headers.{place_most}
use Rattle.cutter.specs.Cut.{fragment_bytes, first_bytes, later_count, later_fragments, fragments_by, fragments_of, joined, message_rules, cut_by, cut_after, cut_of}
use Rattle.cutter.specs.declared.Fragments.{Fragments}
use Rattle.cutter.proofs.Stored.{length_fragment, length_first}
use Rattle.cutter.proofs.Whole.{size_right, count_holds, many}
use Rattle.exchange.specs.Messages.{parts}
use Rattle.std.specs.Prelude.{Ok, Err}
use Rattle.protocol.specs.Verdict.{Verdict}

-- ---- what the cutter's answer says

pub record Sent (m : MessageHeader) (size : ℕ) (information out : List ℕ) (count n : ℕ) : Type 0 where
  pub known : is_fragmented m.message_type ≡ true
  pub word : wrong_word m ≡ false
  pub low : 64 ≤ size
  pub high : size ≤ most_transfer
  pub small : length information ≤ most_information
  pub counted : count ≡ 1 + later_count (size - first_length m.message_type) (size - 20) (length information)
  pub room : n ≤ length out
  pub front : take n (cut_of m size information out).output ≡ joined (fragments_of m size information)

pub sent : (m : MessageHeader) (size : ℕ) (information out : List ℕ) (count n : ℕ) → (cut_of m size information out).answer ≡ Ok (record { count = count; length = n }) → Sent m size information out count n
unfolding cut_of cut_after cut_by
sent m size information out count n = go (with_room (judge (message_rules m size (length information))) b out) refl
  where
    b : List ℕ
    b = joined (fragments_of m size information)

    go : (v : Verdict) → with_room (judge (message_rules m size (length information))) b out ≡ v → (cut_by v (fragments_of m size information) out).answer ≡ Ok (record { count = count; length = n })
        → Sent m size information out count n
    go (Ok _) ev e =
        let k = fits_kept (message_rules m size (length information)) (was_fit _ b out ev) in
        let z = size_right size k.0 in
        let same : record { count = length (fragments_of m size information); length = length b } ≡ record { count = count; length = n } = cc in
        let l : length b ≡ n = ap (λ (f : Fragments). f.length) same in
        record {
          known = not-false _ k.1.0;
          word = k.1.1.1.0;
          low = z.0;
          high = z.1;
          small = ltb-false _ _ k.1.1.1.1.0;
          counted = sym (ap (λ (f : Fragments). f.count) same) ∙ many m size information;
          room = rw (← l) (has_room _ b out ev);
          front = rw ev (take_over b out n l);
        }
    go (Err r) ev e = let z : ◌≡◌ {A = ℕ} 0 1 = cc in absurd (omega arith)

-- ---- how fragments stand in the output: each but the last is as full as the size allows

-- a part of exactly the size, and what follows it
full : (p rest : List ℕ) (n size : ℕ) → length p ≡ size → parts (suc n) size (p ++ rest) ≡ p ∷ parts n size rest
unfolding parts
full p rest n size e = λ i. take_at p rest size e i ∷ parts n size (drop_at p rest size e i)

none : (size : ℕ) → parts 0 size [] ≡ []
unfolding parts
none size = refl

-- a last part
only : (p : List ℕ) (size : ℕ) → length p ≤ size → parts 1 size (p ++ []) ≡ p ∷ []
unfolding parts
only p size h = ap (λ (l : List ℕ). l ∷ []) (take_all size (p ++ []) (rw append-nil h) ∙ append-nil p)

later_parts : (m : MessageHeader) (each size total left number : ℕ) (xs : List ℕ) → 20 + each ≡ size → left * each < length xs + each → length xs ≤ left * each
    → parts left size (joined (later_fragments m each total number left xs)) ≡ later_fragments m each total number left xs
unfolding later_fragments joined
later_parts m each size total zero number xs es more enough = none size
later_parts m each size total (suc zero) number xs es more enough =
    only (fragment_bytes m total number (take each xs)) size (rw length_fragment (simp length-take (omega arith)))
later_parts m each size total (suc (suc left)) number xs es more enough =
    let p = fragment_bytes m total number (take each xs) in
    let room : suc left * each < length xs = omega (arith, suc-mul (suc left) each) in
    let one : each ≤ suc left * each = omega (arith, suc-mul left each) in
    let l : length p ≡ size = length_fragment m total number (take each xs) ∙ simp length-take (omega arith) in
    full p (joined (later_fragments m each total (number + 1) (suc left) (drop each xs))) (suc left) size l
    ∙ ap (λ (ps : List (List ℕ)). p ∷ ps)
    (later_parts m each size total (suc left) (number + 1) (drop each xs) es (simp length-drop (omega arith)) (simp length-drop (omega (arith, suc-mul (suc left) each))))

all_parts : (m : MessageHeader) (first each size later : ℕ) (information : List ℕ) → first_length m.message_type + first ≡ size → 20 + each ≡ size
    → later * each < length information - first + each → length information - first ≤ later * each
    → parts (1 + later) size (joined (fragments_by m first each later information)) ≡ fragments_by m first each later information
unfolding fragments_by later_fragments joined
all_parts m first each size zero information ef ee more enough =
    only (first_bytes m 1 (length information) (take first information)) size (rw length_first (simp length-take (omega arith)))
all_parts m first each size (suc left) information ef ee more enough =
    let p = first_bytes m (1 + suc left) (length information) (take first information) in
    let rest = later_fragments m each (1 + suc left) 1 (suc left) (drop first information) in
    let some : first ≤ length information = omega (arith, suc-mul left each) in
    let l : length p ≡ size = length_first m (1 + suc left) (length information) (take first information) ∙ simp length-take (omega arith) in
    ap (λ (k : ℕ). parts k size (p ++ joined rest)) (one-add (suc left)) ∙ full p (joined rest) (suc left) size l
    ∙ ap (λ (ps : List (List ℕ)). p ∷ ps)
    (later_parts m each size (1 + suc left) (suc left) 1 (drop first information) ee (simp length-drop more) (simp length-drop enough))

-- the last of the later fragments is not empty
tight_count : (first each n : ℕ) → 44 ≤ each → later_count first each n * each < n - first + each
unfolding later_count
tight_count first each n wide = omega (arith, div-mul-le_self (n - first + (each - 1)) each)

-- the parts of what the cutter put at the front of the output are its fragments
pub sent_parts : (m : MessageHeader) (size : ℕ) (information out : List ℕ) (count n : ℕ) → Sent m size information out count n
    → parts count size (take n (cut_of m size information out).output) ≡ fragments_of m size information
unfolding fragments_of
sent_parts m size information out count n S =
    let first = size - first_length m.message_type in
    let later = later_count first (size - 20) (length information) in
    let h = place_most m.message_type in
    ap (parts count size) S.front ∙ ap (λ (k : ℕ). parts k size (joined (fragments_by m first (size - 20) later information))) S.counted
    ∙ all_parts m first (size - 20) size later information (omega (arith, S.low)) (omega (arith, S.low)) (tight_count first (size - 20) (length information) (omega (arith, S.low)))
    (count_holds first (size - 20) (length information) (omega (arith, S.low)) S.small)
