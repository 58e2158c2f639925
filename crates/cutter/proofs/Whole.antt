-- How many fragments there are, how long they are together, and that the first and then the others make up all.
-- Assumes nothing.
use Rattle.std.proofs.Common.{◌≡◌, ℕ, zero, suc, ◌+◌, ◌-◌, ◌*◌, ◌<◌, ◌≤◌, min, Bool, true, false, ◌||◌, ltb, List, ◌++◌, length, take, drop, sym, refl, ap, ◌∙◌, suc-mul, div-lt_iff_lt-mul, arith, length-append, length-drop, take-append-drop, length-take, ltb-false, le-ltb}
use native.Mathlib.Nat.{lt-div-mul-add}
use lib.Seq.{sets}
use Rattle.wire.specs.Output.{over}
use Rattle.wire.proofs.Laws.{sets_then, sets_over}
use Rattle.protocol.specs.Verdict.{no_fault, fault_if, first_of, judge, with_room}
use Rattle.protocol.proofs.Verdicts.{fits_kept}
use Rattle.message.specs.Message.{first_length}
use Rattle.message.specs.declared.MessageHeader.{MessageHeader}
use Rattle.message.proofs.Headers.{place_most}
use Rattle.cutter.specs.Claims.{MostCut}
use Rattle.cutter.specs.Cut.{first_bytes, later_count, later_fragments, fragments_by, fragments_of, joined, cut_by, cut_after, fitting_of, wrong_size, message_rules}
use Rattle.cutter.proofs.Stored.{length_fragment, length_first}
use Rattle.cutter.proofs.Later.{cut_take, cut_drop}
use Rattle.std.specs.Prelude.{Ok}

-- ---- sizes and counts

pub size_right : (size : ℕ) → wrong_size size ≡ false → (64 ≤ size) × (size ≤ 4096)
unfolding wrong_size
size_right size = go (ltb size 64) refl
  where
    go : (b : Bool) → ltb size 64 ≡ b → (b || ltb 4096 size) ≡ false → (64 ≤ size) × (size ≤ 4096)
    go true h e = let z : ◌≡◌ {A = ℕ} 0 1 = cc in absurd (omega arith)
    go false h e = (ltb-false size 64 h, ltb-false 4096 size e)

-- what a message that keeps its rules has for its cutting
pub rules_say : (m : MessageHeader) (size n : ℕ) → judge (message_rules m size n) ≡ no_fault → (64 ≤ size) × (size ≤ 4096) × (n ≤ 4096)
rules_say m size n e =
    let k = fits_kept (message_rules m size n) e in
    let z = size_right size k.0 in
    (z.0, z.1, ltb-false _ _ k.1.1.1.1.0)

-- the later fragments hold what the first leaves, and there are at most 127
module _ (first each n : ℕ) (wide : 44 ≤ each) (small : n ≤ 4096) where
  pub count_holds : n - first ≤ later_count first each n * each
  unfolding later_count
  count_holds = omega (arith, lt-div-mul-add {a = n - first + (each - 1)} {b = each} (omega arith))

  pub count_few : later_count first each n < 128
  unfolding later_count
  count_few = (div-lt_iff_lt-mul {k = each} (omega arith)).1 (omega arith)

pub later_many : (m : MessageHeader) (each total left number : ℕ) (xs : List ℕ) → length (later_fragments m each total number left xs) ≡ left
unfolding later_fragments
later_many m each total zero number xs = refl
later_many m each total (suc left) number xs = ap suc (later_many m each total left (number + 1) (drop each xs))

pub many : (m : MessageHeader) (size : ℕ) (information : List ℕ)
    → length (fragments_of m size information) ≡ 1 + later_count (size - first_length m.message_type) (size - 20) (length information)
unfolding fragments_of fragments_by
many m size information =
    let first = size - first_length m.message_type in
    let k = later_count first (size - 20) (length information) in
    omega (arith, later_many m (size - 20) (1 + k) k 1 (drop first information))

-- ---- lengths

split_length : (n : ℕ) (xs : List ℕ) → length (take n xs) + length (drop n xs) ≡ length xs
split_length n xs = sym (length-append (take n xs) (drop n xs)) ∙ ap length (take-append-drop n xs)

later_length : (m : MessageHeader) (each total left number : ℕ) (xs : List ℕ) → length xs ≤ left * each
    → length (joined (later_fragments m each total number left xs)) ≡ 20 * left + length xs
unfolding later_fragments joined
later_length m each total zero number xs h = omega arith
later_length m each total (suc left) number xs h =
    let i : length (drop each xs) ≤ left * each = simp length-drop (omega (arith, suc-mul left each)) in
    simp (length-append, length_fragment) (omega (arith, later_length m each total left (number + 1) (drop each xs) i, split_length each xs))

-- all fragments have their headers and the information
pub whole_length : (m : MessageHeader) (size : ℕ) (information : List ℕ) → 64 ≤ size → length information ≤ 4096
    → length (joined (fragments_of m size information))
    ≡ first_length m.message_type + length information + 20 * later_count (size - first_length m.message_type) (size - 20) (length information)
unfolding fragments_of fragments_by joined
whole_length m size information low small =
    let first = size - first_length m.message_type in
    let k = later_count first (size - 20) (length information) in
    let xs = take first information in
    let ys = drop first information in
    let holds : length ys ≤ k * (size - 20) = simp length-drop (count_holds first (size - 20) (length information) (omega arith) small) in
    length-append (first_bytes m (1 + k) (length information) xs) (joined (later_fragments m (size - 20) (1 + k) 1 k ys))
    ∙ omega (arith, length_first m (1 + k) (length information) xs, later_length m (size - 20) (1 + k) k 1 ys holds, split_length first information)

later_most : (first each n : ℕ) → 44 ≤ each → each ≤ first + 28 → n ≤ 4096 → later_count first each n < 94
unfolding later_count
later_most first each n h f s = (div-lt_iff_lt-mul {k = each} (omega arith)).1 (omega arith)

pub most_cut : MostCut
most_cut m size information low small =
    let p = place_most m.message_type in
    let k = later_most (size - first_length m.message_type) (size - 20) (length information) (omega arith) (omega arith) small in
    omega (arith, whole_length m size information low small, p.1, k)

-- ---- the stores: the first fragment and then the others

pub all_stored : (m : MessageHeader) (size : ℕ) (information s : List ℕ) (total amount end : ℕ) {s₁ s₂ : List ℕ}
    → length (joined (fragments_of m size information)) ≤ length s
    → total ≡ 1 + later_count (size - first_length m.message_type) (size - 20) (length information)
    → amount ≡ min (length information) (size - first_length m.message_type)
    → end ≡ first_length m.message_type + amount
    → s₁ ≡ sets s 0 (first_bytes m total (length information) (take amount information))
    → s₂ ≡ sets s₁ end (joined (later_fragments m (size - 20) total 1 (total - 1) (drop amount information)))
    → s₂ ≡ over (joined (fragments_of m size information)) s
unfolding fragments_of fragments_by joined
all_stored m size information s total amount end {s₁} room et ec ee p q =
    let first = size - first_length m.message_type in
    let k = later_count first (size - 20) (length information) in
    let a = first_bytes m (1 + k) (length information) (take first information) in
    let b = joined (later_fragments m (size - 20) (1 + k) 1 k (drop first information)) in
    let less : total - 1 ≡ k = omega arith in
    let lt : length (take first information) ≡ amount = simp length-take (omega arith) in
    let la : length a ≡ end = length_first m (1 + k) (length information) (take first information) ∙ omega arith in
    let p' : s₁ ≡ sets s 0 a = p ∙ (λ i. sets s 0 (first_bytes m (et i) (length information) (cut_take information amount first ec i))) in
    let q' : _ ≡ sets s₁ (0 + end) b = q ∙ (λ i. sets s₁ end (joined (later_fragments m (size - 20) (et i) 1 (less i) (cut_drop information amount first ec i)))) ∙ ap (λ (j : ℕ). sets s₁ j b) (omega arith) in
    sets_then a b 0 end s la p' q' ∙ sets_over (a ++ b) s room

-- the first fragment and the others have the length of all
pub rest_length : (m : MessageHeader) (size : ℕ) (information : List ℕ) (total amount end : ℕ)
    → total ≡ 1 + later_count (size - first_length m.message_type) (size - 20) (length information)
    → amount ≡ min (length information) (size - first_length m.message_type)
    → end ≡ first_length m.message_type + amount
    → end + length (joined (later_fragments m (size - 20) total 1 (total - 1) (drop amount information))) ≡ length (joined (fragments_of m size information))
unfolding fragments_of fragments_by joined
rest_length m size information total amount end et ec ee =
    let first = size - first_length m.message_type in
    let k = later_count first (size - 20) (length information) in
    let a = first_bytes m (1 + k) (length information) (take first information) in
    let b = joined (later_fragments m (size - 20) (1 + k) 1 k (drop first information)) in
    let less : total - 1 ≡ k = omega arith in
    let lt : length (take first information) ≡ amount = simp length-take (omega arith) in
    let la : length a ≡ end = length_first m (1 + k) (length information) (take first information) ∙ omega arith in
    let lb : length (joined (later_fragments m (size - 20) total 1 (total - 1) (drop amount information))) ≡ length b = λ i. length (joined (later_fragments m (size - 20) (et i) 1 (less i) (cut_drop information amount first ec i))) in
    omega (arith, la, lb, length-append a b)

-- ---- the answer where there is room

module _ (m : MessageHeader) (size : ℕ) (information s : List ℕ) where
  pub has_room : (n count : ℕ) → n ≡ length (joined (fragments_of m size information)) → count ≡ length (fragments_of m size information) → n ≤ length s
      → fitting_of m size information s ≡ record { answer = Ok (record { count = count; length = n }); output = over (joined (fragments_of m size information)) s }
  unfolding cut_after cut_by with_room fault_if first_of
  has_room n count e f h = rw (← e, le-ltb _ _ h, ← f, ← e)
