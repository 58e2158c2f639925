-- What the judges of a piece tell of the bytes that it brings, and the stores of a delivery.
-- Assumes nothing.
use mathlib.Core.Path.{◌≡◌, refl, ap, ◌∙◌}
use mathlib.Core.Bool.{true, false}
use mathlib.Core.List.{List, ◌++◌, append-nil}
use Prim.Native.Nat.{ℕ, ◌+◌, ◌-◌, ◌≤◌, ◌<◌}
use native.Mathlib.Omega.{arith}
use borrow.Author.Tests.{eqb-true, leb-true, eq-eqb, not-false}
use lib.Dec.{eqb}
use lib.ListN.{length, take, drop, replicate, length-append, length-drop}
use lib.Seq.{sets, take_all, drop-length}
use Rattle.wire.specs.Numbers.{u32_at}
use Rattle.wire.specs.Output.{over}
use Rattle.wire.proofs.Laws.{sets_then, sets_over}
use Rattle.protocol.specs.Verdict.{judge}
use Rattle.protocol.specs.declared.Refusal.{Refusal}
use Rattle.protocol.proofs.Tests.{and_both}
use Rattle.protocol.proofs.Verdicts.{fits_kept}
use Rattle.message.specs.Message.{most_information, header_at, first_length}
use Rattle.message.specs.declared.FragmentHeader.{FragmentHeader}
use Rattle.message.specs.declared.FirstHeader.{FirstHeader}
use Rattle.message.specs.declared.Fragment.{Fragment}
use Rattle.message.proofs.Headers.{amount_right, Opened, FragmentView, refuses as no_fragment, opens, follows, fragment_view}
use Rattle.assembler.specs.Assembly.{empty, is_pending, begun_progress, continues, join_rules, join_of, judged_by, judged_of}
use Rattle.assembler.specs.declared.Gathering.{Gathering}
use Rattle.assembler.specs.declared.Progress.{Progress}
use Rattle.std.specs.Prelude.{Ok, Err}
use Rattle.protocol.specs.Verdict.{no_fault}
use Rattle.protocol.specs.Verdict.{Verdict}
use Rattle.std.specs.Prelude.{Result}

-- the rest of a slice from n on
pub rest : (n : ℕ) (s : List ℕ) → take (length s - n) (drop n s) ≡ drop n s
rest n s = take_all (length s - n) (drop n s) (simp length-drop (omega arith))

-- two stores one after the other, from the front, where they have room
pub information_stored : (b xs s : List ℕ) (n : ℕ) {s₁ s₂ : List ℕ} → length b ≡ n → n + length xs ≤ length s → s₁ ≡ sets s 0 b → s₂ ≡ sets s₁ n xs → s₂ ≡ over (b ++ xs) s
information_stored b xs s n {s₁} e room p q =
    sets_then b xs 0 n s e p (q ∙ ap (λ (k : ℕ). sets s₁ k xs) (omega arith)) ∙ sets_over (b ++ xs) s (omega (arith, length-append b xs))

-- what is left at the front of a longer buffer
pub front_over : (x s : List ℕ) {b : List ℕ} → b ≡ x → length x ≡ 4096 → b ++ drop 4096 s ≡ over x s
unfolding over
front_over x s e l = rw (e, l)

-- a buffer with zeros up to its end
pub filled : (i : ℕ) (s : List ℕ) → i ≡ length s → replicate i 0 ++ drop i s ≡ replicate (length s) 0
filled i s e = rw (e, drop-length s) (append-nil (replicate (length s) 0))

-- a buffer of 4,096 bytes that is cleared is the empty assembly's
pub cleared : (s : List ℕ) {b : List ℕ} → length s ≡ 4096 → b ≡ replicate (length s) 0 → b ≡ empty.bytes
unfolding empty
cleared s l e = rw l at e

-- the bytes xs are such that a message with the progress p may gather them
abbrev pub Gathers : Progress → List ℕ → Type 0
Gathers p xs =
    ((p.gathered + length xs ≤ p.information_length) × (p.information_length ≤ most_information) × (p.next < p.total))
    × (p.next + 1 ≡ p.total → p.gathered + length xs ≡ p.information_length)

-- a header that continues a message has its numbers
pub record Continues (p : Progress) (h : FragmentHeader) : Type 0 where
  pub type : p.message.message_type ≡ h.message_type
  pub transaction : p.message.transaction ≡ h.transaction
  pub total : p.total ≡ h.total
  pub number : p.next ≡ h.number
  pub small : p.information_length ≤ most_information

pub continues_says : (p : Progress) (h : FragmentHeader) → continues p h ≡ true → Continues p h
unfolding continues
continues_says p h e =
    let a = and_both _ _ e in
    let b = and_both _ _ a.1 in
    let c = and_both _ _ b.1 in
    let d = and_both _ _ c.1 in
    record {
      type = eqb-true _ _ a.0;
      transaction = eqb-true _ _ b.0;
      total = eqb-true _ _ c.0;
      number = eqb-true _ _ d.0;
      small = leb-true _ _ d.1;
    }

join_fits : (p : Progress) (h : FragmentHeader) (s : List ℕ) → h.number < h.total → judge (join_rules p h (length s)) ≡ no_fault → Gathers p (drop 20 s)
join_fits p h s less e =
    let k = fits_kept (join_rules p h (length s)) e in
    let c = continues_says p h (not-false (continues p h) k.0) in
    let a = amount_right (eqb (h.number + 1) h.total) (p.gathered + (length s - 20)) p.information_length k.1.0 in
    simp length-drop
    ((a.0, c.small, omega (arith, c.number, c.total)), λ q. a.1 (eq-eqb (h.number + 1) h.total (omega (arith, q, c.number, c.total))))

start_fits : (h : FragmentHeader) (f : FirstHeader) (s : List ℕ) → header_at s ≡ h → 0 < h.total → Opened s f
    → (first_length h.message_type ≤ length s) × Gathers (begun_progress h f) (drop (first_length h.message_type) s)
start_fits h f s is some o =
    rw (← is) (
      o.long,
      simp length-drop
          (let a = amount_right _ _ _ o.amount in (
            (omega (arith, a.0), o.small, rw (ap (λ (x : FragmentHeader). x.total) is) some),
            λ q. omega (arith, a.1 (eq-eqb (u32_at s 12) 1 (omega (arith, q)))),
          )),
    )

-- ---- by the judgement of a piece s: what it says where it refuses nothing

-- a first piece begins a message; a later one joins p
pub data JudgedView (p : Progress) (s : List ℕ) (j : (Result Gathering Refusal)) : Type 0 where
  refuses : (r : Refusal) → j ≡ Err r → JudgedView p s j
  starts : (h : FragmentHeader) (f : FirstHeader) (n : ℕ) → j ≡ Ok (record { progress = (begun_progress h f); from = n; dropped = (is_pending p) }) → n ≤ length s
      → Gathers (begun_progress h f) (drop n s) → JudgedView p s j
  joins : (n : ℕ) → j ≡ Ok (record { progress = p; from = n; dropped = false }) → n ≤ length s → Gathers p (drop n s) → JudgedView p s j

pub judged_view : (p : Progress) (s : List ℕ) → JudgedView p s (judged_of p s)
unfolding judged_of judged_by join_of
judged_view p s = go (fragment_view s)
  where
    joined : (h : FragmentHeader) → 20 ≤ length s → h.number < h.total → (v : Verdict) → judge (join_rules p h (length s)) ≡ v → JudgedView p s (join_of v p)
    joined h long within (Ok _) ev = joins 20 refl long (join_fits p h s within ev)
    joined h long within (Err r) ev = refuses r refl

    go : {f : (Result Fragment Refusal)} → FragmentView s f → JudgedView p s (judged_by p (length s) f)
    go (no_fragment r) = refuses r refl
    go (opens h f a z o) = let g = start_fits h f s a.is a.some o in starts h f _ refl g.0 g.1
    go (follows h a z) = joined h a.long a.within (judge (join_rules p h (length s))) refl

-- what a piece brings that is not refused
pub brings : (p : Progress) (s : List ℕ) (g : Gathering) → judged_of p s ≡ Ok g → (g.from ≤ length s) × Gathers g.progress (drop g.from s)
brings p s g e = go (judged_view p s) e
  where
    go : {j : Result Gathering Refusal} → JudgedView p s j → j ≡ Ok g → (g.from ≤ length s) × Gathers g.progress (drop g.from s)
    go (refuses r ej) k = let z : ◌≡◌ {A = ℕ} 0 1 = cc in absurd (omega arith)
    go (starts h f m ej l x) k = let same : record { progress = begun_progress h f; from = m; dropped = is_pending p } ≡ g = cc in rw (← same) (l, x)
    go (joins m ej l x) k = let same : record { progress = p; from = m; dropped = false } ≡ g = cc in rw (← same) (l, x)
