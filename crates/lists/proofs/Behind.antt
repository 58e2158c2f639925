-- A list behind a pair is accepted exactly where it is absent, or its count is within its bounds and its size is that of its elements.
-- Assumes nothing.
use mathlib.Core.Path.{◌≡◌, refl}
use mathlib.Core.Logic.{◌⊎◌, inl, inr}
use mathlib.Core.Bool.{Bool, true, false, not}
use mathlib.Core.List.{List}
use Prim.Native.Nat.{ℕ, ◌+◌, ◌-◌, ◌*◌, ◌<◌, ◌≤◌}
use native.Mathlib.Nat.{mul-le-mul}
use native.Mathlib.Omega.{arith}
use borrow.Author.Tests.{ltb-false, le-ltb}
use lib.Dec.{ltb, eqb}
use lib.ListN.{length}
use Rattle.protocol.specs.Verdict.{Kept, no_fault}
use Rattle.protocol.proofs.Tests.{or_none, none_or, cases_and, equal_kept, kept_equal}
use Rattle.protocol.proofs.Verdicts.{left_fits, right_fits, fits_kept, kept_then}
use Rattle.pairs.specs.declared.Range.{Range}
use Rattle.pairs.specs.declared.PairKind.TheVariants.{List as ListKind}
use Rattle.pairs.specs.declared.ZeroSize.{ZeroSize}
use Rattle.lists.specs.declared.ListForm.{ListForm}
use Rattle.pairs.specs.Pair.{range_at, verdict_of}
use Rattle.lists.specs.Lists.{absent_in, count_in, outside, list_rules, list_verdict, lists_verdict}
use Rattle.folds.proofs.Laws.{fits_next, fault_at}
use Rattle.std.specs.Prelude.{Err}
use Rattle.protocol.specs.declared.Refusal.{Refusal}
use Rattle.pairs.specs.Claims.{PairFits}
use Rattle.lists.specs.Claims.{Whole, ListExactly}
use Rattle.pairs.proofs.Laws.{fits_said, said_fits}

-- two 32-bit numbers multiplied
pub product : (a b : ℕ) → a ≤ 4294967295 → b ≤ 4294967295 → a * b ≤ 18446744065119617025
product a b h k = mul-le-mul {n₁ = a} {m₁ = b} {n₂ = 4294967295} {m₂ = 4294967295} h k

module _ (f : ListForm) (place : ℕ) (p : Range) (n : ℕ) where
  -- a list that fits is absent or whole
  pub list_said : Kept (list_rules f place p n) → (absent_in f p ≡ true) ⊎ Whole f p n
  list_said k = by_absent (absent_in f p) refl
    where
      by_absent : (b : Bool) → absent_in f p ≡ b → (absent_in f p ≡ true) ⊎ Whole f p n
      by_absent true e = inl e
      by_absent false e =
          let within : outside f.fewest f.most n ≡ false = rw e at k.1.0 in
          let w = or_none (ltb n f.fewest) (ltb f.most n) within in
          inr (record { some = ltb-false n f.fewest w.0; most = ltb-false f.most n w.1; size = equal_kept p.length (f.least + f.each * n) (rw e at k.1.1.0) })

  pub said_list : (absent_in f p ≡ true) ⊎ Whole f p n → Kept (list_rules f place p n)
  said_list (inl e) = (rw e refl, (rw e refl, (rw e refl, tt)))
  said_list (inr w) =
      let there = not (absent_in f p) in
      let few = none_or (ltb n f.fewest) (ltb f.most n) (le-ltb n f.fewest w.some) (le-ltb f.most n w.most) in (
        cases_and there (ltb p.length f.least) (inr (le-ltb p.length f.least (omega (arith, w.size)))),
        (
          cases_and there (outside f.fewest f.most n) (inr few),
          (cases_and there (not (eqb p.length (f.least + f.each * n))) (inr (kept_equal p.length (f.least + f.each * n) w.size)), tt),
        ),
      )

-- the pair and its list
module _ (z : ZeroSize) (f : ListForm) (fixed place : ℕ) (s : List ℕ) where
  abbrev pub behind : Range
  behind = range_at s place

  pub behind_said : list_verdict z f fixed place s ≡ no_fault
      → PairFits z ListKind fixed f.limit (length s) behind × ((absent_in f behind ≡ true) ⊎ Whole f behind (count_in f s behind))
  behind_said e = (
    fits_said z ListKind fixed f.limit place (length s) behind (left_fits _ _ e),
    list_said f place behind (count_in f s behind) (fits_kept (list_rules f place behind (count_in f s behind)) (right_fits (verdict_of z ListKind fixed f.limit place (length s) behind) _ e)),
  )

  pub said_behind : PairFits z ListKind fixed f.limit (length s) behind → (absent_in f behind ≡ true) ⊎ Whole f behind (count_in f s behind)
      → list_verdict z f fixed place s ≡ no_fault
  said_behind a b =
      kept_then (verdict_of z ListKind fixed f.limit place (length s) behind) (list_rules f place behind (count_in f s behind))
      (said_fits z ListKind fixed f.limit place (length s) behind a) (said_list f place behind (count_in f s behind) b)

pub list_exactly : ListExactly
list_exactly z f fixed place s = (behind_said z f fixed place s, λ k. said_behind z f fixed place s k.0 k.1)

-- ---- pairs that stand one behind another, judged in turn

-- one that fits is passed
pub list_passed : (z : ZeroSize) (f : ListForm) (fixed place first i : ℕ) (s : List ℕ) → first ≤ i → lists_verdict z f fixed place s first i ≡ no_fault
    → list_verdict z f fixed (place + 8 * i) s ≡ no_fault → lists_verdict z f fixed place s first (i + 1) ≡ no_fault
list_passed z f fixed place first i s h p q =
    let e : first + (i - first) ≡ i = omega arith in
    let next : i + 1 - first ≡ i - first + 1 = omega arith in
    rw next (fits_next (λ k. list_verdict z f fixed (place + 8 * (first + k)) s) (i - first) p (rw e q))

-- one that does not decides
pub list_decides : (z : ZeroSize) (f : ListForm) (fixed place first i end : ℕ) (s : List ℕ) {r : Refusal} → first ≤ i → i < end
    → lists_verdict z f fixed place s first i ≡ no_fault → list_verdict z f fixed (place + 8 * i) s ≡ Err r → lists_verdict z f fixed place s first end ≡ Err r
list_decides z f fixed place first i end s h l p q =
    let e : first + (i - first) ≡ i = omega arith in
    fault_at (λ k. list_verdict z f fixed (place + 8 * (first + k)) s) (end - first) (i - first) _ p (omega arith) (rw e q)
