-- What is claimed of an accepted list behind a pair, in words: a count within its bounds, and the size of so many elements.
use Rattle.std.specs.Prelude.{ℕ, ◌+◌, ◌*◌, ◌≤◌, ◌≡◌, ◌⊎◌, ◌↔◌, true, List, length}
use Rattle.pairs.specs.declared.Range.{Range}
use Rattle.pairs.specs.declared.PairKind.TheVariants.{List as ListKind}
use Rattle.pairs.specs.declared.ZeroSize.{ZeroSize}
use Rattle.pairs.specs.Pair.{range_at}
use Rattle.pairs.specs.Claims.{PairFits}
use Rattle.lists.specs.declared.ListForm.{ListForm}
use Rattle.lists.specs.Lists.{absent_in, count_in, list_verdict}
use Rattle.protocol.specs.Verdict.{no_fault}

pub record Whole (f : ListForm) (p : Range) (count : ℕ) : Type 0 where
  pub some : f.fewest ≤ count
  pub most : count ≤ f.most
  pub size : p.length ≡ f.least + f.each * count

-- ---- what is proved (proofs/Behind)

-- a list behind a pair is absent, where its form allows that, or whole
abbrev pub ListExactly : Type 0
ListExactly = (z : ZeroSize) (f : ListForm) (fixed place : ℕ) (s : List ℕ)
    → (list_verdict z f fixed place s ≡ no_fault)
    ↔ (PairFits z ListKind fixed f.limit (length s) (range_at s place) × ((absent_in f (range_at s place) ≡ true) ⊎ Whole f (range_at s place) (count_in f s (range_at s place))))
