-- A list behind a pair: a count, and as many elements of one size. Document 01: "each pair judged 8 (limit, odd), 6, 7 and then its list,
-- where a signal pair of size 0 is absent (size under 4 or 28, 8; count 15 when over its limit or, for signal, 0; size against count, 8)".
-- What a list is like is a parameter. In this order: its count; the rules, in the order in which they are judged.
use Rattle.std.specs.Prelude.{ℕ, ◌+◌, ◌*◌, ◌-◌, Bool, false, not, cond, ◌&&◌, ◌||◌, List, [], ◌∷◌, ltb, eqb, length}
use Rattle.wire.specs.Numbers.{u32_at}
use Rattle.protocol.specs.Refusal.{wrong_size, wrong_count}
use Rattle.protocol.specs.Verdict.{Rule, rule, judge, first_of, Verdict}
use Rattle.folds.specs.Folds.{first_fault}
use Rattle.pairs.specs.Pair.{range_at, verdict_of}
use Rattle.pairs.specs.declared.Range.{Range}
use Rattle.pairs.specs.declared.PairKind.TheVariants.{List as ListKind}
use Rattle.pairs.specs.declared.ZeroSize.{ZeroSize}
use Rattle.lists.specs.declared.ListForm.{ListForm}

-- ---- its count

-- a list that may be absent, and is
abbrev pub absent_in : ListForm → Range → Bool
absent_in f p = f.optional && eqb p.length 0

-- the same lists where none may be absent
abbrev pub there : ListForm → ListForm
there f = record { limit = f.limit; least = f.least; count_place = f.count_place; fewest = f.fewest; most = f.most; each = f.each; optional = false }

abbrev pub count_place : ListForm → Range → ℕ
count_place f p = p.start + f.count_place

-- 0 where it is absent
abbrev pub count_in : ListForm → List ℕ → Range → ℕ
count_in f s p = cond (absent_in f p) 0 (u32_at s (count_place f p))

-- ---- rules: broken, reason, place; the first broken one decides

-- a rule on the list is broken only where there is one
abbrev pub if_there : ListForm → Range → Bool → Bool
if_there f p broken = not (absent_in f p) && broken

abbrev pub outside : ℕ → ℕ → ℕ → Bool
outside fewest most count = ltb count fewest || ltb most count

abbrev pub list_rules : ListForm → ℕ → Range → ℕ → List Rule
list_rules f place p count =
    rule (if_there f p (ltb p.length f.least)) wrong_size place
    ∷ rule (if_there f p (outside f.fewest f.most count)) wrong_count (count_place f p)
    ∷ rule (if_there f p (not (eqb p.length (f.least + f.each * count)))) wrong_size place
    ∷ []

-- the pair at `place` of the payload s, by the reader's choice, and then its list
abbrev pub list_verdict : ZeroSize → ListForm → ℕ → ℕ → List ℕ → Verdict
list_verdict z f fixed place s =
    first_of (verdict_of z ListKind fixed f.limit place (length s) (range_at s place))
    (judge (list_rules f place (range_at s place) (count_in f s (range_at s place))))

-- of the pairs that stand one behind another from `place` on, those with the numbers from `first` to below `end`, each with its list
abbrev pub lists_verdict : ZeroSize → ListForm → ℕ → ℕ → List ℕ → ℕ → ℕ → Verdict
lists_verdict z f fixed place s first end = first_fault (λ i. list_verdict z f fixed (place + 8 * (first + i)) s) (end - first)
