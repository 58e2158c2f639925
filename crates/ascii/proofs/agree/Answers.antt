-- The pairs that agree, counted.
use Rattle.std.proofs.Common.{rules, tests, eqb, ℕ, sym, ◌∙◌}
use Rattle.std.specs.List.{zip}
use Rattle.std.proofs.lemmas.Iterator.{YieldsList-from_slice, YieldsList-from_zip}
use Rattle.std.proofs.lemmas.Iterator.Consumers.{count_from_yields_List}
use Rattle.std.proofs.lemmas.Iterator.Search.{YieldsList-from_take_while}
use Rattle.std.proofs.lemmas.List.Folds.{length-prefix_len}
use Rattle.ascii.proofs.Laws.{agreement_is}
use Rattle.ascii.proofs.agree.Goals as goal

pub returns : goal.returns
returns c =
    let s = c.args.s.now in
    let w = c.args.word.now in
    count_from_yields_List c.take_while.result _ c.count.ensures.ran
    (YieldsList-from_take_while _ (λ (p : ℕ × ℕ). eqb p.0 p.1) (YieldsList-from_zip (YieldsList-from_slice s (cc)) (YieldsList-from_slice w (cc))) c.take_while.ensures.closure c.take_while.ensures.done (λ x b q k. search (rules, tests)))
    ∙ length-prefix_len (λ (p : ℕ × ℕ). eqb p.0 p.1) (zip s w)
    ∙ sym (agreement_is s w)
