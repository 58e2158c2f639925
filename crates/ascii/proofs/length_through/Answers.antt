-- By the first place where the byte stands.
use Rattle.std.proofs.Common.{rules, tests, eqb, ℕ, Option, length, ◌≡◌, ◌∙◌, sym, ap}
use Rattle.std.specs.List.{position}
use Rattle.std.proofs.lemmas.Iterator.{YieldsList-from_slice}
use Rattle.std.proofs.lemmas.Iterator.Search.{position_from_yields_List}
use Rattle.ascii.proofs.Laws.{through_by, through_found}
use Rattle.ascii.proofs.length_through.Goals as goal

pub returns-in-Some : goal.returns-in-Some
returns-in-Some c =
    let s = c.args.s.now in
    let e : c.position.result ≡ position (λ (x : ℕ). eqb x c.args.b) s = position_from_yields_List (λ (x : ℕ). eqb x c.args.b) _ _ c.position.result c.position.ensures.ran (YieldsList-from_slice s (cc)) (λ x b q k. search (rules, tests)) in
    ap (λ (r : Option ℕ). through_by r (length s)) (sym c.in-Some.is ∙ e) ∙ through_found s c.args.b

pub returns-in-None : goal.returns-in-None
returns-in-None c =
    let s = c.args.s.now in
    let e : c.position.result ≡ position (λ (x : ℕ). eqb x c.args.b) s = position_from_yields_List (λ (x : ℕ). eqb x c.args.b) _ _ c.position.result c.position.ensures.ran (YieldsList-from_slice s (cc)) (λ x b q k. search (rules, tests)) in
    ap (λ (r : Option ℕ). through_by r (length s)) (sym c.in-None.is ∙ e) ∙ through_found s c.args.b
