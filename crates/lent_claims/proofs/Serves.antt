-- Memory that holds an end serves any run: told by one call, said once for every end and every memory.
-- Assumes nothing.
use mathlib.Core.Path.{◌≡◌, refl}
use mathlib.Core.List.{List, [], ◌∷◌}
use Rattle.lent_claims.specs.Turns.{Turn, run}

-- each call is answered as by value and leaves memory that holds the end left
module _ {M E C A : Type 0} (call : E → C → Turn E A) (call_in : M → C → Turn M A) (Holds : M → E → Type 0)
    (one : (m : M) (e : E) (c : C) → Holds m e → ((call_in m c).answer ≡ (call e c).answer) × Holds (call_in m c).after (call e c).after) where
  pub run_holds : (m : M) (e : E) (cs : List C) → Holds m e → ((run call_in m cs).answers ≡ (run call e cs).answers) × Holds (run call_in m cs).end (run call e cs).end
  unfolding run
  run_holds m e [] H = (refl, H)
  run_holds m e (c ∷ cs) H =
      let o = one m e c H in
      let r = run_holds (call_in m c).after (call e c).after cs o.1 in
      (λ i. o.0 i ∷ r.0 i, r.1)

-- what every call keeps, a run keeps
module _ {E C A : Type 0} (call : E → C → Turn E A) (Sound : E → Type 0) (one : (e : E) (c : C) → Sound e → Sound (call e c).after) where
  pub run_sound : (e : E) (cs : List C) → Sound e → Sound (run call e cs).end
  unfolding run
  run_sound e [] S = S
  run_sound e (c ∷ cs) S = run_sound (call e c).after cs (one e c S)
