-- An end in lent memory beside the same end by value, said once for host, modem and a modem with a table of PINs.
-- In this order: a run of calls; the ends that calls reach; which memory is taken; how memory serves.
use Rattle.std.specs.Prelude.{ℕ, ◌≡◌, List, [], ◌∷◌, take}
use Rattle.lent_claims.specs.Given.{Bytes}

-- ---- a run: each call is given the state (an end, or memory) as the one before left it

pub record Turn (S A : Type 0) : Type 0 where
  pub answer : A
  pub after : S

abbrev pub turn : {S A : Type 0} → A → S → Turn S A
turn a s = record { answer = a; after = s }

pub record Ran (S A : Type 0) : Type 0 where
  pub answers : List A
  pub end : S

unfoldable pub run : {S C A : Type 0} → (S → C → Turn S A) → S → List C → Ran S A
run f s [] = record { answers = []; end = s }
run f s (c ∷ cs) = record { answers = (f s c).answer ∷ (run f (f s c).after cs).answers; end = (run f (f s c).after cs).end }

-- ---- an end that calls reach: it was made, and then called with what any caller can give

abbrev pub Each : {C : Type 0} → (C → Type 0) → List C → Type 0
Each P [] = Unit
Each P (c ∷ cs) = P c × Each P cs

pub record Reached {E C A : Type 0} (call : E → C → Turn E A) (Made : E → Type 0) (Given : C → Type 0) (e : E) : Type 0 where
  pub begun : E
  pub made : Made begun
  pub calls : List C
  pub given : Each Given calls
  pub end : (run call begun calls).end ≡ e

-- ---- memory of bytes is taken as an end exactly where calls reach that end and its bytes are the front of the memory

abbrev pub TakenExactly : {E : Type 0} → (List ℕ → E → Type 0) → (E → Type 0) → ℕ → (E → List ℕ) → Type 0
TakenExactly {E} Takes Reach size bytes_of =
    (m : List ℕ) → Bytes m → (e : E) → (Takes m e → Reach e × (take size m ≡ bytes_of e)) × (Reach e → take size m ≡ bytes_of e → Takes m e)

-- ---- memory serves: each call is answered as by value, and the memory is taken as the end that the run by value leaves

pub record Serves {M E C A : Type 0} (call : E → C → Turn E A) (call_in : M → C → Turn M A) (Takes : M → E → Type 0) (e : E) (m : M) (cs : List C) : Type 0 where
  pub answers : (run call_in m cs).answers ≡ (run call e cs).answers
  pub held : Takes (run call_in m cs).end (run call e cs).end
