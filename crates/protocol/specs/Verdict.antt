-- Verdicts: rules are judged in order, and the first one broken decides.
-- In this order: one rule; a list of rules; a payload's length; what a writer answers and leaves.
use Rattle.std.specs.Prelude.{ℕ, ◌≡◌, Bool, true, false, List, [], ◌∷◌, ltb, length, Ok, Err, Result}
use Rattle.wire.specs.Output.{over}
use Rattle.protocol.specs.Refusal.{refusal, too_short, wrong_length, too_long, output_too_small}
use Rattle.protocol.specs.declared.Refusal.{Refusal}
use Rattle.protocol.specs.declared.Reason.{Reason}

abbrev pub Verdict : Type 0
Verdict = Result Unit Refusal

abbrev pub Written : Type 0
Written = Result ℕ Refusal

-- all rules are kept
abbrev pub no_fault : Verdict
no_fault = Ok tt

-- ---- one rule

unfoldable pub fault_if : Bool → Reason → ℕ → Verdict
fault_if true n p = Err (refusal n p)
fault_if false n p = no_fault

unfoldable pub first_of : Verdict → Verdict → Verdict
first_of (Ok _) b = b
first_of (Err r) b = Err r

-- ---- rules: broken, reason, place; the first broken one decides

pub record Rule : Type 0 where
  pub broken : Bool
  pub reason : Reason
  pub place : ℕ

abbrev pub rule : Bool → Reason → ℕ → Rule
rule b n p = record { broken = b; reason = n; place = p }

-- the verdict v, then the rules
unfoldable pub judge_from : Verdict → List Rule → Verdict
judge_from v [] = v
judge_from v (r ∷ rs) = judge_from (first_of v (fault_if r.broken r.reason r.place)) rs

abbrev pub judge : List Rule → Verdict
judge rs = judge_from no_fault rs

-- each rule is kept
abbrev pub Kept : List Rule → Type 0
Kept [] = Unit
Kept (r ∷ rs) = (r.broken ≡ false) × Kept rs

-- ---- a payload's length: "length (1, 2, then 5)"

-- n bytes given where the length is exactly `fixed`
unfoldable pub exact_length : ℕ → ℕ → Verdict
exact_length fixed n = judge (rule (ltb n fixed) too_short n ∷ rule (ltb fixed n) wrong_length n ∷ [])

-- n bytes given where texts or lists follow a fixed part
unfoldable pub open_length : ℕ → ℕ → Verdict
open_length fixed n = judge (rule (ltb n fixed) too_short n ∷ rule (ltb 4096 n) too_long 0 ∷ [])

-- ---- what a writer answers, and what its output then holds

pub record Writing : Type 0 where
  pub answer : Written
  pub output : List ℕ

-- by the verdict, the bytes b given into the output s
unfoldable pub given : Verdict → List ℕ → List ℕ → Writing
given (Ok _) b s = record { answer = Ok (length b); output = over b s }
given (Err r) b s = record { answer = Err r; output = s }

-- a writer's judgement: of what it is to write, then of the room in the output s for the bytes b
unfoldable pub with_room : Verdict → List ℕ → List ℕ → Verdict
with_room v b s = first_of v (fault_if (ltb (length s) (length b)) output_too_small (length b))

-- what a writer of the bytes b does with the output s, where v judges what is to be written
unfoldable pub writing : Verdict → List ℕ → List ℕ → Writing
writing v b s = given (with_room v b s) b s
