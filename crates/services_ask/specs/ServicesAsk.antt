-- The question for one CID (document 02, order 7): it "judges the count, the fixed part and the 4,096 as the full reader does, with its
-- refusals, then judges elements one at a time and may stop at the first service and CID that match".
-- In this order: what an element says by itself; the first that says anything; the question; what the code passes over.
use Rattle.std.specs.Prelude.{ℕ, zero, suc, ◌≤◌, ◌<◌, ◌≡◌, true, false, cond, Option, Some, None, Result, Ok, Err, List, length}
use Rattle.protocol.specs.declared.Refusal.{Refusal}
use Rattle.protocol.specs.declared.service.ServiceId.{ServiceId}
use Rattle.protocol.specs.Verdict.{Verdict}
use Rattle.folds.specs.Folds.{first_index}
use Rattle.pairs.specs.Pair.{by_default}
use Rattle.pairs.specs.declared.ZeroSize.{ZeroSize}
use Rattle.device_services.specs.DeviceServices.{count_of, fixed_part, offset_of, cid_count_at, length_verdict, element_verdict}
use Rattle.services_query.specs.ServicesQuery.{is_of, is_cid, holds, ListedAnswer}
use Rattle.services_ask.specs.declared.Position.{Position}

-- the position of the first match, or that there is none
abbrev pub PositionAnswer : Type 0
PositionAnswer = Result (Option Position) Refusal

-- CID k of element i
abbrev pub position : ℕ → ℕ → Position
position i k = record { element_number = i; cid_number = k }

-- ---- what an element says by itself

-- the position of its first match, or nothing
unfoldable pub match_in : List ℕ → ServiceId → ℕ → ℕ → PositionAnswer
match_in s service cid i =
    cond (holds s service cid i) (Ok (Some (position i (first_index (is_cid s (offset_of s i) cid) (cid_count_at s (offset_of s i)))))) (Ok None)

abbrev pub judged : Verdict → PositionAnswer → PositionAnswer
judged (Ok _) a = a
judged (Err r) a = Err r

-- "an element is judged in full before its CIDs count"; the list has a fixed part
unfoldable pub element_says : ZeroSize → List ℕ → ℕ → ServiceId → ℕ → ℕ → PositionAnswer
element_says z s fixed service cid i = judged (element_verdict z s fixed i) (match_in s service cid i)

-- ---- the first that says anything

abbrev pub or_else : PositionAnswer → PositionAnswer → PositionAnswer
or_else (Ok (Some p)) b = Ok (Some p)
or_else (Ok None) b = b
or_else (Err r) b = Err r

-- of f 0, f 1, ..
unfoldable pub first_said : (ℕ → PositionAnswer) → ℕ → PositionAnswer
first_said f zero = Ok None
first_said f (suc n) = or_else (first_said f n) (f n)

-- ---- the question

unfoldable pub position_with : ZeroSize → List ℕ → ServiceId → ℕ → PositionAnswer
position_with z s service cid =
    judged (length_verdict (length s) (count_of s)) (first_said (element_says z s (fixed_part (count_of s)) service cid) (count_of s))

abbrev pub position_of : List ℕ → ServiceId → ℕ → PositionAnswer
position_of s service cid = position_with by_default s service cid

-- the full question's answer, which has no position
abbrev pub without_position : PositionAnswer → ListedAnswer
without_position (Ok (Some p)) = Ok true
without_position (Ok None) = Ok false
without_position (Err r) = Err r

-- ---- what the code passes over

-- none of the elements with the numbers from `first` to below `end` is of the service
abbrev pub NoneOf : List ℕ → ServiceId → ℕ → ℕ → Type 0
NoneOf s service first end = (j : ℕ) → first ≤ j → j < end → is_of s service j ≡ false
