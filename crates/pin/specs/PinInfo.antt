-- The PIN_INFO payload (document 02, order 2): "type, state, attempts; 12 bytes, one form at both versions, number tables as in MBIM 1.0".
-- In this order: the fields and their places; the rules; what a reader answers; what a writer gives.
use Rattle.std.specs.Prelude.{ℕ, List, [], ◌∷◌, ◌++◌, ltb, length, Ok, Err, Result}
use Rattle.wire.specs.Numbers.{u32_at, digits}
use Rattle.protocol.specs.Refusal.{outside_table}
use Rattle.protocol.specs.Verdict.{Rule, rule, judge, first_of, exact_length, Writing, writing, Verdict}
use Rattle.pin.specs.declared.pin_info.PinInfo.{PinInfo}
use Rattle.protocol.specs.declared.Refusal.{Refusal}

abbrev pub PinInfoRead : Type 0
PinInfoRead = Result PinInfo Refusal

-- ---- fields and places: PinType 0, PinState 4, RemainingAttempts 8

unfoldable pub record_at : List ℕ → PinInfo
record_at s = record { pin_type = u32_at s 0; pin_state = u32_at s 4; remaining_attempts = u32_at s 8 }

-- ---- rules: broken, reason, place; the first broken one decides

-- "MBIM_PIN_TYPE": 0 None to 17 CorporatePUK
abbrev pub last_type : ℕ
last_type = 17

-- type 0 to 17, state 0 unlocked or 1 locked, attempts any
unfoldable pub rules : PinInfo → List Rule
rules i = rule (ltb last_type i.pin_type) outside_table 0 ∷ rule (ltb 1 i.pin_state) outside_table 4 ∷ []

unfoldable pub verdict_of : PinInfo → Verdict
verdict_of i = judge (rules i)

-- ---- what a reader answers

abbrev pub shown : Verdict → PinInfo → PinInfoRead
shown (Ok _) i = Ok i
shown (Err r) i = Err r

unfoldable pub read_of : List ℕ → PinInfoRead
read_of s = shown (first_of (exact_length 12 (length s)) (verdict_of (record_at s))) (record_at s)

-- ---- what a writer gives

unfoldable pub bytes_of : PinInfo → List ℕ
bytes_of i = digits 4 i.pin_type ++ (digits 4 i.pin_state ++ digits 4 i.remaining_attempts)

-- the answer, and the output at exit
unfoldable pub write_of : PinInfo → List ℕ → Writing
write_of i s = writing (verdict_of i) (bytes_of i) s
