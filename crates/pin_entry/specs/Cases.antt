-- Two worked runs of order 2 on the plain table: PIN1 (2) with 2 tries and its PUK (11) with 1, and DeviceSimPin (4), which has no PUK, with 1.
use Rattle.std.specs.Prelude.{ℕ, ◌≡◌, true, false, List, [], ◌∷◌, Ok, Result}
use Rattle.protocol.specs.Status.{no_device_support}
use Rattle.pin_entry.specs.PinTable.{Table, empty, new_row, put, Asked, asks, call, info, answers_of}
use Rattle.pin_entry.specs.declared.PinAnswer.{PinAnswer}
use Rattle.pin_entry.specs.declared.PinAnswer.TheVariants.{Info, Failed}
use Rattle.protocol.specs.declared.Refusal.{Refusal}

abbrev pub secret : List ℕ
secret = 49 ∷ 0 ∷ 50 ∷ 0 ∷ []

abbrev pub puk : List ℕ
puk = 56 ∷ 0 ∷ 55 ∷ 0 ∷ []

abbrev pub other : List ℕ
other = 48 ∷ 0 ∷ []

abbrev pub start : Table
start = put (put (put empty 2 (new_row true 2 secret)) 11 (new_row false 1 puk)) 4 (new_row true 1 secret)

abbrev pub says : ℕ → ℕ → ℕ → ℕ → Result PinAnswer Refusal
says status type state attempts = Ok (Info status (info type state attempts))

abbrev pub enters : ℕ → List ℕ → List ℕ → Asked
enters type pin new = asks (call type 0 pin new)

abbrev pub calls : List Asked
calls =
    enters 3 secret []  -- a type that the table doesn't have
    ∷ asks (call 2 1 secret [])  -- an operation other than Enter
    ∷ enters 11 puk other  -- a PUK whose PIN has tries
    ∷ enters 2 other []  -- wrong, a try is left
    ∷ enters 2 other []  -- wrong, and the tries are gone
    ∷ enters 2 secret []  -- right, and they were gone before
    ∷ enters 11 puk other  -- the right PUK
    ∷ enters 2 secret []  -- the PIN is no longer expected
    ∷ enters 4 other []  -- the tries are gone, and there is no PUK
    ∷ enters 4 secret []
    ∷ []

abbrev pub answers : List (Result PinAnswer Refusal)
answers =
    Ok (Failed no_device_support)
    ∷ Ok (Failed no_device_support)
    ∷ says 2 0 0 0
    ∷ says 2 2 1 1
    ∷ says 2 11 1 1
    ∷ says 2 11 1 1
    ∷ says 0 0 0 0
    ∷ says 2 0 0 0
    ∷ says 2 0 0 0
    ∷ says 2 0 0 0
    ∷ []

-- a wrong PUK uses itself up: all three are 0, and its right text comes too late
abbrev pub lost_calls : List Asked
lost_calls = enters 2 other [] ∷ enters 2 other [] ∷ enters 11 other other ∷ enters 11 puk other ∷ enters 2 secret [] ∷ []

abbrev pub lost_answers : List (Result PinAnswer Refusal)
lost_answers = says 2 2 1 1 ∷ says 2 11 1 1 ∷ says 2 0 0 0 ∷ says 2 0 0 0 ∷ says 2 0 0 0 ∷ []

-- ---- what is proved (proofs/Cases)

abbrev pub Worked : Type 0
Worked = answers_of start calls ≡ answers

abbrev pub Lost : Type 0
Lost = answers_of start lost_calls ≡ lost_answers
