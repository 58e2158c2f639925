-- PIN entry on a plain table of secrets and tries (document 02, order 2; source document 004). Bytes, payloads and messages are not known here.
-- In this order: the table; the pairs of PINs and PUKs; what is asked; the answers; what an entry comes to; any sequence of entries.
use Rattle.std.specs.Prelude.{ℕ, zero, suc, ◌-◌, Bool, true, false, not, cond, ◌&&◌, List, [], ◌∷◌, eqb, get_or, Ok, Err, Result}
use Rattle.protocol.specs.Status.{success, failure, no_device_support}
use Rattle.protocol.specs.declared.Refusal.{Refusal}
use Rattle.pin.specs.declared.pin_info.PinInfo.{PinInfo}
use Rattle.pin_entry.specs.declared.PinAnswer.{PinAnswer}
use Rattle.pin_entry.specs.declared.PinAnswer.TheVariants.{Info, Failed}

-- ---- the table

-- a PIN or a PUK: whether the table has it, whether it is enabled, whether its right entry or its right PUK was given, its tries and their
-- starting number, and its secret
pub record Row : Type 0 where
  pub present : Bool
  pub enabled : Bool
  pub entered : Bool
  pub tries : ℕ
  pub start : ℕ
  pub secret : List ℕ

-- the row of each type number; a number that is no type, 0 and those above 17, has an absent row
abbrev pub Table : Type 0
Table = ℕ → Row

abbrev pub absent : Row
absent = record { present = false; enabled = false; entered = false; tries = 0; start = 0; secret = [] }

abbrev pub empty : Table
empty k = absent

-- not entered, and its tries are at their starting number
abbrev pub new_row : Bool → ℕ → List ℕ → Row
new_row enabled start secret = record { present = true; enabled = enabled; entered = false; tries = start; start = start; secret = secret }

-- the table with another row for type k
abbrev pub put : Table → ℕ → Row → Table
put t k r = λ j. cond (eqb j k) r (t j)

-- f 0, f 1, .. as the rows of the types 1 to n
unfoldable pub filled : (ℕ → Row) → ℕ → Table
filled f zero = empty
filled f (suc i) = put (filled f i) (suc i) (f i)

-- ---- PINs and their PUKs: 2 and 11, 3 and 12, 5 and 13, 6 and 14, 7 and 15, 8 and 16, 9 and 17

-- the PUKs of 0, 1, 2, ..; 0 is none
abbrev pub puks : List ℕ
puks = 0 ∷ 0 ∷ 11 ∷ 12 ∷ 0 ∷ 13 ∷ 14 ∷ 15 ∷ 16 ∷ 17 ∷ []

-- the PINs of 0, 1, 2, ..; 0 is none
abbrev pub pins : List ℕ
pins = 0 ∷ 0 ∷ 0 ∷ 0 ∷ 0 ∷ 0 ∷ 0 ∷ 0 ∷ 0 ∷ 0 ∷ 0 ∷ 2 ∷ 3 ∷ 5 ∷ 6 ∷ 7 ∷ 8 ∷ 9 ∷ []

unfoldable pub puk_of : ℕ → ℕ
puk_of k = get_or puks k 0

unfoldable pub pin_of : ℕ → ℕ
pin_of k = get_or pins k 0

abbrev pub is_puk : ℕ → Bool
is_puk k = not (eqb (pin_of k) 0)

-- ---- what is asked

pub record Call : Type 0 where
  pub type : ℕ
  pub operation : ℕ
  pub pin : List ℕ
  pub new : List ℕ

abbrev pub call : ℕ → ℕ → List ℕ → List ℕ → Call
call type operation pin new = record { type = type; operation = operation; pin = pin; new = new }

abbrev pub enter_operation : ℕ
enter_operation = 0

-- an entry, or one that is refused before it is read
pub data Asked : Type 0 where
  asks : Call → Asked
  unread : Refusal → Asked

-- all bytes are equal
unfoldable pub same_text : List ℕ → List ℕ → Bool
same_text [] [] = true
same_text [] (y ∷ ys) = false
same_text (x ∷ xs) [] = false
same_text (x ∷ xs) (y ∷ ys) = eqb x y && same_text xs ys

-- ---- the answers

-- the table after an entry, and its answer
pub record Entry : Type 0 where
  pub table : Table
  pub answer : Result PinAnswer Refusal

abbrev pub entry : Table → (Result PinAnswer Refusal) → Entry
entry t a = record { table = t; answer = a }

abbrev pub info : ℕ → ℕ → ℕ → PinInfo
info type state attempts = record { pin_type = type; pin_state = state; remaining_attempts = attempts }

-- "Members not named are 0": no type, unlocked, no attempts
abbrev pub no_info : PinInfo
no_info = info 0 0 0

abbrev pub locked : ℕ
locked = 1

-- "status 9, no payload"
abbrev pub unsupported : Table → Entry
unsupported t = entry t (Ok (Failed no_device_support))

-- "Disabled or not expected: status 2, type None"
abbrev pub unexpected : Table → Entry
unexpected t = entry t (Ok (Info failure no_info))

-- "Right: status 0, type None"
abbrev pub granted : Table → Entry
granted t = entry t (Ok (Info success no_info))

-- "tries left: status 2, same type, locked, tries left"
abbrev pub locked_with : Table → ℕ → ℕ → Entry
locked_with t k tries = entry t (Ok (Info failure (info k locked tries)))

-- "Tries gone, now or before: status 2 with the PUK type, locked, and the PUK's tries, or all three 0 if there is no PUK or it is used up"
abbrev pub usable : Row → Bool
usable r = r.present && not (eqb r.tries 0)

abbrev pub locked_out : Table → Entry
locked_out t = entry t (Ok (Info failure no_info))

unfoldable pub blocked : Table → ℕ → Entry
blocked t k = cond (usable (t (puk_of k))) (locked_with t (puk_of k) (t (puk_of k)).tries) (locked_out t)

-- ---- what an entry comes to

-- "an enabled PIN is expected until its right entry or its right PUK. A PUK is expected exactly while its PIN has no tries"; a PIN that the
-- table doesn't have has no PUK that is expected
abbrev pub lacks_tries : Row → Bool
lacks_tries r = r.present && eqb r.tries 0

abbrev pub awaited : Row → Bool
awaited r = r.enabled && not r.entered

unfoldable pub expected : Table → ℕ → Bool
expected t k = cond (is_puk k) (lacks_tries (t (pin_of k))) (awaited (t k))

-- "its own right entry or right PUK puts a PIN's tries back to the starting number, its own right entry a PUK's"
abbrev pub refilled : Row → Row
refilled r = record { present = r.present; enabled = r.enabled; entered = r.entered; tries = r.start; start = r.start; secret = r.secret }

abbrev pub entered_row : Row → Row
entered_row r = record { present = r.present; enabled = r.enabled; entered = true; tries = r.start; start = r.start; secret = r.secret }

-- "a right one makes the new text the PIN's secret"
abbrev pub unblocked : Row → List ℕ → Row
unblocked r new = record { present = r.present; enabled = r.enabled; entered = true; tries = r.start; start = r.start; secret = new }

-- "one try less"
abbrev pub one_less : Row → Row
one_less r = record { present = r.present; enabled = r.enabled; entered = r.entered; tries = r.tries - 1; start = r.start; secret = r.secret }

abbrev pub puk_table : Table → ℕ → List ℕ → Table
puk_table t k new = put (put t k (refilled (t k))) (pin_of k) (unblocked (t (pin_of k)) new)

unfoldable pub accepted : Table → ℕ → List ℕ → Entry
accepted t k new = cond (is_puk k) (granted (puk_table t k new)) (granted (put t k (entered_row (t k))))

-- "Wrong (one try less) with tries left", or else gone now
abbrev pub failed_by : Table → ℕ → ℕ → Entry
failed_by t k left = cond (eqb left 0) (blocked t k) (locked_with t k left)

unfoldable pub failed : Table → ℕ → Entry
failed t k = failed_by (put t k (one_less (t k))) k ((t k).tries - 1)

-- "Judged in that order, but tries gone before come ahead of right"
unfoldable pub judged : Table → ℕ → List ℕ → List ℕ → Entry
judged t k pin new =
    cond (not (expected t k)) (unexpected t)
    (cond (eqb (t k).tries 0) (blocked t k)
    (cond (same_text (t k).secret pin) (accepted t k new)
    (failed t k)))

-- "Unsupported type: status 9"; "operations other than Enter get status 9 too"
unfoldable pub entered : Table → Call → Entry
entered t c =
    cond (not (eqb c.operation enter_operation)) (unsupported t)
    (cond (not (t c.type).present) (unsupported t)
    (judged t c.type c.pin c.new))

-- "Refusals: as in 01 .. Neither changes the table"
unfoldable pub step : Table → Asked → Entry
step t (asks c) = entered t c
step t (unread r) = entry t (Err r)

-- ---- any sequence of entries

unfoldable pub table_after : Table → List Asked → Table
table_after t [] = t
table_after t (a ∷ rest) = table_after (step t a).table rest

unfoldable pub answers_of : Table → List Asked → List (Result PinAnswer Refusal)
answers_of t [] = []
answers_of t (a ∷ rest) = (step t a).answer ∷ answers_of (step t a).table rest
