-- What the code's values mean: its table as a plain one, its answer as an entry on it, a payload as what it asks, and how a table is made.
use Rattle.std.specs.Prelude.{ℕ, zero, suc, ◌+◌, ◌*◌, false, not, cond, List, [], ◌∷◌, eqb, ltb, get_or, take, Ok, Err, Result}
use Rattle.protocol.specs.Refusal.{wrong_size, outside_table}
use Rattle.protocol.specs.Verdict.{Rule, rule, judge, no_fault, Verdict}
use Rattle.folds.specs.Folds.{first_fault}
use Rattle.pairs.specs.Pair.{unfit, part_of}
use Rattle.pairs.specs.declared.PairKind.TheVariants.{Text}
use Rattle.pairs.specs.declared.ZeroSize.TheVariants.{Strict}
use Rattle.pin.specs.SetPin.{read_with, SetPinRead}
use Rattle.pin_entry.specs.PinTable.{Row, Table, absent, empty, new_row, put, filled, Asked, asks, unread, call, Entry, step}
use Rattle.pin_entry.specs.declared.PinRow.{PinRow}
use Rattle.pin_entry.specs.declared.PinTable.{PinTable}
use Rattle.pin_entry.specs.declared.Entered.{Entered}
use Rattle.pin_entry.specs.declared.starts.PinStart.{PinStart}
use Rattle.protocol.specs.declared.Refusal.{Refusal}

-- ---- a table

-- the secret is the first bytes of its 32
abbrev pub row_of : PinRow → Row
row_of r =
    record {
      present = r.present;
      enabled = r.enabled;
      entered = r.entered;
      tries = r.tries;
      start = r.starting_tries;
      secret = take r.secret_length r.secret;
    }

-- past the array's end
abbrev pub no_row : PinRow
no_row = record { present = false; enabled = false; entered = false; tries = 0; starting_tries = 0; secret = []; secret_length = 0 }

-- the row of type 1 comes first
abbrev pub row_from : List PinRow → ℕ → Row
row_from rows zero = absent
row_from rows (suc i) = row_of (get_or rows i no_row)

unfoldable pub table_of : PinTable → Table
table_of p = row_from p.rows

-- another row, by its number from 0
unfoldable pub put_at : Table → ℕ → Row → Table
put_at t i r = cond (ltb i 17) (put t (suc i) r) t

-- ---- an entry

abbrev pub entry_of : Entered → Entry
entry_of r = record { table = table_of r.table; answer = r.answer }

-- a SET_PIN payload as what it asks: it is read by the strict choice
abbrev pub asked_by : List ℕ → SetPinRead → Asked
asked_by s (Ok (p, x)) = asks (call p.pin_type p.pin_operation (part_of s x.pin) (part_of s x.new_pin))
asked_by s (Err r) = unread r

unfoldable pub asked_of : List ℕ → Asked
asked_of s = asked_by s (read_with Strict s)

-- what a payload comes to
unfoldable pub enter_of : Table → List ℕ → Entry
enter_of t s = step t (asked_of s)

-- ---- how a table is made: from 17 rows, each judged

-- past the array's end
abbrev pub no_start : PinStart
no_start = record { present = 0; enabled = 0; starting_tries = 0; secret_length = 0; secret = [] }

-- "present" and "enabled" are 0 or 1, and the secret is a text that a payload can have; places are those of the members in 48 bytes a row
abbrev pub start_rules : ℕ → PinStart → List Rule
start_rules at s =
    rule (ltb 1 s.present) outside_table at
    ∷ rule (ltb 1 s.enabled) outside_table (at + 4)
    ∷ rule (unfit Text 32 s.secret_length) wrong_size (at + 12)
    ∷ []

abbrev pub start_verdict : List PinStart → ℕ → Verdict
start_verdict rows i = judge (start_rules (i * 48) (get_or rows i no_start))

unfoldable pub starts_verdict : List PinStart → Verdict
starts_verdict rows = first_fault (start_verdict rows) 17

abbrev pub start_row : PinStart → Row
start_row s = cond (eqb s.present 0) absent (new_row (not (eqb s.enabled 0)) s.starting_tries (take s.secret_length s.secret))

abbrev pub start_row_at : List PinStart → ℕ → Row
start_row_at rows i = start_row (get_or rows i no_start)

abbrev pub started : List PinStart → Table
started rows = filled (start_row_at rows) 17

-- the verdict, and the table; a refused one has no rows
pub record Making : Type 0 where
  pub verdict : Verdict
  pub table : Table

abbrev pub making_of : Result PinTable Refusal → Making
making_of (Ok p) = record { verdict = no_fault; table = table_of p }
making_of (Err r) = record { verdict = Err r; table = empty }

abbrev pub made_by : Verdict → List PinStart → Making
made_by (Ok _) rows = record { verdict = no_fault; table = started rows }
made_by (Err r) rows = record { verdict = Err r; table = empty }

unfoldable pub made_of : List PinStart → Making
made_of rows = made_by (starts_verdict rows) rows
