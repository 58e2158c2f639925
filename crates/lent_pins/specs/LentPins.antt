-- A table of PINs in lent memory, 44 bytes a row, the row of type 1 first: present at 0, enabled at 1, entered at 2, the length of the secret at 3, a byte
-- each; tries at 4 and their starting number at 8, 32 bits each; the secret at 12, 32 bytes, zero behind it.
-- In this order: what the memory holds; the bytes of a table; a table made; an entry.
-- Memory with a flag, a length or tries that no call leaves is refused, 10 at the field's place, and stays as it was. How rows go together, and what
-- stands behind a secret, is not judged: whatever is taken is the table that its rows say.
use Rattle.std.specs.Prelude.{ℕ, suc, ◌+◌, ◌*◌, not, cond, List, [], ◌∷◌, ◌++◌, ltb, eqb, length, get_or, take, drop, Ok, Err, Result}
use Rattle.std.proofs.lemmas.List.Edits.{sets}
use Rattle.wire.specs.Numbers.{u32_at, digits}
use Rattle.wire.specs.Output.{fitted}
use Rattle.protocol.specs.Refusal.{refusal, contradiction, output_too_small}
use Rattle.protocol.specs.Verdict.{Rule, rule, judge, Verdict}
use Rattle.folds.specs.Folds.{first_fault, joined}
use Rattle.pairs.specs.Pair.{unfit}
use Rattle.pairs.specs.declared.PairKind.TheVariants.{Text}
use Rattle.pin_entry.specs.PinTable.{Row, Table, filled, Entry}
use Rattle.pin_entry.specs.Meaning.{enter_of, made_of}
use Rattle.pin_entry.specs.declared.PinAnswer.{PinAnswer}
use Rattle.pin_entry.specs.declared.PinAnswer.TheVariants.{Info, Failed}
use Rattle.pin_entry.specs.declared.starts.PinStart.{PinStart}
use Rattle.lent.specs.Stored.{Stored, unstored, stored}
use Rattle.lent_modem.specs.LentModem.{flag_number}
use Rattle.protocol.specs.declared.Refusal.{Refusal}

-- ---- what the memory holds

-- 17 rows
abbrev pub pins_size : ℕ
pins_size = 748

unfoldable pub row_at : List ℕ → ℕ → Row
row_at m at = record {
  present = not (eqb (get_or m at 0) 0);
  enabled = not (eqb (get_or m (at + 1) 0) 0);
  entered = not (eqb (get_or m (at + 2) 0) 0);
  tries = u32_at m (at + 4);
  start = u32_at m (at + 8);
  secret = take (get_or m (at + 3) 0) (take 32 (drop (at + 12) m));
}

abbrev pub row_in : List ℕ → ℕ → Row
row_in m i = row_at m (i * 44)

abbrev pub table_in : List ℕ → Table
table_in m = filled (row_in m) 17

-- flags are 0 or 1, a secret is a text that a payload can have, and there are no more tries than at the start
abbrev pub row_rules : List ℕ → ℕ → List Rule
row_rules m at =
    rule (ltb 1 (get_or m at 0)) contradiction at
    ∷ rule (ltb 1 (get_or m (at + 1) 0)) contradiction (at + 1)
    ∷ rule (ltb 1 (get_or m (at + 2) 0)) contradiction (at + 2)
    ∷ rule (unfit Text 32 (get_or m (at + 3) 0)) contradiction (at + 3)
    ∷ rule (ltb (u32_at m (at + 8)) (u32_at m (at + 4))) contradiction (at + 4)
    ∷ []

abbrev pub row_verdict : List ℕ → ℕ → Verdict
row_verdict m i = judge (row_rules m (i * 44))

unfoldable pub rows_verdict : List ℕ → Verdict
rows_verdict m = first_fault (row_verdict m) 17

unfoldable pub pins_verdict : List ℕ → Verdict
pins_verdict m = cond (ltb (length m) pins_size) (Err (refusal output_too_small pins_size)) (rows_verdict m)

-- ---- the bytes of a table

unfoldable pub row_bytes : Row → List ℕ
row_bytes r =
    flag_number r.present
    ∷ flag_number r.enabled
    ∷ flag_number r.entered
    ∷ length r.secret
    ∷ (digits 4 r.tries ++ (digits 4 r.start ++ fitted 32 r.secret))

abbrev pub row_bytes_at : Table → ℕ → List ℕ
row_bytes_at t i = row_bytes (t (suc i))

unfoldable pub table_bytes : Table → List ℕ
table_bytes t = joined (row_bytes_at t) 17

-- ---- a table made: what it is made of is judged, then the room

abbrev pub made_by : Verdict → Table → List ℕ → Stored
made_by (Ok _) t m = stored pins_size (table_bytes t) m
made_by (Err r) t m = unstored r m

unfoldable pub make_in : List ℕ → List PinStart → Stored
make_in m rows = made_by (made_of rows).verdict (made_of rows).table m

-- ---- an entry: the memory is judged, then the payload

pub record PinsCalled : Type 0 where
  pub answer : Result PinAnswer Refusal
  pub memory : List ℕ

-- the memory after it; where no PIN_INFO is shown it is as it was
abbrev pub kept_by : (Result PinAnswer Refusal) → Table → List ℕ → List ℕ
kept_by (Ok (Info status i)) t m = sets m 0 (table_bytes t)
kept_by (Ok (Failed status)) t m = m
kept_by (Err r) t m = m

abbrev pub kept : Entry → List ℕ → PinsCalled
kept e m = record { answer = e.answer; memory = kept_by e.answer e.table m }

abbrev pub enter_by : Verdict → List ℕ → List ℕ → PinsCalled
enter_by (Ok _) m s = kept (enter_of (table_in m) s) m
enter_by (Err r) m s = record { answer = Err r; memory = m }

unfoldable pub enter_in : List ℕ → List ℕ → PinsCalled
enter_in m s = enter_by (pins_verdict m) m s
