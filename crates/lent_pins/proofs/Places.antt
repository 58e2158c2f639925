-- Rows in memory: read one after another, and their bytes stored one after another.
-- Assumes nothing.
use mathlib.Core.Path.{◌≡◌, refl, sym, ap, ◌∙◌}
use mathlib.Core.List.{List, [], ◌∷◌, ◌++◌}
use Prim.Native.Nat.{ℕ, suc, ◌+◌, ◌*◌, ◌≤◌, ◌<◌, min}
use native.Mathlib.Omega.{arith}
use mathlib.Core.Bool.{Bool, true, false, cond}
use borrow.Author.Tests.{leb-true, leb-false, ltb-false}
use lib.Dec.{leb, ltb}
use lib.ListN.{length, take, set, length-append, length-take}
use lib.Seq.{sets, take_all}
use Rattle.wire.specs.Numbers.{digits}
use Rattle.wire.specs.Output.{fitted}
use Rattle.wire.proofs.Laws.{sets_then, length_fitted}
use Rattle.protocol.specs.Refusal.{refusal, output_too_small}
use Rattle.folds.specs.Folds.{joined}
use Rattle.folds.proofs.Laws.{join_next, length_joined}
use Rattle.pin_entry.specs.PinTable.{Row, Table}
use Rattle.pin_entry.specs.Meaning.{row_of, start_row_at, started}
use Rattle.pin_entry.specs.declared.PinRow.{PinRow}
use Rattle.pin_entry.specs.declared.starts.PinStart.{PinStart}
use Rattle.pin_entry.proofs.Effects.{filled_at}
use Rattle.lent_modem.specs.LentModem.{flag_number}
use Rattle.lent_pins.specs.LentPins.{pins_size, rows_verdict, pins_verdict, row_bytes, row_bytes_at}
use Rattle.std.specs.Prelude.{Err}
use Rattle.protocol.specs.Verdict.{no_fault}

pub length_row : (r : Row) → length (row_bytes r) ≡ 44
unfolding row_bytes
length_row r = omega (arith, length-append (digits 4 r.tries) (digits 4 r.start ++ fitted 32 r.secret), length-append (digits 4 r.start) (fitted 32 r.secret), length_fitted 32 r.secret)

-- before the first row
pub none_stored : (t : Table) (m : List ℕ) → sets m 0 (joined (row_bytes_at t) 0) ≡ m
unfolding joined
none_stored t m = refl

-- one row more is stored
pub row_stored : (t : Table) (i : ℕ) (m : List ℕ) {m₁ m₂ : List ℕ} → m₁ ≡ sets m 0 (joined (row_bytes_at t) i) → m₂ ≡ sets m₁ (i * 44) (row_bytes_at t i)
    → m₂ ≡ sets m 0 (joined (row_bytes_at t) (i + 1))
row_stored t i m p q =
    join_next (row_bytes_at t) i 0 m p (omega (arith, length_joined (row_bytes_at t) 44 i (λ k. length_row (t (suc k))))) q

-- the same of a table that is made
pub start_stored : (rows : List PinStart) (i : ℕ) (m : List ℕ) {m₁ m₂ : List ℕ} → i < 17 → m₁ ≡ sets m 0 (joined (row_bytes_at (started rows)) i)
    → m₂ ≡ sets m₁ (i * 44) (row_bytes (start_row_at rows i)) → m₂ ≡ sets m 0 (joined (row_bytes_at (started rows)) (i + 1))
start_stored rows i m {m₁} h p q =
    row_stored (started rows) i m p (q ∙ ap (λ (r : Row). sets m₁ (i * 44) (row_bytes r)) (sym (filled_at (start_row_at rows) 17 i h)))

-- four bytes stored one after another
four_bytes : (a b c d : ℕ) (m : List ℕ) (at : ℕ) → set (set (set (set m at a) (at + 1) b) (at + 2) c) (at + 3) d ≡ sets m at (a ∷ b ∷ c ∷ d ∷ [])
four_bytes a b c d m at =
    let x : at + 1 ≡ suc at = omega arith in
    let y : at + 2 ≡ suc (suc at) = omega arith in
    let z : at + 3 ≡ suc (suc (suc at)) = omega arith in
    rw (x, y, z)

-- the parts of a row stored one after another
parts_stored : (r : Row) (m : List ℕ) (at : ℕ) {m₁ m₂ m₃ m₄ m₅ m₆ m₇ : List ℕ} → m₁ ≡ set m at (flag_number r.present) → m₂ ≡ set m₁ (at + 1) (flag_number r.enabled)
    → m₃ ≡ set m₂ (at + 2) (flag_number r.entered) → m₄ ≡ set m₃ (at + 3) (length r.secret) → m₅ ≡ sets m₄ (at + 4) (digits 4 r.tries)
    → m₆ ≡ sets m₅ (at + 8) (digits 4 r.start) → m₇ ≡ sets m₆ (at + 12) (fitted 32 r.secret) → m₇ ≡ sets m at (row_bytes r)
unfolding row_bytes
parts_stored r m at {m₁} {m₂} {m₃} {m₄} {m₅} {m₆} p₁ p₂ p₃ p₄ p₅ p₆ p₇ =
    let flags = flag_number r.present ∷ flag_number r.enabled ∷ flag_number r.entered ∷ length r.secret ∷ [] in
    let a = digits 4 r.tries in
    let b = digits 4 r.start in
    let f = fitted 32 r.secret in
    let e : at + 8 ≡ at + 4 + 4 = omega arith in
    let g : at + 12 ≡ at + 8 + 4 = omega arith in
    let front : m₄ ≡ sets m at flags = p₄ ∙ rw (p₃, p₂, p₁) (four_bytes (flag_number r.present) (flag_number r.enabled) (flag_number r.entered) (length r.secret) m at) in
    let last : _ ≡ sets m₅ (at + 8) (b ++ f) = sets_then b f (at + 8) 4 m₅ refl p₆ (p₇ ∙ ap (λ (k : ℕ). sets m₆ k f) g) in
    let back : _ ≡ sets m₄ (at + 4) (a ++ (b ++ f)) = sets_then a (b ++ f) (at + 4) 4 m₄ refl p₅ (last ∙ ap (λ (k : ℕ). sets m₅ k (b ++ f)) e) in
    sets_then flags (a ++ (b ++ f)) at 4 m refl front back

-- a secret of so many bytes
length_secret : (n : ℕ) (s : List ℕ) → length s ≡ 32 → length (take n s) ≡ min n 32
length_secret n s e = rw (length-take, e)

take_counted : (n : ℕ) (s : List ℕ) → length s ≡ 32 → take (min n 32) s ≡ take n s
take_counted n s e = by_order (leb n 32) refl
  where
    by_order : (b : Bool) → leb n 32 ≡ b → take (min n 32) s ≡ take n s
    by_order true h = let l = leb-true n 32 h in let m : min n 32 ≡ n = omega arith in rw m
    by_order false h = let l = leb-false n 32 h in let m : min n 32 ≡ 32 = omega arith in rw (m, take_all n s (omega arith)) (take_all 32 s (omega arith))

-- the parts of a row of the code's, of whose secret n bytes count
pub row_put : (r : PinRow) (m : List ℕ) (at : ℕ) {m₁ m₂ m₃ m₄ m₅ m₆ m₇ : List ℕ} {n : ℕ} → length r.secret ≡ 32 → n ≡ min r.secret_length 32 → m₁ ≡ set m at (flag_number r.present)
    → m₂ ≡ set m₁ (at + 1) (flag_number r.enabled) → m₃ ≡ set m₂ (at + 2) (flag_number r.entered) → m₄ ≡ set m₃ (at + 3) n → m₅ ≡ sets m₄ (at + 4) (digits 4 r.tries)
    → m₆ ≡ sets m₅ (at + 8) (digits 4 r.starting_tries) → m₇ ≡ sets m₆ (at + 12) (fitted 32 (take n r.secret)) → m₇ ≡ sets m at (row_bytes (row_of r))
row_put r m at {m₃ = m₃} {m₆ = m₆} {n = n} l e p₁ p₂ p₃ p₄ p₅ p₆ p₇ =
    let counted : n ≡ length (take r.secret_length r.secret) = e ∙ sym (length_secret r.secret_length r.secret l) in
    let secret : take n r.secret ≡ take r.secret_length r.secret = ap (λ (k : ℕ). take k r.secret) e ∙ take_counted r.secret_length r.secret l in
    parts_stored (row_of r) m at p₁ p₂ p₃ (p₄ ∙ ap (set m₃ (at + 3)) counted) p₅ p₆ (p₇ ∙ ap (λ (x : List ℕ). sets m₆ (at + 12) (fitted 32 x)) secret)

-- ---- the room

-- memory that holds a table has room for it
pub room : (m : List ℕ) → pins_verdict m ≡ no_fault → pins_size ≤ length m
unfolding pins_verdict
room m e = by_room (ltb (length m) pins_size) refl e
  where
    by_room : (b : Bool) → ltb (length m) pins_size ≡ b → cond b (Err (refusal output_too_small pins_size)) (rows_verdict m) ≡ no_fault → pins_size ≤ length m
    by_room true h f = let z : ◌≡◌ {A = ℕ} 0 1 = cc in absurd (omega arith)
    by_room false h f = ltb-false (length m) pins_size h
