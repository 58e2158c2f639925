-- What an entry changes.
-- Assumes nothing.
use Prim.Native.Nat.{ℕ, zero, suc, ◌-◌, ◌<◌}
use mathlib.Core.Path.{◌≡◌, refl, sym, ◌∙◌}
use mathlib.Core.Logic.{◌⊎◌, inl, inr}
use mathlib.Core.Bool.{Bool, true, false, not, cond}
use mathlib.Core.List.{List}
use native.Mathlib.Omega.{arith}
use borrow.Author.Tests.{eqb-true, eqb-false, eq-eqb, ne_eqb}
use lib.Dec.{eqb}
use Rattle.protocol.specs.Status.{success, failure, no_device_support}
use Rattle.pin_entry.specs.PinTable.{Row, Table, absent, put, filled, puk_of, is_puk, Call, enter_operation, same_text, Entry, unsupported, info, no_info, locked, usable, locked_with, locked_out, blocked, expected, one_less, accepted, failed, judged, entered}
use Rattle.pin_entry.specs.declared.PinAnswer.{PinAnswer}
use Rattle.pin_entry.specs.declared.PinAnswer.TheVariants.{Info, Failed}
use Rattle.pin_entry.specs.Claims.{Counts, Right, Effect, nothing, wrong, right_pin, right_puk}
use Rattle.pin_entry.proofs.Text.{same_is, is_same}
use Rattle.std.specs.Prelude.{Ok, Err, Result}
use Rattle.protocol.specs.declared.Refusal.{Refusal}

-- ---- rows

pub same_or_not : (j k : ℕ) → (j ≡ k) ⊎ (j ≡ k → ⊥)
same_or_not j k = go (eqb j k) refl
  where
    go : (b : Bool) → eqb j k ≡ b → (j ≡ k) ⊎ (j ≡ k → ⊥)
    go true e = inl (eqb-true j k e)
    go false e = inr (eqb-false j k e)

pub false_true : {A : Type 0} → false ≡ true → A
false_true e = absurd cc

module _ (t : Table) (k : ℕ) where
  -- a property of row j after a store at k
  pub put_cases : (P : Row → Type 0) (r : Row) (j : ℕ) → (j ≡ k → P r) → P (t j) → P (put t k r j)
  put_cases P r j f g = go (same_or_not j k)
    where
      go : (j ≡ k) ⊎ (j ≡ k → ⊥) → P (put t k r j)
      go (inl e) = rw (eq-eqb j k e) (f e)
      go (inr n) = rw (ne_eqb j k n) g

-- what holds of an absent row and of each f i holds of every row that they fill
pub filled_each : (P : Row → Type 0) (f : ℕ → Row) (n : ℕ) → P absent → ((i : ℕ) → i < n → P (f i)) → (j : ℕ) → P (filled f n j)
unfolding filled
filled_each P f zero z h j = z
filled_each P f (suc n) z h j = put_cases (filled f n) (suc n) P (f n) j (λ _. h n (omega arith)) (filled_each P f n z (λ i l. h i (omega (arith, l))) j)

-- the row of each of them
pub filled_at : (f : ℕ → Row) (n i : ℕ) → i < n → filled f n (suc i) ≡ f i
unfolding filled
filled_at f zero i h = absurd (omega arith)
filled_at f (suc n) i h = go (filled_at f n i) (same_or_not (suc i) (suc n))
  where
    go : (i < n → filled f n (suc i) ≡ f i) → (suc i ≡ suc n) ⊎ (suc i ≡ suc n → ⊥) → put (filled f n) (suc n) (f n) (suc i) ≡ f i
    go r (inl e) = let d : n ≡ i = omega (arith, e) in rw (eq-eqb (suc i) (suc n) e, d)
    go r (inr e) = rw (ne_eqb (suc i) (suc n) e) (r (omega (arith, e, h)))

-- ---- an entry that was read is answered by a status

either : (P : Entry → Type 0) (b : Bool) {x y : Entry} → P x → P y → P (cond b x y)
either P true p q = p
either P false p q = q

-- what holds of these four holds of every answer to an entry for a type that the table has
judged_are : (Q : (Result PinAnswer Refusal) → Type 0) (t : Table) (k : ℕ) (pin new : List ℕ) → Q (Ok (Info failure no_info)) → Q (Ok (Info success no_info))
    → ((n : ℕ) → Q (Ok (Info failure (info k locked n)))) → ((n : ℕ) → Q (Ok (Info failure (info (puk_of k) locked n)))) → Q (judged t k pin new).answer
unfolding judged accepted failed blocked
judged_are Q t k pin new bad good own puk =
    let P : Entry → Type 0 = λ e. Q e.answer in
    let u : Table = put t k (one_less (t k)) in
    either P (not (expected t k)) bad
    (either P (eqb (t k).tries 0) (either P (usable (t (puk_of k))) (puk (t (puk_of k)).tries) bad)
    (either P (same_text (t k).secret pin) (either P (is_puk k) good good)
    (either P (eqb ((t k).tries - 1) 0) (either P (usable (u (puk_of k))) (puk (u (puk_of k)).tries) bad) (own ((t k).tries - 1)))))

-- and with status 9 of every answer
pub answers_are : (Q : (Result PinAnswer Refusal) → Type 0) (t : Table) (c : Call) → Q (Ok (Failed no_device_support)) → Q (Ok (Info failure no_info)) → Q (Ok (Info success no_info))
    → ((n : ℕ) → Q (Ok (Info failure (info c.type locked n)))) → ((n : ℕ) → Q (Ok (Info failure (info (puk_of c.type) locked n)))) → Q (entered t c).answer
unfolding entered
answers_are Q t c none bad good own puk =
    let P : Entry → Type 0 = λ e. Q e.answer in
    either P (not (eqb c.operation enter_operation)) none
    (either P (not (t c.type).present) none
    (judged_are Q t c.type c.pin c.new bad good own puk))

-- a status with PIN_INFO
abbrev pub Shows : (Result PinAnswer Refusal) → Type 0
Shows (Ok (Info status i)) = Unit
Shows (Ok (Failed status)) = ⊥
Shows (Err r) = ⊥

judged_shows : (t : Table) (k : ℕ) (pin new : List ℕ) → Shows (judged t k pin new).answer
judged_shows t k pin new = judged_are Shows t k pin new tt tt (λ n. tt) (λ n. tt)

-- what shows none leaves the table
pub shows_or_leaves : (t : Table) (c : Call) → Shows (entered t c).answer ⊎ (entered t c ≡ unsupported t)
unfolding entered
shows_or_leaves t c =
    let P : Entry → Type 0 = λ e. Shows e.answer ⊎ (e ≡ unsupported t) in
    either P (not (eqb c.operation enter_operation)) (inr refl) (either P (not (t c.type).present) (inr refl) (inl (judged_shows t c.type c.pin c.new)))

-- ---- every entry is one of four

blocked_keeps : (t : Table) (k : ℕ) → (blocked t k).table ≡ t
unfolding blocked
blocked_keeps t k = go (usable (t (puk_of k)))
  where
    go : (b : Bool) → (cond b (locked_with t (puk_of k) (t (puk_of k)).tries) (locked_out t)).table ≡ t
    go true = refl
    go false = refl

pub failed_table : (t : Table) (k : ℕ) → (failed t k).table ≡ put t k (one_less (t k))
unfolding failed
failed_table t k = go (eqb ((t k).tries - 1) 0)
  where
    u : Table
    u = put t k (one_less (t k))

    go : (b : Bool) → (cond b (blocked u k) (locked_with u k ((t k).tries - 1))).table ≡ u
    go true = blocked_keeps u k
    go false = refl

module _ (t : Table) (c : Call) where
  by_right : (b : Bool) → is_puk c.type ≡ b → Right t c → (entered t c).table ≡ (accepted t c.type c.new).table → Effect t c
  unfolding accepted
  by_right true p r e = right_puk r p (rw p at e)
  by_right false p r e = right_pin r p (rw p at e)

  by_text : (b : Bool) → same_text (t c.type).secret c.pin ≡ b → Counts t c
      → (entered t c).table ≡ (cond b (accepted t c.type c.new) (failed t c.type)).table → Effect t c
  by_text true p n e = by_right (is_puk c.type) refl (record { counts = n; text = same_is (t c.type).secret c.pin p }) e
  by_text false p n e =
      wrong n (λ z. false_true (sym p ∙ (rw (sym z) (is_same (t c.type).secret)))) (e ∙ failed_table t c.type)

  by_tries : (b : Bool) → eqb (t c.type).tries 0 ≡ b → c.operation ≡ enter_operation → (t c.type).present ≡ true → expected t c.type ≡ true
      → (entered t c).table ≡ (cond b (blocked t c.type) (cond (same_text (t c.type).secret c.pin) (accepted t c.type c.new) (failed t c.type))).table → Effect t c
  by_tries true p o h a e = nothing (e ∙ blocked_keeps t c.type)
  by_tries false p o h a e =
      by_text (same_text (t c.type).secret c.pin) refl
      (record { enter = o; present = h; awaited = a; tries = eqb-false (t c.type).tries 0 p }) e

  by_expected : (b : Bool) → expected t c.type ≡ b → c.operation ≡ enter_operation → (t c.type).present ≡ true
      → (entered t c).table ≡ (judged t c.type c.pin c.new).table → Effect t c
  unfolding judged
  by_expected true p o h e = by_tries (eqb (t c.type).tries 0) refl o h p (rw p at e)
  by_expected false p o h e = nothing (rw p at e)

  by_present : (b : Bool) → (t c.type).present ≡ b → eqb c.operation enter_operation ≡ true → Effect t c
  unfolding entered
  by_present true p o = by_expected (expected t c.type) refl (eqb-true c.operation enter_operation o) p (rw (o, p))
  by_present false p o = nothing (rw (o, p))

  by_operation : (b : Bool) → eqb c.operation enter_operation ≡ b → Effect t c
  unfolding entered
  by_operation true p = by_present (t c.type).present refl p
  by_operation false p = nothing (rw p)

  pub effect : Effect t c
  effect = by_operation (eqb c.operation enter_operation) refl
