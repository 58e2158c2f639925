-- What follows for each row: what raises its tries, what changes it at all, and what never changes.
-- Assumes nothing.
use Prim.Native.Nat.{ℕ, suc, ◌-◌, ◌≤◌, ◌<◌}
use mathlib.Core.Path.{◌≡◌, refl, sym, ap, ◌∙◌}
use mathlib.Core.Logic.{◌⊎◌, inl, inr}
use mathlib.Core.Bool.{Bool, true, false, not, cond}
use native.Mathlib.Omega.{arith}
use borrow.Author.Tests.{eq-eqb, ne_eqb}
use lib.Dec.{eqb}
use Rattle.pin_entry.specs.PinTable.{Row, Table, put, pin_of, is_puk, Call, enter_operation, same_text, Entry, granted, unsupported, refilled, entered_row, unblocked, one_less, puk_table, accepted, judged, entered}
use Rattle.pin_entry.specs.Claims.{Counts, Right, Unblocks, Enters, Effect, nothing, wrong, right_pin, right_puk, Raised, Within, Kept}
use Rattle.pin_entry.proofs.Rows.{pin_no_puk}
use Rattle.pin_entry.proofs.Text.{is_same, unlike}
use Rattle.pin_entry.proofs.Effects.{put_cases, false_true, failed_table, effect}

-- ---- the row of a type after a store

at : {t u : Table} → t ≡ u → (j : ℕ) → t j ≡ u j
at e j = λ i. e i j

no_own_puk : (k : ℕ) → is_puk k ≡ true → k ≡ pin_of k → ⊥
no_own_puk k p e = false_true (sym (ap (λ (j : ℕ). not (eqb j 0)) (ap pin_of e ∙ pin_no_puk k)) ∙ p)

module _ (t : Table) (c : Call) where
  -- a property of row j after an entry: it is enough that it holds of the four rows that can be there
  pub by_effect : (P : Row → Type 0) (j : ℕ)
      → P (t j)
      → (Counts t c → j ≡ c.type → P (one_less (t c.type)))
      → (Enters t c j → P (entered_row (t c.type)))
      → (Enters t c j → P (refilled (t c.type)))
      → (Unblocks t c j → P (unblocked (t (pin_of c.type)) c.new))
      → P ((entered t c).table j)
  by_effect P j same less own again free = go (effect t c)
    where
      go : Effect t c → P ((entered t c).table j)
      go (nothing e) = rw (at e j) same
      go (wrong n x e) = rw (at e j) (put_cases t c.type P (one_less (t c.type)) j (less n) same)
      go (right_pin r p e) = rw (at e j) (put_cases t c.type P (entered_row (t c.type)) j (λ z. own (record { right = r; own = z })) same)
      go (right_puk r p e) =
          rw (at e j)
          (put_cases (put t c.type (refilled (t c.type))) (pin_of c.type) P (unblocked (t (pin_of c.type)) c.new) j
          (λ z. free (record { right = r; puk = p; own = z }))
          (put_cases t c.type P (refilled (t c.type)) j (λ z. again (record { right = r; own = z })) same))

  -- "an entry for one type changes no other but the PIN its PUK unblocks"
  pub other_rows : (j : ℕ) → (j ≡ c.type → ⊥) → (Unblocks t c j → ⊥) → (entered t c).table j ≡ t j
  other_rows j n u =
      by_effect (λ r. r ≡ t j) j refl (λ _ z. absurd (n z)) (λ h. absurd (n h.own)) (λ h. absurd (n h.own)) (λ h. absurd (u h))

  -- a secret changes by a right PUK alone
  pub secrets : (j : ℕ) → (Unblocks t c j → ⊥) → ((entered t c).table j).secret ≡ (t j).secret
  secrets j u =
      by_effect (λ r. r.secret ≡ (t j).secret) j refl (λ _ z. rw z) (λ h. rw h.own) (λ h. rw h.own) (λ h. absurd (u h))

  -- nothing but its own right entry and its right PUK raises the tries of a row, and these put them back to the starting number
  pub raised : (j : ℕ) → (t j).tries < ((entered t c).table j).tries → Raised t c j
  raised j h =
      made
      (by_effect (λ r. (t j).tries < r.tries → (Enters t c j ⊎ Unblocks t c j) × (r.tries ≡ (t j).start)) j
      (λ l. absurd (omega arith))
      (λ _ z l. let q : (t j).tries ≡ (t c.type).tries = rw z in absurd (omega arith))
      (λ w l. (inl w, rw w.own))
      (λ w l. (inl w, rw w.own))
      (λ w l. (inr w, rw w.own))
      h)
    where
      made : (Enters t c j ⊎ Unblocks t c j) × (((entered t c).table j).tries ≡ (t j).start) → Raised t c j
      made p = record { cause = p.0; full = p.1 }

  -- a PUK's, its own right entry alone
  pub puk_raised : (j : ℕ) → is_puk j ≡ true → (t j).tries < ((entered t c).table j).tries → Enters t c j
  puk_raised j p h = go (raised j h).cause
    where
      go : Enters t c j ⊎ Unblocks t c j → Enters t c j
      go (inl w) = w
      go (inr w) = false_true (sym (ap (λ (k : ℕ). not (eqb k 0)) (ap pin_of w.own ∙ pin_no_puk c.type)) ∙ p)

  pub kept : (j : ℕ) → Kept (t j) ((entered t c).table j)
  kept j =
      by_effect (Kept (t j)) j
      (record { present = refl; enabled = refl; start = refl })
      (λ _ z. rw z (record { present = refl; enabled = refl; start = refl }))
      (λ w. rw w.own (record { present = refl; enabled = refl; start = refl }))
      (λ w. rw w.own (record { present = refl; enabled = refl; start = refl }))
      (λ w. rw w.own (record { present = refl; enabled = refl; start = refl }))

  -- no row gets more tries than it started with
  pub within : Within t → Within (entered t c).table
  within h j =
      by_effect (λ r. r.tries ≤ r.start) j (h j) (λ _ _. omega (arith, h c.type)) (λ _. omega arith) (λ _. omega arith) (λ _. omega arith)

  -- "Neither changes the table"
  pub other_operation : (c.operation ≡ enter_operation → ⊥) → entered t c ≡ unsupported t
  unfolding entered
  other_operation n = rw (ne_eqb c.operation enter_operation n)

  -- ---- and the other way round

  pub right_accepted : Right t c → entered t c ≡ accepted t c.type c.new
  unfolding entered judged
  right_accepted r =
      let n = r.counts in
      let s : same_text (t c.type).secret c.pin ≡ true = rw (sym r.text) (is_same (t c.type).secret) in
      rw (eq-eqb c.operation enter_operation n.enter, n.present, n.awaited, ne_eqb (t c.type).tries 0 n.tries, s)

  -- a right PUK makes the new text its PIN's secret
  pub unblocks : (j : ℕ) → Unblocks t c j → (entered t c).table j ≡ unblocked (t j) c.new
  unfolding accepted
  unblocks j u =
      let e : (entered t c).table ≡ puk_table t c.type c.new = rw u.puk at (ap (λ (x : Entry). x.table) (right_accepted u.right)) in
      at e j ∙ rw (eq-eqb j (pin_of c.type) u.own, u.own)

  -- a right entry puts its own tries back to the starting number, a PUK's too
  pub refills : Right t c → ((entered t c).table c.type).tries ≡ (t c.type).start
  unfolding accepted
  refills r = ap (λ (x : Entry). (x.table c.type).tries) (right_accepted r) ∙ go (is_puk c.type) refl
    where
      go : (b : Bool) → is_puk c.type ≡ b → ((cond b (granted (puk_table t c.type c.new)) (granted (put t c.type (entered_row (t c.type))))).table c.type).tries ≡ (t c.type).start
      go true p = rw (ne_eqb c.type (pin_of c.type) (no_own_puk c.type p), eq-eqb c.type c.type refl)
      go false p = rw (eq-eqb c.type c.type refl)

  -- a wrong one that counts takes one try, of its own row
  pub costs : Counts t c → ((t c.type).secret ≡ c.pin → ⊥) → suc ((entered t c).table c.type).tries ≡ (t c.type).tries
  unfolding entered judged
  costs n x =
      let s : same_text (t c.type).secret c.pin ≡ false = unlike (t c.type).secret c.pin x in
      let less : suc ((t c.type).tries - 1) ≡ (t c.type).tries = omega (arith, n.tries) in
      rw (eq-eqb c.operation enter_operation n.enter, n.present, n.awaited, ne_eqb (t c.type).tries 0 n.tries, s, failed_table t c.type, eq-eqb c.type c.type refl) less
