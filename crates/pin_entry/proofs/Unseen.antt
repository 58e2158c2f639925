-- An answer is made of flags and tries, and of whether the text is right.
-- Assumes nothing.
use Prim.Native.Nat.{ℕ, ◌-◌}
use mathlib.Core.Path.{◌≡◌, refl, ap}
use mathlib.Core.Bool.{Bool, true, false, not, cond, ◌&&◌}
use mathlib.Core.List.{List}
use lib.Dec.{eqb}
use Rattle.protocol.specs.Status.{failure}
use Rattle.pin_entry.specs.PinTable.{Table, put, puk_of, pin_of, is_puk, Call, enter_operation, same_text, Entry, info, locked, blocked, expected, one_less, accepted, failed, judged, entered}
use Rattle.pin_entry.specs.Claims.{Alike, SecretsUnseen}
use Rattle.pin_entry.specs.declared.PinAnswer.TheVariants.{Info}
use Rattle.std.specs.Prelude.{Ok}

-- the same is answered
record Told (x v : Entry) : Type 0 where
  is : x.answer ≡ v.answer

by : {b c : Bool} {x y v w : Entry} → b ≡ c → Told x v → Told y w → Told (cond b x y) (cond c v w)
by {b} {c} {x} {y} {v} {w} e p q = rw e (go c)
  where
    go : (d : Bool) → Told (cond d x y) (cond d v w)
    go true = p
    go false = q

abbrev AllAlike : Table → Table → Type 0
AllAlike t u = (k : ℕ) → Alike (t k) (u k)

blocked_same : (t u : Table) (k : ℕ) → AllAlike t u → Told (blocked t k) (blocked u k)
unfolding blocked
blocked_same t u k h =
    let r = h (puk_of k) in
    by (λ i. r.present i && not (eqb (r.tries i) 0)) (record { is = ap (λ (n : ℕ). Ok (Info failure (info (puk_of k) locked n))) r.tries }) (record { is = refl })

less_alike : (t u : Table) (k : ℕ) → AllAlike t u → AllAlike (put t k (one_less (t k))) (put u k (one_less (u k)))
less_alike t u k h j = go (eqb j k)
  where
    go : (b : Bool) → Alike (cond b (one_less (t k)) (t j)) (cond b (one_less (u k)) (u j))
    go true = record { present = (h k).present; enabled = (h k).enabled; entered = (h k).entered; tries = ap (λ (n : ℕ). n - 1) (h k).tries; start = (h k).start }
    go false = h j

failed_same : (t u : Table) (k : ℕ) → AllAlike t u → Told (failed t k) (failed u k)
unfolding failed
failed_same t u k h =
    let left : (t k).tries - 1 ≡ (u k).tries - 1 = ap (λ (n : ℕ). n - 1) (h k).tries in
    by (ap (λ (n : ℕ). eqb n 0) left) (blocked_same (put t k (one_less (t k))) (put u k (one_less (u k))) k (less_alike t u k h)) (record { is = ap (λ (n : ℕ). Ok (Info failure (info k locked n))) left })

expected_same : (t u : Table) (k : ℕ) → AllAlike t u → expected t k ≡ expected u k
unfolding expected
expected_same t u k h = λ i. cond (is_puk k) ((h (pin_of k)).present i && eqb ((h (pin_of k)).tries i) 0) ((h k).enabled i && not ((h k).entered i))

accepted_same : (t u : Table) (k : ℕ) (new : List ℕ) → Told (accepted t k new) (accepted u k new)
unfolding accepted
accepted_same t u k new = by {b = is_puk k} refl (record { is = refl }) (record { is = refl })

entry_same : (t u : Table) (c : Call) → AllAlike t u → same_text (t c.type).secret c.pin ≡ same_text (u c.type).secret c.pin → Told (entered t c) (entered u c)
unfolding entered judged
entry_same t u c h e =
    let k : ℕ = c.type in
    by {b = not (eqb c.operation enter_operation)} refl (record { is = refl })
    (by (ap not (h k).present) (record { is = refl })
    (by (ap not (expected_same t u k h)) (record { is = refl })
    (by (ap (λ (n : ℕ). eqb n 0) (h k).tries) (blocked_same t u k h)
    (by e (accepted_same t u k c.new) (failed_same t u k h)))))

pub secrets_unseen : SecretsUnseen
secrets_unseen t u c h e = (entry_same t u c h e).is
