-- Any sequence of payloads.
-- Assumes nothing.
use Prim.Native.Nat.{ℕ}
use mathlib.Core.Path.{◌≡◌, refl, ap, ◌∙◌}
use mathlib.Core.Logic.{◌⊎◌, inl, inr}
use mathlib.Core.Bool.{Bool, true, false}
use mathlib.Core.List.{List, [], ◌∷◌, map}
use native.Mathlib.Omega.{arith}
use lib.Dec.{eqb}
use lib.ListN.{get_or}
use Rattle.pairs.specs.Pair.{part_of}
use Rattle.pairs.specs.declared.ZeroSize.TheVariants.{Strict}
use Rattle.pin.specs.SetPin.{read_with, SetPinRead}
use Rattle.pin_entry.specs.PinTable.{Table, Call, call, Asked, asks, unread, Entry, unsupported, entered, step, table_after, answers_of}
use Rattle.pin_entry.specs.Meaning.{table_of, asked_by, asked_of, enter_of, no_start, starts_verdict, start_row, start_row_at, started, made_by, made_of}
use Rattle.pin_entry.specs.Claims.{Fresh, Run, ends, enters, AsPlain, Within, CallClaims, AskedClaims, EachStep, EveryRun, MadeFresh}
use Rattle.pin_entry.specs.declared.PinTable.{PinTable}
use Rattle.pin_entry.specs.declared.PinAnswer.{PinAnswer}
use Rattle.pin_entry.specs.declared.starts.PinStart.{PinStart}
use Rattle.pin_entry.proofs.Consequences as each
use Rattle.pin_entry.proofs.Effects.{filled_each, Shows, shows_or_leaves}
use Rattle.std.specs.Prelude.{Ok, Err, Result}
use Rattle.protocol.specs.Verdict.{Verdict}
use Rattle.protocol.specs.declared.Refusal.{Refusal}

-- ---- the code answers as the plain table does, and its table stays that one

pub as_plain : {p q : PinTable} {ss : List (List ℕ)} {xs : List (Result PinAnswer Refusal)} → Run p ss xs q → AsPlain p ss xs q
unfolding table_after answers_of enter_of
as_plain ends = record { answers = refl; table = refl }
as_plain (enters {p} {q} {s} {ss} {xs} r e w) =
    let rest = as_plain w in
    let t : table_of r.table ≡ (step (table_of p) (asked_of s)).table = ap (λ (x : Entry). x.table) e in
    let a : r.answer ≡ (step (table_of p) (asked_of s)).answer = ap (λ (x : Entry). x.answer) e in
    record { answers = rw (← a, ← t) (ap (λ (l : List (Result PinAnswer Refusal)). r.answer ∷ l) rest.answers); table = rest.table ∙ ap (λ (u : Table). table_after u (map asked_of ss)) t }

-- a payload whose answer shows no PIN_INFO leaves the table
pub hidden_same : (t : Table) (s : List ℕ) → (Shows (enter_of t s).answer → ⊥) → (enter_of t s).table ≡ t
unfolding enter_of asked_of step
hidden_same t s = go (read_with Strict s)
  where
    by_call : (c : Call) → Shows (entered t c).answer ⊎ (entered t c ≡ unsupported t) → (Shows (entered t c).answer → ⊥) → (entered t c).table ≡ t
    by_call c (inl h) n = absurd (n h)
    by_call c (inr e) n = ap (λ (x : Entry). x.table) e

    go : (x : SetPinRead) → (Shows (step t (asked_by s x)).answer → ⊥) → (step t (asked_by s x)).table ≡ t
    go (Ok (p, x)) n = by_call _ (shows_or_leaves t (call p.pin_type p.pin_operation (part_of s x.pin) (part_of s x.new_pin))) n
    go (Err q) n = refl

within_step : (t : Table) (a : Asked) → Within t → Within (step t a).table
unfolding step
within_step t (asks c) h = each.within t c h
within_step t (unread r) h = h

pub within_after : (t : Table) (l : List Asked) → Within t → Within (table_after t l)
unfolding table_after
within_after t [] h = h
within_after t (a ∷ rest) h = within_after (step t a).table rest (within_step t a h)

-- from a table just made, no row of the code's table ever has more tries than it started with
never_more : {p q : PinTable} {ss : List (List ℕ)} {xs : List (Result PinAnswer Refusal)} → Fresh (table_of p) → Run p ss xs q → Within (table_of q)
never_more {p} {q} {ss} f w = rw (as_plain w).table (within_after (table_of p) (map asked_of ss) (λ k. omega (arith, f.tries k)))

-- ---- tables just made

start_tries : (s : PinStart) → (start_row s).tries ≡ (start_row s).start
start_tries s = go (eqb s.present 0) refl
  where
    go : (b : Bool) → eqb s.present 0 ≡ b → (start_row s).tries ≡ (start_row s).start
    go true e = rw e
    go false e = rw e

start_entered : (s : PinStart) → (start_row s).entered ≡ false
start_entered s = go (eqb s.present 0) refl
  where
    go : (b : Bool) → eqb s.present 0 ≡ b → (start_row s).entered ≡ false
    go true e = rw e
    go false e = rw e

fresh_started : (rows : List PinStart) → Fresh (started rows)
fresh_started rows =
    record {
      tries = filled_each (λ x. x.tries ≡ x.start) (start_row_at rows) 17 refl (λ i _. start_tries (get_or rows i no_start));
      entered = filled_each (λ x. x.entered ≡ false) (start_row_at rows) 17 refl (λ i _. start_entered (get_or rows i no_start));
    }

pub made_fresh : MadeFresh
unfolding made_of
made_fresh rows = go (starts_verdict rows)
  where
    go : (v : Verdict) → Fresh (made_by v rows).table
    go (Ok _) = fresh_started rows
    go (Err r) = record { tries = λ k. refl; entered = λ k. refl }

-- ---- all of it

call_claims : (t : Table) (c : Call) → CallClaims t c
call_claims t c =
    record {
      raised = each.raised t c;
      puk_raised = each.puk_raised t c;
      others = each.other_rows t c;
      secrets = each.secrets t c;
      unblocked = each.unblocks t c;
      operations = each.other_operation t c;
      refills = each.refills t c;
      costs = each.costs t c;
      kept = each.kept t c;
    }

asked_claims : (t : Table) (a : Asked) → AskedClaims t a
unfolding step
asked_claims t (asks c) = call_claims t c
asked_claims t (unread r) = refl

each_step : (t : Table) (l : List Asked) → EachStep t l
each_step t [] = tt
each_step t (a ∷ rest) = (asked_claims t a, each_step (step t a).table rest)

-- from a table just made, any sequence of payloads
pub every_run : EveryRun
every_run rows p e ss xs q w =
    let f : Fresh (table_of p) = rw e (made_fresh rows) in
    record { plain = as_plain w; steps = each_step (table_of p) (map asked_of ss); within = never_more f w }
