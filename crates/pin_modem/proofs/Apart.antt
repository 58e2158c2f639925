-- The handshake's rules come first, and PINs don't disturb it.
-- Assumes nothing.
use Prim.Native.Nat.{ℕ, ◌≤◌}
use mathlib.Core.Path.{◌≡◌, refl, sym, ◌∙◌}
use mathlib.Core.Logic.{inl, inr}
use mathlib.Core.Bool.{Bool, true, false, cond}
use mathlib.Core.List.{List, [], ◌∷◌, map}
use native.Mathlib.Omega.{arith}
use borrow.Author.Tests.{le-ltb, lt-ltb, ne_eqb}
use lib.Dec.{eqb}
use lib.ListN.{length}
use Rattle.protocol.specs.MessageType.{SET}
use Rattle.protocol.specs.Service.{basic_connect, id_at, same_id, among, kind_of, Carried}
use Rattle.wire.specs.Numbers.{u32_at}
use Rattle.protocol.specs.Verdict.{judge, judge_from, first_of, fault_if, with_room, given, writing, no_fault, Verdict, Written}
use Rattle.protocol.specs.declared.Version.{Version}
use Rattle.protocol.specs.declared.service.Kind.TheVariants as kinds
use Rattle.version_info.specs.VersionInfo.{read_of, VersionInfoRead}
use Rattle.version_info.specs.VersionInfo as version_info
use Rattle.message.specs.declared.MessageHeader.{MessageHeader}
use Rattle.handshake.specs.Versions.{version_of, info_of}
use Rattle.handshake.specs.Commands.{role_of_kind, role_of}
use Rattle.handshake.specs.declared.Role.{Role}
use Rattle.handshake.specs.declared.Role.TheVariants as role
use Rattle.modem.specs.Modem as modem
use Rattle.modem.specs.declared.Modem.{Modem}
use Rattle.modem.specs.declared.ModemStage.{ModemStage}
use Rattle.modem.specs.declared.ModemStage.TheVariants.{Start, Listed, Settled}
use Rattle.protocol.proofs.Tests.{and_both}
use Rattle.pairs.specs.declared.ZeroSize.TheVariants.{Strict}
use Rattle.pin.specs.PinInfo.{rules, verdict_of, bytes_of, write_of}
use Rattle.pin.specs.SetPin.{read_with, SetPinRead}
use Rattle.pin.proofs.PinInfoLaws.{said_verdict}
use Rattle.pin.proofs.SetPinLaws.{accepted}
use Rattle.pin_entry.specs.PinTable.{Table, puk_of, info, locked, step, table_after}
use Rattle.pin_entry.specs.Meaning.{asked_by, asked_of, enter_of}
use Rattle.pin_entry.specs.declared.PinAnswer.{PinAnswer}
use Rattle.pin_entry.specs.declared.PinAnswer.TheVariants as pin
use Rattle.pin_entry.proofs.Rows.{puk_within}
use Rattle.pin_entry.proofs.Runs.{hidden_same}
use Rattle.pin_entry.proofs.Effects.{false_true, answers_are}
use Rattle.pin_modem.specs.PinModem.{serves_pin, is_entry, reply_of, serve_by, serve_of, receive_by, receive_of}
use Rattle.pin_modem.specs.Claims.{OthersAsWithout, NoRoom, RefusedFails, PinSet, WaitingFails, FirstReaches, SettledReaches, Message, alone, alone_after, reaching, ends, after_all, ApartFromEachOther}
use Rattle.std.specs.Prelude.{Ok, Err, Result}
use Rattle.protocol.specs.declared.Refusal.{Refusal}

pub others_as_without : OthersAsWithout
unfolding receive_of
others_as_without x t h s out e = rw e

-- ---- what an answer shows can be written

abbrev Writable : (Result PinAnswer Refusal) → Type 0
Writable (Ok (pin.Info status i)) = verdict_of i ≡ no_fault
Writable (Ok (pin.Failed status)) = Unit
Writable (Err r) = Unit

type_fits : (k n : ℕ) → k ≤ 17 → verdict_of (info k locked n) ≡ no_fault
type_fits k n l = said_verdict (info k locked n) (record { type = l; state = omega arith })

answer_writable : (t : Table) (s : List ℕ) → Writable (enter_of t s).answer
unfolding enter_of asked_of step verdict_of rules judge_from first_of fault_if
answer_writable t s = go (read_with Strict s) refl
  where
    go : (r : SetPinRead) → read_with Strict s ≡ r → Writable (step t (asked_by s r)).answer
    go (Ok (p, x)) e =
        let a = accepted Strict s p x e in
        let l : p.pin_type ≤ 17 = rw a.1.0 a.0.numbers.type in
        answers_are Writable t _ tt refl refl (λ n. type_fits p.pin_type n l) (λ n. type_fits (puk_of p.pin_type) n (puk_within p.pin_type))
    go (Err r) e = tt

-- ---- an entry

pub no_room : NoRoom
unfolding serve_of serve_by reply_of write_of bytes_of writing with_room given first_of fault_if
no_room x y t s out status i e l =
    let w : verdict_of i ≡ no_fault = rw e at (answer_writable t s) in
    rw (e, w, lt-ltb (length out) 12 l)

pub refused_fails : RefusedFails
unfolding serve_of serve_by
refused_fails x y t s out r e = rw (e, hidden_same t s (λ h. rw e at h))

-- with room the end is the one after the handshake's rules, and the table the one that the entry leaves
entry_after : (x y : Modem) (t : Table) (s out : List ℕ) → 12 ≤ length out
    → ((serve_of x y t s out).serving.modem ≡ y) × ((serve_of x y t s out).serving.table ≡ (enter_of t s).table)
unfolding serve_of serve_by reply_of write_of bytes_of writing with_room given first_of fault_if
entry_after x y t s out l = go (enter_of t s).answer (answer_writable t s)
  where
    go : (a : (Result PinAnswer Refusal)) → Writable a → ((serve_by a x t y (enter_of t s).table out).serving.modem ≡ y) × ((serve_by a x t y (enter_of t s).table out).serving.table ≡ (enter_of t s).table)
    go (Ok (pin.Info status i)) w = rw (w, le-ltb (length out) 12 l) (refl, refl)
    go (Ok (pin.Failed status)) w = (refl, refl)
    go (Err r) w = (refl, refl)

-- ---- which PIN commands reach the table

-- a PIN command is no question of the handshake
pin_kind : kind_of (id_at basic_connect 0) 4 ≡ Ok kinds.PinInfo
unfolding kind_of among same_id id_at u32_at basic_connect
pin_kind = refl

pin_command : (x : Modem) (h : MessageHeader) (s out : List ℕ) → PinSet h → modem.receive_of x h s out ≡ modem.plain (modem.other_at x.stage x (Ok kinds.PinInfo)) out
unfolding modem.receive_of modem.receive_by modem.command_of modem.command_by role_of role_of_kind judge_from first_of fault_if
pin_command x h s out p = rw (p.command, ne_eqb h.transaction 0 (λ e. omega (arith, e, p.numbered)), p.service, p.cid, pin_kind) refl

-- a PIN command to a modem at a stage
at_stage : (x : Modem) (t : Table) (h : MessageHeader) (s out : List ℕ) (g : ModemStage) → PinSet h → x.stage ≡ g
    → receive_of x t h s out ≡ (let c = modem.plain (modem.other_at g x (Ok kinds.PinInfo)) out in receive_by (is_entry h c.step.answer) c x t s)
unfolding receive_of
at_stage x t h s out g p e = rw (pin_command x h s out p, e)

pub waiting_fails : WaitingFails
unfolding modem.other_at is_entry
waiting_fails x t h s out p (inl e) = at_stage x t h s out Start p e ∙ rw p.set
waiting_fails x t h s out p (inr (e, a)) = at_stage x t h s out Listed p e ∙ rw (p.set, a)

pub first_reaches : FirstReaches
unfolding modem.other_at is_entry
first_reaches x t h s out p e a = at_stage x t h s out Listed p e ∙ rw (p.set, a)

pub settled_reaches : SettledReaches
unfolding modem.other_at is_entry
settled_reaches x t h s out v p e = at_stage x t h s out (Settled v) p e ∙ rw p.set

-- ---- any messages

-- an answer to VERSION is no entry
version_no_entry : (x : Modem) (type : ℕ) (s out : List ℕ) → serves_pin (modem.version_of_command x type s out).step.answer ≡ false
unfolding modem.version_of_command modem.answer_by modem.give_of modem.gave
version_no_entry x type s out = by_test (modem.can_answer x type)
  where
    by_written : (w : Written) (v : Version) → serves_pin (modem.gave_by w x v).answer ≡ false
    by_written (Ok n) v = refl
    by_written (Err r) v = refl

    by_read : (r : VersionInfoRead) → serves_pin (modem.answer_by x r out).step.answer ≡ false
    by_read (Ok i) =
        let v : Version = modem.answer_of x (version_of i.bcd_mbim_extended_version) in
        by_written (version_info.write_of (info_of v) out).answer v
    by_read (Err r) = refl

    by_test : (b : Bool) → serves_pin (cond b (modem.answer_by x (read_of s) out) (modem.plain (modem.failed x) out)).step.answer ≡ false
    by_test true = by_read (read_of s)
    by_test false = refl

-- the handshake leaves the output to an entry
entry_output : (x : Modem) (h : MessageHeader) (s out : List ℕ) → serves_pin (modem.receive_of x h s out).step.answer ≡ true → (modem.receive_of x h s out).output ≡ out
unfolding modem.receive_of modem.receive_by modem.command_of modem.command_by
entry_output x h s out = by_verdict (judge (modem.command_rules h))
  where
    by_role : (r : Role) (c : Carried) → serves_pin (modem.command_by r x c h.word s out).step.answer ≡ true → (modem.command_by r x c h.word s out).output ≡ out
    by_role role.Services c e = refl
    by_role role.Version c e = false_true (sym (version_no_entry x h.word s out) ∙ e)
    by_role role.Other c e = refl

    by_verdict : (v : Verdict) → serves_pin (modem.receive_by v x h s out).step.answer ≡ true → (modem.receive_by v x h s out).output ≡ out
    by_verdict (Ok _) e = by_role (role_of (kind_of h.service h.cid)) (kind_of h.service h.cid) e
    by_verdict (Err r) e = refl

-- end and table after a message
module _ (x : Modem) (t : Table) (m : Message) (l : 12 ≤ length m.output) where
  one : (b : Bool) → is_entry m.header (alone x m).step.answer ≡ b
      → ((receive_of x t m.header m.information m.output).serving.modem ≡ (alone x m).step.modem)
      × ((receive_of x t m.header m.information m.output).serving.table ≡ cond b (enter_of t m.information).table t)
  unfolding receive_of is_entry
  one true e =
      let o = entry_output x m.header m.information m.output (and_both (eqb m.header.word SET) (serves_pin (alone x m).step.answer) e).1 in
      rw (e, o) (entry_after x (alone x m).step.modem t m.information m.output l)
  one false e = rw e (refl, refl)

pub apart_from_each_other : ApartFromEachOther
unfolding after_all alone_after reaching table_after enter_of
apart_from_each_other x t [] r = refl
apart_from_each_other x t (m ∷ ms) r = go (is_entry m.header (alone x m).step.answer) refl (λ (u : Table). apart_from_each_other (alone x m).step.modem u ms r.1)
  where
    rest : List (List ℕ)
    rest = reaching (alone x m).step.modem ms

    go : (b : Bool) → is_entry m.header (alone x m).step.answer ≡ b
        → ((u : Table) → after_all (alone x m).step.modem u ms ≡ ends (alone_after (alone x m).step.modem ms) (table_after u (map asked_of rest)))
        → after_all x t (m ∷ ms) ≡ ends (alone_after x (m ∷ ms)) (table_after t (map asked_of (cond b (m.information ∷ rest) rest)))
    go true e f = rw ((one x t m r.0 true e).0, (one x t m r.0 true e).1) (f (enter_of t m.information).table)
    go false e f = rw ((one x t m r.0 false e).0, (one x t m r.0 false e).1) (f t)
