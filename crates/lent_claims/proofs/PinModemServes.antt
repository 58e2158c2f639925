-- A modem with a table of PINs in lent memory serves any calls as by value.
-- Assumes nothing.
use mathlib.Core.Path.{◌≡◌, refl}
use mathlib.Core.Bool.{Bool, true, false}
use mathlib.Core.List.{List}
use Prim.Native.Nat.{ℕ}
use lib.Seq.{sets}
use Rattle.message.specs.declared.MessageHeader.{MessageHeader}
use Rattle.handshake_claims.specs.Calls.{ModemCall, modem_opens, modem_closes, modem_receives}
use Rattle.modem.specs.Modem as modem
use Rattle.modem.specs.Modem.{Commanding, start_of}
use Rattle.modem.specs.declared.Modem.{Modem}
use Rattle.pin.specs.PinInfo.{write_of}
use Rattle.pin_entry.specs.PinTable.{Table}
use Rattle.pin_entry.specs.Meaning.{enter_of}
use Rattle.pin_entry.specs.declared.PinAnswer.{PinAnswer}
use Rattle.pin_entry.specs.declared.PinAnswer.TheVariants as pin
use Rattle.pin_modem.specs.PinModem.{is_entry, Served, reply_by, reply_of, serve_by, serve_of, receive_by, receive_of}
use Rattle.lent_modem.specs.LentModem.{modem_bytes, modem_in, restart_in}
use Rattle.lent_pins.specs.LentPins.{table_bytes}
use Rattle.lent_pins.specs.LentModems.{kept_modem, kept_pins, served_in, commanded_by, held_in, receive_in}
use Rattle.lent_claims.specs.Turns.{Turn, turn}
use Rattle.lent_claims.specs.ModemMemory.{modem_call}
use Rattle.lent_claims.specs.PinMemory.{PinModem, PinModemMemory, pin_modem, pin_memory, PinModemSaid, restarts, served, pin_modem_call, restarted, replied, pin_modem_call_in, PinModemMemoryServes}
use Rattle.lent_claims.proofs.Serves.{run_holds}
use Rattle.lent_claims.proofs.ModemTaken as end
use Rattle.lent_claims.proofs.PinsTaken as pins
use Rattle.std.specs.Prelude.{Ok, Err, Result}
use Rattle.protocol.specs.Verdict.{no_fault, Written}
use Rattle.protocol.specs.declared.Refusal.{Refusal}

-- the memory holds both
record Holds (m : PinModemMemory) (e : PinModem) : Type 0 where
  modem : end.Holds m.modem e.modem
  pins : pins.PinsHold m.pins e.table

-- a call that is answered alike, and leaves memory that holds what is left by value
abbrev Alike : Turn PinModemMemory PinModemSaid → Turn PinModem PinModemSaid → Type 0
Alike a b = (a.answer ≡ b.answer) × Holds a.after b.after

-- ---- an entry

-- end and table after it, or both as they were where it is refused
module _ (m p : List ℕ) (x y : Modem) (t : Table) (H : end.Holds m x) (K : end.Holds (sets m 0 (modem_bytes y)) y) (P : pins.PinsHold p t) (s : List ℕ) where
  abbrev Kept : Served → Type 0
  Kept v = Holds (pin_memory (kept_modem v.serving m) (kept_pins v.serving p)) (pin_modem v.serving.modem v.serving.table)

  after : pins.PinsHold (sets p 0 (table_bytes (enter_of t s).table)) (enter_of t s).table
  after = pins.kept_holds p (enter_of t s).table P.long (pins.entry_fits t s P.fits)

  by_written : (w : Written) (out : List ℕ) (status : ℕ) → Kept (record { serving = reply_by w x t y (enter_of t s).table status; output = out })
  by_written (Ok n) out status = record { modem = K; pins = after }
  by_written (Err r) out status = record { modem = H; pins = P }

  by_answer : (a : (Result PinAnswer Refusal)) (out : List ℕ) → (enter_of t s).answer ≡ a → Kept (serve_by a x t y (enter_of t s).table out)
  unfolding serve_by reply_of
  by_answer (Ok (pin.Info status i)) out e = by_written (write_of i out).answer (write_of i out).output status
  by_answer (Ok (pin.Failed status)) out e = record { modem = K; pins = pins.hidden_holds p t s P (λ h. rw e at h) }
  by_answer (Err r) out e = record { modem = K; pins = pins.hidden_holds p t s P (λ h. rw e at h) }

  entry_alike : (out : List ℕ) → Alike (replied (served_in m p x y s out)) (served (serve_of x y t s out))
  unfolding served_in serve_of
  entry_alike out = rw (P.takes.0, P.takes.1) (refl, by_answer (enter_of t s).answer out refl)

-- ---- any call

message_alike : (m p : List ℕ) (x : Modem) (t : Table) (h : MessageHeader) (s out : List ℕ) → end.Holds m x → pins.PinsHold p t
    → Alike (replied (receive_in m p h s out)) (served (receive_of x t h s out))
unfolding receive_in held_in receive_of modem_in modem_call
message_alike m p x t h s out H P = rw (H.2.0, H.2.1) (go (is_entry h c.step.answer))
  where
    c : Commanding
    c = modem.receive_of x h s out

    K : end.Holds (sets m 0 (modem_bytes c.step.modem)) c.step.modem
    K = end.kept_holds m c.step.modem H.0 (end.one_sound x (modem_receives h s out) H.1)

    go : (b : Bool) → Alike (replied (commanded_by b m p x c s)) (served (receive_by b c x t s))
    go true = entry_alike m p x c.step.modem t H K P s c.output
    go false = (refl, record { modem = K; pins = P })

restart_alike : (m p : List ℕ) (x : Modem) (t : Table) → end.Holds m x → pins.PinsHold p t → Alike (restarted (restart_in m) p) (turn (restarts no_fault) (pin_modem (start_of x) t))
unfolding restart_in modem_in
restart_alike m p x t H P = rw (H.2.0, H.2.1) (refl, record { modem = end.kept_holds m (start_of x) H.0 (H.1.0, tt); pins = P })

one_alike : (m : PinModemMemory) (e : PinModem) (c : ModemCall) → Holds m e → Alike (pin_modem_call_in m c) (pin_modem_call e c)
unfolding pin_modem_call_in pin_modem_call
one_alike m e modem_opens H = restart_alike m.modem m.pins e.modem e.table H.modem H.pins
one_alike m e modem_closes H = restart_alike m.modem m.pins e.modem e.table H.modem H.pins
one_alike m e (modem_receives h s out) H = message_alike m.modem m.pins e.modem e.table h s out H.modem H.pins

pub pin_modem_memory_serves : PinModemMemoryServes
pin_modem_memory_serves m p l k native advertised services x e rows w f cs =
    let r = run_holds pin_modem_call pin_modem_call_in Holds one_alike _ _ cs (record { modem = end.made_holds m l native advertised services x e; pins = pins.made_holds p k rows w f }) in
    record { answers = r.0; held = record { modem = r.1.modem.2; pins = r.1.pins.takes } }
