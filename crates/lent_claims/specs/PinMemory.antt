-- A table of PINs in lent memory beside the plain table, alone and with the modem's end: which memory is taken, and how memory serves.
-- In this order: entries in memory; a modem with a table, by value and in memory.
use Rattle.std.specs.Prelude.{ℕ, ◌≤◌, ◌<◌, ◌^◌, ◌≡◌, List, map, length, get_or, Ok, Result}
use Rattle.handshake_claims.specs.Calls.{ModemCall, modem_opens, modem_closes, modem_receives}
use Rattle.modem.specs.Modem.{made_of as modem_made_of, start_of}
use Rattle.modem.specs.declared.Modem.{Modem}
use Rattle.pin_entry.specs.PinTable.{Table, table_after, answers_of}
use Rattle.pin_entry.specs.Meaning.{asked_of, no_start, starts_verdict, made_of}
use Rattle.pin_entry.specs.declared.PinAnswer.{PinAnswer}
use Rattle.pin_entry.specs.declared.starts.PinStart.{PinStart}
use Rattle.pin_modem.specs.PinModem.{Served, receive_of}
use Rattle.lent.specs.Stored.{Stored}
use Rattle.lent_modem.specs.LentModem.{modem_size, restart_in, make_in as modem_make_in}
use Rattle.lent_pins.specs.LentPins.{pins_size, table_in, pins_verdict, make_in, enter_in}
use Rattle.lent_pins.specs.LentModems.{PinModemCalled, kept_reply, receive_in}
use Rattle.lent_pins.specs.declared.modems.PinReply.{PinReply}
use Rattle.lent_claims.specs.Given.{Bytes}
use Rattle.lent_claims.specs.Turns.{Turn, turn, run, Serves}
use Rattle.lent_claims.specs.ModemMemory.{ModemTakes}
use Rattle.protocol.specs.Verdict.{no_fault, Verdict}
use Rattle.protocol.specs.declared.Refusal.{Refusal}

-- ---- entries in memory

abbrev pub pin_call_in : List ℕ → List ℕ → Turn (List ℕ) (Result PinAnswer Refusal)
pin_call_in m s = turn (enter_in m s).answer (enter_in m s).memory

-- no rule is broken, and the rows are those of the table
abbrev pub PinsTake : List ℕ → Table → Type 0
PinsTake m t = (pins_verdict m ≡ no_fault) × (table_in m ≡ t)

-- each payload is answered as by the plain table, and the memory is taken as the table that they leave
pub record ServesAsPlain (t : Table) (m : List ℕ) (ss : List (List ℕ)) : Type 0 where
  pub answers : (run pin_call_in m ss).answers ≡ answers_of t (map asked_of ss)
  pub held : PinsTake (run pin_call_in m ss).end (table_after t (map asked_of ss))

-- what a table is made of, as in every value of the code's type: 32 bytes of secret, and a number of 32 bits
abbrev pub StartsOfWidth : List PinStart → Type 0
StartsOfWidth rows = (i : ℕ) → i < 17 → (length (get_or rows i no_start).secret ≡ 32) × ((get_or rows i no_start).starting_tries < 2 ^ 32)

-- memory with the room in which a table was made serves any entries
abbrev pub PinMemoryServes : Type 0
PinMemoryServes = (m : List ℕ) → pins_size ≤ length m → (rows : List PinStart) → StartsOfWidth rows → starts_verdict rows ≡ no_fault → (ss : List (List ℕ))
    → ServesAsPlain (made_of rows).table (make_in m rows).memory ss

-- and so does any memory of bytes that is taken, as the table that it holds
abbrev pub TakenPinsServe : Type 0
TakenPinsServe = (m : List ℕ) → Bytes m → pins_verdict m ≡ no_fault → (ss : List (List ℕ)) → ServesAsPlain (table_in m) m ss

-- ---- a modem with a table: OPEN and CLOSE don't touch the table

pub record PinModem : Type 0 where
  pub modem : Modem
  pub table : Table

pub record PinModemMemory : Type 0 where
  pub modem : List ℕ
  pub pins : List ℕ

abbrev pub pin_modem : Modem → Table → PinModem
pin_modem x t = record { modem = x; table = t }

abbrev pub pin_memory : List ℕ → List ℕ → PinModemMemory
pin_memory m p = record { modem = m; pins = p }

-- what a call is answered: OPEN and CLOSE by a verdict, a message by a reply and the output
pub data PinModemSaid : Type 0 where
  restarts : Verdict → PinModemSaid
  replies : PinReply → List ℕ → PinModemSaid

abbrev pub served : Served → Turn PinModem PinModemSaid
served v = turn (replies (kept_reply v.serving) v.output) (pin_modem v.serving.modem v.serving.table)

unfoldable pub pin_modem_call : PinModem → ModemCall → Turn PinModem PinModemSaid
pin_modem_call e modem_opens = turn (restarts no_fault) (pin_modem (start_of e.modem) e.table)
pin_modem_call e modem_closes = turn (restarts no_fault) (pin_modem (start_of e.modem) e.table)
pin_modem_call e (modem_receives h s out) = served (receive_of e.modem e.table h s out)

abbrev pub restarted : Stored → List ℕ → Turn PinModemMemory PinModemSaid
restarted r p = turn (restarts r.verdict) (pin_memory r.memory p)

abbrev pub replied : PinModemCalled → Turn PinModemMemory PinModemSaid
replied r = turn (replies r.reply r.output) (pin_memory r.modem r.pins)

unfoldable pub pin_modem_call_in : PinModemMemory → ModemCall → Turn PinModemMemory PinModemSaid
pin_modem_call_in m modem_opens = restarted (restart_in m.modem) m.pins
pin_modem_call_in m modem_closes = restarted (restart_in m.modem) m.pins
pin_modem_call_in m (modem_receives h s out) = replied (receive_in m.modem m.pins h s out)

pub record PinModemTakes (m : PinModemMemory) (e : PinModem) : Type 0 where
  pub modem : ModemTakes m.modem e.modem
  pub pins : PinsTake m.pins e.table

-- memory with the room in which a modem and a table were made serves any calls
abbrev pub PinModemMemoryServes : Type 0
PinModemMemoryServes = (m p : List ℕ) → modem_size ≤ length m → pins_size ≤ length p
    → (native advertised : ℕ) (services : List ℕ) (x : Modem) → modem_made_of native advertised services ≡ Ok x
    → (rows : List PinStart) → StartsOfWidth rows → starts_verdict rows ≡ no_fault → (cs : List ModemCall)
    → Serves pin_modem_call pin_modem_call_in PinModemTakes (pin_modem x (made_of rows).table) (pin_memory (modem_make_in m native advertised services).memory (make_in p rows).memory) cs
