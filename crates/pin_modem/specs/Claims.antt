-- What is claimed of the modem's end with a table of PINs beside the promises: the handshake's own rules come first, and PINs don't disturb it.
-- In this order: a message that is no entry, and one that is; which PIN commands reach the table; any messages one after the other.
use Rattle.std.specs.Prelude.{ℕ, ◌≤◌, ◌<◌, ◌≡◌, ◌⊎◌, false, cond, List, [], ◌∷◌, map, length, Ok, Err}
use Rattle.protocol.specs.Refusal.{refusal, output_too_small}
use Rattle.protocol.specs.MessageType.{COMMAND, SET}
use Rattle.protocol.specs.Service.{basic_connect, id_at}
use Rattle.protocol.specs.Status.{no_device_support}
use Rattle.protocol.specs.declared.Refusal.{Refusal}
use Rattle.protocol.specs.declared.Version.{Version}
use Rattle.protocol.specs.declared.Version.TheVariants.{V1, V2}
use Rattle.message.specs.declared.MessageHeader.{MessageHeader}
use Rattle.modem.specs.Modem.{Commanding, at}
use Rattle.modem.specs.Modem as modem
use Rattle.modem.specs.declared.Modem.{Modem}
use Rattle.modem.specs.declared.ModemStage.TheVariants.{Start, Listed, Settled}
use Rattle.modem.specs.declared.ModemAnswer.TheVariants as answer
use Rattle.pin.specs.declared.pin_info.PinInfo.{PinInfo}
use Rattle.pin_entry.specs.PinTable.{Table, table_after}
use Rattle.pin_entry.specs.Meaning.{asked_of, enter_of}
use Rattle.pin_entry.specs.declared.PinAnswer.TheVariants as pin
use Rattle.pin_modem.specs.PinModem.{as_modem, is_entry, serving, served, serve_of, receive_of}
use Rattle.pin_modem.specs.declared.PinModemAnswer.TheVariants.{Modem as AsModem}

-- ---- a message that is no entry, and one that is

-- it is answered as without a table, which it leaves
abbrev pub OthersAsWithout : Type 0
OthersAsWithout = (x : Modem) (t : Table) (h : MessageHeader) (s out : List ℕ) → is_entry h (modem.receive_of x h s out).step.answer ≡ false
    → receive_of x t h s out
    ≡ served (serving (modem.receive_of x h s out).step.modem t (as_modem (modem.receive_of x h s out).step.answer)) (modem.receive_of x h s out).output

-- "Too little room for the reply": 11 at 12, and end, table and output are as they were
abbrev pub NoRoom : Type 0
NoRoom = (x y : Modem) (t : Table) (s out : List ℕ) (status : ℕ) (i : PinInfo) → (enter_of t s).answer ≡ Ok (pin.Info status i) → length out < 12
    → serve_of x y t s out ≡ served (serving x t (Err (refusal output_too_small 12))) out

-- a payload that is refused: status 9 without a payload, and the table stays
abbrev pub RefusedFails : Type 0
RefusedFails = (x y : Modem) (t : Table) (s out : List ℕ) (r : Refusal) → (enter_of t s).answer ≡ Err r
    → serve_of x y t s out ≡ served (serving y t (Ok (AsModem (answer.Failed no_device_support)))) out

-- ---- which PIN commands reach the table

-- a set of CID 4, of a transaction
pub record PinSet (h : MessageHeader) : Type 0 where
  pub command : h.message_type ≡ COMMAND
  pub numbered : 0 < h.transaction
  pub service : h.service ≡ id_at basic_connect 0
  pub cid : h.cid ≡ 4
  pub set : h.word ≡ SET

-- before the list, or waiting for VERSION
abbrev pub Waits : Modem → Type 0
Waits x = (x.stage ≡ Start) ⊎ ((x.stage ≡ Listed) × (x.advertised ≡ V2))

-- a modem that waits answers status 9, and nothing changes
abbrev pub WaitingFails : Type 0
WaitingFails = (x : Modem) (t : Table) (h : MessageHeader) (s out : List ℕ) → PinSet h → Waits x
    → receive_of x t h s out ≡ served (serving x t (Ok (AsModem (answer.Failed no_device_support)))) out

-- advertised 1.00, the command settles the modem and then reaches the table
abbrev pub FirstReaches : Type 0
FirstReaches = (x : Modem) (t : Table) (h : MessageHeader) (s out : List ℕ) → PinSet h → x.stage ≡ Listed → x.advertised ≡ V1
    → receive_of x t h s out ≡ serve_of x (at x (Settled V1)) t s out

abbrev pub SettledReaches : Type 0
SettledReaches = (x : Modem) (t : Table) (h : MessageHeader) (s out : List ℕ) (v : Version) → PinSet h → x.stage ≡ Settled v
    → receive_of x t h s out ≡ serve_of x x t s out

-- ---- any messages one after the other, each with room for PIN_INFO

pub record Message : Type 0 where
  pub header : MessageHeader
  pub information : List ℕ
  pub output : List ℕ

abbrev pub Roomy : List Message → Type 0
Roomy [] = Unit
Roomy (m ∷ ms) = (12 ≤ length m.output) × Roomy ms

-- a message to the modem without a table
abbrev pub alone : Modem → Message → Commanding
alone x m = modem.receive_of x m.header m.information m.output

unfoldable pub alone_after : Modem → List Message → Modem
alone_after x [] = x
alone_after x (m ∷ ms) = alone_after (alone x m).step.modem ms

-- the payloads that the handshake lets through to the table
unfoldable pub reaching : Modem → List Message → List (List ℕ)
reaching x [] = []
reaching x (m ∷ ms) =
    let rest = reaching (alone x m).step.modem ms in
    cond (is_entry m.header (alone x m).step.answer) (m.information ∷ rest) rest

pub record Ends : Type 0 where
  pub modem : Modem
  pub table : Table

abbrev pub ends : Modem → Table → Ends
ends x t = record { modem = x; table = t }

unfoldable pub after_all : Modem → Table → List Message → Ends
after_all x t [] = ends x t
after_all x t (m ∷ ms) =
    let v = (receive_of x t m.header m.information m.output).serving in
    after_all v.modem v.table ms

-- the end is as without a table, and the table as after those payloads alone
abbrev pub ApartFromEachOther : Type 0
ApartFromEachOther = (x : Modem) (t : Table) (ms : List Message) → Roomy ms → after_all x t ms ≡ ends (alone_after x ms) (table_after t (map asked_of (reaching x ms)))
