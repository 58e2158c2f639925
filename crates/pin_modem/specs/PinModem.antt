-- The modem's end with a table of PINs (document 02, order 2: "on Basic Connect CID 4"; document 01, "The handshake").
-- In this order: which message is an entry; what an entry comes to; any message. Too little room for the reply leaves end and table as they were;
-- a payload that is refused gets status 9, as a VERSION with one.
use Rattle.std.specs.Prelude.{ℕ, Bool, true, false, ◌&&◌, List, eqb, Ok, Err, Result}
use Rattle.protocol.specs.MessageType.{SET}
use Rattle.protocol.specs.Status.{no_device_support}
use Rattle.protocol.specs.Verdict.{Writing, Written}
use Rattle.protocol.specs.declared.service.Kind.{Kind}
use Rattle.protocol.specs.declared.service.Kind.TheVariants as kind
use Rattle.message.specs.declared.MessageHeader.{MessageHeader}
use Rattle.modem.specs.Modem.{Commanding}
use Rattle.modem.specs.Modem as modem
use Rattle.modem.specs.declared.Modem.{Modem}
use Rattle.modem.specs.declared.ModemAnswer.{ModemAnswer}
use Rattle.modem.specs.declared.ModemAnswer.TheVariants as answer
use Rattle.pin.specs.PinInfo.{write_of}
use Rattle.pin_entry.specs.PinTable.{Table}
use Rattle.pin_entry.specs.Meaning.{table_of, enter_of}
use Rattle.pin_entry.specs.declared.PinAnswer.{PinAnswer}
use Rattle.pin_entry.specs.declared.PinAnswer.TheVariants as pin
use Rattle.pin_modem.specs.declared.PinModemAnswer.{PinModemAnswer}
use Rattle.pin_modem.specs.declared.PinModemAnswer.TheVariants.{Modem as AsModem, Pin}
use Rattle.pin_modem.specs.declared.PinModemStep.{PinModemStep}
use Rattle.protocol.specs.declared.Refusal.{Refusal}

-- ---- a set of CID 4 that the handshake lets through

abbrev pub is_pin : Kind → Bool
is_pin kind.RegisterState = false
is_pin kind.PacketService = false
is_pin kind.SignalState = false
is_pin kind.DeviceServices = false
is_pin kind.VersionInfo = false
is_pin kind.SetPin = false
is_pin kind.PinInfo = true

abbrev pub serves_pin : (Result ModemAnswer Refusal) → Bool
serves_pin (Ok (answer.Serve k)) = is_pin k
serves_pin (Ok (answer.Version n)) = false
serves_pin (Ok (answer.Unknown place)) = false
serves_pin (Ok (answer.Failed status)) = false
serves_pin (Err r) = false

unfoldable pub is_entry : MessageHeader → (Result ModemAnswer Refusal) → Bool
is_entry h a = eqb h.word SET && serves_pin a

-- as the modem's end answers it
abbrev pub as_modem : Result ModemAnswer Refusal → Result PinModemAnswer Refusal
as_modem (Ok a) = Ok (AsModem a)
as_modem (Err r) = Err r

-- ---- an entry

-- the end and the table after a message, and the answer
pub record Serving : Type 0 where
  pub modem : Modem
  pub table : Table
  pub answer : Result PinModemAnswer Refusal

pub record Served : Type 0 where
  pub serving : Serving
  pub output : List ℕ

abbrev pub serving : Modem → Table → Result PinModemAnswer Refusal → Serving
serving x t a = record { modem = x; table = t; answer = a }

abbrev pub serving_of : PinModemStep → Serving
serving_of r = serving r.modem (table_of r.table) r.answer

abbrev pub served : Serving → List ℕ → Served
served v out = record { serving = v; output = out }

-- a status with PIN_INFO, where there is room for it; x and t are end and table before, y and u after
abbrev pub reply_by : Written → Modem → Table → Modem → Table → ℕ → Serving
reply_by (Ok n) x t y u status = serving y u (Ok (Pin status n))
reply_by (Err r) x t y u status = serving x t (Err r)

unfoldable pub reply_of : Writing → Modem → Table → Modem → Table → ℕ → Served
reply_of w x t y u status = served (reply_by w.answer x t y u status) w.output

unfoldable pub serve_by : (Result PinAnswer Refusal) → Modem → Table → Modem → Table → List ℕ → Served
serve_by (Ok (pin.Info status i)) x t y u out = reply_of (write_of i out) x t y u status
serve_by (Ok (pin.Failed status)) x t y u out = served (serving y u (Ok (AsModem (answer.Failed status)))) out
serve_by (Err r) x t y u out = served (serving y u (Ok (AsModem (answer.Failed no_device_support)))) out

-- the end x before the handshake's rules and y after them, the table t and the payload s
unfoldable pub serve_of : Modem → Modem → Table → List ℕ → List ℕ → Served
serve_of x y t s out = serve_by (enter_of t s).answer x t y (enter_of t s).table out

-- ---- any message

abbrev pub receive_by : Bool → Commanding → Modem → Table → List ℕ → Served
receive_by true c x t s = serve_of x c.step.modem t s c.output
receive_by false c x t s = served (serving c.step.modem t (as_modem c.step.answer)) c.output

unfoldable pub receive_of : Modem → Table → MessageHeader → List ℕ → List ℕ → Served
receive_of x t h s out =
    let c = modem.receive_of x h s out in
    receive_by (is_entry h c.step.answer) c x t s
