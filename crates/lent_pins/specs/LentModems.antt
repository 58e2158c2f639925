-- The modem's end with a table of PINs, both in lent memory. The end's memory is judged first; the table's is looked at only by an entry.
-- In this order: what is put back; an entry; a message to the end that the memory holds; any message.
use Rattle.std.specs.Prelude.{ℕ, Bool, true, false, List, Ok, Err, Result}
use Rattle.std.proofs.lemmas.List.Edits.{sets}
use Rattle.protocol.specs.declared.Refusal.{Refusal}
use Rattle.message.specs.declared.MessageHeader.{MessageHeader}
use Rattle.modem.specs.Modem.{Commanding, receive_of}
use Rattle.modem.specs.declared.Modem.{Modem}
use Rattle.modem.specs.declared.ModemStage.TheVariants.{Start}
use Rattle.lent_modem.specs.LentModem.{modem_in, modem_bytes, ModemHeld}
use Rattle.pin_entry.specs.PinTable.{Table}
use Rattle.pin_modem.specs.PinModem.{is_entry, as_modem, Serving, Served, serve_of}
use Rattle.pin_modem.specs.declared.PinModemAnswer.{PinModemAnswer}
use Rattle.pin_modem.specs.declared.PinModemAnswer.TheVariants.{Modem as AsModem, Pin}
use Rattle.lent_pins.specs.LentPins.{table_in, pins_verdict, table_bytes}
use Rattle.lent_pins.specs.declared.modems.PinReply.{PinReply}
use Rattle.protocol.specs.Verdict.{Verdict}

-- ---- what is put back: the end after an entry, unless it was refused, and the table where PIN_INFO is written

pub record PinModemCalled : Type 0 where
  pub reply : PinReply
  pub modem : List ℕ
  pub pins : List ℕ
  pub output : List ℕ

abbrev pub kept_reply : Serving → PinReply
kept_reply v = record { answer = v.answer; stage = v.modem.stage }

abbrev pub kept_modem_by : Result PinModemAnswer Refusal → Modem → List ℕ → List ℕ
kept_modem_by (Ok a) x m = sets m 0 (modem_bytes x)
kept_modem_by (Err r) x m = m

abbrev pub kept_pins_by : Result PinModemAnswer Refusal → Table → List ℕ → List ℕ
kept_pins_by (Ok (AsModem a)) t p = p
kept_pins_by (Ok (Pin status n)) t p = sets p 0 (table_bytes t)
kept_pins_by (Err r) t p = p

abbrev pub kept_modem : Serving → List ℕ → List ℕ
kept_modem v m = kept_modem_by v.answer v.modem m

abbrev pub kept_pins : Serving → List ℕ → List ℕ
kept_pins v p = kept_pins_by v.answer v.table p

abbrev pub refused_reply : Refusal → PinReply
refused_reply r = record { answer = Err r; stage = Start }

abbrev pub refused_by : Refusal → List ℕ → List ℕ → List ℕ → PinModemCalled
refused_by r m p out = record { reply = refused_reply r; modem = m; pins = p; output = out }

-- ---- an entry with the payload s: the end x before the handshake's rules, y after them

abbrev pub kept_both : Served → List ℕ → List ℕ → PinModemCalled
kept_both v m p = record { reply = kept_reply v.serving; modem = kept_modem v.serving m; pins = kept_pins v.serving p; output = v.output }

abbrev pub served_by : Verdict → List ℕ → List ℕ → Modem → Modem → List ℕ → List ℕ → PinModemCalled
served_by (Ok _) m p x y s out = kept_both (serve_of x y (table_in p) s out) m p
served_by (Err r) m p x y s out = refused_by r m p out

unfoldable pub served_in : List ℕ → List ℕ → Modem → Modem → List ℕ → List ℕ → PinModemCalled
served_in m p x y s out = served_by (pins_verdict p) m p x y s out

-- ---- a message with the information s to the end x

abbrev pub commanded_by : Bool → List ℕ → List ℕ → Modem → Commanding → List ℕ → PinModemCalled
commanded_by true m p x c s = served_in m p x c.step.modem s c.output
commanded_by false m p x c s = record {
  reply = record { answer = as_modem c.step.answer; stage = c.step.modem.stage };
  modem = sets m 0 (modem_bytes c.step.modem);
  pins = p;
  output = c.output;
}

unfoldable pub held_in : List ℕ → List ℕ → Modem → MessageHeader → List ℕ → List ℕ → PinModemCalled
held_in m p x h s out =
    let c = receive_of x h s out in
    commanded_by (is_entry h c.step.answer) m p x c s

-- ---- any message

abbrev pub receive_by : ModemHeld → List ℕ → List ℕ → MessageHeader → List ℕ → List ℕ → PinModemCalled
receive_by (Ok x) m p h s out = held_in m p x h s out
receive_by (Err r) m p h s out = refused_by r m p out

unfoldable pub receive_in : List ℕ → List ℕ → MessageHeader → List ℕ → List ℕ → PinModemCalled
receive_in m p h s out = receive_by (modem_in m) m p h s out
