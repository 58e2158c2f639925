-- Answers about PINs as plain members: a refused one has all other members 0.
use Rattle.std.specs.Prelude.{ℕ}
use Rattle.protocol.specs.declared.Refusal.{Refusal}
use Rattle.pairs.specs.Pair.{range}
use Rattle.modem.specs.Modem.{settled_number}
use Rattle.modem.specs.declared.ModemStage.{ModemStage}
use Rattle.pin.specs.declared.pin_info.PinInfo.{PinInfo}
use Rattle.pin.specs.declared.set_pin.SetPin.{SetPin}
use Rattle.pin.specs.declared.set_pin.SetPinTexts.{SetPinTexts}
use Rattle.pin_entry.specs.declared.PinAnswer.{PinAnswer}
use Rattle.pin_entry.specs.declared.PinAnswer.TheVariants as entry
use Rattle.pin_modem.specs.declared.PinModemAnswer.{PinModemAnswer}
use Rattle.pin_modem.specs.declared.PinModemAnswer.TheVariants as modem
use Rattle.c_structs.specs.Answers.{no_refusal, refusal_info}
use Rattle.c_structs.specs.declared.RefusalInfo.{RefusalInfo}
use Rattle.c_structs.specs.Ends.{action_info, modem_info}
use Rattle.c_structs.specs.declared.ends.ModemInfo.{ModemInfo}
use Rattle.c_structs.specs.declared.pins.SetPinAnswer.{SetPinAnswer}
use Rattle.c_structs.specs.declared.pins.PinInfoAnswer.{PinInfoAnswer}
use Rattle.c_structs.specs.declared.pins.EntryAnswer.{EntryAnswer}
use Rattle.std.specs.Prelude.{Ok, Err}
use Rattle.pin.specs.PinInfo.{PinInfoRead}
use Rattle.pin.specs.SetPin.{SetPinRead}
use Rattle.std.specs.Prelude.{Result}

-- ---- the payloads

abbrev pub no_set_pin : SetPin
no_set_pin = record { pin_type = 0; pin_operation = 0 }

abbrev pub no_texts : SetPinTexts
no_texts = record { pin = range 0 0; new_pin = range 0 0 }

unfoldable pub set_pin_answer : SetPinRead → SetPinAnswer
set_pin_answer (Ok (p, t)) = record { refusal = no_refusal; info = p; texts = t }
set_pin_answer (Err r) = record { refusal = refusal_info r; info = no_set_pin; texts = no_texts }

abbrev pub no_info : PinInfo
no_info = record { pin_type = 0; pin_state = 0; remaining_attempts = 0 }

unfoldable pub pin_info_answer : PinInfoRead → PinInfoAnswer
pin_info_answer (Ok i) = record { refusal = no_refusal; info = i }
pin_info_answer (Err r) = record { refusal = refusal_info r; info = no_info }

-- ---- an entry: the status, whether PIN_INFO is shown with it, and PIN_INFO

abbrev pub entry_by : RefusalInfo → ℕ → EntryAnswer
entry_by r status = record { refusal = r; status = status; shown = 0; info = no_info }

unfoldable pub entry_answer : (Result PinAnswer Refusal) → EntryAnswer
entry_answer (Ok (entry.Info status i)) = record { refusal = no_refusal; status = status; shown = 1; info = i }
entry_answer (Ok (entry.Failed status)) = entry_by no_refusal status
entry_answer (Err r) = entry_by (refusal_info r) 0

-- ---- a message to the modem's end with a table: 5 is an entry, with its status and so many payload bytes

unfoldable pub pin_modem_info : (Result PinModemAnswer Refusal) → ModemStage → ModemInfo
pin_modem_info (Ok (modem.Modem a)) g = modem_info (Ok a) g
pin_modem_info (Err r) g = modem_info (Err r) g
pin_modem_info (Ok (modem.Pin status n)) g = action_info no_refusal 5 status 0 (settled_number g) 0 n
