-- PINs for C: the number of the reader's choice is judged first; what a modem's end with a table in lent memory answers, as plain members.
use Rattle.std.specs.Prelude.{ℕ, List}
use Rattle.pin.specs.SetPin.{read_with}
use Rattle.lent_pins.specs.declared.modems.PinReply.{PinReply}
use Rattle.c_structs.specs.Choices.{by_choice}
use Rattle.c_structs.specs.Pins.{pin_modem_info}
use Rattle.c_structs.specs.declared.ends.ModemInfo.{ModemInfo}
use Rattle.std.specs.Prelude.{Err}
use Rattle.pin.specs.SetPin.{SetPinRead}

abbrev pub read_chosen : ℕ → List ℕ → SetPinRead
read_chosen k s = by_choice k Err (λ z. read_with z s)

abbrev pub pin_reply_info : PinReply → ModemInfo
pin_reply_info r = pin_modem_info r.answer r.stage
