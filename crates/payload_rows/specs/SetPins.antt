-- The listing of a SET_PIN payload: texts in hexadecimal, an absent one an empty value.
use Rattle.std.specs.Prelude.{ℕ, List, ◌++◌}
use Rattle.ascii.specs.Ascii.{ascii}
use Rattle.pairs.specs.Claims.{shown_in}
use Rattle.pin.specs.declared.set_pin.SetPin.{SetPin}
use Rattle.pin.specs.declared.set_pin.SetPinTexts.{SetPinTexts}
use Rattle.rows.specs.Rows.{header, row, text_row, refused_line}
use Rattle.payload_rows.specs.Ranges.{Listable}
use Rattle.std.specs.Prelude.{Ok, Err}
use Rattle.pin.specs.SetPin.{SetPinRead}

unfoldable pub number_rows : SetPin → List ℕ
number_rows p = row (ascii "PinType") p.pin_type ++ row (ascii "PinOperation") p.pin_operation

-- the texts are those of the payload s
unfoldable pub text_rows : List ℕ → SetPinTexts → List ℕ
text_rows s t = text_row (ascii "Pin") (shown_in s t.pin) ++ text_row (ascii "NewPin") (shown_in s t.new_pin)

unfoldable pub set_pin_text : List ℕ → SetPinRead → List ℕ
set_pin_text s (Err r) = refused_line r
set_pin_text s (Ok (p, t)) = header ++ (number_rows p ++ text_rows s t)

-- those of an accepted payload keep to it (proofs/SetPins)
pub record ListableTexts (t : SetPinTexts) (s : List ℕ) : Type 0 where
  pub pin : Listable t.pin s
  pub new : Listable t.new_pin s
