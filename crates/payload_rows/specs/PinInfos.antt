-- The rows of a PIN_INFO payload.
use Rattle.std.specs.Prelude.{ℕ, List, ◌++◌}
use Rattle.ascii.specs.Ascii.{ascii}
use Rattle.rows.specs.Rows.{header, row, refused_line}
use Rattle.std.specs.Prelude.{Ok, Err}
use Rattle.pin.specs.PinInfo.{PinInfoRead}

unfoldable pub pin_info_text : PinInfoRead → List ℕ
pin_info_text (Err r) = refused_line r
pin_info_text (Ok i) =
    header
    ++ (row (ascii "PinType") i.pin_type
    ++ (row (ascii "PinState") i.pin_state ++ row (ascii "RemainingAttempts") i.remaining_attempts))
