-- Lines and their columns, computed.
-- Assumes nothing.
use mathlib.Core.Path.{◌≡◌, refl}
use Rattle.ascii.specs.Ascii.{ascii, hex_digit, hex_run}
use Rattle.text_parts.specs.Parts.{last}
use Rattle.text_parts.specs.Decimals.{number_of}
use Rattle.text_parts.specs.Hex.{hex_digits_at, line_end_at}
use Rattle.trace_line.specs.declared.Sender.TheVariants.{Host, Device}
use Rattle.trace_line.specs.TraceLine.{bytes_from, sender_from, line_of}
use Rattle.std.specs.Prelude.{Ok, Err}

empty_piece : line_of (ascii "5\tH\t\n") ≡ Ok (record { counter = 5; sender = Host; from = 4; digits = 0 })
unfolding line_of sender_from bytes_from number_of line_end_at hex_digits_at last hex_run hex_digit
empty_piece = refl

largest_counter : line_of (ascii "4294967295\tD\t0a0B\n") ≡ Ok (record { counter = 4294967295; sender = Device; from = 13; digits = 4 })
unfolding line_of sender_from bytes_from number_of line_end_at hex_digits_at last hex_run hex_digit
largest_counter = refl

leading_zeros : line_of (ascii "0000000007\tD\tff\n") ≡ Ok (record { counter = 7; sender = Device; from = 13; digits = 2 })
unfolding line_of sender_from bytes_from number_of line_end_at hex_digits_at last hex_run hex_digit
leading_zeros = refl

beyond_32_bits : line_of (ascii "4294967296\tH\t\n") ≡ Err 9
unfolding line_of sender_from bytes_from number_of line_end_at hex_digits_at last hex_run hex_digit
beyond_32_bits = refl

eleven_digits : line_of (ascii "00000000007\tH\t\n") ≡ Err 10
unfolding line_of sender_from bytes_from number_of line_end_at hex_digits_at last hex_run hex_digit
eleven_digits = refl

nothing : line_of (ascii "") ≡ Err 0
unfolding line_of sender_from bytes_from number_of line_end_at hex_digits_at last hex_run hex_digit
nothing = refl

odd_digits : line_of (ascii "5\tH\t012\n") ≡ Err 7
unfolding line_of sender_from bytes_from number_of line_end_at hex_digits_at last hex_run hex_digit
odd_digits = refl

no_line_feed : line_of (ascii "5\tH\t01") ≡ Err 6
unfolding line_of sender_from bytes_from number_of line_end_at hex_digits_at last hex_run hex_digit
no_line_feed = refl

carriage_return : line_of (ascii "5\tH\t01\r\n") ≡ Err 6
unfolding line_of sender_from bytes_from number_of line_end_at hex_digits_at last hex_run hex_digit
carriage_return = refl

more_behind : line_of (ascii "5\tH\t\n5") ≡ Err 5
unfolding line_of sender_from bytes_from number_of line_end_at hex_digits_at last hex_run hex_digit
more_behind = refl

lower_case_sender : line_of (ascii "5\th\t\n") ≡ Err 2
unfolding line_of sender_from bytes_from number_of line_end_at hex_digits_at last hex_run hex_digit
lower_case_sender = refl
