-- The statuses of a COMMAND_DONE that are given or looked at here (MBIM 1.0 has more).
use Rattle.std.specs.Prelude.{ℕ}

abbrev pub success : ℕ
success = 0

abbrev pub failure : ℕ
failure = 2

-- not supported, or not now
abbrev pub no_device_support : ℕ
no_device_support = 9
