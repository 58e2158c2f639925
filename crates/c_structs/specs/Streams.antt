-- What a stream answers as plain members: the piece that was taken, as it is received; a refusal has all members of the piece 0, and how many bytes were taken
-- stands beside it.
use Rattle.std.specs.Prelude.{ℕ}
use Rattle.stream.specs.declared.Said.{Said}
use Rattle.stream.specs.declared.Said.TheVariants.{Nothing, Piece, Ended, Refused}
use Rattle.c_structs.specs.declared.messages.ReceiveInfo.{ReceiveInfo}
use Rattle.c_structs.specs.declared.streams.StreamInfo.{StreamInfo}
use Rattle.c_structs.specs.Messages.{nothing_received, receive_info}
use Rattle.std.specs.Prelude.{Err}

abbrev pub stream_by : ReceiveInfo → ℕ → ℕ → StreamInfo
stream_by piece taken ended = record { piece = piece; taken = taken; ended = ended }

unfoldable pub stream_info : Said → ℕ → StreamInfo
stream_info Nothing n = stream_by nothing_received n 0
stream_info (Piece x) n = stream_by (receive_info x) n 0
stream_info (Ended r) n = stream_by (receive_info (Err r)) n 1
stream_info (Refused r) n = stream_by (receive_info (Err r)) n 0
