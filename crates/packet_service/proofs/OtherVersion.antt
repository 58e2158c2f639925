-- The bytes of one form, read at the other version, are refused at their length: those of 2.00 are too long, those of 1.00 too short.
-- Assumes nothing.
use native.Mathlib.Omega.{arith}
use Rattle.protocol.specs.Verdict.{first_of}
use Rattle.protocol.proofs.Verdicts.{length_short, length_long}
use Rattle.packet_service.specs.PacketService.{read_of}
use Rattle.packet_service.proofs.Laws.{length_bytes}
use Rattle.packet_service.specs.Claims.{LaterReadEarlier, EarlierReadLater}

pub later_read_earlier : LaterReadEarlier
unfolding read_of first_of
later_read_earlier p e = rw (length_bytes p, e, length_long 28 32 (omega arith))

pub earlier_read_later : EarlierReadLater
unfolding read_of first_of
earlier_read_later p e = rw (length_bytes p, e, length_short 32 28 (omega arith))
