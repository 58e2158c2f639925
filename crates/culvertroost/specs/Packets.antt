-- PACKET_SERVICE for C: the number of the version is judged, then the payload is read or the record written at that version.
use Rattle.std.specs.Prelude.{ℕ, List}
use Rattle.protocol.specs.Verdict.{Writing}
use Rattle.packet_service.specs.PacketService.{read_of, write_of}
use Rattle.c_structs.specs.Answers.{at_version, unwritten}
use Rattle.c_structs.specs.Packets.{record_of}
use Rattle.c_structs.specs.declared.packets.PacketServiceInfo.{PacketServiceInfo}
use Rattle.std.specs.Prelude.{Err}
use Rattle.packet_service.specs.PacketService.{PacketServiceRead}

abbrev pub read_at : ℕ → List ℕ → PacketServiceRead
read_at n s = at_version n Err (λ v. read_of v s)

abbrev pub write_at : PacketServiceInfo → List ℕ → Writing
write_at i s = at_version i.version (unwritten s) (λ v. write_of (record_of v i) s)
