-- The rows of a PACKET_SERVICE payload.
use Rattle.std.specs.Prelude.{ℕ, List, ◌++◌}
use Rattle.ascii.specs.Ascii.{ascii}
use Rattle.packet_service.specs.declared.PacketForm.{PacketForm}
use Rattle.packet_service.specs.declared.PacketForm.TheVariants.{V1 as Form1, V2 as Form2}
use Rattle.packet_service.specs.declared.PacketService.{PacketService}
use Rattle.rows.specs.Rows.{header, row, refused_line}
use Rattle.std.specs.Prelude.{Ok, Err}
use Rattle.packet_service.specs.PacketService.{PacketServiceRead}

unfoldable pub speed_rows : PacketService → List ℕ
speed_rows p = row (ascii "UplinkSpeed") p.uplink_speed ++ row (ascii "DownlinkSpeed") p.downlink_speed

-- from the data class on
unfoldable pub form_rows : PacketService → PacketForm → List ℕ
form_rows p (Form1 class) = row (ascii "HighestAvailableDataClass") class ++ speed_rows p
form_rows p (Form2 class range) = row (ascii "CurrentDataClass") class ++ (speed_rows p ++ row (ascii "FrequencyRange") range)

abbrev pub packet_rows : PacketService → List ℕ
packet_rows p = form_rows p p.form

unfoldable pub packet_text : PacketServiceRead → List ℕ
packet_text (Err r) = refused_line r
packet_text (Ok p) =
    header ++ (row (ascii "NwError") p.nw_error ++ (row (ascii "PacketServiceState") p.packet_service_state ++ packet_rows p))
