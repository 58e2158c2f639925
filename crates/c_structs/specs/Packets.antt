-- The PACKET_SERVICE payload's record and answer as plain members.
-- In this order: what each form has; a record shown; an answer; the record that a writer is given.
use Rattle.std.specs.Prelude.{ℕ}
use Rattle.protocol.specs.declared.Version.{Version}
use Rattle.protocol.specs.declared.Version.TheVariants.{V1, V2}
use Rattle.handshake.specs.Versions.{number_of}
use Rattle.packet_service.specs.PacketService.{version_of}
use Rattle.packet_service.specs.declared.PacketForm.{PacketForm}
use Rattle.packet_service.specs.declared.PacketForm.TheVariants.{V1 as Form1, V2 as Form2}
use Rattle.packet_service.specs.declared.PacketService.{PacketService}
use Rattle.c_structs.specs.declared.packets.PacketServiceInfo.{PacketServiceInfo}
use Rattle.c_structs.specs.declared.packets.PacketServiceAnswer.{PacketServiceAnswer}
use Rattle.c_structs.specs.Answers.{no_refusal, refusal_info}
use Rattle.std.specs.Prelude.{Ok, Err}
use Rattle.packet_service.specs.PacketService.{PacketServiceRead}

-- ---- what each form has: 0 where it is the other form's

abbrev pub highest_in : PacketForm → ℕ
highest_in (Form1 class) = class
highest_in (Form2 class range) = 0

abbrev pub current_in : PacketForm → ℕ
current_in (Form1 class) = 0
current_in (Form2 class range) = class

abbrev pub range_in : PacketForm → ℕ
range_in (Form1 class) = 0
range_in (Form2 class range) = range

-- ---- a record shown

unfoldable pub info_of : PacketService → PacketServiceInfo
info_of p = record {
  version = number_of (version_of p);
  nw_error = p.nw_error;
  packet_service_state = p.packet_service_state;
  highest_available_data_class = highest_in p.form;
  current_data_class = current_in p.form;
  frequency_range = range_in p.form;
  uplink_speed = p.uplink_speed;
  downlink_speed = p.downlink_speed;
}

abbrev pub no_info : PacketServiceInfo
no_info = record {
  version = 0;
  nw_error = 0;
  packet_service_state = 0;
  highest_available_data_class = 0;
  current_data_class = 0;
  frequency_range = 0;
  uplink_speed = 0;
  downlink_speed = 0;
}

-- ---- an answer: a refused one has all other members 0

unfoldable pub answer_of : PacketServiceRead → PacketServiceAnswer
answer_of (Ok p) = record { refusal = no_refusal; info = info_of p }
answer_of (Err r) = record { refusal = refusal_info r; info = no_info }

-- ---- the record that a writer is given, at a version

-- of the members that only one form has, those of the version's
abbrev pub form_of : Version → ℕ → ℕ → ℕ → PacketForm
form_of V1 highest current range = Form1 highest
form_of V2 highest current range = Form2 current range

unfoldable pub record_of : Version → PacketServiceInfo → PacketService
record_of v i = record {
  nw_error = i.nw_error;
  packet_service_state = i.packet_service_state;
  uplink_speed = i.uplink_speed;
  downlink_speed = i.downlink_speed;
  form = form_of v i.highest_available_data_class i.current_data_class i.frequency_range;
}
