-- Every function's number is 0 exactly where nothing was refused: what holds of every answer of a type holds of the function's.
-- Assumes nothing.
use Rattle.c_claims.specs.NumberZero.{EveryNumberTells}
use Rattle.c_claims.proofs.Answers.{verdict_told, written_told, version_told, packet_told, registration_told, signal_told, services_told, element_told, listed_told, position_told, all_told, set_pin_told, pin_info_told, reading_told, bars_told, whole_told, cut_told, kind_told, received_told, said_told, host_told, ask_told, modem_told, entry_told, pin_modem_told}

pub every_number_tells : EveryNumberTells
every_number_tells = record {
  version_info_read = λ s. version_told _;
  version_info_write = λ i out. written_told _;
  packet_service_read = λ n s. packet_told _;
  packet_service_write = λ i out. written_told _;
  registration_read = λ n s. registration_told _;
  registration_read_with = λ n k s. registration_told _;
  registration_write = λ i x y z out. written_told _;
  signal_state_read = λ n s. signal_told _;
  signal_state_read_with = λ n k s. signal_told _;
  signal_state_write = λ i out. written_told _;
  device_services_read = λ s. services_told _;
  device_services_read_with = λ k s. services_told _;
  device_services_element = λ s number cids. element_told _;
  device_services_element_with = λ k s number cids. element_told _;
  device_services_cids = λ s service cids. element_told _;
  device_services_cids_with = λ k s service cids. element_told _;
  device_services_listed = λ s service cid. listed_told _;
  device_services_listed_with = λ k s service cid. listed_told _;
  device_services_ask = λ s service cid. position_told _;
  device_services_ask_with = λ k s service cid. position_told _;
  device_services_all = λ s fields cids. all_told _;
  device_services_all_with = λ k s fields cids. all_told _;
  device_services_write = λ p out. written_told _;
  device_services_write_all = λ max fields cids out. written_told _;
  set_pin_read = λ s. set_pin_told _;
  set_pin_read_with = λ k s. set_pin_told _;
  set_pin_write = λ i pin new out. written_told _;
  pin_info_read = λ s. pin_info_told _;
  pin_info_write = λ i out. written_told _;
  rsrp = λ code. reading_told _;
  snr = λ code. reading_told _;
  bars = λ rssi. bars_told _;
  message_judge = λ s. whole_told _;
  message_write = λ type transaction word out. written_told _;
  message_cut = λ m size information out. cut_told _;
  payload_kind = λ m. kind_told _;
  assembly_empty = λ memory. verdict_told _;
  receive = λ memory piece room. received_told _;
  stream_reset = λ memory assembly. verdict_told _;
  stream_feed = λ memory assembly chunk room. said_told _ _;
  host_make = λ memory native. verdict_told _;
  host_open = λ memory advertised. host_told _;
  host_close = λ memory. host_told _;
  host_next_command = λ memory out. ask_told _;
  host_receive = λ memory m information. host_told _;
  modem_make = λ memory native advertised services. verdict_told _;
  modem_restart = λ memory. verdict_told _;
  modem_receive = λ memory m information out. modem_told _;
  pin_make = λ memory rows. verdict_told _;
  pin_enter = λ memory s. entry_told _;
  pin_receive = λ memory table m information out. pin_modem_told _;
}
