-- The cases of document 01 that are marked P ("Cases worked out"), in its order, as one list, with what orders 1 and 10 of document 02 made
-- of them and the cases of order 4.
-- In this order: what a case says; the bytes that the cases are about; the cases.
use Rattle.std.specs.Prelude.{ℕ, ◌≡◌, List, [], ◌∷◌, ◌++◌, take, drop, replicate}
use Rattle.std.specs.Float.{binary32}
use Rattle.std.specs.Float.Ieee.{of_bits}
use Rattle.protocol.specs.Refusal.{refusal, too_short, wrong_length, offset_in_fixed_part, past_end, outside_table, contradiction, misaligned_offset, offset_with_zero_size, wrong_size}
use Rattle.protocol.specs.Verdict.{Writing}
use Rattle.protocol.specs.declared.Version.{Version}
use Rattle.protocol.specs.declared.Version.TheVariants.{V1, V2}
use Rattle.packet_service.specs.PacketService.{read_of as packet_read, bytes_of as packet_bytes, write_of as packet_write}
use Rattle.packet_service.specs.declared.PacketForm.{PacketForm}
use Rattle.packet_service.specs.declared.PacketForm.TheVariants.{V1 as Form1, V2 as Form2}
use Rattle.packet_service.specs.declared.PacketService.{PacketService}
use Rattle.pairs.specs.Pair.{range, verdict_of, range_bytes}
use Rattle.pairs.specs.declared.Range.{Range}
use Rattle.pairs.specs.declared.PairKind.TheVariants.{Text}
use Rattle.pairs.specs.declared.ZeroSize.{ZeroSize}
use Rattle.pairs.specs.declared.ZeroSize.TheVariants.{Absent, Strict}
use Rattle.registration.specs.Registration.{texts, read_with as registration_read, bytes_of as registration_bytes, write_of as registration_write}
use Rattle.registration.specs.declared.RegistrationForm.{RegistrationForm}
use Rattle.registration.specs.declared.RegistrationForm.TheVariants.{V1 as RegistrationForm1, V2 as RegistrationForm2}
use Rattle.registration.specs.declared.Registration.{Registration}
use Rattle.signal_quality.specs.Decibels.{rsrp_of, snr_of}
use Rattle.signal_quality.specs.declared.Reading.TheVariants.{Dbm, Db}
use Rattle.signal_state.specs.SignalState.{no_entries, refused as signal_refused, read_with as signal_read}
use Rattle.signal_state.specs.Claims.{info as signal_info}
use Rattle.signal_state.specs.declared.SignalForm.TheVariants.{V2 as SignalForm2}
use Rattle.signal_state.specs.declared.SignalState.{SignalState}
use Rattle.signal_state.specs.declared.SignalStateShown.{SignalStateShown}
use Rattle.device_services.specs.DeviceServices.{read_with as services_read}
use Rattle.message.specs.Message.{whole_of, fragment_of}
use Rattle.message.specs.declared.Whole.{Whole}
use Rattle.message.specs.declared.Fragment.{Fragment}
use Rattle.version_info.specs.VersionInfo.{read_of as version_read, write_of as version_write}
use Rattle.version_info.specs.declared.VersionInfo.{VersionInfo}
use Rattle.std.specs.Prelude.{Ok, Err}
use Rattle.protocol.specs.Verdict.{no_fault}
use Rattle.device_services.specs.DeviceServices.{DeviceServicesRead}
use Rattle.packet_service.specs.PacketService.{PacketServiceRead}
use Rattle.signal_quality.specs.Decibels.{ReadingRead}
use Rattle.registration.specs.Registration.{RegistrationRead}
use Rattle.protocol.specs.Verdict.{Verdict}
use Rattle.version_info.specs.VersionInfo.{VersionInfoRead}
use Rattle.std.specs.Prelude.{Result}
use Rattle.protocol.specs.declared.Refusal.{Refusal}

-- ---- what a case says

pub data Case : Type 0 where
  -- the VERSION writer, given an output, answers and leaves
  version_written : VersionInfo → List ℕ → Writing → Case
  -- the VERSION reader answers
  version_shown : List ℕ → VersionInfoRead → Case
  -- the PACKET_SERVICE reader of a version answers
  packet_shown : Version → List ℕ → PacketServiceRead → Case
  -- the PACKET_SERVICE writer leaves in an output of so many zeros
  packet_written : PacketService → ℕ → Writing → Case
  -- the REGISTER_STATE writer, given a record with a ProviderId and no other text, leaves in an output of so many zeros
  registration_written : Registration → List ℕ → ℕ → Writing → Case
  -- the REGISTER_STATE reader of a version, by its choice for a size of 0, answers
  registration_shown : Version → ZeroSize → List ℕ → RegistrationRead → Case
  -- the pair of a text, by the choice, fixed part, limit, place and payload length, is judged
  pair_judged : ZeroSize → ℕ → ℕ → ℕ → ℕ → Range → Verdict → Case
  signal_shown : Version → ZeroSize → List ℕ → SignalStateShown → Case
  services_shown : ZeroSize → List ℕ → DeviceServicesRead → Case
  -- a message is judged whole, and as a fragment
  whole_judged : List ℕ → (Result Whole Refusal) → Case
  fragment_judged : List ℕ → (Result Fragment Refusal) → Case
  -- a code is read
  rsrp_read : ℕ → ReadingRead → Case
  snr_read : ℕ → ReadingRead → Case

abbrev pub Holds : Case → Type 0
Holds (version_written i s w) = version_write i s ≡ w
Holds (version_shown s a) = version_read s ≡ a
Holds (packet_shown v s a) = packet_read v s ≡ a
Holds (packet_written p n w) = packet_write p (replicate n 0) ≡ w
Holds (registration_written p id n w) = registration_write p id [] [] (replicate n 0) ≡ w
Holds (registration_shown v z s a) = registration_read v z s ≡ a
Holds (pair_judged z fixed limit place n p v) = verdict_of z Text fixed limit place n p ≡ v
Holds (signal_shown v z s a) = signal_read v z s ≡ a
Holds (services_shown z s a) = services_read z s ≡ a
Holds (whole_judged s a) = whole_of s ≡ a
Holds (fragment_judged s a) = fragment_of s ≡ a
Holds (rsrp_read c r) = rsrp_of c ≡ r
Holds (snr_read c r) = snr_of c ≡ r

abbrev pub AllHold : List Case → Type 0
AllHold [] = Unit
AllHold (c ∷ cs) = Holds c × AllHold cs

-- ---- the bytes

-- VERSION 1.00/2.00
abbrev pub latest : VersionInfo
latest = record { bcd_mbim_version = 0x0100; bcd_mbim_extended_version = 0x0200 }

abbrev pub latest_bytes : List ℕ
latest_bytes = 0x00 ∷ 0x01 ∷ 0x00 ∷ 0x02 ∷ []

-- 00000000 02000000 40000000 80F0FA0200000000 80D1F00800000000 01000000
abbrev pub attached_bytes : List ℕ
attached_bytes =
    0x00 ∷ 0x00 ∷ 0x00 ∷ 0x00 ∷ 0x02 ∷ 0x00 ∷ 0x00 ∷ 0x00 ∷ 0x40 ∷ 0x00 ∷ 0x00 ∷ 0x00
    ∷ 0x80 ∷ 0xF0 ∷ 0xFA ∷ 0x02 ∷ 0x00 ∷ 0x00 ∷ 0x00 ∷ 0x00
    ∷ 0x80 ∷ 0xD1 ∷ 0xF0 ∷ 0x08 ∷ 0x00 ∷ 0x00 ∷ 0x00 ∷ 0x00 ∷ 0x01 ∷ 0x00 ∷ 0x00 ∷ 0x00 ∷ []

-- 50,000,000 up, 150,000,000 down
abbrev pub serving : ℕ → PacketForm → PacketService
serving state form = record {
  nw_error = 0;
  packet_service_state = state;
  uplink_speed = 50000000;
  downlink_speed = 150000000;
  form = form;
}

-- "attached, 50,000,000 up, 150,000,000 down"
abbrev pub attached : PacketService
attached = serving 2 (Form2 0x40 1)

-- "00101" in UTF-16
abbrev pub provider_id : List ℕ
provider_id = 0x30 ∷ 0x00 ∷ 0x30 ∷ 0x00 ∷ 0x31 ∷ 0x00 ∷ 0x30 ∷ 0x00 ∷ 0x31 ∷ 0x00 ∷ []

-- state 3 with an AvailableDataClass
abbrev pub home : RegistrationForm → ℕ → Registration
home form class = record {
  nw_error = 0;
  register_state = 3;
  register_mode = 1;
  available_data_class = class;
  cellular_class = 1;
  registration_flag = 0;
  form = form;
}

abbrev pub home_bytes : RegistrationForm → ℕ → List ℕ
home_bytes form class = registration_bytes (home form class) provider_id [] []

-- offset 52, size 10, length 64
abbrev pub home_written : List ℕ
home_written =
    0x00 ∷ 0x00 ∷ 0x00 ∷ 0x00 ∷ 0x03 ∷ 0x00 ∷ 0x00 ∷ 0x00 ∷ 0x01 ∷ 0x00 ∷ 0x00 ∷ 0x00 ∷ 0x20 ∷ 0x00 ∷ 0x00 ∷ 0x00 ∷ 0x01 ∷ 0x00 ∷ 0x00 ∷ 0x00
    ∷ 52 ∷ 0x00 ∷ 0x00 ∷ 0x00 ∷ 10 ∷ 0x00 ∷ 0x00 ∷ 0x00
    ∷ 0x00 ∷ 0x00 ∷ 0x00 ∷ 0x00 ∷ 0x00 ∷ 0x00 ∷ 0x00 ∷ 0x00 ∷ 0x00 ∷ 0x00 ∷ 0x00 ∷ 0x00 ∷ 0x00 ∷ 0x00 ∷ 0x00 ∷ 0x00
    ∷ 0x00 ∷ 0x00 ∷ 0x00 ∷ 0x00 ∷ 0x00 ∷ 0x00 ∷ 0x00 ∷ 0x00
    ∷ 0x30 ∷ 0x00 ∷ 0x30 ∷ 0x00 ∷ 0x31 ∷ 0x00 ∷ 0x30 ∷ 0x00 ∷ 0x31 ∷ 0x00 ∷ 0x00 ∷ 0x00 ∷ []

-- the pair of ProviderId replaced
abbrev pub with_pair : Range → List ℕ
with_pair pair = take 20 home_written ++ (range_bytes pair ++ drop 28 home_written)

-- as it is shown without a ProviderId
abbrev pub home_alone : RegistrationRead
home_alone = Ok ((home (RegistrationForm2 0) 0x20), (texts (range 0 0) (range 0 0) (range 0 0)))

-- a services list of one element, and nothing behind its pair
abbrev pub one_element : Range → List ℕ
one_element pair = 1 ∷ 0 ∷ 0 ∷ 0 ∷ 0 ∷ 0 ∷ 0 ∷ 0 ∷ range_bytes pair

-- a signal state at 2.00 that knows nothing, and nothing behind its pair
abbrev pub no_signal : Range → List ℕ
no_signal pair = 99 ∷ 0 ∷ 0 ∷ 0 ∷ 99 ∷ 0 ∷ 0 ∷ 0 ∷ (replicate 12 0 ++ range_bytes pair)

abbrev pub no_entry : SignalState
no_entry = record {
  rssi = 99;
  error_rate = 99;
  signal_strength_interval = 0;
  rssi_threshold = 0;
  error_rate_threshold = 0;
  form = SignalForm2 0;
}

-- a signal state at 2.00 with one entry that knows nothing but its SystemType
abbrev pub one_signal : ℕ → List ℕ
one_signal system =
    99 ∷ 0 ∷ 0 ∷ 0 ∷ 99 ∷ 0 ∷ 0 ∷ 0
    ∷ (replicate 12 0 ++ (range_bytes (range 28 24) ++ (1 ∷ 0 ∷ 0 ∷ 0 ∷ 127 ∷ 0 ∷ 0 ∷ 0 ∷ 128 ∷ 0 ∷ 0 ∷ 0 ∷ (replicate 8 0 ++ (system ∷ 0 ∷ 0 ∷ 0 ∷ [])))))

-- ---- the cases

unfoldable pub cases : List Case
cases =
    version_written latest (replicate 4 0) (record { answer = Ok 4; output = latest_bytes })
    ∷ version_shown latest_bytes (Ok latest)
    ∷ packet_shown V2 attached_bytes (Ok attached)
    ∷ packet_shown V1 attached_bytes (Err (refusal wrong_length 32))
    ∷ registration_written (home (RegistrationForm2 0) 0x20) provider_id 64 (record { answer = Ok 64; output = home_written })
    ∷ registration_shown V1 Absent (home_bytes (RegistrationForm2 0) 0x20) (Ok ((home RegistrationForm1 0x20), (texts (range 52 10) (range 0 0) (range 0 0))))
    ∷ registration_shown V1 Absent (home_bytes (RegistrationForm2 0) 0x60) (Err (refusal outside_table 12))
    ∷ registration_written (home RegistrationForm1 0x20) provider_id 60 (record { answer = Ok 60; output = home_bytes RegistrationForm1 0x20 })
    ∷ registration_shown V2 Absent (home_bytes RegistrationForm1 0x20) (Err (refusal offset_in_fixed_part 20))
    -- of the pair alone, and as a whole payload
    ∷ pair_judged Absent 52 12 20 64 (range 0xFFFFFFFC 8) (Err (refusal past_end 20))
    ∷ registration_shown V2 Absent (with_pair (range 0xFFFFFFFC 8)) (Err (refusal past_end 20))
    -- 6 in document 01; order 1: "The case of size 0 with offset 52 in 01 becomes 18";
    -- order 10: "01's case of size 0 with offset 52 is then accepted by default, 18 under the strict choice"
    ∷ pair_judged Absent 52 12 20 64 (range 52 0) no_fault
    ∷ pair_judged Strict 52 12 20 64 (range 52 0) (Err (refusal offset_with_zero_size 20))
    ∷ registration_shown V2 Absent (with_pair (range 52 0)) home_alone
    ∷ registration_shown V2 Strict (with_pair (range 52 0)) (Err (refusal offset_with_zero_size 20))
    -- "For an optional signal list, absent means no entries; a services pair of size 0 is 8 by default"
    ∷ signal_shown V2 Absent (no_signal (range 52 0)) (signal_info no_entry (no_entries 16))
    ∷ signal_shown V2 Strict (no_signal (range 52 0)) (signal_refused (refusal offset_with_zero_size 20))
    ∷ services_shown Absent (one_element (range 52 0)) (Err (refusal wrong_size 8))
    ∷ services_shown Strict (one_element (range 52 0)) (Err (refusal offset_with_zero_size 8))
    ∷ services_shown Strict (one_element (range 0 0)) (Err (refusal wrong_size 8))
    -- order 1: "zero size first, then fixed part, then alignment", and then 7; the list comes after
    ∷ registration_shown V2 Absent (with_pair (range 3 0)) home_alone
    ∷ registration_shown V2 Strict (with_pair (range 3 0)) (Err (refusal offset_with_zero_size 20))
    ∷ registration_shown V2 Absent (with_pair (range 51 10)) (Err (refusal offset_in_fixed_part 20))
    ∷ registration_shown V2 Absent (with_pair (range 54 12)) (Err (refusal misaligned_offset 20))
    ∷ signal_shown V2 Absent (no_signal (range 30 24)) (signal_refused (refusal misaligned_offset 20))
    -- order 4: "Accept 18h besides the single bits, at both versions, in reader, writer"; "every other pair of bits stays 9"
    ∷ packet_shown V1 (packet_bytes (serving 4 (Form1 0x18))) (Ok (serving 4 (Form1 0x18)))
    ∷ packet_shown V2 (packet_bytes (serving 2 (Form2 0x18 0))) (Ok (serving 2 (Form2 0x18 0)))
    ∷ packet_written (serving 2 (Form2 0x18 0)) 32 (record { answer = Ok 32; output = packet_bytes (serving 2 (Form2 0x18 0)) })
    ∷ packet_shown V1 (packet_bytes (serving 2 (Form1 0x28))) (Err (refusal outside_table 8))
    ∷ packet_shown V2 (packet_bytes (serving 2 (Form2 0x28 0))) (Err (refusal outside_table 8))
    -- under the rules of 2.00; SystemType and AvailableDataClass as in 01
    ∷ packet_shown V2 (packet_bytes (serving 1 (Form2 0x18 0))) (Err (refusal contradiction 8))
    ∷ packet_shown V2 (packet_bytes (serving 2 (Form2 0x18 1))) (Err (refusal contradiction 28))
    ∷ signal_shown V2 Absent (one_signal 0x18) (signal_refused (refusal outside_table 48))
    ∷ registration_shown V1 Absent (home_bytes RegistrationForm1 0x28) (Ok ((home RegistrationForm1 0x28), (texts (range 48 10) (range 0 0) (range 0 0))))
    ∷ version_shown [] (Err (refusal too_short 0))
    ∷ packet_shown V1 [] (Err (refusal too_short 0))
    ∷ packet_shown V2 [] (Err (refusal too_short 0))
    ∷ registration_shown V1 Absent [] (Err (refusal too_short 0))
    ∷ registration_shown V2 Absent [] (Err (refusal too_short 0))
    ∷ signal_shown V1 Absent [] (signal_refused (refusal too_short 0))
    ∷ signal_shown V2 Absent [] (signal_refused (refusal too_short 0))
    ∷ services_shown Absent [] (Err (refusal too_short 0))
    ∷ whole_judged [] (Err (refusal too_short 0))
    ∷ fragment_judged [] (Err (refusal too_short 0))
    -- −156 and −31 dBm, −23 and 40 dB, by their bit patterns
    ∷ rsrp_read 1 (Ok (Dbm (of_bits binary32 0xC31C0000)))
    ∷ rsrp_read 126 (Ok (Dbm (of_bits binary32 0xC1F80000)))
    ∷ snr_read 1 (Ok (Db (of_bits binary32 0xC1B80000)))
    ∷ snr_read 127 (Ok (Db (of_bits binary32 0x42200000)))
    ∷ []

abbrev pub AsWorked : Type 0
AsWorked = AllHold cases
