-- Every case of the list holds: each side computes to the other.
-- Assumes nothing.
use mathlib.Core.Path.{refl}
use lib.Ieee.{odd, of_bits}
use Rattle.wire.specs.Numbers.{u16_at, u32_at, u64_at}
use Rattle.wire.specs.Output.{over, fitted}
use Rattle.protocol.specs.Verdict.{fault_if, first_of, judge_from, exact_length, open_length, given, with_room, writing}
use Rattle.protocol.specs.DataClass.{class_bits, sum_of_bits, mask_of, is_bit}
use Rattle.packet_service.specs.PacketService.{record_at as packet_at, later_rules, form_rules, rules as packet_rules, verdict_of as packet_verdict, read_of as packet_read, shared_bytes, bytes_of as packet_bytes, write_of as packet_write}
use Rattle.version_info.specs.VersionInfo.{record_at as version_at, rules as version_rules, verdict_of as version_verdict, read_of as version_read, bytes_of as version_bytes, write_of as version_write}
use Rattle.pairs.specs.Pair.{if_strict, range_at, shown_at, rules as pair_rules, verdict_of as pair_verdict, range_bytes}
use Rattle.registration.specs.Registration.{record_at as registration_at, pairs_at, texts_at, front_rules, texts_verdict, back_rules, verdict_with as registration_verdict, read_with as registration_read, size_rules, written_verdict, laid_texts, front_bytes, texts_bytes, back_bytes, fixed_bytes, bytes_of as registration_bytes, write_of as registration_write}
use Rattle.signal_quality.specs.Decibels.{exactly, coded, rsrp_of, snr_of}
use Rattle.folds.specs.Folds.{first_fault, any_of, list_of}
use Rattle.signal_state.specs.SignalState.{state_at, number_rules, list_rules, entry_rules, entry_at, entries_verdict, any_known, body_verdict, head_of, verdict_at, read_with as signal_read}
use Rattle.device_services.specs.DeviceServices.{head_at, length_verdict, content_rules, element_verdict, verdict_with as services_verdict, read_with as services_read}
use Rattle.message.specs.Message.{whole_by, whole_of, header_by, header_of, fragment_by, fragment_of}
use Rattle.cases.specs.Cases.{cases, AsWorked}

pub as_worked : AsWorked
unfolding cases odd of_bits u16_at u32_at u64_at over fitted fault_if first_of judge_from exact_length open_length given with_room writing class_bits sum_of_bits mask_of is_bit packet_at later_rules form_rules packet_rules packet_verdict packet_read shared_bytes packet_bytes packet_write version_at version_rules version_verdict version_read version_bytes version_write if_strict range_at shown_at pair_rules pair_verdict range_bytes registration_at pairs_at texts_at front_rules texts_verdict back_rules registration_verdict registration_read size_rules written_verdict laid_texts front_bytes texts_bytes back_bytes fixed_bytes registration_bytes registration_write exactly coded rsrp_of snr_of first_fault any_of list_of state_at number_rules list_rules entry_rules entry_at entries_verdict any_known body_verdict head_of verdict_at signal_read head_at length_verdict content_rules element_verdict services_verdict services_read whole_by whole_of header_by header_of fragment_by fragment_of
as_worked = (refl, (refl, (refl, (refl, (refl, (refl, (refl, (refl, (refl, (refl, (refl, (refl, (refl, (refl, (refl, (refl, (refl, (refl, (refl, (refl, (refl, (refl, (refl, (refl, (refl, (refl, (refl, (refl, (refl, (refl, (refl, (refl, (refl, (refl, (refl, (refl, (refl, (refl, (refl, (refl, (refl, (refl, (refl, (refl, (refl, (refl, (refl, (refl, tt))))))))))))))))))))))))))))))))))))))))))))))))
