-- The cases of specs/Cases, computed.
-- Assumes nothing.
use mathlib.Core.Path.{refl}
use Rattle.wire.specs.Numbers.{u32_at}
use Rattle.message.specs.Message.{length_place, word_at, message_at, wrong_total, wrong_word, wrong_amount, header_by, header_of, first_by, first_header_of, opened_by, fragment_by, fragment_of}
use Rattle.protocol.specs.MessageType.{is_fragmented}
use Rattle.protocol.specs.Service.{id_at, id_bytes}
use Rattle.protocol.specs.Verdict.{fault_if, first_of, judge_from}
use Rattle.assembler.specs.Assembly.{empty, waiting, completed, grown, gather_of, begun_bytes, continues, join_of, judged_by, judged_of, step_by, step_of}
use Rattle.cutter.specs.Cut.{header_bytes, fragment_bytes, word_bytes, opening_bytes, first_bytes, later_count, later_fragments, fragments_by, fragments_of}
use Rattle.assembler.specs.Run.{run_of}
use Rattle.exchange.specs.Cases.{lengths_of, Worked, ThinCompletes}

pub worked : Worked
unfolding lengths_of fragments_of fragments_by later_fragments later_count first_bytes opening_bytes word_bytes fragment_bytes header_bytes id_bytes length_place
worked = refl

pub thin_completes : ThinCompletes
unfolding first_bytes opening_bytes word_bytes fragment_bytes header_bytes id_bytes id_at u32_at length_place word_at message_at wrong_total wrong_word wrong_amount is_fragmented fault_if first_of judge_from header_by header_of first_by first_header_of opened_by fragment_by fragment_of continues join_of judged_by judged_of begun_bytes grown waiting completed gather_of step_by step_of empty run_of
thin_completes = refl
