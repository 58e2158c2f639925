-- Reading what the writer gives returns the record.
-- Assumes nothing.
use mathlib.Core.Path.{◌≡◌, ap}
use mathlib.Core.List.{[], ◌++◌}
use lib.ListN.{length}
use Rattle.wire.specs.Numbers.{u32_at, u64_at}
use Rattle.wire.proofs.Laws.{num_digits}
use Rattle.protocol.specs.Verdict.{first_of, no_fault}
use Rattle.protocol.proofs.Verdicts.{length_exact, written_fits, written_front}
use Rattle.packet_service.specs.declared.PacketForm.{PacketForm}
use Rattle.packet_service.specs.declared.PacketForm.TheVariants.{V1 as Form1, V2 as Form2}
use Rattle.packet_service.specs.declared.PacketService.{PacketService}
use Rattle.packet_service.specs.PacketService.{length_of, form_at, record_at, verdict_of, read_of, version_in, version_of, class_in, shared_bytes, range_bytes, bytes_of, write_of}
use Rattle.packet_service.specs.Claims.{FormOfWidth, OfWidth, RoundTrip}
use Rattle.packet_service.proofs.Laws.{length_bytes}
use Rattle.std.specs.Prelude.{Ok}

form_back : (p : PacketService) (f : PacketForm) → FormOfWidth f → form_at (version_in f) (shared_bytes p (class_in f) ++ range_bytes f) ≡ f
unfolding u32_at shared_bytes
form_back p (Form1 class) z = ap Form1 (num_digits 4 class [] z)
form_back p (Form2 class range) z = λ i. Form2 (num_digits 4 class [] z.0 i) (num_digits 4 range [] z.1 i)

-- the fields of the bytes are the record's
record_back : (p : PacketService) → OfWidth p → record_at (version_of p) (bytes_of p) ≡ p
unfolding record_at bytes_of u32_at u64_at shared_bytes
record_back p z = λ i. record {
  nw_error = num_digits 4 p.nw_error [] z.error i;
  packet_service_state = num_digits 4 p.packet_service_state [] z.state i;
  uplink_speed = num_digits 8 p.uplink_speed [] z.up i;
  downlink_speed = num_digits 8 p.downlink_speed [] z.down i;
  form = form_back p p.form z.form i;
}

-- the bytes of a record that fits, read at its version, show the record
pub bytes_read : (p : PacketService) → OfWidth p → verdict_of p ≡ no_fault → read_of (version_of p) (bytes_of p) ≡ Ok p
unfolding read_of first_of
bytes_read p z e = rw (record_back p z, length_exact (length_of (version_of p)) (length (bytes_of p)) (length_bytes p), e)

-- what the writer puts into an output, read at the record's version, is the record
pub round_trip : RoundTrip
unfolding write_of
round_trip p s n z e =
    rw (written_front (verdict_of p) (bytes_of p) s n e) (bytes_read p z (written_fits (verdict_of p) (bytes_of p) s n e))
