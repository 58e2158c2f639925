-- How long the rows of a payload are at most: those of an accepted one by its limits, a refused one's by its line.
-- Assumes nothing.
use mathlib.Core.Path.{◌≡◌, refl}
use mathlib.Core.List.{List}
use Prim.Native.Nat.{ℕ, ◌*◌, ◌≤◌}
use native.Mathlib.Omega.{arith}
use lib.ListN.{length, length-append}
use Rattle.ascii.specs.Ascii.{ascii}
use Rattle.ascii.proofs.Laws.{length_decimal, length_hexed}
use Rattle.protocol.specs.Service.{id_bytes}
use Rattle.protocol.specs.declared.Version.{Version}
use Rattle.protocol.specs.declared.service.ServiceId.{ServiceId}
use Rattle.protocol.proofs.Services.{length_id}
use Rattle.rows.specs.Rows.{header}
use Rattle.rows.proofs.Lengths.{field_le, row_le, indexed_le, refused_le, joined_le}
use Rattle.pairs.specs.declared.ZeroSize.{ZeroSize}
use Rattle.signal_state.specs.SignalState.{entry_in, read_with as signal_read}
use Rattle.signal_state.specs.declared.RsrpSnr.{RsrpSnr}
use Rattle.signal_state.specs.declared.SignalState.{SignalState}
use Rattle.device_services.specs.DeviceServices.{offset_of, cid_count_at, element_at, cid_at, read_with as services_read}
use Rattle.entry_rows.specs.Signals.{count_of, number_rows, entry_rows, entries_rows, answer_text, signal_text}
use Rattle.entry_rows.specs.Services.{id_row, cid_row, cid_rows, element_rows, elements_rows, services_text}
use Rattle.entry_rows.proofs.Signals.{few_entries}
use Rattle.entry_rows.proofs.Services.{few_cids}
use Rattle.std.specs.Prelude.{Ok, Err}
use Rattle.device_services.specs.DeviceServices.{DeviceServicesRead}
use Rattle.signal_state.specs.SignalState.{SignalStateRead}

-- ---- signal state

numbers_le : (p : SignalState) → length (number_rows p) ≤ 360
unfolding number_rows
numbers_le p =
    simp length-append (omega (arith, row_le (ascii "Rssi") p.rssi (omega arith), row_le (ascii "ErrorRate") p.error_rate (omega arith), row_le (ascii "SignalStrengthInterval") p.signal_strength_interval (omega arith), row_le (ascii "RssiThreshold") p.rssi_threshold (omega arith), row_le (ascii "ErrorRateThreshold") p.error_rate_threshold (omega arith)))

entry_le : (i : ℕ) (e : RsrpSnr) → length (entry_rows i e) ≤ 470
unfolding entry_rows
entry_le i e =
    simp length-append (omega (arith, indexed_le (ascii "RSRP") i e.rsrp (omega arith), indexed_le (ascii "SNR") i e.snr (omega arith), indexed_le (ascii "RSRPThreshold") i e.rsrp_threshold (omega arith), indexed_le (ascii "SNRThreshold") i e.snr_threshold (omega arith), indexed_le (ascii "SystemType") i e.system_type (omega arith)))

entries_le : (es : List RsrpSnr) (n : ℕ) → length (entries_rows es n) ≤ 470 * n
unfolding entries_rows
entries_le es n = joined_le (λ i. entry_rows i (entry_in es i)) 470 n (λ i l. entry_le i (entry_in es i))

pub signal_le : (v : Version) (z : ZeroSize) (s : List ℕ) → length (signal_text (signal_read v z s)) ≤ 10000
unfolding answer_text header
signal_le v z s = go (signal_read v z s).answer refl
  where
    go : (r : SignalStateRead) → (signal_read v z s).answer ≡ r → length (answer_text r (signal_read v z s).entries) ≤ 10000
    go (Err r) e = omega (arith, refused_le r)
    go (Ok p) e = simp length-append (omega (arith, numbers_le p, entries_le (signal_read v z s).entries (count_of p.form), few_entries v z s e))

-- ---- device services

id_le : (i : ℕ) (id : ServiceId) → length (id_row i id) ≤ 100
unfolding id_row
id_le i id = simp length-append (omega (arith, length_decimal 20 i, length_hexed (length (id_bytes id)) (id_bytes id), length_id id))

cid_le : (i j cid : ℕ) → length (cid_row i j cid) ≤ 100
unfolding cid_row
cid_le i j cid = simp length-append (omega (arith, length_decimal 20 i, length_decimal 20 j, field_le cid))

cids_le : (s : List ℕ) (at i n : ℕ) → length (cid_rows s at i n) ≤ 100 * n
unfolding cid_rows
cids_le s at i n = joined_le (λ j. cid_row i j (cid_at s at j)) 100 n (λ j l. cid_le i j (cid_at s at j))

element_le : (s : List ℕ) (at i : ℕ) → cid_count_at s at ≤ 128 → length (element_rows s at i) ≤ 13500
unfolding element_rows element_at
element_le s at i h =
    simp length-append (omega (arith, id_le i (element_at s at).device_service_id, indexed_le (ascii "DssPayload") i (element_at s at).dss_payload (omega arith), indexed_le (ascii "MaxDssInstances") i (element_at s at).max_dss_instances (omega arith), indexed_le (ascii "CidCount") i (element_at s at).cid_count (omega arith), cids_le s at i (element_at s at).cid_count))

pub services_le : (z : ZeroSize) (s : List ℕ) → length (services_text s (services_read z s)) ≤ 524288
unfolding services_text header elements_rows
services_le z s = go (services_read z s) refl
  where
    go : (r : DeviceServicesRead) → services_read z s ≡ r → length (services_text s r) ≤ 524288
    go (Err r) e = omega (arith, refused_le r)
    go (Ok p) e =
        let k = few_cids z s e in
        let n = p.device_services_count in
        simp length-append
        (omega (arith, k.0, row_le (ascii "DeviceServicesCount") n (omega arith), row_le (ascii "MaxDssSessions") p.max_dss_sessions (omega arith), joined_le (λ i. element_rows s (offset_of s i) i) 13500 n (λ i l. element_le s (offset_of s i) i (k.1 i l))))
