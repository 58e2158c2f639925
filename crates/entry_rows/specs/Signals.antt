-- The listing of a SIGNAL_STATE payload: the numbers, and at 2.00 five rows for each entry.
use Rattle.std.specs.Prelude.{ℕ, List, ◌++◌}
use Rattle.ascii.specs.Ascii.{ascii}
use Rattle.folds.specs.Folds.{joined}
use Rattle.signal_state.specs.SignalState.{entry_in}
use Rattle.signal_state.specs.declared.RsrpSnr.{RsrpSnr}
use Rattle.signal_state.specs.declared.SignalForm.{SignalForm}
use Rattle.signal_state.specs.declared.SignalForm.TheVariants.{V1 as Form1, V2 as Form2}
use Rattle.signal_state.specs.declared.SignalState.{SignalState}
use Rattle.signal_state.specs.declared.SignalStateShown.{SignalStateShown}
use Rattle.rows.specs.Rows.{header, row, indexed_row, refused_line}
use Rattle.std.specs.Prelude.{Ok, Err}
use Rattle.signal_state.specs.SignalState.{SignalStateRead}

unfoldable pub number_rows : SignalState → List ℕ
number_rows p =
    row (ascii "Rssi") p.rssi
    ++ (row (ascii "ErrorRate") p.error_rate
    ++ (row (ascii "SignalStrengthInterval") p.signal_strength_interval
    ++ (row (ascii "RssiThreshold") p.rssi_threshold ++ row (ascii "ErrorRateThreshold") p.error_rate_threshold)))

-- entry i
unfoldable pub entry_rows : ℕ → RsrpSnr → List ℕ
entry_rows i e =
    indexed_row (ascii "RSRP") i e.rsrp
    ++ (indexed_row (ascii "SNR") i e.snr
    ++ (indexed_row (ascii "RSRPThreshold") i e.rsrp_threshold
    ++ (indexed_row (ascii "SNRThreshold") i e.snr_threshold ++ indexed_row (ascii "SystemType") i e.system_type)))

-- the first n entries
unfoldable pub entries_rows : List RsrpSnr → ℕ → List ℕ
entries_rows es n = joined (λ i. entry_rows i (entry_in es i)) n

abbrev pub count_of : SignalForm → ℕ
count_of Form1 = 0
count_of (Form2 count) = count

unfoldable pub answer_text : SignalStateRead → List RsrpSnr → List ℕ
answer_text (Err r) es = refused_line r
answer_text (Ok p) es = header ++ (number_rows p ++ entries_rows es (count_of p.form))

abbrev pub signal_text : SignalStateShown → List ℕ
signal_text x = answer_text x.answer x.entries
