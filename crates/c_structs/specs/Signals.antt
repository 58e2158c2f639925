-- The SIGNAL_STATE payload's record, entries and answer as plain members.
-- In this order: what the form has; a record shown; an answer; the record that a writer is given.
use Rattle.std.specs.Prelude.{ℕ, List}
use Rattle.protocol.specs.declared.Refusal.{Refusal}
use Rattle.protocol.specs.declared.Version.{Version}
use Rattle.protocol.specs.declared.Version.TheVariants.{V1, V2}
use Rattle.handshake.specs.Versions.{number_of}
use Rattle.signal_state.specs.SignalState.{version_of, no_entries}
use Rattle.signal_state.specs.declared.RsrpSnr.{RsrpSnr}
use Rattle.signal_state.specs.declared.SignalForm.{SignalForm}
use Rattle.signal_state.specs.declared.SignalForm.TheVariants.{V1 as Form1, V2 as Form2}
use Rattle.signal_state.specs.declared.SignalState.{SignalState}
use Rattle.signal_state.specs.declared.SignalStateShown.{SignalStateShown}
use Rattle.c_structs.specs.declared.signals.SignalStateInfo.{SignalStateInfo}
use Rattle.c_structs.specs.declared.signals.SignalStateAnswer.{SignalStateAnswer}
use Rattle.c_structs.specs.Answers.{no_refusal, refusal_info}
use Rattle.std.specs.Prelude.{Ok, Err}
use Rattle.signal_state.specs.SignalState.{SignalStateRead}

-- ---- what the form has: 0 at 1.00

abbrev pub count_in : SignalForm → ℕ
count_in Form1 = 0
count_in (Form2 n) = n

-- ---- a record shown, with the entries beside it

unfoldable pub info_of : SignalState → List RsrpSnr → SignalStateInfo
info_of p es = record {
  version = number_of (version_of p);
  rssi = p.rssi;
  error_rate = p.error_rate;
  signal_strength_interval = p.signal_strength_interval;
  rssi_threshold = p.rssi_threshold;
  error_rate_threshold = p.error_rate_threshold;
  count = count_in p.form;
  entries = es;
}

unfoldable pub no_info : SignalStateInfo
no_info = record {
  version = 0;
  rssi = 0;
  error_rate = 0;
  signal_strength_interval = 0;
  rssi_threshold = 0;
  error_rate_threshold = 0;
  count = 0;
  entries = no_entries 16;
}

-- ---- an answer: a refused one has all other members 0

abbrev pub refused_by : Refusal → SignalStateAnswer
refused_by r = record { refusal = refusal_info r; info = no_info }

unfoldable pub answer_by : SignalStateRead → List RsrpSnr → SignalStateAnswer
answer_by (Ok p) es = record { refusal = no_refusal; info = info_of p es }
answer_by (Err r) es = refused_by r

abbrev pub answer_of : SignalStateShown → SignalStateAnswer
answer_of x = answer_by x.answer x.entries

-- ---- the record that a writer is given, at a version

abbrev pub form_of : Version → ℕ → SignalForm
form_of V1 n = Form1
form_of V2 n = Form2 n

unfoldable pub record_of : Version → SignalStateInfo → SignalState
record_of v i = record {
  rssi = i.rssi;
  error_rate = i.error_rate;
  signal_strength_interval = i.signal_strength_interval;
  rssi_threshold = i.rssi_threshold;
  error_rate_threshold = i.error_rate_threshold;
  form = form_of v i.count;
}
