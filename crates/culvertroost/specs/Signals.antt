-- SIGNAL_STATE for C: the number of the version is judged, then that of the reader's choice, then the payload is read or the record
-- written at that version.
use Rattle.std.specs.Prelude.{ℕ, List}
use Rattle.protocol.specs.Verdict.{Writing}
use Rattle.signal_state.specs.SignalState.{refused, read_with, read_of, write_of}
use Rattle.signal_state.specs.declared.SignalStateShown.{SignalStateShown}
use Rattle.c_structs.specs.Answers.{at_version, unwritten}
use Rattle.c_structs.specs.Choices.{by_reading}
use Rattle.c_structs.specs.Signals.{record_of}
use Rattle.c_structs.specs.declared.signals.SignalStateInfo.{SignalStateInfo}

abbrev pub read_at : ℕ → List ℕ → SignalStateShown
read_at n s = at_version n refused (λ v. read_of v s)

abbrev pub read_chosen : ℕ → ℕ → List ℕ → SignalStateShown
read_chosen n k s = by_reading n k refused (λ v z. read_with v z s)

-- with the entries that stand in the same struct
abbrev pub write_at : SignalStateInfo → List ℕ → Writing
write_at i s = at_version i.version (unwritten s) (λ v. write_of (record_of v i) i.entries s)
