-- What is claimed of the SIGNAL_STATE payload beside the promises, whichever choice the reader makes: the rules in words of fields, what
-- lies between the choices, and the width of each field.
use Rattle.std.specs.Prelude.{ℕ, ◌+◌, ◌*◌, ◌≤◌, ◌<◌, ◌^◌, ◌≡◌, ◌⊎◌, ◌↔◌, List, length, take, Ok}
use Rattle.std.specs.Int.Count.{ones}
use Rattle.wire.specs.Numbers.{u32_at}
use Rattle.protocol.specs.DataClass.{IsClass}
use Rattle.protocol.specs.declared.Version.{Version}
use Rattle.protocol.specs.declared.Version.TheVariants.{V1, V2}
use Rattle.pairs.specs.Pair.{range_at, shown_at}
use Rattle.pairs.specs.Claims.{PairFits, OffsetWithZeroSize}
use Rattle.pairs.specs.declared.Range.{Range}
use Rattle.pairs.specs.declared.PairKind.TheVariants.{List as ListKind}
use Rattle.pairs.specs.declared.ZeroSize.{ZeroSize}
use Rattle.pairs.specs.declared.ZeroSize.TheVariants.{Absent, Strict}
use Rattle.signal_state.specs.declared.RsrpSnr.{RsrpSnr}
use Rattle.signal_state.specs.declared.SignalForm.{SignalForm}
use Rattle.signal_state.specs.declared.SignalForm.TheVariants.{V1 as Form1, V2 as Form2}
use Rattle.signal_state.specs.declared.SignalState.{SignalState}
use Rattle.signal_state.specs.declared.SignalStateShown.{SignalStateShown}
use Rattle.signal_state.specs.SignalState.{version_of, count_at, list_place, entry_at, no_entries, sixteen, entry_in, read_with, record_at, shown_entries, bytes_of, write_of, refused, size_of}
use Rattle.protocol.specs.Refusal.{refusal, wrong_length, too_short, offset_with_zero_size}
use Rattle.protocol.specs.declared.Refusal.{Refusal}

-- ---- the rules in words of fields

-- 0 to `last`, or 99
abbrev pub Marked : ℕ → ℕ → Type 0
Marked last x = (x ≡ 99) ⊎ (x ≤ last)

pub record CountFits (p : Range) (count : ℕ) : Type 0 where
  pub some : 1 ≤ count
  pub most : count ≤ 16
  pub whole : p.length ≡ 4 + 20 * count

pub record EntryFits (e : RsrpSnr) : Type 0 where
  pub rsrp : e.rsrp ≤ 127
  pub snr : e.snr ≤ 128
  pub system : IsClass V2 e.system_type

pub record Unknown (e : RsrpSnr) : Type 0 where
  pub rsrp : e.rsrp ≡ 127
  pub snr : e.snr ≡ 128

-- the list at 2.00: absent, or of its size; each entry of its table; Rssi 99 unless all is unknown
pub record ListFits (z : ZeroSize) (s : List ℕ) : Type 0 where
  pub pair : PairFits z ListKind 28 324 (length s) (range_at s 20)
  pub list : ((range_at s 20).length ≡ 0) ⊎ CountFits (range_at s 20) (count_at s)
  pub entries : (i : ℕ) → i < count_at s → EntryFits (entry_at s (list_place s) i)
  pub alone : (u32_at s 0 ≡ 99) ⊎ ((i : ℕ) → i < count_at s → Unknown (entry_at s (list_place s) i))

abbrev pub FormFits : Version → ZeroSize → List ℕ → Type 0
FormFits V1 z s = length s ≡ 20
FormFits V2 z s = (28 ≤ length s) × ((length s ≤ 4096) × ListFits z s)

-- what a reader accepts
pub record Acceptable (v : Version) (z : ZeroSize) (s : List ℕ) : Type 0 where
  pub rssi : Marked 31 (u32_at s 0)
  pub rate : Marked 7 (u32_at s 4)
  pub form : FormFits v z s

-- the pair, at 2.00, has an offset beside size 0
abbrev pub StrayOffset : Version → List ℕ → Type 0
StrayOffset V1 s = ⊥
StrayOffset V2 s = OffsetWithZeroSize (range_at s 20)

-- n entries to be written: at most 16, each of its table; Rssi 99 unless all is unknown
pub record EntriesFit (rssi n : ℕ) (f : ℕ → RsrpSnr) : Type 0 where
  pub few : n ≤ 16
  pub entries : (i : ℕ) → i < n → EntryFits (f i)
  pub alone : (rssi ≡ 99) ⊎ ((i : ℕ) → i < n → Unknown (f i))

abbrev pub FormWritable : SignalForm → ℕ → (ℕ → RsrpSnr) → Type 0
FormWritable Form1 rssi f = Unit
FormWritable (Form2 n) rssi f = EntriesFit rssi n f

-- what a writer accepts
pub record Writable (p : SignalState) (f : ℕ → RsrpSnr) : Type 0 where
  pub rssi : Marked 31 p.rssi
  pub rate : Marked 7 p.error_rate
  pub form : FormWritable p.form p.rssi f

-- ---- what is shown of the entries written: the first `count`, and zeros

abbrev pub kept_in : SignalForm → List RsrpSnr → List RsrpSnr
kept_in Form1 es = no_entries 16
kept_in (Form2 n) es = sixteen (entry_in es) n

-- ---- each field is of its width

pub record OfWidth (p : SignalState) : Type 0 where
  pub rssi : p.rssi < 2 ^ 32
  pub rate : p.error_rate < 2 ^ 32
  pub interval : p.signal_strength_interval < 2 ^ 32
  pub strength : p.rssi_threshold < 2 ^ 32
  pub errors : p.error_rate_threshold < 2 ^ 32

pub record EntryOfWidth (e : RsrpSnr) : Type 0 where
  pub rsrp : e.rsrp < 2 ^ 32
  pub snr : e.snr < 2 ^ 32
  pub strength : e.rsrp_threshold < 2 ^ 32
  pub ratio : e.snr_threshold < 2 ^ 32
  pub system : e.system_type < 2 ^ 32

abbrev pub EntriesOfWidth : List RsrpSnr → Type 0
EntriesOfWidth es = (i : ℕ) → EntryOfWidth (entry_in es i)

-- ---- what is proved (proofs/Acceptance, proofs/RoundTrip, proofs/OtherVersion)

-- a payload accepted: the record and its entries
abbrev pub info : SignalState → List RsrpSnr → SignalStateShown
info p es = record { answer = Ok p; entries = es }

-- an accepted payload keeps the rules, and shows the record and the entries at their places
abbrev pub Accepted : Type 0
Accepted = (v : Version) (z : ZeroSize) (s : List ℕ) (p : SignalState) (es : List RsrpSnr) → read_with v z s ≡ info p es
    → Acceptable v z s × ((p ≡ record_at v s) × (es ≡ shown_entries v s))

abbrev pub AcceptedExactly : Type 0
AcceptedExactly = (v : Version) (z : ZeroSize) (s : List ℕ) → (read_with v z s ≡ info (record_at v s) (shown_entries v s)) ↔ Acceptable v z s

-- accepted by default and refused by the strict choice
pub record OnlyByDefault (v : Version) (s : List ℕ) : Type 0 where
  pub accepted : read_with v Absent s ≡ info (record_at v s) (shown_entries v s)
  pub refusal : Refusal
  pub refused : read_with v Strict s ≡ refused refusal

-- what the default accepts and the strict choice refuses has an offset beside a size of 0 and is good otherwise, and all of that is
abbrev pub BetweenChoices : Type 0
BetweenChoices = (v : Version) (s : List ℕ) → OnlyByDefault v s ↔ (Acceptable v Absent s × StrayOffset v s)

-- it is refused by 18
abbrev pub StrictOfStray : Type 0
StrictOfStray = (s : List ℕ) → Acceptable V2 Absent s → OffsetWithZeroSize (range_at s 20) → read_with V2 Strict s ≡ refused (refusal offset_with_zero_size 20)

-- what the strict choice accepts, the default shows as it does
abbrev pub StrictWithin : Type 0
StrictWithin = (v : Version) (s : List ℕ) (p : SignalState) (es : List RsrpSnr) → read_with v Strict s ≡ info p es → read_with v Absent s ≡ info p es

-- under the strict choice the pair is shown as it stands, as before order 10
abbrev pub StrictPair : Type 0
StrictPair = (s : List ℕ) (p : SignalState) (es : List RsrpSnr) → read_with V2 Strict s ≡ info p es → shown_at s 20 ≡ range_at s 20

-- no size, no entries, whatever the offset
abbrev pub AbsentEmpty : Type 0
AbsentEmpty = (s : List ℕ) → (range_at s 20).length ≡ 0 → ((record_at V2 s).form ≡ Form2 0) × (shown_entries V2 s ≡ no_entries 16)

abbrev pub WrittenExactly : Type 0
WrittenExactly = (p : SignalState) (es : List RsrpSnr) (s : List ℕ)
    → ((write_of p es s).answer ≡ Ok (length (bytes_of p es))) ↔ (Writable p (entry_in es) × (length (bytes_of p es) ≤ length s))

-- an entry that is read or written has a SystemType of one bit: 18h, which a packet service may have (02, order 4), is none
abbrev pub OneSystemBit : Type 0
OneSystemBit = (e : RsrpSnr) → EntryFits e → ones e.system_type ≡ 1

abbrev pub LaterReadEarlier : Type 0
LaterReadEarlier =
    (choice : ZeroSize) (p : SignalState) (es : List RsrpSnr) (n : ℕ) → p.form ≡ Form2 n → read_with V1 choice (bytes_of p es) ≡ refused (refusal wrong_length (28 + size_of n))

abbrev pub EarlierReadLater : Type 0
EarlierReadLater = (choice : ZeroSize) (p : SignalState) (es : List RsrpSnr) → p.form ≡ Form1 → read_with V2 choice (bytes_of p es) ≡ refused (refusal too_short 20)

-- what the writer puts into an output, read at the record's version, is the record with its entries
abbrev pub RoundTrip : Type 0
RoundTrip = (choice : ZeroSize) (p : SignalState) (es : List RsrpSnr) → OfWidth p → EntriesOfWidth es → (s : List ℕ) (n : ℕ) → (write_of p es s).answer ≡ Ok n
    → read_with (version_of p) choice (take n (write_of p es s).output) ≡ info p (kept_in p.form es)
