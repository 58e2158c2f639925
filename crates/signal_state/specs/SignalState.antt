-- The SIGNAL_STATE payload (document 01, "Signal"; document 02, order 10; source 000, MBIM_SIGNAL_STATE_INFO_V2, MBIM_RSRP_SNR and MBIM_RSRP_SNR_INFO).
-- In this order: the fields and their places; the rules, in the order in which they are judged; what a reader answers; what a writer gives.
use Rattle.std.specs.Prelude.{ℕ, ◌+◌, ◌*◌, ◌-◌, Bool, true, not, cond, ◌&&◌, ◌||◌, List, [], ◌∷◌, ◌++◌, ltb, eqb, length, get_or, replicate, Ok, Err, Result}
use Rattle.wire.specs.Numbers.{u32_at, digits}
use Rattle.protocol.specs.Refusal.{wrong_size, outside_table, contradiction}
use Rattle.protocol.specs.Verdict.{Rule, rule, judge, first_of, fault_if, exact_length, open_length, Writing, writing, no_fault, Verdict}
use Rattle.protocol.specs.DataClass.{one_class}
use Rattle.protocol.specs.declared.Refusal.{Refusal}
use Rattle.protocol.specs.declared.Version.{Version}
use Rattle.protocol.specs.declared.Version.TheVariants.{V1, V2}
use Rattle.folds.specs.Folds.{first_fault, any_of, list_of, joined}
use Rattle.pairs.specs.Pair.{by_default, reached, range_at, unfit, verdict_of, placed, shown_at, range_bytes}
use Rattle.lists.specs.Lists as lists
use Rattle.pairs.specs.declared.Range.{Range}
use Rattle.lists.specs.declared.ListForm.{ListForm}
use Rattle.pairs.specs.declared.PairKind.TheVariants.{List as ListKind}
use Rattle.pairs.specs.declared.ZeroSize.{ZeroSize}
use Rattle.signal_state.specs.declared.RsrpSnr.{RsrpSnr}
use Rattle.signal_state.specs.declared.SignalForm.{SignalForm}
use Rattle.signal_state.specs.declared.SignalForm.TheVariants.{V1 as Form1, V2 as Form2}
use Rattle.signal_state.specs.declared.SignalState.{SignalState}
use Rattle.signal_state.specs.declared.SignalStateShown.{SignalStateShown}

abbrev pub SignalStateRead : Type 0
SignalStateRead = Result SignalState Refusal

-- ---- fields and places

-- Rssi 0, ErrorRate 4, interval 8, thresholds 12 and 16
unfoldable pub state_at : SignalForm → List ℕ → SignalState
state_at form s = record {
  rssi = u32_at s 0;
  error_rate = u32_at s 4;
  signal_strength_interval = u32_at s 8;
  rssi_threshold = u32_at s 12;
  error_rate_threshold = u32_at s 16;
  form = form;
}

-- the list of a pair: "a count (1 to 16) and that many entries of 20 bytes"; "the pair's size is 4 + 20 × count and at most 324";
-- "a signal pair of size 0 is absent"
abbrev pub list_form : ListForm
list_form = record { limit = 324; least = 4; count_place = 0; fewest = 1; most = 16; each = 20; optional = true }

-- its count, 0 where there is none
abbrev pub count_in : List ℕ → Range → ℕ
count_in s p = lists.count_in list_form s p

-- "At 2.00 a pair at 20"
abbrev pub count_at : List ℕ → ℕ
count_at s = count_in s (range_at s 20)

-- where it is shown; 02, order 10: "For an optional signal list, absent means no entries"
abbrev pub list_place : List ℕ → ℕ
list_place s = (shown_at s 20).start

-- entry i of the list at `offset`: RSRP, SNR, two thresholds, SystemType
abbrev pub entry_place : ℕ → ℕ → ℕ
entry_place offset i = offset + 4 + 20 * i

unfoldable pub entry_at : List ℕ → ℕ → ℕ → RsrpSnr
entry_at s offset i = record {
  rsrp = u32_at s (entry_place offset i);
  snr = u32_at s (entry_place offset i + 4);
  rsrp_threshold = u32_at s (entry_place offset i + 8);
  snr_threshold = u32_at s (entry_place offset i + 12);
  system_type = u32_at s (entry_place offset i + 16);
}

abbrev pub zero_entry : RsrpSnr
zero_entry = record { rsrp = 0; snr = 0; rsrp_threshold = 0; snr_threshold = 0; system_type = 0 }

abbrev pub no_entries : ℕ → List RsrpSnr
no_entries n = replicate n zero_entry

-- 16 entries: the first n by f, the others zero
abbrev pub sixteen : (ℕ → RsrpSnr) → ℕ → List RsrpSnr
sixteen f n = list_of f n ++ no_entries (16 - n)

abbrev pub entries_at : List ℕ → ℕ → ℕ → List RsrpSnr
entries_at s offset n = sixteen (entry_at s offset) n

-- ---- rules: broken, reason, place; the first broken one decides

-- over the table's last number, and not 99
abbrev pub unmarked : ℕ → ℕ → Bool
unmarked last x = not (eqb x 99) && ltb last x

-- Rssi 0 to 31 or 99, ErrorRate 0 to 7 or 99
unfoldable pub number_rules : ℕ → ℕ → List Rule
number_rules rssi rate = rule (unmarked 31 rssi) outside_table 0 ∷ rule (unmarked 7 rate) outside_table 4 ∷ []

-- "size under 4, 8; count 15 when over its limit or 0; size against count, 8"
unfoldable pub list_rules : Range → ℕ → List Rule
list_rules p count = lists.list_rules list_form 20 p count

-- one entry: RSRP 0 to 126 or the mark 127, SNR 0 to 127 or the mark 128, SystemType exactly one class
unfoldable pub entry_rules : ℕ → RsrpSnr → List Rule
entry_rules at e =
    rule (ltb 127 e.rsrp) outside_table at
    ∷ rule (ltb 128 e.snr) outside_table (at + 4)
    ∷ rule (not (one_class V2 e.system_type)) outside_table (at + 16)
    ∷ []

-- the n entries f 0, f 1, .. of the list at `offset`
unfoldable pub entries_verdict : ℕ → (ℕ → RsrpSnr) → ℕ → Verdict
entries_verdict offset f n = first_fault (λ i. judge (entry_rules (entry_place offset i) (f i))) n

-- an RSRP or SNR that isn't the unknown mark
abbrev pub is_known : RsrpSnr → Bool
is_known e = not (eqb e.rsrp 127) || not (eqb e.snr 128)

unfoldable pub any_known : (ℕ → RsrpSnr) → ℕ → Bool
any_known f n = any_of (λ i. is_known (f i)) n

-- "If any RSRP or SNR isn't the unknown mark, Rssi is 99"
abbrev pub contradicts : ℕ → Bool → Bool
contradicts rssi known = known && not (eqb rssi 99)

-- the entries, and last what contradicts
unfoldable pub body_verdict : ℕ → ℕ → (ℕ → RsrpSnr) → ℕ → Verdict
body_verdict rssi offset f n = first_of (entries_verdict offset f n) (fault_if (contradicts rssi (any_known f n)) contradiction 0)

-- at 2.00, all that comes before the entries, with the pair p, by the reader's choice: the fixed part is 28, the limit 324
unfoldable pub head_of : ZeroSize → List ℕ → Range → ℕ → Verdict
head_of z s p count =
    first_of (open_length 28 (length s))
    (first_of (judge (number_rules (u32_at s 0) (u32_at s 4)))
    (first_of (verdict_of z ListKind 28 324 20 (length s) p)
    (judge (list_rules p count))))

abbrev pub head_verdict : ZeroSize → List ℕ → Verdict
head_verdict z s = head_of z s (range_at s 20) (count_at s)

-- what a choice decides: at 1.00 nothing, at 2.00 the pair
abbrev pub choice_verdict : Version → ZeroSize → List ℕ → Verdict
choice_verdict V1 z s = no_fault
choice_verdict V2 z s =
    reached (first_of (open_length 28 (length s)) (judge (number_rules (u32_at s 0) (u32_at s 4)))) (verdict_of z ListKind 28 324 20 (length s) (range_at s 20))

-- "length 20 at 1.00"
unfoldable pub verdict_at : Version → ZeroSize → List ℕ → Verdict
verdict_at V1 z s = first_of (exact_length 20 (length s)) (judge (number_rules (u32_at s 0) (u32_at s 4)))
verdict_at V2 z s = first_of (head_verdict z s) (body_verdict (u32_at s 0) (list_place s) (entry_at s (list_place s)) (count_at s))

-- ---- what a reader answers

abbrev pub refused : Refusal → SignalStateShown
refused r = record { answer = Err r; entries = no_entries 16 }

abbrev pub shown : Verdict → SignalState → List RsrpSnr → SignalStateShown
shown (Ok _) p es = record { answer = Ok p; entries = es }
shown (Err r) p es = refused r

abbrev pub record_at : Version → List ℕ → SignalState
record_at V1 s = state_at Form1 s
record_at V2 s = state_at (Form2 (count_at s)) s

abbrev pub shown_entries : Version → List ℕ → List RsrpSnr
shown_entries V1 s = no_entries 16
shown_entries V2 s = entries_at s (list_place s) (count_at s)

unfoldable pub read_with : Version → ZeroSize → List ℕ → SignalStateShown
read_with v z s = shown (verdict_at v z s) (record_at v s) (shown_entries v s)

abbrev pub read_of : Version → List ℕ → SignalStateShown
read_of v s = read_with v by_default s

-- the reader's part behind the rules of the list
unfoldable pub read_entries : List ℕ → ℕ → ℕ → SignalStateShown
read_entries s offset n =
    shown (body_verdict (u32_at s 0) offset (entry_at s offset) n) (state_at (Form2 n) s) (entries_at s offset n)

-- ---- what a writer gives

abbrev pub version_in : SignalForm → Version
version_in Form1 = V1
version_in (Form2 count) = V2

abbrev pub version_of : SignalState → Version
version_of p = version_in p.form

-- entry i of an array
abbrev pub entry_in : List RsrpSnr → ℕ → RsrpSnr
entry_in es i = get_or es i zero_entry

-- "The pair's size is 4 + 20 × count"; no entries, no list
abbrev pub size_of : ℕ → ℕ
size_of n = cond (eqb n 0) 0 (4 + 20 * n)

unfoldable pub limit_verdict : SignalState → ℕ → Verdict
limit_verdict p n = first_of (judge (number_rules p.rssi p.error_rate)) (fault_if (unfit ListKind 324 (size_of n)) wrong_size 20)

-- the limit comes before the count; what fits is at most 352 bytes long, so number 5 is never given
unfoldable pub listed_verdict : SignalState → ℕ → (ℕ → RsrpSnr) → Verdict
listed_verdict p n f = first_of (limit_verdict p n) (body_verdict p.rssi 28 f n)

unfoldable pub number_bytes : SignalState → List ℕ
number_bytes p =
    digits 4 p.rssi
    ++ (digits 4 p.error_rate
    ++ (digits 4 p.signal_strength_interval ++ (digits 4 p.rssi_threshold ++ digits 4 p.error_rate_threshold)))

unfoldable pub entry_bytes : RsrpSnr → List ℕ
entry_bytes e =
    digits 4 e.rsrp
    ++ (digits 4 e.snr ++ (digits 4 e.rsrp_threshold ++ (digits 4 e.snr_threshold ++ digits 4 e.system_type)))

unfoldable pub entries_bytes : ℕ → (ℕ → RsrpSnr) → List ℕ
entries_bytes n f = joined (λ i. entry_bytes (f i)) n

-- the pair, and the list straight after the fixed part
unfoldable pub list_bytes : ℕ → (ℕ → RsrpSnr) → List ℕ
list_bytes n f = range_bytes (placed 28 (size_of n)) ++ cond (eqb n 0) [] (digits 4 n ++ entries_bytes n f)

unfoldable pub listed_bytes : SignalState → ℕ → (ℕ → RsrpSnr) → List ℕ
listed_bytes p n f = number_bytes p ++ list_bytes n f

abbrev pub verdict_in : SignalForm → SignalState → (ℕ → RsrpSnr) → Verdict
verdict_in Form1 p f = judge (number_rules p.rssi p.error_rate)
verdict_in (Form2 n) p f = listed_verdict p n f

abbrev pub bytes_in : SignalForm → SignalState → (ℕ → RsrpSnr) → List ℕ
bytes_in Form1 p f = number_bytes p
bytes_in (Form2 n) p f = listed_bytes p n f

-- the payload's bytes, with the entries of an array
abbrev pub bytes_of : SignalState → List RsrpSnr → List ℕ
bytes_of p es = bytes_in p.form p (entry_in es)

abbrev pub written_verdict : SignalState → List RsrpSnr → Verdict
written_verdict p es = verdict_in p.form p (entry_in es)

-- the answer, and the output at exit
unfoldable pub write_of : SignalState → List RsrpSnr → List ℕ → Writing
write_of p es s = writing (written_verdict p es) (bytes_of p es) s
