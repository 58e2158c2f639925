-- A request line that is refused: its column is where its longest good beginning ends.
-- Assumes nothing.
use mathlib.Core.Path.{◌≡◌, refl, sym, ap, ◌∙◌}
use mathlib.Core.Logic.{inl, inr}
use mathlib.Core.List.{List, [], ◌∷◌, ◌++◌}
use Prim.Native.Nat.{ℕ, ◌+◌}
use native.Mathlib.Omega.{arith}
use lib.ListN.{drop}
use lib.Seq.{drop-drop}
use Rattle.ascii.specs.Ascii.{line_feed, ascii, agreement}
use Rattle.protocol.specs.declared.Version.{Version}
use Rattle.protocol.specs.declared.Version.TheVariants.{V1, V2}
use Rattle.text_parts.specs.Parts.{Reach, whole, stops, Right, further}
use Rattle.text_parts.specs.Words.{Worded, Reached, WordRow, reach_from}
use Rattle.text_parts.specs.Hex.{HexLine, reach_hex_line, HexDigits, line_end_at, end_column}
use Rattle.text_parts.proofs.Parts.{same_right, further_zero, further_further}
use Rattle.text_parts.proofs.Hex.{hex_right, hex_said, said_hex}
use Rattle.text_parts.proofs.Ends.{end_column_lem}
use Rattle.request_line.specs.Request.{kind_word, kind_words, version_word, version_words, kind_length, payload_by, payload_at, by_version, by_kind, request_of}
use Rattle.protocol.specs.declared.service.Kind.{Kind}
use Rattle.protocol.specs.declared.service.Kind.TheVariants.{PacketService, VersionInfo, RegisterState, SignalState, DeviceServices, SetPin, PinInfo}
use Rattle.request_line.specs.declared.Request.{Request}
use Rattle.request_line.specs.Good.{kind_text, version_text, most_digits, Good}
use Rattle.text_parts.proofs.Tables.{AllDiffer, all_tested, AnyOf, table_reach, table_right, table_at, on}
use Rattle.std.specs.Prelude.{Ok, Err}
use Rattle.text_parts.specs.Hex.{LineEnd}
use Rattle.std.specs.Prelude.{Result}

abbrev column_of : (Result Request ℕ) → Reach
column_of (Ok request) = whole
column_of (Err c) = stops c

-- ---- the row

abbrev version_rest : List (WordRow Version)
version_rest = version_word V2 ∷ []

abbrev kind_rest : List (WordRow Kind)
kind_rest =
    kind_word VersionInfo
    ∷ kind_word RegisterState
    ∷ kind_word SignalState
    ∷ kind_word DeviceServices
    ∷ kind_word SetPin
    ∷ kind_word PinInfo
    ∷ []

abbrev Versioned : List ℕ → Type 0
Versioned = AnyOf (HexLine most_digits) (Worded (ascii "1.00\t") (HexLine most_digits)) version_rest

abbrev Row : List ℕ → Type 0
Row = AnyOf Versioned (Worded (ascii "packet_service\t") Versioned) kind_rest

abbrev reach_version : List ℕ → Reach
reach_version = table_reach (reach_hex_line most_digits) (version_word V1) version_rest

abbrev reach_row : List ℕ → Reach
reach_row = table_reach reach_version (kind_word PacketService) kind_rest

no_digits : HexDigits most_digits []
no_digits = record { spelled = tt; even = refl; short = omega arith }

version_right : (u : List ℕ) → Right Versioned u (reach_version u)
version_right u = table_right (HexLine most_digits) (reach_hex_line most_digits) (hex_right most_digits refl) (line_feed ∷ []) (said_hex most_digits [] no_digits) u (version_word V1) version_rest

row_right : (u : List ℕ) → Right Row u (reach_row u)
row_right u =
    table_right Versioned reach_version version_right (ascii "1.00\t\n") (inl (10 ∷ [], said_hex most_digits [] no_digits, refl)) u (kind_word PacketService) kind_rest

-- ---- the same lines

version_said : (t : List ℕ) → Versioned t → (v : Version) × (hex : List ℕ) × HexDigits most_digits hex × (t ≡ version_text v ++ (hex ++ (line_feed ∷ [])))
version_said t (inl m) = let d = hex_said most_digits m.0 m.1 in (V1, d.0, d.1, m.2 ∙ ap (λ (x : List ℕ). ascii "1.00\t" ++ x) d.2)
version_said t (inr m) = let d = hex_said most_digits m.0 m.1 in (V2, d.0, d.1, m.2 ∙ ap (λ (x : List ℕ). ascii "2.00\t" ++ x) d.2)

kind_said : (kind : Kind) (s : List ℕ) → Worded (kind_text kind) Versioned s → Good s
kind_said kind s m = let v = version_said m.0 m.1 in (kind, v.0, v.1, v.2, m.2 ∙ ap (λ (x : List ℕ). kind_text kind ++ x) v.3)

row_good : (s : List ℕ) → Row s → Good s
row_good s (inl (inl (inl (inl (inl (inl m)))))) = kind_said PacketService s m
row_good s (inl (inl (inl (inl (inl (inr m)))))) = kind_said VersionInfo s m
row_good s (inl (inl (inl (inl (inr m))))) = kind_said RegisterState s m
row_good s (inl (inl (inl (inr m)))) = kind_said SignalState s m
row_good s (inl (inl (inr m))) = kind_said DeviceServices s m
row_good s (inl (inr m)) = kind_said SetPin s m
row_good s (inr m) = kind_said PinInfo s m

said_version : (v : Version) (hex : List ℕ) → HexDigits most_digits hex → Versioned (version_text v ++ (hex ++ (line_feed ∷ [])))
said_version V1 hex p = inl (hex ++ (line_feed ∷ []), said_hex most_digits hex p, refl)
said_version V2 hex p = inr (hex ++ (line_feed ∷ []), said_hex most_digits hex p, refl)

said_kind : (kind : Kind) (t : List ℕ) → Versioned t → Row (kind_text kind ++ t)
said_kind PacketService t m = inl (inl (inl (inl (inl (inl (t, m, refl))))))
said_kind VersionInfo t m = inl (inl (inl (inl (inl (inr (t, m, refl))))))
said_kind RegisterState t m = inl (inl (inl (inl (inr (t, m, refl)))))
said_kind SignalState t m = inl (inl (inl (inr (t, m, refl))))
said_kind DeviceServices t m = inl (inl (inr (t, m, refl)))
said_kind SetPin t m = inl (inr (t, m, refl))
said_kind PinInfo t m = inr (t, m, refl)

good_row : (s : List ℕ) → Good s → Row s
good_row s g = rw g.4 (said_kind g.0 (version_text g.1 ++ (g.2 ++ (line_feed ∷ []))) (said_version g.1 g.2 g.3))

-- ---- the column

payload_column : (s : List ℕ) (kind : Kind) (v : Version) (from : ℕ) → column_of (payload_at s kind v from) ≡ further from (reach_hex_line most_digits (drop from s))
unfolding payload_at
payload_column s kind v from = shown (line_end_at most_digits s from) ∙ end_column_lem most_digits s from
  where
    shown : (x : LineEnd) → column_of (payload_by kind v from x) ≡ end_column x
    shown (Ok n) = refl
    shown (Err c) = refl

versions_differ : AllDiffer version_words
unfolding agreement
versions_differ = all_tested version_words refl

kinds_differ : AllDiffer kind_words
unfolding agreement
kinds_differ = all_tested kind_words refl

version_column : (s : List ℕ) (kind : Kind) (at : ℕ)
    → column_of (by_version s kind at (reach_from (Err at) s at version_words)) ≡ further at (reach_version (drop at s))
version_column s kind at =
    shown (reach_from (Err at) s at version_words)
    ∙ sym (table_at (reach_hex_line most_digits) J s at (version_word V1) version_rest versions_differ (leads V1, (leads V2, tt)))
  where
    J : Version → Reach
    J version = column_of (payload_at s kind version (at + 5))

    shown : (q : Reached Version) → column_of (by_version s kind at q) ≡ on q J
    shown (Err c) = refl
    shown (Ok n) = refl

    leads : (v : Version) → column_of (payload_at s kind v (at + 5)) ≡ further at (further 5 (reach_hex_line most_digits (drop 5 (drop at s))))
    leads v =
        payload_column s kind v (at + 5) ∙ ap (λ (x : List ℕ). further (at + 5) (reach_hex_line most_digits x)) (sym (drop-drop 5 at s))
        ∙ sym (further_further at 5 (reach_hex_line most_digits (drop 5 (drop at s))))

request_column : (s : List ℕ) → column_of (request_of s) ≡ reach_row s
unfolding request_of
request_column s =
    shown (reach_from (Err 0) s 0 kind_words)
    ∙ sym (table_at reach_version J s 0 (kind_word PacketService) kind_rest kinds_differ
    (leads PacketService, (leads VersionInfo, (leads RegisterState, (leads SignalState, (leads DeviceServices, (leads SetPin, (leads PinInfo, tt))))))))
    ∙ further_zero (reach_row s)
  where
    J : Kind → Reach
    J kind = column_of (by_version s kind (kind_length kind) (reach_from (Err (kind_length kind)) s (kind_length kind) version_words))

    shown : (q : Reached Kind) → column_of (by_kind s q) ≡ on q J
    shown (Err c) = refl
    shown (Ok n) = refl

    leads : (kind : Kind)
        → column_of (by_version s kind (kind_length kind) (reach_from (Err (kind_length kind)) s (kind_length kind) version_words))
        ≡ further 0 (further (kind_length kind) (reach_version (drop (kind_length kind) s)))
    leads kind = version_column s kind (kind_length kind) ∙ sym (further_zero (further (kind_length kind) (reach_version (drop (kind_length kind) s))))

-- the answer is right: the line is good, or the column is where its longest good beginning ends
pub request_right : (s : List ℕ) → Right Good s (column_of (request_of s))
request_right s = rw (request_column s) (same_right Good Row row_good good_row s (reach_row s) (row_right s))
