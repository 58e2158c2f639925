-- No line's text is longer than 786,432 bytes: a listing is short, or has few rows.
-- Assumes nothing.
use mathlib.Core.Path.{◌≡◌, refl, ◌∙◌}
use mathlib.Core.Bool.{Bool, true, false, cond}
use mathlib.Core.List.{List, [], ◌∷◌, ◌++◌}
use Prim.Native.Nat.{ℕ, zero, suc, ◌+◌, ◌*◌, ◌/◌, ◌%◌, ◌≤◌, ◌<◌}
use native.Mathlib.Nat.{mul-zero, mul-suc}
use native.Mathlib.Omega.{arith}
use borrow.Author.Tests.{ne_eqb}
use lib.Dec.{eqb, ltb}
use lib.ListN.{length, drop, length-append, length-drop, get_or}
use Rattle.ascii.specs.Ascii.{line_feed, ascii, decimal_in, hexed_in, hex_pair, glyph_of}
use Rattle.ascii.proofs.Laws.{by_test}
use Rattle.folds.specs.Folds.{joined}
use Rattle.protocol.specs.Service.{id_bytes}
use Rattle.protocol.specs.declared.Version.{Version}
use Rattle.protocol.specs.declared.service.ServiceId.{ServiceId}
use Rattle.assembler.specs.declared.door.Received.{Received}
use Rattle.assembler.specs.declared.door.Received.TheVariants as received
use Rattle.payload.specs.Payload.{shown_of}
use Rattle.pairs.specs.declared.ZeroSize.TheVariants.{Strict}
use Rattle.device_services.specs.DeviceServices.{offset_of, cid_count_at, element_at, cid_at, read_with as services_read}
use Rattle.rows.specs.Rows.{header, field, row, indexed_row, refused_line}
use Rattle.rows.proofs.Lengths.{refused_le}
use Rattle.payload_rows.proofs.Lengths.{packet_le, version_le, registration_le, set_pin_le, pin_info_le}
use Rattle.entry_rows.specs.Services.{id_row, cid_row, cid_rows, element_rows, elements_rows, services_text}
use Rattle.entry_rows.proofs.Services.{few_cids}
use Rattle.entry_rows.proofs.Lengths.{signal_le, services_le}
use Rattle.protocol.specs.declared.service.Kind.{Kind}
use Rattle.protocol.specs.declared.service.Kind.TheVariants as kinds
use Rattle.listing.specs.Listing.{payload_text}
use Rattle.trace_step.specs.declared.Piece.{Piece}
use Rattle.trace.specs.Marked.{marked_from, marked, header_in, without_header}
use Rattle.trace.specs.Heads.{head_of}
use Rattle.trace.specs.Replay.{mark_of, fields_by, fields_in, fields_of, answer_text}
use Rattle.trace.specs.Claims.{LineFits}
use Rattle.trace.proofs.Laws.{mark_le}
use Rattle.trace.proofs.Lengths.{head_le}
use Rattle.std.specs.Prelude.{Ok, Err, Some, None}
use Rattle.device_services.specs.DeviceServices.{DeviceServicesRead}
use Rattle.payload.specs.Payload.{Shown}
use Rattle.std.specs.Prelude.{Result}
use Rattle.protocol.specs.declared.Refusal.{Refusal}

-- ---- line feeds

feed_of : ℕ → ℕ
feed_of b = cond (eqb b line_feed) 1 0

feeds : List ℕ → ℕ
feeds [] = 0
feeds (b ∷ s) = feed_of b + feeds s

feed_le : (t : Bool) → cond t 1 0 ≤ 1
feed_le t = by_test (λ (n : ℕ). n ≤ 1) t (omega arith) (omega arith)

feeds_le : (s : List ℕ) → feeds s ≤ length s
unfolding feeds feed_of
feeds_le [] = omega arith
feeds_le (b ∷ s) = omega (arith, feed_le (eqb b line_feed), feeds_le s)

feeds_append : (x y : List ℕ) → feeds (x ++ y) ≡ feeds x + feeds y
unfolding feeds
feeds_append [] y = omega arith
feeds_append (b ∷ x) y = omega (arith, feeds_append x y)

feeds_drop : (n : ℕ) (s : List ℕ) → feeds (drop n s) ≤ feeds s
unfolding feeds
feeds_drop zero s = omega arith
feeds_drop (suc n) [] = omega arith
feeds_drop (suc n) (b ∷ s) = omega (arith, feeds_drop n s)

-- with marks of at most 48 bytes
marked_from_le : (mark : List ℕ) (begins : Bool) (s : List ℕ) → length mark ≤ 48 → length (marked_from mark begins s) ≤ length s + 48 * (cond begins 1 0 + feeds s)
unfolding marked_from feeds feed_of
marked_from_le mark begins [] h = omega arith
marked_from_le mark begins (b ∷ s) h =
    let k = marked_from_le mark (eqb b line_feed) s h in
    let m : length (cond begins mark []) ≤ 48 * cond begins 1 0 = go begins in
    rw (length-append (cond begins mark []) (b ∷ marked_from mark (eqb b line_feed) s)) (omega (arith, k, m))
  where
    go : (t : Bool) → length (cond t mark []) ≤ 48 * cond t 1 0
    go true = omega arith
    go false = omega arith

marked_le : (mark s : List ℕ) (a b : ℕ) → length mark ≤ 48 → length s ≤ a → feeds s ≤ b → length (marked mark s) ≤ a + 48 * (1 + b)
marked_le mark s a b h k l = omega (arith, marked_from_le mark true s h)

-- ---- digits are no line feeds

digit_feeds : (n : ℕ) → 10 < n → feed_of n ≡ 0
unfolding feed_of
digit_feeds n h = rw (ne_eqb n line_feed (λ e. omega arith))

decimal_feeds : (k n : ℕ) → feeds (decimal_in k n) ≡ 0
unfolding decimal_in feeds
decimal_feeds zero n = refl
decimal_feeds (suc k) n =
    by_test (λ (s : List ℕ). feeds s ≡ 0) (ltb n 10) (omega (arith, digit_feeds (48 + n) (omega arith)))
    (feeds_append (decimal_in k (n / 10)) ((48 + n % 10) ∷ []) ∙ omega (arith, decimal_feeds k (n / 10), digit_feeds (48 + n % 10) (omega arith)))

glyph_feeds : (n : ℕ) → feed_of (glyph_of n) ≡ 0
glyph_feeds n = by_test (λ (b : ℕ). feed_of b ≡ 0) (ltb n 10) (digit_feeds (48 + n) (omega arith)) (digit_feeds (87 + n) (omega arith))

hexed_feeds : (n : ℕ) (s : List ℕ) → feeds (hexed_in n s) ≡ 0
unfolding hexed_in hex_pair feeds
hexed_feeds zero s = refl
hexed_feeds (suc n) s =
    feeds_append (hexed_in n s) (hex_pair (get_or s n 0)) ∙ omega (arith, hexed_feeds n s, glyph_feeds (get_or s n 0 / 16), glyph_feeds (get_or s n 0 % 16))

-- ---- the rows of a services list

field_feeds : (v : ℕ) → feeds (field v) ≡ 0
unfolding field feeds feed_of
field_feeds v = omega (arith, decimal_feeds 20 v)

end_feeds : feeds (line_feed ∷ []) ≡ 1
unfolding feeds feed_of
end_feeds = refl

row_feeds : (name : List ℕ) (v : ℕ) → feeds name ≡ 0 → feeds (row name v) ≡ 1
unfolding row
row_feeds name v h = simp feeds_append (omega (arith, field_feeds v, end_feeds))

open_feeds : feeds (ascii "[") ≡ 0
unfolding feeds feed_of
open_feeds = refl

close_feeds : feeds (ascii "]") ≡ 0
unfolding feeds feed_of
close_feeds = refl

indexed_feeds : (name : List ℕ) (i v : ℕ) → feeds name ≡ 0 → feeds (indexed_row name i v) ≡ 1
unfolding indexed_row
indexed_feeds name i v h = simp feeds_append (omega (arith, open_feeds, close_feeds, decimal_feeds 20 i, field_feeds v, end_feeds))

joined_feeds : (f : ℕ → List ℕ) (b n : ℕ) → ((i : ℕ) → i < n → feeds (f i) ≤ b) → feeds (joined f n) ≤ b * n
unfolding joined feeds
joined_feeds f b zero h = omega (arith, mul-zero b)
joined_feeds f b (suc n) h = omega (arith, mul-suc b n, feeds_append (joined f n) (f n), joined_feeds f b n (λ i l. h i (omega arith)), h n (omega arith))

id_feeds : (i : ℕ) (id : ServiceId) → feeds (ascii "DeviceServiceId[") ≡ 0 → feeds (ascii "]\t") ≡ 0 → feeds (id_row i id) ≡ 1
unfolding id_row
id_feeds i id p q = simp feeds_append (omega (arith, decimal_feeds 20 i, hexed_feeds (length (id_bytes id)) (id_bytes id), end_feeds))

cid_feeds : (i j cid : ℕ) → feeds (ascii "Cid[") ≡ 0 → feeds (ascii "][") ≡ 0 → feeds (cid_row i j cid) ≡ 1
unfolding cid_row
cid_feeds i j cid p q = simp feeds_append (omega (arith, decimal_feeds 20 i, decimal_feeds 20 j, close_feeds, field_feeds cid, end_feeds))

cids_feeds : (s : List ℕ) (at i n : ℕ) → feeds (cid_rows s at i n) ≤ 1 * n
unfolding cid_rows feeds feed_of
cids_feeds s at i n = joined_feeds (λ j. cid_row i j (cid_at s at j)) 1 n (λ j l. omega (arith, cid_feeds i j (cid_at s at j) refl refl))

element_feeds : (s : List ℕ) (at i : ℕ) → cid_count_at s at ≤ 128 → feeds (element_rows s at i) ≤ 132
unfolding element_rows element_at feeds feed_of
element_feeds s at i h =
    let e = element_at s at in
    simp feeds_append
    (omega (arith, id_feeds i e.device_service_id refl refl, indexed_feeds (ascii "DssPayload") i e.dss_payload refl, indexed_feeds (ascii "MaxDssInstances") i e.max_dss_instances refl, indexed_feeds (ascii "CidCount") i e.cid_count refl, cids_feeds s at i e.cid_count))

header_feeds : feeds header ≡ 1
unfolding header feeds feed_of
header_feeds = refl

services_feeds : (s : List ℕ) → feeds (services_text s (services_read Strict s)) ≤ 4300
unfolding services_text elements_rows feeds feed_of
services_feeds s = go (services_read Strict s) refl
  where
    go : (r : DeviceServicesRead) → services_read Strict s ≡ r → feeds (services_text s r) ≤ 4300
    go (Err r) e = omega (arith, feeds_le (refused_line r), refused_le r)
    go (Ok p) e =
        let k = few_cids Strict s e in
        let n = p.device_services_count in
        simp feeds_append
        (omega (arith, k.0, header_feeds, row_feeds (ascii "DeviceServicesCount") n refl, row_feeds (ascii "MaxDssSessions") p.max_dss_sessions refl, joined_feeds (λ i. element_rows s (offset_of s i) i) 132 n (λ i l. element_feeds s (offset_of s i) i (k.1 i l))))

-- ---- any listing, with marks

Fits : List ℕ → Type 0
Fits s = (mark : List ℕ) → length mark ≤ 48 → length (marked mark (without_header s)) ≤ 735000

-- short, or of few rows
few : (s : List ℕ) (a b : ℕ) → length s ≤ a → feeds s ≤ b → a + 48 * (1 + b) ≤ 735000 → Fits s
unfolding Fits
few s a b h k l mark m =
    let n = header_in s in
    omega (arith, marked_le mark (drop n s) a b m (rw (length-drop n s) (omega arith)) (omega (arith, feeds_drop n s)))

short : (s : List ℕ) → length s ≤ 10000 → Fits s
short s h = few s 10000 10000 h (omega (arith, feeds_le s)) (omega arith)

payload_fits : (kind : Kind) (v : Version) (s : List ℕ) → Fits (payload_text kind v s)
unfolding payload_text
payload_fits kinds.PacketService v s = short _ (omega (arith, packet_le v s))
payload_fits kinds.VersionInfo v s = short _ (omega (arith, version_le s))
payload_fits kinds.RegisterState v s = short _ (omega (arith, registration_le v Strict s))
payload_fits kinds.SignalState v s = short _ (signal_le v Strict s)
payload_fits kinds.DeviceServices v s = few _ 524288 4300 (services_le Strict s) (services_feeds s) (omega arith)
payload_fits kinds.SetPin v s = short _ (omega (arith, set_pin_le Strict s))
payload_fits kinds.PinInfo v s = short _ (omega (arith, pin_info_le s))

none_fits : Fits []
none_fits = short [] (omega arith)

shown_fits : (v : Version) (information : List ℕ) (x : Shown) → Fits (fields_by v information x)
unfolding fields_by
shown_fits v information (Ok (Some kind)) = payload_fits kind v information
shown_fits v information (Ok None) = none_fits
shown_fits v information (Err r) = none_fits

received_fits : (v : Version) (information : List ℕ) (x : (Result Received Refusal)) → Fits (fields_in v information x)
unfolding fields_in
received_fits v information (Ok (received.Complete m n d)) = shown_fits v information (shown_of m)
received_fits v information (Ok (received.Whole t k w)) = none_fits
received_fits v information (Ok (received.Pending t k d)) = none_fits
received_fits v information (Err r) = none_fits

fields_fit : (x : (Result Piece Refusal)) (information : List ℕ) → Fits (fields_of x information)
unfolding fields_of
fields_fit (Err r) information = none_fits
fields_fit (Ok piece) information = received_fits piece.version information piece.received

pub line_fits : LineFits
unfolding answer_text Fits
line_fits number x information =
    let mark = mark_of number x in
    let m = mark_le number x in
    rw (length-append (marked mark (head_of x)) (marked mark (without_header (fields_of x information))))
    (omega (arith, marked_le mark (head_of x) 1024 1024 m (head_le x) (omega (arith, feeds_le (head_of x), head_le x)), fields_fit x information mark m))
