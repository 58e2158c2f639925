-- Laws of request lines: what a payload's place and digits keep to.
-- Assumes nothing.
use mathlib.Core.Path.{◌≡◌, refl, ap}
use mathlib.Core.List.{List, ◌∷◌, map}
use Prim.Native.Nat.{ℕ, suc, ◌+◌, ◌<◌}
use native.Mathlib.Numerals.{add-one}
use native.Mathlib.Omega.{arith}
use lib.ListN.{get_or, drop}
use lib.Seq.{drop-cons}
use Rattle.protocol.specs.declared.Version.{Version}
use Rattle.text_parts.specs.Words.{word, also_word, reach_from}
use Rattle.text_parts.specs.Hex.{line_end_at}
use Rattle.text_parts.proofs.Ends.{Within, end_within}
use Rattle.request_line.specs.Good.{kind_text, most_digits}
use Rattle.request_line.specs.Request.{payload_by, payload_at, by_version, by_kind, request_of, kind_length, kind_word, kinds, kind_words, version_words}
use Rattle.protocol.specs.declared.service.Kind.{Kind}
use Rattle.protocol.specs.declared.service.Kind.TheVariants.{RegisterState}
use Rattle.request_line.specs.declared.Request.{Request}
use Rattle.std.specs.Prelude.{Ok, Err}
use Rattle.text_parts.specs.Hex.{LineEnd}
use Rattle.text_parts.specs.Words.{Reached}

payload_within : (s : List ℕ) (kind : Kind) (version : Version) (from : ℕ) (k : Kind) (v : Version) (f n : ℕ)
    → payload_at s kind version from ≡ Ok (record { kind = k; version = v; from = f; digits = n }) → Within most_digits s f n
unfolding payload_at
payload_within s kind version from k v f n e = go (line_end_at most_digits s from) refl e
  where
    go : (x : LineEnd) → line_end_at most_digits s from ≡ x → payload_by kind version from x ≡ Ok (record { kind = k; version = v; from = f; digits = n }) → Within most_digits s f n
    go (Err c) h p = let z : ◌≡◌ {A = ℕ} 0 1 = cc in absurd (omega arith)
    go (Ok m) h p =
        let same : ◌≡◌ {A = Request} (record { kind = kind; version = version; from = from; digits = m }) (record { kind = k; version = v; from = f; digits = n }) = cc in
        let d : m ≡ n = ap (λ (r : Request). r.digits) same in
        let t : from ≡ f = ap (λ (r : Request). r.from) same in
        rw (← d, ← t) (end_within most_digits s from m h)

version_within : (s : List ℕ) (kind : Kind) (at : ℕ) (r : Reached Version) (k : Kind) (v : Version) (f n : ℕ)
    → by_version s kind at r ≡ Ok (record { kind = k; version = v; from = f; digits = n }) → Within most_digits s f n
version_within s kind at (Err c) k v f n e = let z : ◌≡◌ {A = ℕ} 0 1 = cc in absurd (omega arith)
version_within s kind at (Ok w) k v f n e = payload_within s kind w (at + 5) k v f n e

kind_within : (s : List ℕ) (r : Reached Kind) (k : Kind) (v : Version) (f n : ℕ) → by_kind s r ≡ Ok (record { kind = k; version = v; from = f; digits = n }) → Within most_digits s f n
kind_within s (Err c) k v f n e = let z : ◌≡◌ {A = ℕ} 0 1 = cc in absurd (omega arith)
kind_within s (Ok w) k v f n e =
    version_within s w (kind_length w) (reach_from (Err (kind_length w)) s (kind_length w) version_words) k v f n e

pub within : (s : List ℕ) (k : Kind) (v : Version) (f n : ℕ) → request_of s ≡ Ok (record { kind = k; version = v; from = f; digits = n }) → Within most_digits s f n
unfolding request_of
within s k v f n e = kind_within s (reach_from (Err 0) s 0 kind_words) k v f n e

-- a kind's word is tried, and those behind it are left
pub kinds_more : (reached r z : Reached Kind) (s w : List ℕ) (i : ℕ) → i < 7 → w ≡ kind_text (get_or kinds i RegisterState)
    → r ≡ also_word reached s 0 (word w (get_or kinds i RegisterState)) → reach_from reached s 0 (map kind_word (drop i kinds)) ≡ z
    → reach_from r s 0 (map kind_word (drop (i + 1) kinds)) ≡ z
kinds_more reached r z s w i h e f q =
    let d : drop i kinds ≡ get_or kinds i RegisterState ∷ drop (suc i) kinds = drop-cons kinds i RegisterState h in
    rw (f, e, add-one i) (rw d at q)
