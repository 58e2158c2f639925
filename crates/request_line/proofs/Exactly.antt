-- A line is accepted exactly where it is good, with its parts; else the column is where its longest good beginning ends.
-- Assumes nothing.
use mathlib.Core.Path.{◌≡◌, refl, sym, ap, ◌∙◌}
use mathlib.Core.List.{List, [], ◌∷◌, ◌++◌}
use Prim.Native.Nat.{ℕ, ◌+◌}
use lib.ListN.{length, drop}
use Rattle.ascii.specs.Ascii.{line_feed, agreement}
use Rattle.protocol.specs.declared.Version.{Version}
use Rattle.protocol.specs.declared.Version.TheVariants.{V1, V2}
use Rattle.text_parts.specs.Parts.{Longest}
use Rattle.text_parts.specs.Hex.{HexDigits}
use Rattle.text_parts.proofs.Parts.{longest_one}
use Rattle.text_parts.proofs.Ends.{end_found}
use Rattle.request_line.specs.Good.{kind_text, version_text, most_digits, text_of, Good, GoodWith}
use Rattle.request_line.specs.Request.{payload_by, payload_at, request_of}
use Rattle.protocol.specs.declared.service.Kind.{Kind}
use Rattle.protocol.specs.declared.service.Kind.TheVariants.{PacketService, VersionInfo, RegisterState, SignalState, DeviceServices, SetPin, PinInfo}
use Rattle.request_line.specs.declared.Request.{Request}
use Rattle.request_line.proofs.Columns.{request_right}
use Rattle.request_line.specs.Claims.{AcceptedExactly, BadExactly}
use Rattle.std.specs.Prelude.{Ok, Err, Result}

-- ---- the parts of a good line are found

module _ (hex : List ℕ) (p : HexDigits most_digits hex) where
  payload_found : (s : List ℕ) (kind : Kind) (v : Version) (from : ℕ) → drop from s ≡ hex ++ (line_feed ∷ []) → payload_at s kind v from ≡ Ok (record { kind = kind; version = v; from = from; digits = (length hex) })
  unfolding payload_at
  payload_found s kind v from e = ap (payload_by kind v from) (end_found most_digits hex p s from e)

  request_found : (kind : Kind) (v : Version) → request_of (text_of kind v hex) ≡ Ok (record { kind = kind; version = v; from = (length (kind_text kind) + length (version_text v)); digits = (length hex) })
  unfolding request_of agreement
  request_found PacketService V1 = payload_found (text_of PacketService V1 hex) PacketService V1 20 refl
  request_found PacketService V2 = payload_found (text_of PacketService V2 hex) PacketService V2 20 refl
  request_found VersionInfo V1 = payload_found (text_of VersionInfo V1 hex) VersionInfo V1 13 refl
  request_found VersionInfo V2 = payload_found (text_of VersionInfo V2 hex) VersionInfo V2 13 refl
  request_found RegisterState V1 = payload_found (text_of RegisterState V1 hex) RegisterState V1 18 refl
  request_found RegisterState V2 = payload_found (text_of RegisterState V2 hex) RegisterState V2 18 refl
  request_found SignalState V1 = payload_found (text_of SignalState V1 hex) SignalState V1 18 refl
  request_found SignalState V2 = payload_found (text_of SignalState V2 hex) SignalState V2 18 refl
  request_found DeviceServices V1 = payload_found (text_of DeviceServices V1 hex) DeviceServices V1 21 refl
  request_found DeviceServices V2 = payload_found (text_of DeviceServices V2 hex) DeviceServices V2 21 refl
  request_found SetPin V1 = payload_found (text_of SetPin V1 hex) SetPin V1 13 refl
  request_found SetPin V2 = payload_found (text_of SetPin V2 hex) SetPin V2 13 refl
  request_found PinInfo V1 = payload_found (text_of PinInfo V1 hex) PinInfo V1 14 refl
  request_found PinInfo V2 = payload_found (text_of PinInfo V2 hex) PinInfo V2 14 refl

-- ---- the claims

-- (1) accepted exactly: the answer is a payload with these parts where the line is good with them, and nowhere else
pub accepted : (s : List ℕ) (kind : Kind) (v : Version) (from n : ℕ) → request_of s ≡ Ok (record { kind = kind; version = v; from = from; digits = n }) → GoodWith s kind v from n
accepted s kind v from n e =
    let g : Good s = rw e at (request_right s) in
    let a : Request = record { kind = kind; version = v; from = from; digits = n } in
    let b : Request = record { kind = g.0; version = g.1; from = length (kind_text g.0) + length (version_text g.1); digits = length g.2 } in
    let same : ◌≡◌ {A = Result Request ℕ} (Ok a) (Ok b) = sym e ∙ ap request_of g.4 ∙ request_found g.2 g.3 g.0 g.1 in
    let p : a ≡ b = cc in
    let k : g.0 ≡ kind = sym (ap (λ (r : Request). r.kind) p) in
    let w : g.1 ≡ v = sym (ap (λ (r : Request). r.version) p) in
    (g.2, g.3, rw (k, w) at g.4, rw (k, w) at (ap (λ (r : Request). r.from) p), ap (λ (r : Request). r.digits) p)

pub acceptable : (s : List ℕ) (kind : Kind) (v : Version) (from n : ℕ) → GoodWith s kind v from n → request_of s ≡ Ok (record { kind = kind; version = v; from = from; digits = n })
acceptable s kind v from n g = rw (g.2, g.3, g.4) (request_found g.0 g.1 kind v)

pub accepted_exactly : AcceptedExactly
accepted_exactly s kind v from n = (accepted s kind v from n, acceptable s kind v from n)

-- (2) the column: the first c bytes begin a good line and no more do, and the line is not good itself
pub bad_column : (s : List ℕ) (c : ℕ) → request_of s ≡ Err c → Longest Good s c × (Good s → ⊥)
bad_column s c e = rw e at (request_right s)

pub column_bad : (s : List ℕ) (c : ℕ) → Longest Good s c → (Good s → ⊥) → request_of s ≡ Err c
column_bad s c p never = go (request_of s) refl
  where
    go : (r : (Result Request ℕ)) → request_of s ≡ r → r ≡ Err c
    go (Ok request) e = absurd (never (rw e at (request_right s)))
    go (Err d) e = ap Err (longest_one Good s d c (bad_column s d e).0 p)

pub bad_exactly : BadExactly
bad_exactly s c = (bad_column s c, λ h. column_bad s c h.0 h.1)
