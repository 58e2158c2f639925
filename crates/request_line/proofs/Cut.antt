-- What is kept of a line decides: a line and its front of at least 16,407 bytes ask for the same.
-- Assumes nothing.
use mathlib.Core.Path.{◌≡◌, refl, ap, ◌∙◌}
use mathlib.Core.List.{List}
use Prim.Native.Nat.{ℕ, ◌+◌, ◌≤◌}
use native.Mathlib.Omega.{arith}
use lib.ListN.{length, take}
use Rattle.protocol.specs.declared.Version.{Version}
use Rattle.text_parts.specs.Words.{reach_from}
use Rattle.text_parts.proofs.Cut.{reach_cut}
use Rattle.text_parts.proofs.Ends.{end_cut}
use Rattle.request_line.specs.Good.{most_digits}
use Rattle.request_line.specs.Request.{kind_words, version_words, kind_length, payload_by, payload_at, by_version, by_kind, request_of}
use Rattle.protocol.specs.declared.service.Kind.{Kind}
use Rattle.protocol.specs.declared.service.Kind.TheVariants.{PacketService, VersionInfo, RegisterState, SignalState, DeviceServices, SetPin, PinInfo}
use Rattle.std.specs.Prelude.{Ok, Err}
use Rattle.text_parts.specs.Words.{Reached}

payload_cut : (from n : ℕ) (s : List ℕ) (kind : Kind) (version : Version) → from + 16386 ≤ n → n ≤ length s
    → payload_at (take n s) kind version from ≡ payload_at s kind version from
unfolding payload_at
payload_cut from n s kind version h l = ap (payload_by kind version from) (end_cut most_digits from n s (omega arith) l)

-- ---- what a long line asks for, cut or whole

version_cut : (kind : Kind) (at n : ℕ) (s : List ℕ) (r : Reached Version) → at + 16391 ≤ n → n ≤ length s → by_version (take n s) kind at r ≡ by_version s kind at r
version_cut kind at n s (Err c) h l = refl
version_cut kind at n s (Ok w) h l = payload_cut (at + 5) n s kind w (omega arith) l

after_kind : (kind : Kind) (n : ℕ) (s : List ℕ) → 16407 ≤ n → n ≤ length s
    → by_version (take n s) kind (kind_length kind) (reach_from (Err (kind_length kind)) (take n s) (kind_length kind) version_words)
    ≡ by_version s kind (kind_length kind) (reach_from (Err (kind_length kind)) s (kind_length kind) version_words)
after_kind kind n s h l =
    let at = kind_length kind in
    let k : at ≤ 16 = short kind in
    ap (by_version (take n s) kind at) (reach_cut version_words (Err at) at n s (omega arith, (omega arith, tt)))
    ∙ version_cut kind at n s (reach_from (Err at) s at version_words) (omega arith) l
  where
    short : (x : Kind) → kind_length x ≤ 16
    short PacketService = omega arith
    short VersionInfo = omega arith
    short RegisterState = omega arith
    short SignalState = omega arith
    short DeviceServices = omega arith
    short SetPin = omega arith
    short PinInfo = omega arith

kind_cut : (n : ℕ) (s : List ℕ) (r : Reached Kind) → 16407 ≤ n → n ≤ length s → by_kind (take n s) r ≡ by_kind s r
kind_cut n s (Err c) h l = refl
kind_cut n s (Ok w) h l = after_kind w n s h l

pub request_cut : (n : ℕ) (s : List ℕ) → 16407 ≤ n → n ≤ length s → request_of (take n s) ≡ request_of s
unfolding request_of
request_cut n s h l =
    ap (by_kind (take n s)) (reach_cut kind_words (Err 0) 0 n s (omega arith, (omega arith, (omega arith, (omega arith, (omega arith, (omega arith, (omega arith, tt)))))))) ∙ kind_cut n s (reach_from (Err 0) s 0 kind_words) h l
