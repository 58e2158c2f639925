-- What is kept of a line decides: its first 16,640 bytes give the listing of the whole.
-- Assumes nothing.
use mathlib.Core.Path.{◌≡◌, refl, ap, ◌∙◌}
use mathlib.Core.Bool.{Bool, true, false}
use mathlib.Core.List.{List}
use Prim.Native.Nat.{ℕ, ◌/◌, ◌≤◌}
use native.Mathlib.Omega.{arith}
use borrow.Author.Tests.{leb-true, leb-false}
use lib.Dec.{leb}
use lib.ListN.{length, take, length-take}
use lib.Seq.{take_all}
use Rattle.ascii.specs.Ascii.{unhexed}
use Rattle.text_parts.proofs.Cut.{part_front}
use Rattle.request_line.specs.Request.{request_of}
use Rattle.request_line.specs.declared.Request.{Request}
use Rattle.request_line.proofs.Requests.{within}
use Rattle.request_line.proofs.Cut.{request_cut}
use Rattle.listing.specs.Listing.{payload_text, spelled_text, request_text, line_text, LineCut}
use Rattle.std.specs.Prelude.{Ok, Err, Result}

text_cut : (n : ℕ) (s : List ℕ) (r : (Result Request ℕ)) → request_of (take n s) ≡ r → request_text (take n s) r ≡ request_text s r
unfolding request_text spelled_text
text_cut n s (Err c) e = refl
text_cut n s (Ok request) e =
    let w = within (take n s) request.kind request.version request.from request.digits e in
    ap (λ (x : List ℕ). payload_text request.kind request.version (unhexed (request.digits / 2) x)) (part_front request.from request.digits n s (omega (arith, w.0, length-take n s)))

-- a line and its front of at least 16,407 bytes have the same listing
pub line_cut : LineCut
unfolding line_text
line_cut n s h = go (leb n (length s)) refl
  where
    go : (t : Bool) → leb n (length s) ≡ t → request_text (take n s) (request_of (take n s)) ≡ request_text s (request_of s)
    go true e = text_cut n s (request_of (take n s)) refl ∙ ap (request_text s) (request_cut n s h (leb-true n (length s) e))
    go false e = let l : length s ≤ n = omega (arith, leb-false n (length s) e) in rw (take_all n s l)
