-- The length of the bytes, and what a writer stores.
-- Assumes nothing.
use mathlib.Core.Path.{◌≡◌, refl, sym, ◌∙◌}
use mathlib.Core.List.{List, ◌++◌}
use Prim.Native.Nat.{ℕ, ◌≤◌}
use native.Mathlib.Omega.{arith}
use lib.ListN.{length, take, drop}
use lib.Seq.{sets}
use Rattle.wire.specs.Output.{over}
use Rattle.wire.proofs.Laws.{front_filled, sets_over}
use Rattle.packet_service.specs.declared.PacketForm.{PacketForm}
use Rattle.packet_service.specs.declared.PacketForm.TheVariants.{V1 as Form1, V2 as Form2}
use Rattle.packet_service.specs.declared.PacketService.{PacketService}
use Rattle.packet_service.specs.PacketService.{length_of, version_in, version_of, class_in, shared_bytes, range_bytes, bytes_of}

-- the bytes are as many as the form has
pub length_bytes : (p : PacketService) → length (bytes_of p) ≡ length_of (version_of p)
unfolding bytes_of shared_bytes
length_bytes p = by_form p.form
  where
    by_form : (f : PacketForm) → length (shared_bytes p (class_in f) ++ range_bytes f) ≡ length_of (version_in f)
    by_form (Form1 class) = refl
    by_form (Form2 class range) = refl

-- what is stored into the first n bytes of an output, before what stands behind them
pub stored : (p : PacketService) (s : List ℕ) (n : ℕ) {t : List ℕ} → n ≡ length_of (version_of p) → n ≤ length s → t ≡ sets (take n s) 0 (bytes_of p)
    → t ++ drop n s ≡ over (bytes_of p) s
stored p s n e h q =
    let long : length (bytes_of p) ≡ n = length_bytes p ∙ sym e in
    front_filled (bytes_of p) s n long h q ∙ sets_over (bytes_of p) s (omega arith)
