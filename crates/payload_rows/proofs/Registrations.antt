-- The texts of an accepted payload can be listed: they are inside it and within their limits.
-- Assumes nothing.
use mathlib.Core.Path.{◌≡◌}
use mathlib.Core.List.{List}
use Prim.Native.Nat.{ℕ}
use native.Mathlib.Omega.{arith}
use Rattle.protocol.specs.declared.Version.{Version}
use Rattle.pairs.specs.Pair.{range_at}
use Rattle.pairs.specs.declared.ZeroSize.{ZeroSize}
use Rattle.registration.specs.Registration.{read_with, pairs_at, texts_at, fixed_part}
use Rattle.registration.specs.declared.Registration.{Registration}
use Rattle.registration.specs.declared.RegistrationTexts.{RegistrationTexts}
use Rattle.registration.proofs.Acceptance.{accepted}
use Rattle.payload_rows.specs.Registrations.{ListableTexts}
use Rattle.payload_rows.proofs.Ranges.{listable}
use Rattle.std.specs.Prelude.{Ok}

pub listable_texts : (v : Version) (z : ZeroSize) (s : List ℕ) (p : Registration) (t : RegistrationTexts) → read_with v z s ≡ Ok (p, t) → ListableTexts t s
unfolding texts_at pairs_at
listable_texts v z s p t e =
    let k = accepted v z s p t e in
    rw k.1.1 (record {
      id = listable z (fixed_part v) 12 s (range_at s 20) (omega arith) k.0.id;
      name = listable z (fixed_part v) 40 s (range_at s 28) (omega arith) k.0.name;
      roaming = listable z (fixed_part v) 126 s (range_at s 36) (omega arith) k.0.roaming;
    })
