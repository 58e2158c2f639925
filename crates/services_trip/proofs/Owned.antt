-- A record that a program has holds numbers of their width and arrays of their length.
-- Assumes nothing.
use mathlib.Core.List.{List, [], ◌∷◌}
use Prim.Native.Nat.{ℕ, zero, suc, ◌<◌}
use native.Mathlib.Omega.{arith}
use lib.ListN.{length, get_or}
use mir.Val.{Val}
use mir.Syntax.{w32}
use borrow.Author.Rules.{elem_Fits}
use denote.Array.{each}
use denote.Shadow.{shadow}
use Rattle.services_writer.specs.contracts.ServiceElement as Element
use Rattle.services_writer.specs.declared.ServiceElement.{ServiceElement}
use Rattle.services_trip.specs.ServicesTrip.{ElementOfWidth}

element_sized : (e : ServiceElement) (vs : List Val) → shadow ((Element.the_row).own_val e vs) → ElementOfWidth e
element_sized e vs p = record {
  fields = record {
    word0 = omega (arith, p.1.1.0);
    word1 = omega (arith, p.1.1.0);
    word2 = omega (arith, p.1.1.0);
    word3 = omega (arith, p.1.1.0);
    payload = omega (arith, p.1.1.0);
    instances = omega (arith, p.1.1.0);
    cids = omega (arith, p.1.1.0);
  };
  cids = λ k. (elem_Fits w32 w32 e.cids p.1.1.1.0.0 k p.1.1.1.0.1.1 tt).fits;
  full = λ h. omega (arith, p.1.1.1.0.1.0.1);
}

-- each element of an array
pub elements_sized : (es : List ServiceElement) (us : List Val) (i : ℕ) (z : ServiceElement) → i < length es
    → shadow (each (Element.the_row).Denot (Element.the_row).own_val es us) → ElementOfWidth (get_or es i z)
elements_sized [] us i z h p = absurd (omega arith)
elements_sized (e ∷ es) [] i z h p = absurd p
elements_sized (e ∷ es) (u ∷ us) zero z h p = element_sized e (u ∷ []) p.0
elements_sized (e ∷ es) (u ∷ us) (suc i) z h p = elements_sized es us i z (omega arith) p.1
