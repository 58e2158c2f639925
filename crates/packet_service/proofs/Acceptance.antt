-- A payload is accepted exactly when it meets the rules in words of fields, and then the record shown is the one at its places; a record is written
-- exactly when its fields meet them.
-- Assumes nothing.
use mathlib.Core.Path.{◌≡◌, refl, sym}
use mathlib.Core.Logic.{⊎_map}
use mathlib.Core.Bool.{false, not, ◌||◌}
use mathlib.Core.List.{List}
use Prim.Native.Nat.{ℕ}
use borrow.Author.Tests.{ltb-false, le-ltb, eqb-true, eq-eqb}
use lib.Dec.{eqb}
use lib.ListN.{length}
use Rattle.wire.specs.Numbers.{u32_at}
use Rattle.protocol.specs.Verdict.{Kept, judge, first_of, exact_length, no_fault, Verdict}
use Rattle.protocol.specs.declared.Version.{Version}
use Rattle.protocol.specs.declared.Version.TheVariants.{V1, V2}
use Rattle.protocol.proofs.Tests.{or_cases, cases_or, and_cases, cases_and, not_kept, kept_not, equal_kept, kept_equal}
use Rattle.protocol.proofs.Verdicts.{fits_kept, kept_fits, then_kept, kept_then, exact_length_lem, length_exact, written_both, both_written}
use Rattle.packet_service.specs.declared.PacketForm.{PacketForm}
use Rattle.packet_service.specs.declared.PacketForm.TheVariants.{V1 as Form1, V2 as Form2}
use Rattle.packet_service.specs.declared.PacketService.{PacketService}
use Rattle.packet_service.specs.PacketService.{length_of, record_at, packet_class, later_rules, form_rules, rules, verdict_of, shown, read_of, bytes_of, write_of}
use Rattle.packet_service.specs.Claims.{PacketClass, LaterFits, Acceptable, FormWritable, Writable, Accepted, AcceptedExactly, WrittenExactly}
use Rattle.packet_service.proofs.Hspa.{class_exactly}
use Rattle.std.specs.Prelude.{Ok, Err}

-- ---- each rule as a fact

class_said : (v : Version) (class : ℕ) → not (packet_class v class) ≡ false → PacketClass v class
class_said v class e = (class_exactly v class).0 (not_kept (packet_class v class) e)

said_class : (v : Version) (class : ℕ) → PacketClass v class → not (packet_class v class) ≡ false
said_class v class h = kept_not (packet_class v class) ((class_exactly v class).1 h)

later_said : (state class range : ℕ) → Kept (later_rules state class range) → LaterFits state class range
unfolding later_rules
later_said state class range k = record {
  small = ltb-false 3 range k.1.0;
  attached = ⊎_map (equal_kept class 0) (equal_kept state 2) (and_cases (not (eqb class 0)) (not (eqb state 2)) k.1.1.0);
  ranged =
      ⊎_map (equal_kept range 0)
      (λ e. ⊎_map (eqb-true class 0x40) (eqb-true class 0x80) (or_cases (eqb class 0x40) (eqb class 0x80) (not_kept (eqb class 0x40 || eqb class 0x80) e)))
      (and_cases (not (eqb range 0)) (not (eqb class 0x40 || eqb class 0x80)) k.1.1.1.0);
}

said_later : (state class range : ℕ) → PacketClass V2 class → LaterFits state class range → Kept (later_rules state class range)
unfolding later_rules
said_later state class range c f = (
  said_class V2 class c,
  (
    le-ltb 3 range f.small,
    (
      cases_and (not (eqb class 0)) (not (eqb state 2)) (⊎_map (kept_equal class 0) (kept_equal state 2) f.attached),
      (
        cases_and (not (eqb range 0)) (not (eqb class 0x40 || eqb class 0x80))
            (⊎_map (kept_equal range 0)
            (λ h. kept_not (eqb class 0x40 || eqb class 0x80) (cases_or (eqb class 0x40) (eqb class 0x80) (⊎_map (eq-eqb class 0x40) (eq-eqb class 0x80) h))) f.ranged),
        tt,
      ),
    ),
  ),
)

-- ---- the rules of a payload

fields_said : (v : Version) (s : List ℕ) → length s ≡ length_of v → Kept (rules (record_at v s)) → Acceptable v s
unfolding rules record_at form_rules later_rules
fields_said V1 s l k = record { long = l; state = ltb-false 4 (u32_at s 4) k.0; class = class_said V1 (u32_at s 8) k.1.0; form = tt }
fields_said V2 s l k = record {
  long = l;
  state = ltb-false 4 (u32_at s 4) k.0;
  class = class_said V2 (u32_at s 8) k.1.0;
  form = later_said (u32_at s 4) (u32_at s 8) (u32_at s 28) k.1;
}

said_fields : (v : Version) (s : List ℕ) → Acceptable v s → Kept (rules (record_at v s))
unfolding rules record_at form_rules
said_fields V1 s a = (le-ltb 4 (u32_at s 4) a.state, (said_class V1 (u32_at s 8) a.class, tt))
said_fields V2 s a = (le-ltb 4 (u32_at s 4) a.state, said_later (u32_at s 4) (u32_at s 8) (u32_at s 28) a.class a.form)

-- ---- accepted exactly when the rules hold

shows : (d : Verdict) (p q : PacketService) → shown d p ≡ Ok q → (d ≡ no_fault) × (p ≡ q)
shows (Ok _) p q e = (refl, cc)
shows (Err r) p q e = cc

-- an accepted payload keeps the rules, and shows the record at its places
pub accepted : Accepted
unfolding read_of verdict_of
accepted v s p e =
    let d = shows _ (record_at v s) p e in
    let k = then_kept (exact_length (length_of v) (length s)) (rules (record_at v s)) d.0 in
    (fields_said v s (exact_length_lem (length_of v) (length s) k.0) k.1, sym d.1)

pub acceptable : (v : Version) (s : List ℕ) → Acceptable v s → read_of v s ≡ Ok (record_at v s)
unfolding read_of verdict_of
acceptable v s a =
    let f : first_of (exact_length (length_of v) (length s)) (judge (rules (record_at v s))) ≡ no_fault =
    kept_then (exact_length (length_of v) (length s)) (rules (record_at v s)) (length_exact (length_of v) (length s) a.long) (said_fields v s a) in
    rw f

pub accepted_exactly : AcceptedExactly
accepted_exactly v s = (λ e. (accepted v s (record_at v s) e).0, acceptable v s)

-- ---- written exactly when the fields are in their tables and there is room

form_said : (state : ℕ) (f : PacketForm) → Kept (form_rules state f) → FormWritable state f
unfolding form_rules later_rules
form_said state (Form1 class) k = class_said V1 class k.0
form_said state (Form2 class range) k = (class_said V2 class k.0, later_said state class range k)

said_form : (state : ℕ) (f : PacketForm) → FormWritable state f → Kept (form_rules state f)
unfolding form_rules
said_form state (Form1 class) w = (said_class V1 class w, tt)
said_form state (Form2 class range) w = said_later state class range w.0 w.1

writable_said : (p : PacketService) → verdict_of p ≡ no_fault → Writable p
unfolding verdict_of rules
writable_said p e =
    let k = fits_kept (rules p) e in
    record { state = ltb-false 4 p.packet_service_state k.0; form = form_said p.packet_service_state p.form k.1 }

said_writable : (p : PacketService) → Writable p → verdict_of p ≡ no_fault
unfolding verdict_of rules
said_writable p w = kept_fits (rules p) (le-ltb 4 p.packet_service_state w.state, said_form p.packet_service_state p.form w.form)

pub written_exactly : WrittenExactly
unfolding write_of
written_exactly p s = (
  λ e. let w = written_both (verdict_of p) (bytes_of p) s (length (bytes_of p)) e in (writable_said p w.0, w.1),
  λ w. both_written (verdict_of p) (bytes_of p) s (said_writable p w.0) w.1,
)
