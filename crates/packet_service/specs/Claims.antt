-- What is claimed of the PACKET_SERVICE payload beside the promises: the rules in words of fields, the width of each field, and what order 4 of
-- document 02 changed.
use Rattle.std.specs.Prelude.{ℕ, ◌≤◌, ◌<◌, ◌^◌, ◌≡◌, ◌⊎◌, ◌↔◌, true, false, List, length, take, Ok, Err}
use Rattle.wire.specs.Numbers.{u32_at}
use Rattle.protocol.specs.DataClass.{one_class_or_none, IsClass}
use Rattle.protocol.specs.declared.Version.{Version}
use Rattle.protocol.specs.declared.Version.TheVariants.{V1, V2}
use Rattle.packet_service.specs.declared.PacketForm.{PacketForm}
use Rattle.packet_service.specs.declared.PacketForm.TheVariants.{V1 as Form1, V2 as Form2}
use Rattle.packet_service.specs.declared.PacketService.{PacketService}
use Rattle.packet_service.specs.PacketService.{length_of, packet_class, verdict_of, read_of, record_at, class_in, bytes_of, write_of, version_of}
use Rattle.protocol.specs.Refusal.{refusal, wrong_length, too_short, outside_table, contradiction}
use Rattle.protocol.specs.Verdict.{no_fault}

-- ---- the rules in words of fields

-- the class is 0, a single bit of the version's table, or 18h
abbrev pub PacketClass : Version → ℕ → Type 0
PacketClass v class = (class ≡ 0) ⊎ (IsClass v class ⊎ (class ≡ 0x18))

-- at 2.00 the range is 0 to 3, the class 0 unless the state is 2, and the range 0 unless the class is 40h or 80h
pub record LaterFits (state class range : ℕ) : Type 0 where
  pub small : range ≤ 3
  pub attached : (class ≡ 0) ⊎ (state ≡ 2)
  pub ranged : (range ≡ 0) ⊎ ((class ≡ 0x40) ⊎ (class ≡ 0x80))

abbrev pub FormFits : Version → List ℕ → Type 0
FormFits V1 s = Unit
FormFits V2 s = LaterFits (u32_at s 4) (u32_at s 8) (u32_at s 28)

pub record Acceptable (v : Version) (s : List ℕ) : Type 0 where
  pub long : length s ≡ length_of v
  pub state : u32_at s 4 ≤ 4
  pub class : PacketClass v (u32_at s 8)
  pub form : FormFits v s

-- ---- what a writer accepts, in words of fields

abbrev pub FormWritable : ℕ → PacketForm → Type 0
FormWritable state (Form1 class) = PacketClass V1 class
FormWritable state (Form2 class range) = PacketClass V2 class × LaterFits state class range

pub record Writable (p : PacketService) : Type 0 where
  pub state : p.packet_service_state ≤ 4
  pub form : FormWritable p.packet_service_state p.form

-- ---- each field is of its width

abbrev pub FormOfWidth : PacketForm → Type 0
FormOfWidth (Form1 class) = class < 2 ^ 32
FormOfWidth (Form2 class range) = (class < 2 ^ 32) × (range < 2 ^ 32)

pub record OfWidth (p : PacketService) : Type 0 where
  pub error : p.nw_error < 2 ^ 32
  pub state : p.packet_service_state < 2 ^ 32
  pub up : p.uplink_speed < 2 ^ 64
  pub down : p.downlink_speed < 2 ^ 64
  pub form : FormOfWidth p.form

-- ---- what is proved (proofs/Acceptance, proofs/RoundTrip, proofs/OtherVersion)

-- an accepted payload keeps the rules, and shows the record at its places
abbrev pub Accepted : Type 0
Accepted = (v : Version) (s : List ℕ) (p : PacketService) → read_of v s ≡ Ok p → Acceptable v s × (p ≡ record_at v s)

abbrev pub AcceptedExactly : Type 0
AcceptedExactly = (v : Version) (s : List ℕ) → (read_of v s ≡ Ok (record_at v s)) ↔ Acceptable v s

abbrev pub WrittenExactly : Type 0
WrittenExactly = (p : PacketService) (s : List ℕ) → ((write_of p s).answer ≡ Ok (length (bytes_of p))) ↔ (Writable p × (length (bytes_of p) ≤ length s))

-- what the writer puts into an output, read at the record's version, is the record
abbrev pub RoundTrip : Type 0
RoundTrip = (p : PacketService) (s : List ℕ) (n : ℕ) → OfWidth p → (write_of p s).answer ≡ Ok n
    → read_of (version_of p) (take n (write_of p s).output) ≡ Ok p

abbrev pub LaterReadEarlier : Type 0
LaterReadEarlier = (p : PacketService) → version_of p ≡ V2 → read_of V1 (bytes_of p) ≡ Err (refusal wrong_length 32)

abbrev pub EarlierReadLater : Type 0
EarlierReadLater = (p : PacketService) → version_of p ≡ V1 → read_of V2 (bytes_of p) ≡ Err (refusal too_short 28)

-- ---- what order 4 of document 02 changed (proofs/Hspa)

-- the test of the class says what the table says
abbrev pub ClassExactly : Type 0
ClassExactly = (v : Version) (class : ℕ) → (packet_class v class ≡ true) ↔ PacketClass v class

-- beside what 01 takes it takes 18h, and nothing else
abbrev pub OnlyHspaAdded : Type 0
OnlyHspaAdded = (v : Version) (class : ℕ) → ((packet_class v class ≡ true) × (one_class_or_none v class ≡ false)) ↔ (class ≡ 0x18)

-- every other number is 9 at 8, and nothing else is, where length and state don't decide before: in a payload, and in a record to be written
abbrev pub OtherClassRead : Type 0
OtherClassRead = (v : Version) (s : List ℕ)
    → (read_of v s ≡ Err (refusal outside_table 8)) ↔ ((length s ≡ length_of v) × ((u32_at s 4 ≤ 4) × (PacketClass v (u32_at s 8) → ⊥)))

abbrev pub OtherClassWritten : Type 0
OtherClassWritten = (p : PacketService) (s : List ℕ)
    → ((write_of p s).answer ≡ Err (refusal outside_table 8)) ↔ ((p.packet_service_state ≤ 4) × (PacketClass (version_of p) (class_in p.form) → ⊥))

-- 18h, state and range being of their tables, as reader and writer judge it: at 1.00 it fits, at 2.00 with state 2 and range 0
abbrev pub HspaFits : Type 0
HspaFits = (p : PacketService) → p.packet_service_state ≤ 4
    → (p.form ≡ Form1 0x18) ⊎ ((p.form ≡ Form2 0x18 0) × (p.packet_service_state ≡ 2)) → verdict_of p ≡ no_fault

-- at 2.00 without state 2 it is 10 at 8
abbrev pub HspaUnattached : Type 0
HspaUnattached = (p : PacketService) (range : ℕ) → p.form ≡ Form2 0x18 range → p.packet_service_state ≤ 4 → range ≤ 3
    → (p.packet_service_state ≡ 2 → ⊥) → verdict_of p ≡ Err (refusal contradiction 8)

-- and with state 2 a range other than 0 is 10 at 28
abbrev pub HspaRanged : Type 0
HspaRanged = (p : PacketService) (range : ℕ) → p.form ≡ Form2 0x18 range → p.packet_service_state ≡ 2 → range ≤ 3
    → (range ≡ 0 → ⊥) → verdict_of p ≡ Err (refusal contradiction 28)
