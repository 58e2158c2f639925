-- The PACKET_SERVICE payload (document 01, "Packet service"; document 02, order 4; source 000, MBIM_PACKET_SERVICE_INFO_V2).
-- In this order: the fields and their places; the table of the class; the rules, in the order in which they are judged; what a reader answers;
-- what a writer gives.
use Rattle.std.specs.Prelude.{ℕ, Bool, not, ◌&&◌, ◌||◌, List, [], ◌∷◌, ◌++◌, ltb, eqb, length, Ok, Err, Result}
use Rattle.wire.specs.Numbers.{u32_at, u64_at, digits}
use Rattle.protocol.specs.Refusal.{outside_table, contradiction}
use Rattle.protocol.specs.Verdict.{Rule, rule, judge, first_of, exact_length, Writing, writing, Verdict}
use Rattle.protocol.specs.DataClass.{sum_of_bits, one_class_or_none}
use Rattle.protocol.specs.declared.Version.{Version}
use Rattle.protocol.specs.declared.Version.TheVariants.{V1, V2}
use Rattle.packet_service.specs.declared.PacketForm.{PacketForm}
use Rattle.packet_service.specs.declared.PacketForm.TheVariants.{V1 as Form1, V2 as Form2}
use Rattle.packet_service.specs.declared.PacketService.{PacketService}
use Rattle.protocol.specs.declared.Refusal.{Refusal}

abbrev pub PacketServiceRead : Type 0
PacketServiceRead = Result PacketService Refusal

-- ---- fields and places

-- "length exactly 28 or 32"
abbrev pub length_of : Version → ℕ
length_of V1 = 28
length_of V2 = 32

-- class 8, HighestAvailable at 1.00 and Current at 2.00; at 2.00 FrequencyRange 28
abbrev pub form_at : Version → List ℕ → PacketForm
form_at V1 s = Form1 (u32_at s 8)
form_at V2 s = Form2 (u32_at s 8) (u32_at s 28)

-- NwError 0, state 4, uplink 12 and downlink 20
unfoldable pub record_at : Version → List ℕ → PacketService
record_at v s = record {
  nw_error = u32_at s 0;
  packet_service_state = u32_at s 4;
  uplink_speed = u64_at s 12;
  downlink_speed = u64_at s 20;
  form = form_at v s;
}

-- ---- the table of the class: the bits of 01, "at most one bit set", and the one pair of 02, order 4: "Accept 18h besides the single bits,
-- at both versions"

-- HSDPA (8h) and HSUPA (10h), which source 000 ORs for HSPA
abbrev pub hspa : ℕ
hspa = sum_of_bits (3 ∷ 4 ∷ [])

abbrev pub packet_class : Version → ℕ → Bool
packet_class v class = one_class_or_none v class || eqb class hspa

-- ---- rules: broken, reason, place; the first broken one decides

-- the class is not 0 though the state is not 2
abbrev pub unattached : ℕ → ℕ → Bool
unattached state class = not (eqb class 0) && not (eqb state 2)

-- the range is not 0 though the class is neither 40h nor 80h
abbrev pub stray_range : ℕ → ℕ → Bool
stray_range class range = not (eqb range 0) && not (eqb class 0x40 || eqb class 0x80)

unfoldable pub later_rules : ℕ → ℕ → ℕ → List Rule
later_rules state class range =
    rule (not (packet_class V2 class)) outside_table 8
    ∷ rule (ltb 3 range) outside_table 28
    ∷ rule (unattached state class) contradiction 8
    ∷ rule (stray_range class range) contradiction 28
    ∷ []

unfoldable pub form_rules : ℕ → PacketForm → List Rule
form_rules state (Form1 class) = rule (not (packet_class V1 class)) outside_table 8 ∷ []
form_rules state (Form2 class range) = later_rules state class range

-- state 0 to 4; then the class and, at 2.00, the range, their tables before what contradicts
unfoldable pub rules : PacketService → List Rule
rules p = rule (ltb 4 p.packet_service_state) outside_table 4 ∷ form_rules p.packet_service_state p.form

unfoldable pub verdict_of : PacketService → Verdict
verdict_of p = judge (rules p)

-- ---- what a reader answers

abbrev pub shown : Verdict → PacketService → PacketServiceRead
shown (Ok _) p = Ok p
shown (Err r) p = Err r

unfoldable pub read_of : Version → List ℕ → PacketServiceRead
read_of v s = shown (first_of (exact_length (length_of v) (length s)) (verdict_of (record_at v s))) (record_at v s)

-- ---- what a writer gives

abbrev pub version_in : PacketForm → Version
version_in (Form1 class) = V1
version_in (Form2 class range) = V2

abbrev pub version_of : PacketService → Version
version_of p = version_in p.form

abbrev pub class_in : PacketForm → ℕ
class_in (Form1 class) = class
class_in (Form2 class range) = class

unfoldable pub shared_bytes : PacketService → ℕ → List ℕ
shared_bytes p class =
    digits 4 p.nw_error
    ++ (digits 4 p.packet_service_state ++ (digits 4 class ++ (digits 8 p.uplink_speed ++ digits 8 p.downlink_speed)))

-- the range, at 2.00
abbrev pub range_bytes : PacketForm → List ℕ
range_bytes (Form1 class) = []
range_bytes (Form2 class range) = digits 4 range

-- the payload's bytes
unfoldable pub bytes_of : PacketService → List ℕ
bytes_of p = shared_bytes p (class_in p.form) ++ range_bytes p.form

-- the answer, and the output at exit
unfoldable pub write_of : PacketService → List ℕ → Writing
write_of p s = writing (verdict_of p) (bytes_of p) s
