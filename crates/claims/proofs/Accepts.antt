-- The cutter accepts every message that carries a record, and such a message shows the record's payload.
-- Assumes nothing.
use mathlib.Core.Path.{◌≡◌, refl}
use mathlib.Core.Logic.{◌⊎◌, inl, inr}
use mathlib.Core.Bool.{true, false, not}
use mathlib.Core.List.{List}
use Prim.Native.Nat.{ℕ, ◌≤◌, ◌<◌, ◌^◌}
use native.Mathlib.Omega.{arith}
use borrow.Author.Tests.{le-ltb, ne_eqb, not-false}
use lib.Dec.{eqb}
use lib.ListN.{length}
use Rattle.wire.specs.Numbers.{u32_at}
use Rattle.protocol.specs.Verdict.{judge, fault_if, first_of, with_room}
use Rattle.protocol.specs.MessageType.{COMMAND, COMMAND_DONE, is_fragmented}
use Rattle.protocol.specs.Service.{basic_connect, extensions, id_at, same_id, among, kind_of as payload_kind}
use Rattle.protocol.specs.declared.service.Kind.{Kind}
use Rattle.protocol.specs.declared.service.Kind.TheVariants as kinds
use Rattle.protocol.proofs.Verdicts.{kept_fits}
use Rattle.message.specs.Message.{wrong_word}
use Rattle.message.specs.declared.MessageHeader.{MessageHeader}
use Rattle.cutter.specs.Cut.{fragments_of, joined, wrong_size, wrong_transaction, message_rules, cut_by, cut_after, cut_of}
use Rattle.payload.specs.Payload.{Shown, command_way, done_way, way_of, row_of, shown_in, shown_by, shown_of}
use Rattle.exchange.specs.Messages.{OfWidth, header_seen}
use Rattle.claims.specs.Transfer.{Record, register_state, packet_service, signal_state, device_services, version_info, set_pin, pin_info, service_of, cid_of, kind_of, SetCommand, Failure, Answer, WayOf, Carries}
use Rattle.std.specs.Prelude.{Ok, Some}
use Rattle.protocol.specs.Verdict.{no_fault}
use Rattle.protocol.specs.Verdict.{Verdict}

-- ---- the rules of the cutter

size_kept : (size : ℕ) → 64 ≤ size → size ≤ 4096 → wrong_size size ≡ false
unfolding wrong_size
size_kept size low high = rw (le-ltb size 64 low, le-ltb 4096 size high)

-- what the cutter asks of a header
abbrev pub HeaderKept : MessageHeader → Type 0
HeaderKept m = (not (is_fragmented m.message_type) ≡ false) × ((wrong_transaction m ≡ false) × (wrong_word m ≡ false))

-- a COMMAND or a COMMAND_DONE of a transaction
pub numbered_kept : (m : MessageHeader) → (m.message_type ≡ COMMAND) ⊎ (m.message_type ≡ COMMAND_DONE) → 0 < m.transaction → wrong_word m ≡ false → HeaderKept m
unfolding is_fragmented wrong_transaction
numbered_kept m kind numbered word = go kind
  where
    n : eqb m.transaction 0 ≡ false
    n = ne_eqb m.transaction 0 (λ e. omega (arith, numbered))

    go : (m.message_type ≡ COMMAND) ⊎ (m.message_type ≡ COMMAND_DONE) → HeaderKept m
    go (inl e) = (rw e refl, (rw (e, n) refl, word))
    go (inr e) = (rw e refl, (rw (e, n) refl, word))

-- one of the ways, whatever the record
abbrev AnyWay : MessageHeader → Type 0
AnyWay m = SetCommand m ⊎ (Answer m ⊎ Failure m)

any_way : (r : Record) (m : MessageHeader) → WayOf r m → AnyWay m
unfolding WayOf
any_way (register_state p x y z) m w = inr (inl w)
any_way (packet_service p) m w = inr (inl w)
any_way (signal_state p es) m w = inr (inl w)
any_way (device_services p) m w = inr (inl w)
any_way (version_info i) m w = inr (inl w)
any_way (set_pin p x y) m w = inl w
any_way (pin_info i) m w = inr w

way_kept : (m : MessageHeader) → AnyWay m → HeaderKept m
unfolding is_fragmented wrong_transaction wrong_word
way_kept m (inl w) = numbered_kept m (inl w.command) w.numbered (rw (w.command, w.set) refl)
way_kept m (inr (inl (inl w))) = numbered_kept m (inr w.done) w.numbered (rw w.done refl)
way_kept m (inr (inl (inr w))) = (rw w.indicates, (rw (w.indicates, w.unnumbered), rw w.indicates))
way_kept m (inr (inr w)) = numbered_kept m (inr w.done) w.numbered (rw w.done refl)

pub carried_kept : (r : Record) (m : MessageHeader) → Carries r m → HeaderKept m
carried_kept r m c = way_kept m (any_way r m c.way)

room_fits : (v : Verdict) (b s : List ℕ) → v ≡ no_fault → length b ≤ length s → with_room v b s ≡ no_fault
unfolding with_room first_of fault_if
room_fits v b s e h = rw (e, le-ltb (length s) (length b) h)

-- with room for its fragments, the message is accepted
pub kept_accepted : (m : MessageHeader) (size : ℕ) (information stream : List ℕ) → HeaderKept m → 64 ≤ size → size ≤ 4096 → length information ≤ 4096
    → length (joined (fragments_of m size information)) ≤ length stream
    → (cut_of m size information stream).answer ≡ Ok (record { count = (length (fragments_of m size information)); length = (length (joined (fragments_of m size information))) })
unfolding cut_of cut_after cut_by
kept_accepted m size information stream k low high few room =
    let rules = message_rules m size (length information) in
    let fits : judge rules ≡ no_fault = kept_fits rules (size_kept size low high, (k.0, (k.1.0, (k.1.1, (le-ltb 4096 (length information) few, tt))))) in
    let f : with_room (judge rules) (joined (fragments_of m size information)) stream ≡ no_fault = room_fits (judge rules) (joined (fragments_of m size information)) stream fits room in
    rw f

-- ---- the payload that the message shows

-- on each way the column of a row
in_set : (m : MessageHeader) (k : Kind) → SetCommand m → ◌≡◌ {A = Shown} (Ok (shown_in (row_of k) (way_of (header_seen m)))) (Ok (row_of k).set)
unfolding way_of command_way header_seen
in_set m k w = rw (w.command, w.set)

in_answer : (m : MessageHeader) (k : Kind) → Answer m → ◌≡◌ {A = Shown} (Ok (shown_in (row_of k) (way_of (header_seen m)))) (Ok (row_of k).answer)
unfolding way_of done_way header_seen
in_answer m k (inl w) = rw (w.done, w.success)
in_answer m k (inr w) = rw w.indicates

in_failed : (m : MessageHeader) (k : Kind) → Failure m → ◌≡◌ {A = Shown} (Ok (shown_in (row_of k) (way_of (header_seen m)))) (Ok (row_of k).failed)
unfolding way_of done_way header_seen
in_failed m k w = rw (w.done, w.failure)

-- the row of its service and CID has its payload on its way
own_row : (r : Record) (m : MessageHeader) → WayOf r m → shown_by (header_seen m) (payload_kind (service_of r) (cid_of r)) ≡ Ok (Some (kind_of r))
unfolding WayOf shown_by payload_kind among same_id id_at u32_at basic_connect extensions service_of cid_of kind_of
own_row (register_state p x y z) m w = in_answer m kinds.RegisterState w
own_row (packet_service p) m w = in_answer m kinds.PacketService w
own_row (signal_state p es) m w = in_answer m kinds.SignalState w
own_row (device_services p) m w = in_answer m kinds.DeviceServices w
own_row (version_info i) m w = in_answer m kinds.VersionInfo w
own_row (set_pin p x y) m w = in_set m kinds.PinInfo w
own_row (pin_info i) m (inl w) = in_answer m kinds.PinInfo w
own_row (pin_info i) m (inr w) = in_failed m kinds.PinInfo w

fragmented : (r : Record) (m : MessageHeader) → Carries r m → is_fragmented (header_seen m).message_type ≡ true
unfolding header_seen
fragmented r m c = not-false (is_fragmented m.message_type) (carried_kept r m c).0

own_kind : (r : Record) (m : MessageHeader) → Carries r m → payload_kind (header_seen m).service (header_seen m).cid ≡ payload_kind (service_of r) (cid_of r)
unfolding header_seen
own_kind r m c = rw (c.service, c.cid)

pub shows : (r : Record) (m : MessageHeader) → Carries r m → shown_of (header_seen m) ≡ Ok (Some (kind_of r))
unfolding shown_of
shows r m c = rw (fragmented r m c, own_kind r m c) (own_row r m c.way)

-- ---- the header's numbers are of their width

service_small : (r : Record) → ((service_of r).word0 < 2 ^ 32) × (((service_of r).word1 < 2 ^ 32) × (((service_of r).word2 < 2 ^ 32) × (((service_of r).word3 < 2 ^ 32) × (cid_of r < 2 ^ 32))))
unfolding service_of cid_of id_at u32_at basic_connect extensions
service_small (register_state p x y z) = (omega arith, (omega arith, (omega arith, (omega arith, omega arith))))
service_small (packet_service p) = (omega arith, (omega arith, (omega arith, (omega arith, omega arith))))
service_small (signal_state p es) = (omega arith, (omega arith, (omega arith, (omega arith, omega arith))))
service_small (device_services p) = (omega arith, (omega arith, (omega arith, (omega arith, omega arith))))
service_small (version_info i) = (omega arith, (omega arith, (omega arith, (omega arith, omega arith))))
service_small (set_pin p x y) = (omega arith, (omega arith, (omega arith, (omega arith, omega arith))))
service_small (pin_info i) = (omega arith, (omega arith, (omega arith, (omega arith, omega arith))))

type_small : (m : MessageHeader) → AnyWay m → m.message_type < 2 ^ 32
type_small m (inl w) = omega (arith, w.command)
type_small m (inr (inl (inl w))) = omega (arith, w.done)
type_small m (inr (inl (inr w))) = omega (arith, w.indicates)
type_small m (inr (inr w)) = omega (arith, w.done)

pub width : (r : Record) (m : MessageHeader) → Carries r m → OfWidth m
width r m c =
    let s = service_small r in
    record {
      type32 = type_small m (any_way r m c.way);
      transaction32 = c.transaction32;
      word0 = rw c.service s.0;
      word1 = rw c.service s.1.0;
      word2 = rw c.service s.1.1.0;
      word3 = rw c.service s.1.1.1.0;
      cid32 = rw c.cid s.1.1.1.1;
      word32 = c.word32;
    }
