-- The run of demand 3 on the level of the ends: from ends just opened both settle on the rule's version, never above either native version,
-- or the host refuses, exactly in the two cases and before its next command. Assumes nothing.
use Prim.Native.Nat.{ℕ, ◌≤◌, ◌<◌}
use mathlib.Core.Path.{◌≡◌, refl}
use mathlib.Core.Bool.{Bool, true, false}
use mathlib.Core.List.{List, []}
use native.Mathlib.Omega.{arith}
use borrow.Author.Tests.{ne_eqb}
use lib.ListN.{length, take}
use Rattle.wire.specs.Numbers.{u32_at}
use Rattle.protocol.specs.Service.{basic_connect, extensions, id_at, same_id, among, kind_of, Carried}
use Rattle.protocol.specs.Verdict.{judge, judge_from, first_of, fault_if, no_fault}
use Rattle.protocol.specs.declared.Version.{Version}
use Rattle.protocol.specs.declared.Version.TheVariants.{V1, V2}
use Rattle.protocol.specs.declared.service.Kind.TheVariants.{DeviceServices, VersionInfo}
use Rattle.protocol.specs.MessageType.{COMMAND, COMMAND_DONE}
use Rattle.protocol.proofs.Verdicts.{both_written, written_front, kept_fits}
use Rattle.version_info.specs.VersionInfo.{rules, verdict_of, read_of, bytes_of, write_of}
use Rattle.version_info.proofs.RoundTrip.{bytes_read}
use Rattle.handshake.specs.Versions.{number_of, number_verdict, version_of, info_of, larger, lower}
use Rattle.message.specs.declared.MessageHeader.{MessageHeader}
use Rattle.handshake.specs.Commands.{services_cid, version_cid, role_of_kind, role_of, version_listed}
use Rattle.host.specs.Host.{end, unchanged, settled_at, made_of, opened_of, ask_of, list_rules, list_at, answered_at, answered_by, services_reply_of, version_reply_of, reply_role, receive_by, receive_of}
use Rattle.protocol.specs.Status.{no_device_support}
use Rattle.modem.specs.Modem.{end as modem_end, made_rules, made_of as modem_made_of, served_as, services_of, gave, give_of, answer_by, can_answer, version_of_command, other_at, command_by, command_of, command_rules, receive_by as commanded_by, receive_of as modem_receive_of}
use Rattle.handshake_claims.specs.Run.{Message, headed, asks_services, asks_version, sends, reply_by, Line, reaches, Passes, both, after_reply, answered, taken, command_over, Rooms, turn, run, expected, Outcome, listed_as, OtherCommand, Ready}
use Rattle.host.specs.declared.HostStage.{HostStage}
use Rattle.host.specs.declared.HostStage.TheVariants as host
use Rattle.host.specs.declared.Host.{Host}
use Rattle.host.specs.declared.HostAnswer.TheVariants as answer
use Rattle.modem.specs.declared.ModemStage.TheVariants as modem
use Rattle.handshake.specs.declared.Role.TheVariants as role
use Rattle.handshake_claims.proofs.Refusing.{accepted_list}
use Rattle.handshake_claims.specs.Claims.{MadeByList, EndsSettle}
use Rattle.std.specs.Prelude.{Ok, Err}

-- ---- the two commands of the handshake

kind_services : kind_of (id_at basic_connect 0) services_cid ≡ Ok DeviceServices
unfolding kind_of among same_id id_at u32_at basic_connect extensions
kind_services = refl

kind_version : kind_of (id_at extensions 0) version_cid ≡ Ok VersionInfo
unfolding kind_of among same_id id_at u32_at basic_connect extensions
kind_version = refl

-- ---- the bytes of VERSION

pub version_back : (v : Version) → version_of (number_of v) ≡ v
version_back V1 = refl
version_back V2 = refl

fits : (v : Version) → verdict_of (info_of v) ≡ no_fault
unfolding verdict_of rules judge_from first_of fault_if info_of
fits V1 = refl
fits V2 = refl

-- with room, a version is written in four bytes, and is read from them
written : (v : Version) (out : List ℕ) → 4 ≤ length out → (write_of (info_of v) out).answer ≡ Ok 4
unfolding write_of bytes_of
written v out h = both_written (verdict_of (info_of v)) (bytes_of (info_of v)) out (fits v) h

-- the version that a payload carries
number_in : (v : Version) → version_of (info_of v).bcd_mbim_extended_version ≡ v
unfolding info_of
number_in v = version_back v

bytes_back : (v : Version) → read_of (bytes_of (info_of v)) ≡ Ok (info_of v)
bytes_back v = bytes_read (info_of v) (fits v)

front : (v : Version) (out : List ℕ) → 4 ≤ length out → take 4 (write_of (info_of v) out).output ≡ bytes_of (info_of v)
unfolding write_of
front v out h = written_front (verdict_of (info_of v)) (bytes_of (info_of v)) out 4 (written v out h)

-- ---- the ends, made from numbers and opened

pub just_opened : (n : Version) (g : HostStage) (a : Version) → (opened_of (end n g) (number_of a)).host ≡ end n (host.Open a)
unfolding opened_of number_verdict judge_from first_of fault_if
just_opened n g V1 = refl
just_opened n g V2 = refl

pub host_made_lem : (n : Version) → made_of (number_of n) ≡ Ok (end n host.Closed)
unfolding made_of number_verdict judge_from first_of fault_if
host_made_lem V1 = refl
host_made_lem V2 = refl

-- a modem lists VERSION exactly where its list does
pub made_by_list : MadeByList
unfolding modem_made_of made_rules judge_from first_of fault_if
made_by_list V1 V1 listed s e l = rw l
made_by_list V1 V2 listed s e l = cc
made_by_list V2 V1 listed s e l = rw l
made_by_list V2 V2 listed s e l = rw l

-- ---- each turn

-- a COMMAND of a transaction is taken
commanded : (h : MessageHeader) → h.message_type ≡ COMMAND → 0 < h.transaction → judge (command_rules h) ≡ no_fault
commanded h e n = let z : h.transaction ≡ 0 → ⊥ = λ q. omega arith in kept_fits (command_rules h) (rw e refl, (ne_eqb _ _ z, tt))

-- a reply is taken for what its service and CID say
services_heard : (h : Host) (t status : ℕ) (s : List ℕ) → receive_of h (headed COMMAND_DONE t (id_at basic_connect 0) services_cid status) s ≡ services_reply_of h status s
unfolding receive_of receive_by reply_role role_of role_of_kind
services_heard h t status s = rw kind_services

version_heard : (h : Host) (t status : ℕ) (s : List ℕ) → receive_of h (headed COMMAND_DONE t (id_at extensions 0) version_cid status) s ≡ version_reply_of h status s
unfolding receive_of receive_by reply_role role_of role_of_kind
version_heard h t status s = rw kind_version

other_after : (l : Line) (h : Host) (c : Carried) (x : Message) (out services : List ℕ) → role_of (kind_of x.header.service x.header.cid) ≡ role.Other
    → Passes l x 0 services → Passes l x no_device_support [] → after_reply h (reaches l.back (reply_by (served_as c) x.header out services)) ≡ unchanged h
unfolding after_reply receive_of receive_by reply_role
other_after l h (Ok k) x out services o p q = rw (p.1, o)
other_after l h (Err r) x out services o p q = rw (q.1, o)

module _ (l : Line) (w : Rooms) (t : ℕ) (numbered : 0 < t) (given : Message) (s : List ℕ) where
  -- DEVICE_SERVICES and its reply
  list_turn : (n k a : Version) (listed : Bool) → Passes l (asks_services t) 0 s → version_listed s ≡ listed_as listed
      → turn l w t given s (end n (host.Open a)) (modem_end k a listed modem.Start)
      ≡ both (list_at (host.Open a) (end n (host.Open a)) listed) (modem_end k a listed modem.Listed) (sends (asks_services t))
  unfolding turn ask_of command_over taken answered after_reply modem_receive_of commanded_by command_of command_by services_of role_of role_of_kind
  list_turn n k a listed p e =
      rw (p.0, commanded (asks_services t).header refl numbered, kind_services, p.1, services_heard (end n (host.Open a)) t 0 s, accepted_list (end n (host.Open a)) listed s e)

  -- VERSION and its reply
  version_turn : (n k a : Version) → Passes l (asks_version t (bytes_of (info_of n))) 0 (bytes_of (info_of (larger a (lower n k)))) → 4 ≤ length w.host → 4 ≤ length w.modem
      → turn l w t given s (end n (host.AwaitsVersion a)) (modem_end k a true modem.Listed)
      ≡ both (settled_at (end n (host.AwaitsVersion a)) (larger a (larger a (lower n k)))) (modem_end k a true (modem.Settled (larger a (lower n k)))) (sends (asks_version t (bytes_of (info_of n))))
  unfolding turn ask_of command_over taken answered after_reply modem_receive_of commanded_by command_of command_by version_of_command can_answer role_of role_of_kind answer_by give_of gave version_reply_of answered_by answered_at
  version_turn n k a z p q =
      let v = larger a (lower n k) in
      let r = version_heard (end n (host.AwaitsVersion a)) t 0 (bytes_of (info_of v)) in
      rw (written n w.host p, front n w.host p, z.0, commanded (asks_version t []).header refl numbered, kind_version, bytes_back n, number_in n, written v w.modem q, front v w.modem q, z.1, r, bytes_back v, number_in v)

  -- another command, to ends that run 1.00
  other_turn : (n k : Version) (listed : Bool) → OtherCommand given → Passes l given 0 s → Passes l given no_device_support []
      → turn l w t given s (end n (host.Settled V1)) (modem_end k V1 listed modem.Listed)
      ≡ record { host = end n (host.Settled V1); modem = modem_end k V1 listed (modem.Settled V1); answer = (Ok answer.Unchanged); sent = sends given }
  unfolding turn ask_of command_over taken answered modem_receive_of commanded_by command_of command_by other_at
  other_turn n k listed o p q =
      let x = given.header in
      rw (p.0, commanded x o.commands o.numbered, o.other, other_after l (end n (host.Settled V1)) (kind_of x.service x.cid) given w.modem s o.other p q)

-- ---- the run

module _ (l₁ l₂ : Line) (w₁ w₂ : Rooms) (t₁ t₂ : ℕ) (given : Message) (s : List ℕ) (n k a : Version) (listed : Bool) (r : Ready n k a listed l₁ l₂ w₂ t₁ t₂ given s) where
  first_turn : turn l₁ w₁ t₁ given s (end n (host.Open a)) (modem_end k a listed modem.Start)
      ≡ both (list_at (host.Open a) (end n (host.Open a)) listed) (modem_end k a listed modem.Listed) (sends (asks_services t₁))
  first_turn = list_turn l₁ w₁ t₁ r.first_numbered given s n k a listed r.services_passes r.list

  last_other : turn l₂ w₂ t₂ given s (end n (host.Settled V1)) (modem_end k V1 listed modem.Listed)
      ≡ record { host = end n (host.Settled V1); modem = modem_end k V1 listed (modem.Settled V1); answer = (Ok answer.Unchanged); sent = sends given }
  last_other = other_turn l₂ w₂ t₂ r.second_numbered given s n k listed r.other r.served_passes r.unknown_passes

  last_version : turn l₂ w₂ t₂ given s (end n (host.AwaitsVersion a)) (modem_end k a true modem.Listed)
      ≡ both (settled_at (end n (host.AwaitsVersion a)) (larger a (larger a (lower n k)))) (modem_end k a true (modem.Settled (larger a (lower n k)))) (sends (asks_version t₂ (bytes_of (info_of n))))
  last_version = version_turn l₂ w₂ t₂ r.second_numbered given s n k a r.version_passes r.room_host r.room_modem

module _ (l₁ l₂ : Line) (w₁ w₂ : Rooms) (t₁ t₂ : ℕ) (given : Message) (s : List ℕ) where
  from_start : (n k a : Version) (listed : Bool) → Ready n k a listed l₁ l₂ w₂ t₁ t₂ given s
      → Outcome (expected n k a listed) n k a listed t₁ t₂ given (run l₁ l₂ w₁ w₂ t₁ t₂ given s (end n (host.Open a)) (modem_end k a listed modem.Start))
  unfolding run list_at list_rules judge_from first_of fault_if
  from_start V1 k V1 l r =
      rw (first_turn l₁ l₂ w₁ w₂ t₁ t₂ given s V1 k V1 l r, last_other l₁ l₂ w₁ w₂ t₁ t₂ given s V1 k V1 l r)
      (record { sent = refl; host = refl; modem = refl; below_host = refl; below_modem = refl })
  from_start V1 k V2 l r = rw (first_turn l₁ l₂ w₁ w₂ t₁ t₂ given s V1 k V2 l r) (record { sent = refl; answer = refl; host = refl; modem = refl })
  from_start V2 k V1 false r =
      rw (first_turn l₁ l₂ w₁ w₂ t₁ t₂ given s V2 k V1 false r, last_other l₁ l₂ w₁ w₂ t₁ t₂ given s V2 k V1 false r)
      (record { sent = refl; host = refl; modem = refl; below_host = refl; below_modem = refl })
  from_start V2 V1 V1 true r =
      rw (first_turn l₁ l₂ w₁ w₂ t₁ t₂ given s V2 V1 V1 true r, last_version l₁ l₂ w₁ w₂ t₁ t₂ given s V2 V1 V1 true r)
      (record { sent = refl; host = refl; modem = refl; below_host = refl; below_modem = refl })
  from_start V2 V2 V1 true r =
      rw (first_turn l₁ l₂ w₁ w₂ t₁ t₂ given s V2 V2 V1 true r, last_version l₁ l₂ w₁ w₂ t₁ t₂ given s V2 V2 V1 true r)
      (record { sent = refl; host = refl; modem = refl; below_host = refl; below_modem = refl })
  from_start V2 k V2 false r = rw (first_turn l₁ l₂ w₁ w₂ t₁ t₂ given s V2 k V2 false r) (record { sent = refl; answer = refl; host = refl; modem = refl })
  from_start V2 V1 V2 true r = absurd (cc r.below)
  from_start V2 V2 V2 true r =
      rw (first_turn l₁ l₂ w₁ w₂ t₁ t₂ given s V2 V2 V2 true r, last_version l₁ l₂ w₁ w₂ t₁ t₂ given s V2 V2 V2 true r)
      (record { sent = refl; host = refl; modem = refl; below_host = refl; below_modem = refl })

pub ends_settle : EndsSettle
ends_settle l₁ l₂ w₁ w₂ t₁ t₂ given s n k a listed g f r = rw (just_opened n g a) (from_start l₁ l₂ w₁ w₂ t₁ t₂ given s n k a listed r)
