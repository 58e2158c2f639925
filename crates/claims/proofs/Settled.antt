-- What the writer gives of a list says of VERSION what the list does, and every message of the run arrives as it was sent: so the run of both ends
-- over the wire goes by the list. Assumes nothing.
use Prim.Native.Nat.{ℕ, ◌≤◌, ◌<◌, ◌^◌}
use mathlib.Core.Path.{refl}
use mathlib.Core.Logic.{inl, inr}
use mathlib.Core.List.{List, []}
use native.Mathlib.Omega.{arith}
use lib.ListN.{length, take}
use Rattle.wire.specs.Numbers.{u32_at}
use Rattle.protocol.specs.Service.{id_at, basic_connect, extensions}
use Rattle.protocol.specs.declared.Version.{Version}
use Rattle.message.specs.Message.{wrong_word}
use Rattle.version_info.specs.VersionInfo.{bytes_of}
use Rattle.services_writer.specs.ServicesWriter.{write_of}
use Rattle.pairs.specs.Pair.{by_default}
use Rattle.services_trip.proofs.RoundTrip.{round_trip}
use Rattle.handshake.specs.Versions.{info_of, larger, lower}
use Rattle.protocol.specs.Status.{no_device_support}
use Rattle.handshake.specs.Commands.{version_cid}
use Rattle.handshake_claims.specs.Run.{Message, asks_services, asks_version, reply_to, Passes}
use Rattle.handshake_claims.proofs.Run.{ends_settle}
use Rattle.services_writer.specs.declared.ServiceList.{ServiceList}
use Rattle.claims.specs.Transfer.{device_services, OfWidth, write_of as written}
use Rattle.claims.specs.Wire.{Way, Open, wire, Sendable}
use Rattle.claims.specs.Settle.{lists_version, ListWritten, BothSettle}
use Rattle.claims.proofs.Back.{few}
use Rattle.claims.proofs.Wired.{arrives_whole}

-- ---- the messages of the run can be sent

services_sendable : (t : ℕ) → 0 < t → t < 2 ^ 32 → Sendable (asks_services t)
unfolding wrong_word id_at u32_at basic_connect
services_sendable t n h = record {
  kind = inl refl;
  numbered = n;
  word = refl;
  width = record {
    type32 = omega arith;
    transaction32 = h;
    word0 = omega arith;
    word1 = omega arith;
    word2 = omega arith;
    word3 = omega arith;
    cid32 = omega arith;
    word32 = omega arith;
  };
  few = omega arith;
}

version_sendable : (t : ℕ) (s : List ℕ) → 0 < t → t < 2 ^ 32 → length s ≤ 4096 → Sendable (asks_version t s)
unfolding wrong_word id_at u32_at extensions
version_sendable t s n h l = record {
  kind = inl refl;
  numbered = n;
  word = refl;
  width = record {
    type32 = omega arith;
    transaction32 = h;
    word0 = omega arith;
    word1 = omega arith;
    word2 = omega arith;
    word3 = omega arith;
    cid32 = omega arith;
    word32 = omega arith;
  };
  few = l;
}

reply_sendable : (c : Message) (status : ℕ) (s : List ℕ) → Sendable c → status < 2 ^ 32 → length s ≤ 4096 → Sendable (reply_to c.header status s)
unfolding wrong_word
reply_sendable c status s S small l = record {
  kind = inr refl;
  numbered = S.numbered;
  word = refl;
  width = record {
    type32 = omega arith;
    transaction32 = S.width.transaction32;
    word0 = S.width.word0;
    word1 = S.width.word1;
    word2 = S.width.word2;
    word3 = S.width.word3;
    cid32 = S.width.cid32;
    word32 = small;
  };
  few = l;
}

passes : (to back : Way) → Open to → Open back → (c : Message) → Sendable c → (status : ℕ) → status < 2 ^ 32 → (s : List ℕ) → length s ≤ 4096 → Passes (wire to back) c status s
passes to back o b c S status small s l = (arrives_whole to o c S, arrives_whole back b (reply_to c.header status s) (reply_sendable c status s S small l))

version_few : (v : Version) → length (bytes_of (info_of v)) ≤ 4096
unfolding bytes_of
version_few v = omega arith

list_few : (p : ServiceList) (out : List ℕ) (n : ℕ) → ListWritten p out n → length (take n (write_of p out).output) ≤ 4096
unfolding OfWidth written
list_few p out n l = few (device_services p) l.width out n l.accepted

pub both_ends : BothSettle
both_ends host modem advertised below p out n l given o S t₁ t₂ x y x32 y32 to₁ back₁ to₂ back₂ a₁ b₁ a₂ b₂ w₁ w₂ rh rm g f =
    let s = take n (write_of p out).output in
    let small = list_few p out n l in
    ends_settle (wire to₁ back₁) (wire to₂ back₂) w₁ w₂ t₁ t₂ given s host modem advertised (lists_version p) g f (record {
      below = below;
      list = (round_trip by_default p out n l.width l.accepted).listed (id_at extensions 0) version_cid;
      other = o;
      first_numbered = x;
      second_numbered = y;
      services_passes = passes to₁ back₁ a₁ b₁ (asks_services t₁) (services_sendable t₁ x x32) 0 (omega arith) s small;
      version_passes = passes to₂ back₂ a₂ b₂ (asks_version t₂ (bytes_of (info_of host))) (version_sendable t₂ (bytes_of (info_of host)) y y32 (version_few host)) 0 (omega arith) (bytes_of (info_of (larger advertised (lower host modem)))) (version_few (larger advertised (lower host modem)));
      served_passes = passes to₂ back₂ a₂ b₂ given S 0 (omega arith) s small;
      unknown_passes = passes to₂ back₂ a₂ b₂ given S no_device_support (omega arith) [] (omega arith);
      room_host = rh;
      room_modem = rm;
    })
