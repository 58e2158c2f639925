-- Known services and their CIDs (document 01, "Known services"; CID 4 by document 02, order 2): "service ids are 16 bytes in printed order".
-- In this order: the ids as printed; an id as four words; the CIDs of each service; what a service and a CID stand for.
use Rattle.std.specs.Prelude.{ℕ, ◌+◌, Bool, cond, ◌&&◌, List, [], ◌∷◌, ◌++◌, eqb, Ok, Err, Result}
use Rattle.wire.specs.Numbers.{u32_at, digits}
use Rattle.protocol.specs.Refusal.{refusal, unknown}
use Rattle.protocol.specs.declared.service.ServiceId.{ServiceId}
use Rattle.protocol.specs.declared.service.Kind.{Kind}
use Rattle.protocol.specs.declared.service.Kind.TheVariants.{RegisterState, PacketService, SignalState, DeviceServices, VersionInfo, PinInfo}
use Rattle.protocol.specs.declared.Refusal.{Refusal}

abbrev pub Carried : Type 0
Carried = Result Kind Refusal

-- ---- the ids, as printed

-- a289cc33-bcbb-8b4f-b6b0-133ec2aae6df
unfoldable pub basic_connect : List ℕ
basic_connect =
    0xA2 ∷ 0x89 ∷ 0xCC ∷ 0x33 ∷ 0xBC ∷ 0xBB ∷ 0x8B ∷ 0x4F ∷ 0xB6 ∷ 0xB0 ∷ 0x13 ∷ 0x3E ∷ 0xC2 ∷ 0xAA ∷ 0xE6 ∷ 0xDF ∷ []

-- 3d01dcc5-fef5-4d05-0d3a-bef7058e9aaf
unfoldable pub extensions : List ℕ
extensions =
    0x3D ∷ 0x01 ∷ 0xDC ∷ 0xC5 ∷ 0xFE ∷ 0xF5 ∷ 0x4D ∷ 0x05 ∷ 0x0D ∷ 0x3A ∷ 0xBE ∷ 0xF7 ∷ 0x05 ∷ 0x8E ∷ 0x9A ∷ 0xAF ∷ []

-- ---- an id as four words

unfoldable pub id_at : List ℕ → ℕ → ServiceId
id_at s at = record { word0 = u32_at s at; word1 = u32_at s (at + 4); word2 = u32_at s (at + 8); word3 = u32_at s (at + 12) }

unfoldable pub id_bytes : ServiceId → List ℕ
id_bytes i = digits 4 i.word0 ++ (digits 4 i.word1 ++ (digits 4 i.word2 ++ digits 4 i.word3))

unfoldable pub same_id : ServiceId → ServiceId → Bool
same_id a b = eqb a.word0 b.word0 && (eqb a.word1 b.word1 && (eqb a.word2 b.word2 && eqb a.word3 b.word3))

-- ---- the CIDs of each service, and the payload that its answers carry

pub record Row : Type 0 where
  pub cid : ℕ
  pub kind : Kind

abbrev pub row : ℕ → Kind → Row
row c k = record { cid = c; kind = k }

abbrev pub basic_connect_cids : List Row
basic_connect_cids = row 4 PinInfo ∷ row 9 RegisterState ∷ row 10 PacketService ∷ row 11 SignalState ∷ row 16 DeviceServices ∷ []

abbrev pub extensions_cids : List Row
extensions_cids = row 15 VersionInfo ∷ []

-- ---- what a service and a CID stand for: the service is judged, then the CID

unfoldable pub among : ℕ → List Row → Carried
among cid [] = Err (refusal unknown 36)
among cid (r ∷ rs) = cond (eqb cid r.cid) (Ok r.kind) (among cid rs)

unfoldable pub kind_of : ServiceId → ℕ → Carried
kind_of id cid =
    cond (same_id id (id_at basic_connect 0)) (among cid basic_connect_cids)
    (cond (same_id id (id_at extensions 0)) (among cid extensions_cids)
    (Err (refusal unknown 20)))
