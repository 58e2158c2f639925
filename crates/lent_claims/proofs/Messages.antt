-- Messages that lead an end from stage to stage: lists of services with and without VERSION, and what the handshake makes of them.
-- Assumes nothing.
use mathlib.Core.Path.{◌≡◌, refl}
use mathlib.Core.Bool.{Bool, true, false}
use mathlib.Core.List.{List, [], ◌∷◌, ◌++◌}
use Prim.Native.Nat.{ℕ, ◌<◌, ◌^◌}
use native.Mathlib.Omega.{arith}
use Rattle.wire.specs.Numbers.{u32_at}
use Rattle.protocol.specs.MessageType.{COMMAND}
use Rattle.protocol.specs.Verdict.{fault_if, first_of, judge_from, open_length}
use Rattle.protocol.specs.Service.{id_at, basic_connect, extensions, same_id, among, kind_of}
use Rattle.folds.specs.Folds.{first_fault, any_of}
use Rattle.pairs.specs.Pair.{if_strict, range_at, rules, verdict_of as pair_verdict}
use Rattle.device_services.specs.DeviceServices.{element_at, length_verdict, content_rules, element_verdict, verdict_with}
use Rattle.services_query.specs.ServicesQuery.{is_of, has_cid, holds, listed_with}
use Rattle.message.specs.declared.MessageHeader.{MessageHeader}
use Rattle.handshake.specs.Commands.{services_cid, version_cid, role_of_kind, role_of, version_listed}
use Rattle.handshake_claims.specs.Run.{headed, listed_as}
use Rattle.handshake.specs.declared.Role.TheVariants as role
use Rattle.lent_claims.specs.Given.{WordsOfWidth, Bytes, message_words}
use Rattle.lent_claims.proofs.AssemblyServes.{word_small}
use Rattle.lent_claims.proofs.Fields.{bytes_of_lem}

-- ---- lists of services

-- one service, Extensions, with the one CID VERSION
with_version : List ℕ
with_version =
    1 ∷ 0 ∷ 0 ∷ 0 ∷ 0 ∷ 0 ∷ 0 ∷ 0 ∷ 16 ∷ 0 ∷ 0 ∷ 0 ∷ 32 ∷ 0 ∷ 0 ∷ 0
    ∷ (extensions ++ (0 ∷ 0 ∷ 0 ∷ 0 ∷ 0 ∷ 0 ∷ 0 ∷ 0 ∷ 1 ∷ 0 ∷ 0 ∷ 0 ∷ 15 ∷ 0 ∷ 0 ∷ 0 ∷ []))

-- no service at all
without : List ℕ
without = 0 ∷ 0 ∷ 0 ∷ 0 ∷ 0 ∷ 0 ∷ 0 ∷ 0 ∷ []

pub listing : Bool → List ℕ
listing true = with_version
listing false = without

pub listing_says : (b : Bool) → version_listed (listing b) ≡ listed_as b
unfolding listing with_version without listed_with verdict_with length_verdict open_length first_fault any_of element_verdict pair_verdict rules if_strict content_rules range_at element_at is_of has_cid holds id_at same_id extensions u32_at fault_if first_of judge_from
listing_says true = refl
listing_says false = refl

pub listing_bytes : (b : Bool) → Bytes (listing b)
unfolding listing with_version without extensions
listing_bytes true = bytes_of_lem with_version refl
listing_bytes false = bytes_of_lem without refl

-- ---- headers, each in transaction 1

bytes_basic : Bytes basic_connect
unfolding basic_connect
bytes_basic = bytes_of_lem basic_connect refl

bytes_extensions : Bytes extensions
unfolding extensions
bytes_extensions = bytes_of_lem extensions refl

-- a header with the id that the bytes s are, and numbers below 2 ^ 32
header_small : (s : List ℕ) (t cid word : ℕ) → Bytes s → t < 2 ^ 32 → cid < 2 ^ 32 → word < 2 ^ 32 → WordsOfWidth (message_words (headed t 1 (id_at s 0) cid word))
unfolding id_at u32_at
header_small s t cid word b lt lc lw =
    (lt, (omega arith, (word_small s 0 b, (word_small s 4 b, (word_small s 8 b, (word_small s 12 b, (lc, (lw, tt))))))))

-- the command DEVICE_SERVICES, its reply of status 0, the query VERSION, its reply of status 1, and a command of no known CID
abbrev pub services : ℕ → MessageHeader
services type = headed type 1 (id_at basic_connect 0) services_cid 0

abbrev pub version : ℕ → ℕ → MessageHeader
version type word = headed type 1 (id_at extensions 0) version_cid word

abbrev pub other : MessageHeader
other = headed COMMAND 1 (id_at basic_connect 0) 0 0

pub services_small : (t : ℕ) → t < 2 ^ 32 → WordsOfWidth (message_words (services t))
services_small t l = header_small basic_connect t services_cid 0 bytes_basic l (omega arith) (omega arith)

pub version_small : (t w : ℕ) → t < 2 ^ 32 → w < 2 ^ 32 → WordsOfWidth (message_words (version t w))
version_small t w l k = header_small extensions t version_cid w bytes_extensions l (omega arith) k

pub other_small : WordsOfWidth (message_words other)
other_small = header_small basic_connect COMMAND 0 0 bytes_basic (omega arith) (omega arith) (omega arith)

-- ---- what they are to the handshake

pub services_role : role_of (kind_of (id_at basic_connect 0) services_cid) ≡ role.Services
unfolding role_of role_of_kind kind_of among same_id id_at basic_connect extensions u32_at
services_role = refl

pub version_role : role_of (kind_of (id_at extensions 0) version_cid) ≡ role.Version
unfolding role_of role_of_kind kind_of among same_id id_at basic_connect extensions u32_at
version_role = refl

pub other_role : role_of (kind_of (id_at basic_connect 0) 0) ≡ role.Other
unfolding role_of role_of_kind kind_of among same_id id_at basic_connect extensions u32_at
other_role = refl
