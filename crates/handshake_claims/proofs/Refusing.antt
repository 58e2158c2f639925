-- A list received is asked for VERSION. At one that the question answers an opened host refuses with 13 or 14 exactly in 01's two cases, and
-- is then as before.
-- Assumes nothing.
use Prim.Native.Nat.{ℕ}
use mathlib.Core.Path.{◌≡◌, refl, ap, ◌∙◌}
use mathlib.Core.Bool.{Bool, true, false}
use mathlib.Core.List.{List}
use Rattle.protocol.specs.Service.{id_at, extensions}
use Rattle.protocol.specs.Verdict.{judge_from, first_of, fault_if}
use Rattle.protocol.specs.declared.Version.{Version}
use Rattle.protocol.specs.declared.Version.TheVariants.{V1, V2}
use Rattle.pairs.specs.Pair.{by_default}
use Rattle.services_query.proofs.Answers.{listed_exactly, not_listed_exactly}
use Rattle.services_ask.specs.ServicesAsk.{without_position}
use Rattle.services_ask.proofs.Answers.{asked}
use Rattle.handshake.specs.Commands.{version_cid, version_listed}
use Rattle.host.specs.declared.Host.{Host}
use Rattle.host.specs.Host.{end, list_rules, list_at, list_reply, version_asked, services_reply_of, refused_with}
use Rattle.handshake_claims.specs.Run.{listed_as, expected}
use Rattle.handshake_claims.specs.Claims.{AcceptedList, FaultBehind, FaultBefore, expected_reason, RefusesExactly}
use Rattle.host.specs.declared.HostStage.TheVariants.{Open}

-- what the full question says of an accepted list the question says
asked_listed : (listed : Bool) (s : List ℕ) → version_listed s ≡ listed_as listed → version_asked s ≡ listed_as listed
asked_listed true s e =
    (asked by_default s (id_at extensions 0) version_cid).accepted ((listed_exactly by_default s (id_at extensions 0) version_cid).0 e).0 ∙ e
asked_listed false s e =
    (asked by_default s (id_at extensions 0) version_cid).accepted ((not_listed_exactly by_default s (id_at extensions 0) version_cid).0 e).0 ∙ e

-- a list that the question answers is judged by the versions and by whether VERSION is listed
list_judged : (h : Host) (listed : Bool) (s : List ℕ) → version_asked s ≡ listed_as listed → services_reply_of h 0 s ≡ list_at h.stage h listed
unfolding services_reply_of list_reply
list_judged h listed s e = rw e

pub accepted_list : AcceptedList
accepted_list h listed s e = list_judged h listed s (asked_listed listed s e)

pub fault_behind : FaultBehind
fault_behind h s i k r = list_judged h true s ((asked by_default s (id_at extensions 0) version_cid).reached i k r)

pub fault_before : FaultBefore
unfolding services_reply_of list_reply
fault_before h s r e none = rw (ap without_position (((asked by_default s (id_at extensions 0) version_cid).refused r).1 (e, none)))

pub refuses_exactly : RefusesExactly
unfolding list_at list_rules judge_from first_of fault_if
refuses_exactly n k a listed s e = rw (list_judged (end n (Open a)) listed s e) (by_rule n a listed)
  where
    by_rule : (n a : Version) (listed : Bool) → refused_with (list_at (Open a) (end n (Open a)) listed).answer ≡ expected_reason (expected n k a listed)
    by_rule V1 V1 listed = refl
    by_rule V1 V2 listed = refl
    by_rule V2 V1 true = refl
    by_rule V2 V1 false = refl
    by_rule V2 V2 true = refl
    by_rule V2 V2 false = refl
