-- Calls that reach each sound host: OPEN, the reply to DEVICE_SERVICES, and a VERSION that failed.
-- Assumes nothing.
use mathlib.Core.Path.{◌≡◌, refl, ◌∙◌}
use mathlib.Core.Bool.{Bool, true, false}
use mathlib.Core.List.{[], ◌∷◌}
use Prim.Native.Nat.{ℕ}
use native.Mathlib.Omega.{arith}
use Rattle.protocol.specs.MessageType.{COMMAND_DONE}
use Rattle.protocol.specs.Verdict.{fault_if, first_of, judge_from, judge}
use Rattle.protocol.specs.declared.Version.{Version}
use Rattle.protocol.specs.declared.Version.TheVariants.{V1, V2}
use Rattle.handshake.specs.Versions.{number_of, number_verdict}
use Rattle.host.specs.Host.{end, made_of, opened_of, list_rules, judged_list, list_at, failed_at, version_reply_of, reply_role, receive_by, receive_of}
use Rattle.handshake_claims.specs.Calls.{host_opens, host_receives, HostSound}
use Rattle.handshake_claims.proofs.Refusing.{accepted_list}
use Rattle.host.specs.declared.Host.{Host}
use Rattle.host.specs.declared.HostStage.{HostStage}
use Rattle.host.specs.declared.HostStage.TheVariants.{Closed, Open, AwaitsVersion, Settled}
use Rattle.lent_claims.specs.Given.{Bytes}
use Rattle.lent_claims.specs.Turns.{run}
use Rattle.lent_claims.specs.HostMemory.{HostGiven, host_call, HostMadeFrom, HostReached}
use Rattle.lent_claims.proofs.Fields.{small}
use Rattle.lent_claims.proofs.Messages.{listing, listing_says, listing_bytes, services, version, services_small, version_small, services_role, version_role}
use Rattle.std.specs.Prelude.{Ok}

-- ---- one call

made_of_lem : (n : Version) → made_of (number_of n) ≡ Ok (end n Closed)
unfolding made_of number_verdict judge_from fault_if first_of
made_of_lem V1 = refl
made_of_lem V2 = refl

opened : (n a : Version) → (opened_of (end n Closed) (number_of a)).host ≡ end n (Open a)
unfolding opened_of number_verdict judge_from fault_if first_of
opened n V1 = refl
opened n V2 = refl

-- a reply to DEVICE_SERVICES with or without VERSION
listed : (n a : Version) (b : Bool) → (receive_of (end n (Open a)) (services COMMAND_DONE) (listing b)).host ≡ (judged_list (judge (list_rules n a b)) (end n (Open a)) a b).host
unfolding receive_of receive_by reply_role list_at
listed n a b = rw (services_role, accepted_list (end n (Open a)) b (listing b) (listing_says b))

awaits : (a : Version) → (judged_list (judge (list_rules V2 a true)) (end V2 (Open a)) a true).host ≡ end V2 (AwaitsVersion a)
unfolding list_rules judge_from fault_if first_of
awaits V1 = refl
awaits V2 = refl

settles : (n : Version) → (judged_list (judge (list_rules n V1 false)) (end n (Open V1)) V1 false).host ≡ end n (Settled V1)
unfolding list_rules judge_from fault_if first_of
settles V1 = refl
settles V2 = refl

-- a reply to VERSION that failed
failed : (a : Version) → (receive_of (end V2 (AwaitsVersion a)) (version COMMAND_DONE 1) []).host ≡ end V2 (Settled a)
unfolding receive_of receive_by reply_role version_reply_of failed_at
failed a = rw version_role

-- ---- the calls

begins : (n : Version) → HostMadeFrom (end n Closed)
begins n = (number_of n, small n, made_of_lem n)

none : Bytes []
none i = omega arith

lists : (b : Bool) → HostGiven (host_receives (services COMMAND_DONE) (listing b))
lists b = (services_small COMMAND_DONE (omega arith), listing_bytes b)

reached : (n : Version) (s : HostStage) → HostSound n s → HostReached (end n s)
unfolding run host_call
reached n Closed k = record { begun = end n Closed; made = begins n; calls = []; given = tt; end = refl }
reached n (Open a) k = record { begun = end n Closed; made = begins n; calls = host_opens (number_of a) ∷ []; given = (small a, tt); end = opened n a }
reached n (AwaitsVersion a) k = rw k record {
  begun = end V2 Closed;
  made = begins V2;
  calls = host_opens (number_of a) ∷ host_receives (services COMMAND_DONE) (listing true) ∷ [];
  given = (small a, (lists true, tt));
  end = rw (opened V2 a) (listed V2 a true ∙ awaits a);
}
reached n (Settled V1) k = record {
  begun = end n Closed;
  made = begins n;
  calls = host_opens (number_of V1) ∷ host_receives (services COMMAND_DONE) (listing false) ∷ [];
  given = (small V1, (lists false, tt));
  end = rw (opened n V1) (listed n V1 false ∙ settles n);
}
reached V1 (Settled V2) k = let z : ◌≡◌ {A = ℕ} 0 1 = cc in absurd (omega arith)
reached V2 (Settled V2) k = record {
  begun = end V2 Closed;
  made = begins V2;
  calls = host_opens (number_of V2) ∷ host_receives (services COMMAND_DONE) (listing true) ∷ host_receives (version COMMAND_DONE 1) [] ∷ [];
  given = (small V2, (lists true, ((version_small COMMAND_DONE 1 (omega arith) (omega arith), none), tt)));
  end = rw (opened V2 V2, listed V2 V2 true, awaits V2) (failed V2);
}

pub host_reached : (h : Host) → HostSound h.native h.stage → HostReached h
host_reached h k = reached h.native h.stage k
