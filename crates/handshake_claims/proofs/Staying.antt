-- A settled end is left as it is by every call but OPEN and CLOSE.
-- Assumes nothing.
use Prim.Native.Nat.{ℕ}
use mathlib.Core.Path.{◌≡◌, refl, ap}
use mathlib.Core.Bool.{Bool, true, false, cond}
use mathlib.Core.List.{List, [], ◌∷◌}
use lib.Dec.{eqb}
use Rattle.protocol.specs.Service.{kind_of, Carried}
use Rattle.protocol.specs.Verdict.{judge, Verdict}
use Rattle.protocol.specs.declared.Version.{Version}
use Rattle.message.specs.declared.MessageHeader.{MessageHeader}
use Rattle.version_info.specs.VersionInfo.{read_of, VersionInfoRead}
use Rattle.handshake.specs.Commands.{role_of}
use Rattle.host.specs.Host.{list_at, list_reply, version_asked, services_reply_of, answered_at, failed_at, answered_by, version_reply_of, reply_role, receive_by, receive_of}
use Rattle.modem.specs.Modem.{at, listed_stage, services_of, can_answer, version_of_command, other_at, command_by, command_of, command_rules, receive_by as commanded_by, receive_of as modem_receive_of}
use Rattle.handshake_claims.specs.Calls.{host_opens, host_closes, host_receives, host_asks, host_after, host_after_all, modem_opens, modem_closes, modem_receives, modem_after, modem_after_all}
use Rattle.host.specs.declared.HostStage.TheVariants as host
use Rattle.host.specs.declared.Host.{Host}
use Rattle.host.specs.declared.HostStep.{HostStep}
use Rattle.modem.specs.declared.ModemStage.TheVariants as modem
use Rattle.modem.specs.declared.Modem.{Modem}
use Rattle.handshake.specs.declared.Role.{Role}
use Rattle.handshake.specs.declared.Role.TheVariants as role
use Rattle.handshake_claims.specs.Claims.{HostStays, ModemStays}
use Rattle.std.specs.Prelude.{Ok, Err}
use Rattle.services_query.specs.ServicesQuery.{ListedAnswer}

-- ---- the host

either : (h : Host) (b : Bool) (x y : HostStep) → x.host ≡ h → y.host ≡ h → (cond b x y).host ≡ h
either h true x y p q = p
either h false x y p q = q

module _ (h : Host) (v : Version) (e : h.stage ≡ host.Settled v) where
  by_list : (a : ListedAnswer) → (list_reply h a).host ≡ h
  unfolding list_reply list_at
  by_list (Ok listed) = rw e
  by_list (Err r) = refl

  by_payload : (a : VersionInfoRead) → (answered_by h a).host ≡ h
  unfolding answered_by answered_at
  by_payload (Ok i) = rw e
  by_payload (Err r) = refl

  by_failure : (failed_at h.stage h).host ≡ h
  unfolding failed_at
  by_failure = rw e

  keeps_list : (status : ℕ) (s : List ℕ) → (services_reply_of h status s).host ≡ h
  unfolding services_reply_of
  keeps_list status s = either h (eqb status 0) _ _ (by_list (version_asked s)) refl

  keeps_version : (status : ℕ) (s : List ℕ) → (version_reply_of h status s).host ≡ h
  unfolding version_reply_of
  keeps_version status s = either h (eqb status 0) _ _ (by_payload (read_of s)) by_failure

  keeps_message : (k : Role) (status : ℕ) (s : List ℕ) → (receive_by k h status s).host ≡ h
  unfolding receive_by
  keeps_message role.Services status s = keeps_list status s
  keeps_message role.Version status s = keeps_version status s
  keeps_message role.Other status s = refl

pub host_stays : HostStays
unfolding host_after_all host_after receive_of
host_stays h v e [] q = refl
host_stays h v e (host_opens a ∷ cs) q = absurd q
host_stays h v e (host_closes ∷ cs) q = absurd q
host_stays h v e (host_receives m s ∷ cs) q = rw (keeps_message h v e (reply_role m) m.word s) (host_stays h v e cs q)
host_stays h v e (host_asks out ∷ cs) q = host_stays h v e cs q

-- ---- the modem

module _ (m : Modem) (v : Version) (e : m.stage ≡ modem.Settled v) where
  keeps_services : (c : Carried) → (services_of m c).modem ≡ m
  unfolding services_of
  keeps_services c = let q : listed_stage m.stage ≡ m.stage = rw e in ap (at m) q

  refuses_version : (type : ℕ) → can_answer m type ≡ false
  unfolding can_answer
  refuses_version type = rw e

  by_role : (k : Role) (c : Carried) (type : ℕ) (s out : List ℕ) → (command_by k m c type s out).step.modem ≡ m
  unfolding command_by version_of_command other_at
  by_role role.Services c type s out = keeps_services c
  by_role role.Version c type s out = rw (refuses_version type)
  by_role role.Other c type s out = rw e

  by_verdict : (d : Verdict) (h : MessageHeader) (s out : List ℕ) → (commanded_by d m h s out).step.modem ≡ m
  unfolding commanded_by command_of
  by_verdict (Ok _) h s out = by_role (role_of (kind_of h.service h.cid)) (kind_of h.service h.cid) h.word s out
  by_verdict (Err r) h s out = refl

pub modem_stays : ModemStays
unfolding modem_after_all modem_after modem_receive_of
modem_stays m v e [] q = refl
modem_stays m v e (modem_opens ∷ cs) q = absurd q
modem_stays m v e (modem_closes ∷ cs) q = absurd q
modem_stays m v e (modem_receives h s out ∷ cs) q = rw (by_verdict m v e (judge (command_rules h)) h s out) (modem_stays m v e cs q)
