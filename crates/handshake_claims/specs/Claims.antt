-- What is claimed of the ends beside the promises.
-- In this order: how a modem is made; a list received; when a host refuses; what settled ends do; what a run comes to.
use Rattle.std.specs.Prelude.{ℕ, ◌≡◌, Bool, true, false, List, Ok, Err, Option, Some, None}
use Rattle.protocol.specs.declared.Version.{Version}
use Rattle.handshake.specs.Versions.{above, version_of, number_of}
use Rattle.protocol.specs.Service.{id_at, extensions}
use Rattle.protocol.specs.declared.Refusal.{Refusal}
use Rattle.protocol.specs.declared.Reason.{Reason}
use Rattle.device_services.specs.DeviceServices.{verdict_of}
use Rattle.services_ask.specs.Claims.{Reached}
use Rattle.handshake.specs.Commands.{version_cid, version_listed}
use Rattle.host.specs.Host.{end, refused, made_of, opened_of, list_at, version_asked, services_reply_of, refused_with}
use Rattle.modem.specs.Modem.{made_of as modem_made_of, end as modem_end, start_of}
use Rattle.handshake_claims.specs.Calls.{HostCall, HostQuiet, host_after_all, ModemCall, ModemQuiet, modem_after_all}
use Rattle.handshake_claims.specs.Run.{Message, Line, Rooms, Expected, refuses, settles, expected, Outcome, Ready, run, listed_as}
use Rattle.host.specs.declared.Host.{Host}
use Rattle.host.specs.declared.HostStage.{HostStage}
use Rattle.host.specs.declared.HostStage.TheVariants as host
use Rattle.modem.specs.declared.Modem.{Modem}
use Rattle.modem.specs.declared.ModemStage.{ModemStage}
use Rattle.modem.specs.declared.ModemStage.TheVariants as modem

-- a modem lists VERSION exactly where its list does
abbrev pub MadeByList : Type 0
MadeByList = (k a : Version) (listed : Bool) (s : List ℕ) → above a k ≡ false → version_listed s ≡ listed_as listed
    → modem_made_of (number_of k) (number_of a) s ≡ Ok (modem_end k a listed modem.Start)

-- 02, order 7: what a host makes of a list received, in any stage. By an accepted one it goes as before
abbrev pub AcceptedList : Type 0
AcceptedList = (h : Host) (listed : Bool) (s : List ℕ) → version_listed s ≡ listed_as listed → services_reply_of h 0 s ≡ list_at h.stage h listed

-- CID k of element i is VERSION, and stands before the first faulty element
abbrev pub VersionReached : List ℕ → ℕ → ℕ → Type 0
VersionReached s i k = Reached s (id_at extensions 0) version_cid i k

-- then it goes by the list as by one that lists VERSION, whatever stands behind
abbrev pub FaultBehind : Type 0
FaultBehind = (h : Host) (s : List ℕ) (i k : ℕ) → VersionReached s i k → services_reply_of h 0 s ≡ list_at h.stage h true

-- else it refuses a faulty list as the full reader does
abbrev pub FaultBefore : Type 0
FaultBefore = (h : Host) (s : List ℕ) (r : Refusal) → verdict_of s ≡ Err r → ((i k : ℕ) → VersionReached s i k → ⊥) → services_reply_of h 0 s ≡ refused h r

-- the reason that the rule refuses for, none where it settles
abbrev pub expected_reason : Expected → Option Reason
expected_reason (refuses r) = Some r
expected_reason (settles v) = None

-- at a list that the question answers an opened host refuses exactly where the rule does, for the rule's reason
abbrev pub RefusesExactly : Type 0
RefusesExactly = (n k a : Version) (listed : Bool) (s : List ℕ) → version_asked s ≡ listed_as listed
    → refused_with (services_reply_of (end n (host.Open a)) 0 s).answer ≡ expected_reason (expected n k a listed)

-- a settled end stays as it is in any calls but OPEN and CLOSE
abbrev pub HostStays : Type 0
HostStays = (h : Host) (v : Version) → h.stage ≡ host.Settled v → (cs : List HostCall) → HostQuiet cs → host_after_all h cs ≡ h

abbrev pub ModemStays : Type 0
ModemStays = (m : Modem) (v : Version) → m.stage ≡ modem.Settled v → (cs : List ModemCall) → ModemQuiet cs → modem_after_all m cs ≡ m

-- and none is settled above its native version
abbrev pub HostNeverAbove : Type 0
HostNeverAbove = (native : ℕ) (h : Host) → made_of native ≡ Ok h → (cs : List HostCall) (v : Version)
    → (host_after_all h cs).stage ≡ host.Settled v → above v (version_of native) ≡ false

abbrev pub ModemNeverAbove : Type 0
ModemNeverAbove = (native advertised : ℕ) (s : List ℕ) (m : Modem) → modem_made_of native advertised s ≡ Ok m
    → (cs : List ModemCall) (v : Version) → (modem_after_all m cs).stage ≡ modem.Settled v → above v m.native ≡ false

-- from ends just opened, whatever they were before, a run comes to what the rule says
abbrev pub EndsSettle : Type 0
EndsSettle = (l₁ l₂ : Line) (w₁ w₂ : Rooms) (t₁ t₂ : ℕ) (given : Message) (s : List ℕ) (n k a : Version) (listed : Bool) (g : HostStage) (f : ModemStage)
    → Ready n k a listed l₁ l₂ w₂ t₁ t₂ given s
    → Outcome (expected n k a listed) n k a listed t₁ t₂ given (run l₁ l₂ w₁ w₂ t₁ t₂ given s (opened_of (end n g) (number_of a)).host (start_of (modem_end k a listed f)))
