-- The host's end in lent memory: native version at 0, stage at 2, the stage's version at 4, 16 bits each.
-- In this order: stages as numbers; what the memory holds; the bytes of an end; an end made; a call on the end; what it asks.
-- Memory that holds no end which calls can have left is refused, 10 at the field's place, and stays as it was.
use Rattle.std.specs.Prelude.{ℕ, not, cond, ◌&&◌, List, [], ◌∷◌, ◌++◌, ltb, eqb, Ok, Err, Result}
use Rattle.std.proofs.lemmas.List.Edits.{sets}
use Rattle.wire.specs.Numbers.{u16_at, digits}
use Rattle.protocol.specs.Refusal.{contradiction}
use Rattle.protocol.specs.Verdict.{Rule, rule, judge, Verdict}
use Rattle.protocol.specs.declared.Version.{Version}
use Rattle.handshake.specs.Versions.{extensions2, number_of, version_of}
use Rattle.message.specs.declared.MessageHeader.{MessageHeader}
use Rattle.host.specs.Host.{step, made_of, opened_of, closed_of, receive_of, Asking, plain, ask_of, HostMade}
use Rattle.host.specs.declared.Host.{Host}
use Rattle.host.specs.declared.HostStep.{HostStep}
use Rattle.host.specs.declared.HostAnswer.{HostAnswer}
use Rattle.host.specs.declared.HostAnswer.TheVariants as answer
use Rattle.host.specs.declared.HostStage.{HostStage}
use Rattle.host.specs.declared.HostStage.TheVariants.{Closed, Open, AwaitsVersion, Settled}
use Rattle.lent.specs.Stored.{Stored, unstored, stored}
use Rattle.lent_ends.specs.Stages.{native_rules, stray_version}
use Rattle.protocol.specs.declared.Refusal.{Refusal}

abbrev pub HostHeld : Type 0
HostHeld = Result Host Refusal

-- ---- stages: 0 closed, 1 open, 2 awaits VERSION, 3 settled

abbrev pub stage_of : ℕ → Version → HostStage
stage_of n v = cond (eqb n 0) Closed (cond (eqb n 1) (Open v) (cond (eqb n 2) (AwaitsVersion v) (Settled v)))

abbrev pub stage_number : HostStage → ℕ
stage_number Closed = 0
stage_number (Open v) = 1
stage_number (AwaitsVersion v) = 2
stage_number (Settled v) = 3

-- the advertised version, or the one settled on
abbrev pub stage_version : HostStage → ℕ
stage_version Closed = 0
stage_version (Open v) = number_of v
stage_version (AwaitsVersion v) = number_of v
stage_version (Settled v) = number_of v

-- ---- what the memory holds

abbrev pub host_size : ℕ
host_size = 6

-- only a host of 2.00 asks VERSION; a closed one has no version, and none settles above its native one
abbrev pub host_rules : List ℕ → List Rule
host_rules m =
    native_rules host_size m
    ++ (rule (ltb 3 (u16_at m 2)) contradiction 2
    ∷ rule (eqb (u16_at m 2) 2 && ltb (u16_at m 0) extensions2) contradiction 2
    ∷ rule (stray_version (not (eqb (u16_at m 2) 0)) (u16_at m 4)) contradiction 4
    ∷ rule (eqb (u16_at m 2) 3 && ltb (u16_at m 0) (u16_at m 4)) contradiction 4
    ∷ [])

unfoldable pub host_at : List ℕ → Host
host_at m = record { native = version_of (u16_at m 0); stage = stage_of (u16_at m 2) (version_of (u16_at m 4)) }

abbrev pub held_by : Verdict → Host → HostHeld
held_by (Ok _) h = Ok h
held_by (Err r) h = Err r

unfoldable pub host_in : List ℕ → HostHeld
host_in m = held_by (judge (host_rules m)) (host_at m)

-- ---- the bytes of an end

unfoldable pub host_bytes : Host → List ℕ
host_bytes h = digits 2 (number_of h.native) ++ (digits 2 (stage_number h.stage) ++ digits 2 (stage_version h.stage))

-- ---- an end made: 12, then the room

abbrev pub made_by : HostMade → List ℕ → Stored
made_by (Ok h) m = stored host_size (host_bytes h) m
made_by (Err r) m = unstored r m

unfoldable pub make_in : List ℕ → ℕ → Stored
make_in m native = made_by (made_of native) m

-- ---- a call on the end in the memory m

pub record HostCalled : Type 0 where
  pub answer : Result HostAnswer Refusal
  pub memory : List ℕ

abbrev pub called_by : HostHeld → List ℕ → (Host → HostStep) → HostCalled
called_by (Ok h) m f = record { answer = (f h).answer; memory = sets m 0 (host_bytes (f h).host) }
called_by (Err r) m f = record { answer = Err r; memory = m }

abbrev pub called : List ℕ → (Host → HostStep) → HostCalled
called m f = called_by (host_in m) m f

unfoldable pub open_in : List ℕ → ℕ → HostCalled
open_in m advertised = called m (λ h. opened_of h advertised)

-- closing is answered by 'unchanged'
unfoldable pub close_in : List ℕ → HostCalled
close_in m = called m (λ h. step (closed_of h) (Ok answer.Unchanged))

unfoldable pub receive_in : List ℕ → MessageHeader → List ℕ → HostCalled
receive_in m message s = called m (λ h. receive_of h message s)

-- ---- what it asks

abbrev pub ask_by : HostHeld → List ℕ → Asking
ask_by (Ok h) out = ask_of h out
ask_by (Err r) out = plain (Err r) out

unfoldable pub ask_in : List ℕ → List ℕ → Asking
ask_in m out = ask_by (host_in m) out
