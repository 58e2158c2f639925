-- The modem's end in lent memory: native version at 0, advertised at 2, whether it lists VERSION at 4, stage at 6, the version settled on at 8, 16 bits each.
-- In this order: stages as numbers; what the memory holds; the bytes of an end; an end made; an end put back to its start; a message.
-- Memory that holds no end which calls can have left is refused, 10 at the field's place, and stays as it was.
use Rattle.std.specs.Prelude.{ℕ, Bool, not, cond, ◌&&◌, List, [], ◌∷◌, ◌++◌, ltb, eqb, Ok, Err, Result}
use Rattle.std.proofs.lemmas.List.Edits.{sets}
use Rattle.wire.specs.Numbers.{u16_at, digits}
use Rattle.protocol.specs.Refusal.{contradiction}
use Rattle.protocol.specs.Verdict.{Rule, rule, judge, no_fault, Verdict}
use Rattle.protocol.specs.declared.Version.{Version}
use Rattle.version_info.specs.VersionInfo.{is_extension}
use Rattle.handshake.specs.Versions.{extensions2, number_of, version_of}
use Rattle.message.specs.declared.MessageHeader.{MessageHeader}
use Rattle.modem.specs.Modem.{settled_number, made_of, start_of, Commanding, receive_of, ModemMade}
use Rattle.modem.specs.declared.Modem.{Modem}
use Rattle.modem.specs.declared.ModemStage.{ModemStage}
use Rattle.modem.specs.declared.ModemStage.TheVariants.{Start, Listed, Settled}
use Rattle.lent.specs.Stored.{Stored, unstored, stored}
use Rattle.lent_ends.specs.Stages.{native_rules, stray_version}
use Rattle.lent_modem.specs.declared.ModemReply.{ModemReply}
use Rattle.protocol.specs.declared.Refusal.{Refusal}

abbrev pub ModemHeld : Type 0
ModemHeld = Result Modem Refusal

-- ---- stages: 0 start, 1 list served, 2 settled

abbrev pub stage_of : ℕ → Version → ModemStage
stage_of n v = cond (eqb n 0) Start (cond (eqb n 1) Listed (Settled v))

abbrev pub stage_number : ModemStage → ℕ
stage_number Start = 0
stage_number Listed = 1
stage_number (Settled v) = 2

abbrev pub flag_number : Bool → ℕ
flag_number b = cond b 1 0

-- ---- what the memory holds

abbrev pub modem_size : ℕ
modem_size = 10

-- only a settled end has a version: not above its native one, not below its advertised one, and 2.00 only where VERSION is listed
abbrev pub stage_rules : ℕ → ℕ → ℕ → ℕ → ℕ → List Rule
stage_rules native advertised listed stage version =
    rule (ltb 2 stage) contradiction 6
    ∷ rule (stray_version (eqb stage 2) version) contradiction 8
    ∷ rule (ltb native version) contradiction 8
    ∷ rule (eqb stage 2 && ltb version advertised) contradiction 8
    ∷ rule (eqb listed 0 && eqb version extensions2) contradiction 8
    ∷ []

-- advertised is not above native
abbrev pub modem_rules : List ℕ → List Rule
modem_rules m =
    native_rules modem_size m
    ++ (rule (not (is_extension (u16_at m 2))) contradiction 2
    ∷ rule (ltb (u16_at m 0) (u16_at m 2)) contradiction 2
    ∷ rule (ltb 1 (u16_at m 4)) contradiction 4
    ∷ stage_rules (u16_at m 0) (u16_at m 2) (u16_at m 4) (u16_at m 6) (u16_at m 8))

unfoldable pub modem_at : List ℕ → Modem
modem_at m = record {
  native = version_of (u16_at m 0);
  advertised = version_of (u16_at m 2);
  lists_version = not (eqb (u16_at m 4) 0);
  stage = stage_of (u16_at m 6) (version_of (u16_at m 8));
}

abbrev pub held_by : Verdict → Modem → ModemHeld
held_by (Ok _) x = Ok x
held_by (Err r) x = Err r

unfoldable pub modem_in : List ℕ → ModemHeld
modem_in m = held_by (judge (modem_rules m)) (modem_at m)

-- ---- the bytes of an end

unfoldable pub modem_bytes : Modem → List ℕ
modem_bytes x =
    digits 2 (number_of x.native) ++ (digits 2 (number_of x.advertised) ++ (digits 2 (flag_number x.lists_version) ++ (digits 2 (stage_number x.stage) ++ digits 2 (settled_number x.stage))))

-- ---- an end made: 12, then its list of services, then the room

abbrev pub made_by : ModemMade → List ℕ → Stored
made_by (Ok x) m = stored modem_size (modem_bytes x) m
made_by (Err r) m = unstored r m

unfoldable pub make_in : List ℕ → ℕ → ℕ → List ℕ → Stored
make_in m native advertised services = made_by (made_of native advertised services) m

-- ---- the end in the memory m put back to its start

abbrev pub restart_by : ModemHeld → List ℕ → Stored
restart_by (Ok x) m = record { verdict = no_fault; memory = sets m 0 (modem_bytes (start_of x)) }
restart_by (Err r) m = unstored r m

unfoldable pub restart_in : List ℕ → Stored
restart_in m = restart_by (modem_in m) m

-- ---- a message with the information s to the end in the memory m: what it is answered, and the stage after it

pub record ModemCalled : Type 0 where
  pub reply : ModemReply
  pub memory : List ℕ
  pub output : List ℕ

abbrev pub commanded : List ℕ → Commanding → ModemCalled
commanded m c = record {
  reply = record { answer = c.step.answer; stage = c.step.modem.stage };
  memory = sets m 0 (modem_bytes c.step.modem);
  output = c.output;
}

abbrev pub receive_by : ModemHeld → List ℕ → MessageHeader → List ℕ → List ℕ → ModemCalled
receive_by (Ok x) m message s out = commanded m (receive_of x message s out)
receive_by (Err r) m message s out = record { reply = record { answer = Err r; stage = Start }; memory = m; output = out }

unfoldable pub receive_in : List ℕ → MessageHeader → List ℕ → List ℕ → ModemCalled
receive_in m message s out = receive_by (modem_in m) m message s out
