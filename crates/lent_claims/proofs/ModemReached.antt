-- Calls that reach each sound modem: DEVICE_SERVICES, and then another first command or VERSION.
-- Assumes nothing.
use mathlib.Core.Path.{◌≡◌, refl}
use mathlib.Core.Bool.{Bool, true, false}
use mathlib.Core.List.{List, [], ◌∷◌}
use Prim.Native.Nat.{ℕ}
use native.Mathlib.Omega.{arith}
use Rattle.wire.specs.Numbers.{u16_at}
use Rattle.wire.specs.Output.{over}
use Rattle.protocol.specs.MessageType.{COMMAND}
use Rattle.protocol.specs.Verdict.{fault_if, first_of, judge_from, exact_length, given, with_room, writing}
use Rattle.protocol.specs.declared.Version.{Version}
use Rattle.protocol.specs.declared.Version.TheVariants.{V1, V2}
use Rattle.version_info.specs.VersionInfo.{record_at, rules, verdict_of, read_of, bytes_of, write_of}
use Rattle.handshake.specs.Versions.{number_of, info_of, above}
use Rattle.handshake_claims.proofs.Bounded.{none_above}
use Rattle.modem.specs.Modem.{end, made_rules, made_of, services_of, gave, give_of, answer_by, can_answer, version_of_command, other_at, command_by, command_of, receive_by, receive_of}
use Rattle.handshake_claims.specs.Calls.{ModemCall, modem_receives, ModemSound, ModemSoundAt}
use Rattle.modem.specs.declared.Modem.{Modem}
use Rattle.modem.specs.declared.ModemStage.{ModemStage}
use Rattle.modem.specs.declared.ModemStage.TheVariants.{Start, Listed, Settled}
use Rattle.lent_claims.specs.Given.{Bytes}
use Rattle.lent_claims.specs.Turns.{run}
use Rattle.lent_claims.specs.ModemMemory.{ModemGiven, modem_call, ModemMadeFrom, ModemReached}
use Rattle.lent_claims.proofs.Fields.{small, bytes_of_lem}
use Rattle.lent_claims.proofs.Messages.{listing, listing_says, listing_bytes, services, version, other, services_small, version_small, other_small, services_role, version_role, other_role}
use Rattle.std.specs.Prelude.{Ok}

-- ---- one call

made_of_lem : (n a : Version) (b : Bool) → above a n ≡ false → made_of (number_of n) (number_of a) (listing b) ≡ Ok (end n a b Start)
unfolding made_of made_rules judge_from fault_if first_of
made_of_lem V1 V1 true k = rw (listing_says true)
made_of_lem V1 V1 false k = rw (listing_says false)
made_of_lem V1 V2 b k = let z : ◌≡◌ {A = ℕ} 0 1 = cc in absurd (omega arith)
made_of_lem V2 V1 true k = rw (listing_says true)
made_of_lem V2 V1 false k = rw (listing_says false)
made_of_lem V2 V2 true k = rw (listing_says true)
made_of_lem V2 V2 false k = rw (listing_says false)

listed : (n a : Version) (b : Bool) → (receive_of (end n a b Start) (services COMMAND) [] []).step.modem ≡ end n a b Listed
unfolding receive_of receive_by command_of command_by services_of judge_from fault_if first_of
listed n a b = rw services_role

-- a command of no known CID settles a modem that advertises 1.00
settles : (n : Version) (b : Bool) → (receive_of (end n V1 b Listed) other [] []).step.modem ≡ end n V1 b (Settled V1)
unfolding receive_of receive_by command_of command_by other_at judge_from fault_if first_of
settles n b = rw other_role

-- VERSION from a host of 2.00, and room for the answer
asked : List ℕ
asked = 0 ∷ 1 ∷ 0 ∷ 2 ∷ []

room : List ℕ
room = 0 ∷ 0 ∷ 0 ∷ 0 ∷ []

answered : (a : Version) → (receive_of (end V2 a true Listed) (version COMMAND 0) asked room).step.modem ≡ end V2 a true (Settled V2)
unfolding receive_of receive_by command_of command_by version_of_command can_answer answer_by give_of gave record_at rules verdict_of read_of bytes_of write_of info_of asked room judge_from fault_if first_of exact_length given with_room writing u16_at over
answered V1 = rw version_role
answered V2 = rw version_role

-- ---- the calls

begins : (n a : Version) (b : Bool) → above a n ≡ false → ModemMadeFrom (end n a b Start)
begins n a b k = record {
  native = number_of n;
  advertised = number_of a;
  services = listing b;
  native_small = small n;
  advertised_small = small a;
  services_bytes = listing_bytes b;
  made = made_of_lem n a b k;
}

none : Bytes []
none i = omega arith

lists : ModemCall
lists = modem_receives (services COMMAND) [] []

lists_given : ModemGiven lists
unfolding lists
lists_given = (services_small COMMAND (omega arith), none, none)

asked_given : ModemGiven (modem_receives (version COMMAND 0) asked room)
unfolding asked room
asked_given = (version_small COMMAND 0 (omega arith) (omega arith), bytes_of_lem asked refl, bytes_of_lem room refl)

settled_first : (n : Version) (b : Bool) → ModemReached (end n V1 b (Settled V1))
unfolding run modem_call lists
settled_first n b = record {
  begun = end n V1 b Start;
  made = begins n V1 b refl;
  calls = lists ∷ modem_receives other [] [] ∷ [];
  given = (lists_given, ((other_small, none, none), tt));
  end = rw (listed n V1 b) (settles n b);
}

settled_second : (a : Version) → ModemReached (end V2 a true (Settled V2))
unfolding run modem_call lists
settled_second a = record {
  begun = end V2 a true Start;
  made = begins V2 a true (none_above a);
  calls = lists ∷ modem_receives (version COMMAND 0) asked room ∷ [];
  given = (lists_given, (asked_given, tt));
  end = rw (listed V2 a true) (answered a);
}

settled : (n a : Version) (b : Bool) (v : Version) → ModemSoundAt n a b (Settled v) → ModemReached (end n a b (Settled v))
settled n V1 b V1 k = settled_first n b
settled n V2 b V1 k = let q = k.1 in let z : ◌≡◌ {A = ℕ} 0 1 = cc in absurd (omega arith)
settled V1 a b V2 k = let q = k.0 in let z : ◌≡◌ {A = ℕ} 0 1 = cc in absurd (omega arith)
settled V2 a true V2 k = settled_second a
settled V2 a false V2 k = let q = k.2 in let z : ◌≡◌ {A = ℕ} 0 1 = cc in absurd (omega arith)

reached : (n a : Version) (b : Bool) (s : ModemStage) → above a n ≡ false → ModemSoundAt n a b s → ModemReached (end n a b s)
unfolding run modem_call lists
reached n a b Start k q = record { begun = end n a b Start; made = begins n a b k; calls = []; given = tt; end = refl }
reached n a b Listed k q = record { begun = end n a b Start; made = begins n a b k; calls = lists ∷ []; given = (lists_given, tt); end = listed n a b }
reached n a b (Settled v) k q = settled n a b v q

pub modem_reached : (x : Modem) → ModemSound x → ModemReached x
modem_reached x k = reached x.native x.advertised x.lists_version x.stage k.0 k.1
