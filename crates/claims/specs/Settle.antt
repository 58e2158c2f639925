-- Demand 3: host and modem settle on the one version of the rule, or the host refuses in exactly two cases.
-- The run is `run` and the rule `expected` in handshake_claims/specs/Run. Here every command and reply goes over the wire, and the services list is any
-- that the writer accepts. Proved in proofs/Settled.
use Rattle.std.specs.Prelude.{ℕ, ◌≤◌, ◌<◌, ◌^◌, ◌≡◌, Bool, false, List, length, take}
use Rattle.protocol.specs.Service.{id_at, extensions}
use Rattle.protocol.specs.declared.Version.{Version}
use Rattle.folds.specs.Folds.{any_of}
use Rattle.services_writer.specs.ServicesWriter.{write_of}
use Rattle.services_writer.specs.declared.ServiceList.{ServiceList}
use Rattle.services_trip.specs.ServicesTrip.{holds_in, OfWidth}
use Rattle.handshake.specs.Versions.{number_of, above}
use Rattle.handshake.specs.Commands.{version_cid}
use Rattle.host.specs.Host.{end, opened_of}
use Rattle.modem.specs.Modem.{start_of, end as modem_end}
use Rattle.handshake_claims.specs.Run.{Message, OtherCommand, Rooms, run, expected, Outcome}
use Rattle.claims.specs.Wire.{Way, Open, wire, Sendable}
use Rattle.host.specs.declared.HostStage.{HostStage}
use Rattle.modem.specs.declared.ModemStage.{ModemStage}
use Rattle.std.specs.Prelude.{Ok}

-- the list holds CID 15 of the extensions
abbrev pub lists_version : ServiceList → Bool
lists_version p = any_of (holds_in p (id_at extensions 0) version_cid) p.device_services_count

-- what is written of the list p: n bytes of an output
pub record ListWritten (p : ServiceList) (out : List ℕ) (n : ℕ) : Type 0 where
  pub width : OfWidth p
  pub accepted : (write_of p out).answer ≡ Ok n

-- any native versions, any advertised one not above the modem's, any list that the writer accepts, any other command, any transactions, any ways for the four
-- messages, ends just opened and room for VERSION
abbrev pub BothSettle : Type 0
BothSettle = (host modem advertised : Version) → above advertised modem ≡ false → (p : ServiceList) (out : List ℕ) (n : ℕ) → ListWritten p out n
    → (given : Message) → OtherCommand given → Sendable given → (t₁ t₂ : ℕ) → 0 < t₁ → 0 < t₂ → t₁ < 2 ^ 32 → t₂ < 2 ^ 32
    → (to₁ back₁ to₂ back₂ : Way) → Open to₁ → Open back₁ → Open to₂ → Open back₂
    → (w₁ w₂ : Rooms) → 4 ≤ length w₂.host → 4 ≤ length w₂.modem → (g : HostStage) (f : ModemStage)
    → Outcome (expected host modem advertised (lists_version p)) host modem advertised (lists_version p) t₁ t₂ given
    (run (wire to₁ back₁) (wire to₂ back₂) w₁ w₂ t₁ t₂ given (take n (write_of p out).output) (opened_of (end host g) (number_of advertised)).host (start_of (modem_end modem advertised (lists_version p) f)))
