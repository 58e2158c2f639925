-- Answers of the handshake's ends as plain members: a refused one has all other members 0.
use Rattle.std.specs.Prelude.{ℕ}
use Rattle.protocol.specs.declared.Refusal.{Refusal}
use Rattle.protocol.specs.Status.{no_device_support}
use Rattle.handshake.specs.Versions.{number_of}
use Rattle.modem.specs.Modem.{settled_number}
use Rattle.host.specs.declared.HostAnswer.{HostAnswer}
use Rattle.host.specs.declared.HostAnswer.TheVariants as host
use Rattle.host.specs.declared.Ask.{Ask}
use Rattle.host.specs.declared.Ask.TheVariants as ask
use Rattle.modem.specs.declared.ModemStage.{ModemStage}
use Rattle.modem.specs.declared.ModemAnswer.{ModemAnswer}
use Rattle.modem.specs.declared.ModemAnswer.TheVariants as modem
use Rattle.c_structs.specs.declared.ends.HostInfo.{HostInfo}
use Rattle.c_structs.specs.declared.ends.AskInfo.{AskInfo}
use Rattle.c_structs.specs.declared.ends.ModemInfo.{ModemInfo}
use Rattle.c_structs.specs.Answers.{no_refusal, refusal_info}
use Rattle.c_structs.specs.declared.RefusalInfo.{RefusalInfo}
use Rattle.c_structs.specs.Messages.{kind_number}
use Rattle.std.specs.Prelude.{Ok, Err, Result}

-- ---- what a call did to the host's end

abbrev pub event_info : ℕ → ℕ → HostInfo
event_info event version = record { refusal = no_refusal; event = event; version = version }

unfoldable pub host_info : (Result HostAnswer Refusal) → HostInfo
host_info (Ok host.Unchanged) = event_info 0 0
host_info (Ok host.Opened) = event_info 1 0
host_info (Ok host.AsksVersion) = event_info 2 0
host_info (Ok (host.Settled v)) = event_info 3 (number_of v)
host_info (Err r) = record { refusal = refusal_info r; event = 0; version = 0 }

-- ---- the host's next command

abbrev pub command_info : RefusalInfo → ℕ → ℕ → ℕ → AskInfo
command_info r command version n = record { refusal = r; command = command; version = version; length = n }

unfoldable pub ask_info : (Result Ask Refusal) → AskInfo
ask_info (Ok ask.Nothing) = command_info no_refusal 0 0 0
ask_info (Ok ask.Services) = command_info no_refusal 1 0 0
ask_info (Ok (ask.Version n)) = command_info no_refusal 2 0 n
ask_info (Ok (ask.Free v)) = command_info no_refusal 3 (number_of v) 0
ask_info (Err r) = command_info (refusal_info r) 0 0 0

-- ---- what the modem does with a command: 1 serves it, 2 answered VERSION, 3 failed it, 4 doesn't know it; with the version that it is then settled at, or 0

abbrev pub action_info : RefusalInfo → ℕ → ℕ → ℕ → ℕ → ℕ → ℕ → ModemInfo
action_info r action status kind version place n = record { refusal = r; action = action; status = status; kind = kind; version = version; place = place; length = n }

abbrev pub failed_info : ℕ → ℕ → ℕ → ℕ → ModemInfo
failed_info action status version place = action_info no_refusal action status 0 version place 0

unfoldable pub modem_info : (Result ModemAnswer Refusal) → ModemStage → ModemInfo
modem_info (Ok (modem.Serve k)) g = action_info no_refusal 1 0 (kind_number k) (settled_number g) 0 0
modem_info (Ok (modem.Version n)) g = action_info no_refusal 2 0 0 (settled_number g) 0 n
modem_info (Ok (modem.Failed s)) g = failed_info 3 s (settled_number g) 0
modem_info (Ok (modem.Unknown place)) g = failed_info 4 no_device_support (settled_number g) place
modem_info (Err r) g = action_info (refusal_info r) 0 0 0 0 0 0
