-- Any calls of an end, one after the other: each is given the end as the one before left it.
use Rattle.std.specs.Prelude.{ℕ, ◌≡◌, Bool, false, not, ◌&&◌, List, [], ◌∷◌}
use Rattle.protocol.specs.declared.Version.{Version}
use Rattle.protocol.specs.declared.Version.TheVariants.{V2}
use Rattle.message.specs.declared.MessageHeader.{MessageHeader}
use Rattle.handshake.specs.Versions.{above, is_later}
use Rattle.host.specs.Host.{opened_of, closed_of, receive_of}
use Rattle.modem.specs.Modem.{start_of, receive_of as modem_receive_of}
use Rattle.host.specs.declared.HostStage.{HostStage}
use Rattle.host.specs.declared.HostStage.TheVariants as host
use Rattle.host.specs.declared.Host.{Host}
use Rattle.modem.specs.declared.ModemStage.{ModemStage}
use Rattle.modem.specs.declared.ModemStage.TheVariants as modem
use Rattle.modem.specs.declared.Modem.{Modem}

-- ---- the host's

-- OPEN with an advertised number, CLOSE, a message as a header and its information, and what it asks next, with the lent output
pub data HostCall : Type 0 where
  host_opens : ℕ → HostCall
  host_closes : HostCall
  host_receives : MessageHeader → List ℕ → HostCall
  host_asks : List ℕ → HostCall

unfoldable pub host_after : Host → HostCall → Host
host_after h (host_opens advertised) = (opened_of h advertised).host
host_after h host_closes = closed_of h
host_after h (host_receives m s) = (receive_of h m s).host
host_after h (host_asks out) = h

unfoldable pub host_after_all : Host → List HostCall → Host
host_after_all h [] = h
host_after_all h (c ∷ cs) = host_after_all (host_after h c) cs

-- neither OPEN nor CLOSE is among the calls
abbrev pub HostQuiet : List HostCall → Type 0
HostQuiet [] = Unit
HostQuiet (host_opens advertised ∷ cs) = ⊥
HostQuiet (host_closes ∷ cs) = ⊥
HostQuiet (host_receives m s ∷ cs) = HostQuiet cs
HostQuiet (host_asks out ∷ cs) = HostQuiet cs

-- what holds of a host at each stage: only one of 2.00 asks VERSION, and none settles above its native version
abbrev pub HostSound : Version → HostStage → Type 0
HostSound native host.Closed = Unit
HostSound native (host.Open a) = Unit
HostSound native (host.AwaitsVersion a) = native ≡ V2
HostSound native (host.Settled v) = above v native ≡ false

-- ---- the modem's

-- a header, its information and the lent output
pub data ModemCall : Type 0 where
  modem_opens : ModemCall
  modem_closes : ModemCall
  modem_receives : MessageHeader → List ℕ → List ℕ → ModemCall

unfoldable pub modem_after : Modem → ModemCall → Modem
modem_after m modem_opens = start_of m
modem_after m modem_closes = start_of m
modem_after m (modem_receives h s out) = (modem_receive_of m h s out).step.modem

unfoldable pub modem_after_all : Modem → List ModemCall → Modem
modem_after_all m [] = m
modem_after_all m (c ∷ cs) = modem_after_all (modem_after m c) cs

abbrev pub ModemQuiet : List ModemCall → Type 0
ModemQuiet [] = Unit
ModemQuiet (modem_opens ∷ cs) = ⊥
ModemQuiet (modem_closes ∷ cs) = ⊥
ModemQuiet (modem_receives h s out ∷ cs) = ModemQuiet cs

-- what holds of a modem at each stage, by its native and advertised versions and by whether it lists VERSION:
-- it settles neither above the one nor below the other, and at 2.00 only where VERSION can be asked
abbrev pub ModemSoundAt : Version → Version → Bool → ModemStage → Type 0
ModemSoundAt native advertised listed modem.Start = Unit
ModemSoundAt native advertised listed modem.Listed = Unit
ModemSoundAt native advertised listed (modem.Settled v) =
    (above v native ≡ false) × (above advertised v ≡ false) × ((is_later v && not listed) ≡ false)

-- and it advertises nothing above its native version
abbrev pub ModemSound : Modem → Type 0
ModemSound m = (above m.advertised m.native ≡ false) × ModemSoundAt m.native m.advertised m.lists_version m.stage
