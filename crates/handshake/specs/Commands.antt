-- The commands that the handshake knows (document 01, "Known services" and "The handshake"), and what a list of services says of VERSION.
use Rattle.std.specs.Prelude.{ℕ, List, Ok, Err}
use Rattle.protocol.specs.Service.{id_at, extensions, Carried}
use Rattle.protocol.specs.declared.service.Kind.{Kind}
use Rattle.protocol.specs.declared.service.Kind.TheVariants as kind
use Rattle.services_query.specs.ServicesQuery.{listed_of, ListedAnswer}
use Rattle.handshake.specs.declared.Role.{Role}
use Rattle.handshake.specs.declared.Role.TheVariants as role

-- Basic Connect, CID 16
abbrev pub services_cid : ℕ
services_cid = 16

-- Extensions, CID 15
abbrev pub version_cid : ℕ
version_cid = 15

-- DEVICE_SERVICES, VERSION, and any other, of a known CID or not
unfoldable pub role_of_kind : Kind → Role
role_of_kind kind.RegisterState = role.Other
role_of_kind kind.PacketService = role.Other
role_of_kind kind.SignalState = role.Other
role_of_kind kind.DeviceServices = role.Services
role_of_kind kind.VersionInfo = role.Version
role_of_kind kind.SetPin = role.Other
role_of_kind kind.PinInfo = role.Other

unfoldable pub role_of : Carried → Role
role_of (Ok k) = role_of_kind k
role_of (Err r) = role.Other

-- whether the services list s holds VERSION
abbrev pub version_listed : List ℕ → ListedAnswer
version_listed s = listed_of s (id_at extensions 0) version_cid
