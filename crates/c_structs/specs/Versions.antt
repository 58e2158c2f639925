-- The VERSION payload's answer as plain members.
use Rattle.version_info.specs.declared.VersionInfo.{VersionInfo}
use Rattle.c_structs.specs.declared.versions.VersionInfoAnswer.{VersionInfoAnswer}
use Rattle.c_structs.specs.Answers.{no_refusal, refusal_info}
use Rattle.std.specs.Prelude.{Ok, Err}
use Rattle.version_info.specs.VersionInfo.{VersionInfoRead}

abbrev pub no_info : VersionInfo
no_info = record { bcd_mbim_version = 0; bcd_mbim_extended_version = 0 }

-- "A refusal is a number and a place, and nothing else": all other members are 0
unfoldable pub answer_of : VersionInfoRead → VersionInfoAnswer
answer_of (Ok i) = record { refusal = no_refusal; info = i }
answer_of (Err r) = record { refusal = refusal_info r; info = no_info }
