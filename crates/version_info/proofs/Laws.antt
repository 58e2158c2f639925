-- The length of the bytes.
-- Assumes nothing.
use mathlib.Core.Path.{◌≡◌, refl}
use lib.ListN.{length}
use Rattle.version_info.specs.declared.VersionInfo.{VersionInfo}
use Rattle.version_info.specs.VersionInfo.{bytes_of}

pub length_bytes : (i : VersionInfo) → length (bytes_of i) ≡ 4
unfolding bytes_of
length_bytes i = refl
