-- The rows of a VERSION payload.
use Rattle.std.specs.Prelude.{ℕ, List, ◌++◌}
use Rattle.ascii.specs.Ascii.{ascii}
use Rattle.rows.specs.Rows.{header, row, refused_line}
use Rattle.std.specs.Prelude.{Ok, Err}
use Rattle.version_info.specs.VersionInfo.{VersionInfoRead}

unfoldable pub version_text : VersionInfoRead → List ℕ
version_text (Err r) = refused_line r
version_text (Ok i) =
    header ++ (row (ascii "bcdMBIMVersion") i.bcd_mbim_version ++ row (ascii "bcdMBIMExtendedVersion") i.bcd_mbim_extended_version)
