-- What both ends have in common in lent memory: their room, the native version at 0, and the number of a stage's version, 0 where it has none.
use Rattle.std.specs.Prelude.{ℕ, Bool, not, cond, List, [], ◌∷◌, ltb, eqb, length}
use Rattle.wire.specs.Numbers.{u16_at}
use Rattle.protocol.specs.Refusal.{contradiction, output_too_small}
use Rattle.protocol.specs.Verdict.{Rule, rule}
use Rattle.version_info.specs.VersionInfo.{is_extension}

-- the first rules of each end, which takes so many bytes
abbrev pub native_rules : ℕ → List ℕ → List Rule
native_rules size m =
    rule (ltb (length m) size) output_too_small size
    ∷ rule (not (is_extension (u16_at m 0))) contradiction 0
    ∷ []

-- a number that the stage can't have for its version
abbrev pub stray_version : Bool → ℕ → Bool
stray_version versioned number = cond versioned (not (is_extension number)) (not (eqb number 0))
