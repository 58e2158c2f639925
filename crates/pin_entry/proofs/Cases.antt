-- The worked runs come out as they should.
-- Assumes nothing.
use mathlib.Core.Path.{refl}
use Rattle.pin_entry.specs.PinTable.{puk_of, pin_of, same_text, blocked, expected, accepted, failed, judged, entered, step, answers_of}
use Rattle.pin_entry.specs.Cases.{Worked, Lost}

pub worked : Worked
unfolding puk_of pin_of same_text blocked expected accepted failed judged entered step answers_of
worked = refl

pub lost : Lost
unfolding puk_of pin_of same_text blocked expected accepted failed judged entered step answers_of
lost = refl
