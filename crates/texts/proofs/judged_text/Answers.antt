-- The pair at the row's place.
use mathlib.Core.Path.{sym}
use Rattle.texts.proofs.Rows.{text_at, text_past}
use Rattle.texts.proofs.judged_text.Goals as goal

pub returns-then-i-rows : goal.returns-then-i-rows
returns-then-i-rows c = rw (c.shown_at.ensures, c.wide.ensures) (sym (text_at c.args.payload.now c.args.rows.now c.args.number _ c.if-i-rows.true))

pub returns : goal.returns
returns c = sym (text_past c.args.payload.now c.args.rows.now c.args.number _ c.if-i-rows.false)
