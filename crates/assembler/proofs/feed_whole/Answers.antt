-- What is gathered begins within the piece.
use mathlib.Core.Path.{sym, ◌∙◌}
use Rattle.assembler.proofs.Laws.{brings}
use Rattle.assembler.proofs.feed_whole.Goals as goal

pub slice_bounds-gather-count : goal.slice_bounds-gather-count
slice_bounds-gather-count c = (brings c.args.progress c.args.piece.now _ (sym c.judge_piece.ensures ∙ c.in-Ok.is)).0

pub slice_bounds-gather-start : goal.slice_bounds-gather-start
slice_bounds-gather-start c = (brings c.args.progress c.args.piece.now _ (sym c.judge_piece.ensures ∙ c.in-Ok.is)).0
