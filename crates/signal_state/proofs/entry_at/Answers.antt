-- Each field is the one at its place.
use native.Mathlib.Omega.{arith}
use Rattle.wire.proofs.Laws.{first_in, word_in}
use Rattle.signal_state.specs.SignalState.{entry_at}
use Rattle.signal_state.proofs.entry_at.Goals as goal

pub returns : goal.returns
unfolding entry_at
returns c = let s = c.args.s.now in let at = c.entry_place-at.result in simp (first_in s at 20 (omega arith) c.u32_at.ensures, word_in s at 20 4 (omega arith) c.u32_at-2.ensures, word_in s at 20 8 (omega arith) c.u32_at-3.ensures, word_in s at 20 12 (omega arith) c.u32_at-4.ensures, word_in s at 20 16 (omega arith) c.u32_at-5.ensures, c.entry_place-at.ensures)
