-- Past the end all words are zero; else each is read, from the id's part where all of it is there.
use mathlib.Core.Path.{sym}
use native.Mathlib.Omega.{arith}
use Rattle.wire.proofs.Laws.{first_in, word_in}
use Rattle.protocol.specs.Service.{id_at}
use Rattle.protocol.proofs.Services.{id_out}
use Rattle.protocol.proofs.service.id_at.Goals as goal

pub returns-then-s-at : goal.returns-then-s-at
returns-then-s-at c = sym (id_out c.args.s.now c.args.at c.if-s-at.true)

pub returns-then-s-at-lt-ID_SIZE : goal.returns-then-s-at-lt-ID_SIZE
unfolding id_at
returns-then-s-at-lt-ID_SIZE c = rw (c.u32_at.ensures, c.u32_at-then-s-at-lt-ID_SIZE.ensures, c.u32_at-then-s-at-lt-ID_SIZE-2.ensures, c.u32_at-then-s-at-lt-ID_SIZE-3.ensures)

pub returns : goal.returns
unfolding id_at
returns c =
    let s = c.args.s.now in
    let at = c.args.at in
    rw (first_in s at 16 (omega arith) c.u32_at-2.ensures, word_in s at 16 4 (omega arith) c.u32_at-3.ensures, word_in s at 16 8 (omega arith) c.u32_at-4.ensures, word_in s at 16 12 (omega arith) c.u32_at-5.ensures)
