-- One element more.
use Rattle.std.proofs.Common.{◌*◌, arith}
use Rattle.services_query.proofs.OnePass.{words_put, fields_next}
use Rattle.services_query.proofs.all.copy_fields.Goals as goal

pub loop-i-preserved : goal.loop-i-preserved
loop-i-preserved c =
    let a = c.args in
    let v = c.loop-i in
    fields_next a.payload.now a.fields.now v.i c.judged_offset-offset.ensures v.invariant
    (words_put a.payload.now v.fields c.judged_offset-offset.result (7 * v.i) 7 (omega arith) (omega arith) c.copy_words.ensures)
