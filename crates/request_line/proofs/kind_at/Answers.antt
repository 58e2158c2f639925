-- One word more is tried.
use Rattle.std.proofs.Common.{arith}
use Rattle.request_line.proofs.Requests.{kinds_more}
use Rattle.request_line.proofs.kind_at.Goals as goal

pub loop-kind-preserved : goal.loop-kind-preserved
loop-kind-preserved c = kinds_more c.loop-kind.reached c.also_word-reached.result _ c.args.line.now c.kind_text.result.now c.loop-kind.kind-index (omega arith) c.kind_text.ensures.value c.also_word-reached.ensures c.loop-kind.invariant
