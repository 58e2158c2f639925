use Rattle.folds.specs.Folds.{joined}
use Rattle.device_services.specs.DeviceServices.{cid_at}
use Rattle.entry_rows.specs.Services.{cid_row, cid_rows}
use Rattle.rows.proofs.Laws.{put_start, put_next}
use Rattle.entry_rows.proofs.services_rows.put_cids.Goals as goal

pub loop-j-init : goal.loop-j-init
unfolding cid_rows joined
loop-j-init c = put_start c.args.out.now c.args.at

pub loop-j-preserved : goal.loop-j-preserved
unfolding cid_rows
loop-j-preserved c = put_next (λ k. cid_row c.args.i k (cid_at c.args.payload.now c.args.offset k)) c.loop-j.j c.loop-j.invariant (rw c.judged_cid.ensures at c.put_cid-next.ensures)
