use Rattle.folds.specs.Folds.{joined}
use Rattle.device_services.specs.DeviceServices.{offset_of}
use Rattle.entry_rows.specs.Services.{element_rows, elements_rows}
use Rattle.rows.proofs.Laws.{put_start, put_next}
use Rattle.entry_rows.proofs.services_rows.put_elements.Goals as goal

pub loop-i-init : goal.loop-i-init
unfolding elements_rows joined
loop-i-init c = put_start c.args.out.now c.args.at

pub loop-i-preserved : goal.loop-i-preserved
unfolding elements_rows
loop-i-preserved c = put_next (λ k. element_rows c.args.payload.now (offset_of c.args.payload.now k) k) c.loop-i.i c.loop-i.invariant (rw c.judged_offset.ensures at c.put_element-next.ensures)
