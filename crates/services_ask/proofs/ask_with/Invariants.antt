-- The elements before `next` are judged and silent, and none behind those is of the service; no CID passed is the one asked for.
use Rattle.std.proofs.Common.{◌≡◌, ◌≤◌, false}
use Rattle.folds.specs.Folds.{any_of}
use Rattle.services_query.specs.ServicesQuery.{is_cid}
use Rattle.services_ask.specs.ServicesAsk.{NoneOf}
use Rattle.services_ask.proofs.Laws.{Silent}
use Rattle.services_ask.proofs.ask_with.Given as goal

abbrev pub invariant-loop-i : goal.invariant-loop-i
invariant-loop-i l = (l.next ≤ l.i) × Silent l.zero_size l.payload l.service l.cid l.next × NoneOf l.payload l.service l.next l.i

abbrev pub invariant-loop-k : goal.invariant-loop-k
invariant-loop-k l = any_of (is_cid l.payload l.offset l.cid) l.k ≡ false
