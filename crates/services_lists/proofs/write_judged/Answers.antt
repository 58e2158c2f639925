-- The room is judged, and the bytes are stored: a writing.
use mathlib.Core.Path.{refl, sym, ap, ◌∙◌}
use mathlib.Core.List.{[]}
use native.Mathlib.Omega.{arith}
use borrow.Author.Tests.{ltb-false}
use Rattle.std.proofs.lemmas.Result.{err_from_is_err_and}
use Rattle.protocol.specs.Refusal.{output_too_small}
use lib.ListN.{length}
use lib.Seq.{sets, length-sets}
use Rattle.protocol.specs.Verdict.{first_of}
use Rattle.protocol.proofs.Verdicts.{not_broken, wrote, refused}
use Rattle.services_writer.specs.ServicesWriter.{bytes_of}
use Rattle.services_writer.proofs.Laws.{laid}
use Rattle.services_lists.specs.ServicesLists.{count_of, record_of, lists_verdict, write_all_of}
use Rattle.services_lists.proofs.Laws.{sound, start_said, length_said, pairs_same}
use Rattle.services_lists.proofs.write_judged.Goals as goal

pub overflow_cast-count : goal.overflow_cast-count
overflow_cast-count c = let h = sound c.args.max_dss_sessions c.args.fields.now c.args.cids.now c.requires in omega (arith, h.few)

pub length_of-n-requires : goal.length_of-n-requires
length_of-n-requires c = let h = sound c.args.max_dss_sessions c.args.fields.now c.args.cids.now c.requires in record { few = h.few; small = omega (arith, h.short) }

pub returns-in_err-refuse_if : goal.returns-in_err-refuse_if
unfolding write_all_of first_of
returns-in_err-refuse_if c =
    let a = c.args in
    let max = a.max_dss_sessions in
    let h = sound max a.fields.now a.cids.now c.requires in
    let e = err_from_is_err_and c.from_residual.result c.from_residual.ensures.1 in
    rw (e.1, e.2) (refused (lists_verdict max a.fields.now a.cids.now) (bytes_of (record_of max a.fields.now a.cids.now)) a.out.now _ _ (length_said max a.fields.now a.cids.now h ∙ sym c.length_of-n.ensures) (rw (c.requires, ← c.refuse_if.ensures) c.in_err-refuse_if.was))

pub invariant_of-elements : goal.invariant_of-elements
invariant_of-elements c = let h = sound c.args.max_dss_sessions c.args.fields.now c.args.cids.now c.requires in record { counted = refl; few = h.few }

pub put_pairs-requires : goal.put_pairs-requires
put_pairs-requires c =
    let h = sound c.args.max_dss_sessions c.args.fields.now c.args.cids.now c.requires in
    omega (arith, h.short, h.total, start_said 0 c.args.fields.now [] (count_of c.args.fields.now) (omega arith))

pub put_elements-requires : goal.put_elements-requires
put_elements-requires c =
    let h = sound c.args.max_dss_sessions c.args.fields.now c.args.cids.now c.requires in
    let enough = ltb-false _ _ (not_broken _ output_too_small _ (sym c.refuse_if.ensures ∙ c.in_ok-refuse_if.was)) in
    let same = simp length-sets at (ap length c.put_pairs.ensures) in
    let same2 = simp length-sets at (ap length c.put_u32-2.ensures) in
    let same1 = simp length-sets at (ap length c.put_u32.ensures) in
    record { given = omega (arith, h.total); room = omega (arith, h.total, start_said 0 c.args.fields.now c.args.cids.now (count_of c.args.fields.now) (omega arith), c.length_of-n.ensures, enough, same, same2, same1) }

pub returns : goal.returns
unfolding write_all_of first_of
returns c =
    let a = c.args in
    let max = a.max_dss_sessions in
    let f = a.fields.now in
    let c2 = a.cids.now in
    let p = record_of max f c2 in
    let h = sound max f c2 c.requires in
    let put = laid p a.out.now c.put_u32.ensures c.put_u32-2.ensures (c.put_pairs.ensures ∙ ap (sets _ 8) (pairs_same max f c2 (count_of f) (omega arith))) c.put_elements.ensures in
    wrote (lists_verdict max f c2) (bytes_of p) a.out.now _ (length_said max f c2 h ∙ sym c.length_of-n.ensures) (rw (c.requires, ← c.refuse_if.ensures) c.in_ok-refuse_if.was) put
