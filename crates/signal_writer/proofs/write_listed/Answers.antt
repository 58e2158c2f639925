-- The numbers, the pair and the entries are those of a writing.
use mathlib.Core.Path.{◌≡◌, sym, ◌∙◌}
use Prim.Native.Nat.{◌+◌, ◌≤◌}
use native.Mathlib.Omega.{arith}
use borrow.Author.Tests.{ltb-false}
use lib.ListN.{length}
use Rattle.protocol.specs.Refusal.{output_too_small}
use Rattle.protocol.specs.Verdict.{no_fault, first_of, writing, with_room, given}
use Rattle.protocol.proofs.Verdicts.{not_broken}
use Rattle.signal_state.specs.SignalState.{entry_in, size_of, limit_verdict, listed_verdict, body_verdict}
use Rattle.signal_state.proofs.Laws.{limit_small, length_listed}
use Rattle.signal_writer.proofs.Laws.{listed_entries, listed_known, listed_stored}
use Rattle.signal_writer.proofs.write_listed.Goals as goal

pub returns-clause-out_after : goal.returns-clause-out_after
unfolding listed_verdict body_verdict writing with_room given first_of
returns-clause-out_after c =
    let a = c.args in
    let limit : limit_verdict a.info a.count ≡ no_fault = sym c.judge_limit.ensures ∙ c.in_ok-judge_limit.was in
    let many : a.count ≤ length a.entries = omega (arith, limit_small a.info a.count limit) in
    let fits = sym (listed_entries a.entries a.count many) ∙ sym c.judge_entries.ensures ∙ c.in_ok-judge_entries.was in
    let alone = sym c.refuse_if.ensures ∙ c.in_ok-refuse_if.was in
    let told = sym c.refuse_if-2.ensures ∙ c.in_ok-refuse_if-2.was in
    let room : 28 + size_of a.count ≤ length a.out.now = omega (arith, c.size_of.ensures, ltb-false _ _ (not_broken _ output_too_small _ told)) in
    let stored = listed_stored a.info a.count a.entries a.out.now many room c.put_numbers.ensures c.put_start.ensures c.put_entries.ensures in
    rw (limit, fits, ← listed_known a.entries a.count many, ← c.is_stray.ensures, alone, length_listed a.info a.count (entry_in a.entries), ← c.size_of.ensures, told) stored
