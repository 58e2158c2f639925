-- The numbers passed stand in the list.
use mathlib.Core.Path.{◌≡◌}
use lib.Seq.{sets}
use Rattle.services_query.specs.ServicesQuery.{words_at}
use Rattle.services_query.proofs.copy_words.Given as goal

abbrev pub invariant-loop-i : goal.invariant-loop-i
invariant-loop-i l = l.list ≡ sets l.initial.list 0 (words_at l.payload l.from l.i)
