-- The loop's invariant: from the state so far the part ends where it does from the start.
use mathlib.Core.Path.{◌≡◌}
use lib.ListN.{drop}
use Rattle.text_parts.specs.Parts.{last}
use Rattle.text_parts.specs.Decimals.{number_part, number_of}
use Rattle.text_parts.proofs.number_of.Given as goal

abbrev pub invariant-loop-b : goal.invariant-loop-b
invariant-loop-b l = last (number_part l.most l.largest) l.number (drop l.b-index l.s) ≡ number_of l.most l.largest l.s
