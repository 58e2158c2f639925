-- The loop's invariant: the words that are left lead where all of them do.
use Rattle.std.proofs.Common.{◌≡◌, Err, drop, map}
use Rattle.text_parts.specs.Words.{reach_from}
use Rattle.request_line.specs.Request.{kind_word, kinds, kind_words}
use Rattle.request_line.proofs.kind_at.Given as goal

abbrev pub invariant-loop-kind : goal.invariant-loop-kind
invariant-loop-kind l = reach_from l.reached l.line 0 (map kind_word (drop l.kind-index kinds)) ≡ reach_from (Err 0) l.line 0 kind_words
