-- By what stands at the front of the bytes held; the attribute names what proves the rest.
use mathlib.Core.Path.{◌≡◌, refl, sym, ap, ◌∙◌}
use mathlib.Core.Bool.{false}
use Rattle.stream.specs.declared.front.Next.{Next}
use Rattle.stream.specs.declared.front.Next.TheVariants as next
use Rattle.lent_stream.specs.LentStream.{is_short}
use Rattle.lent_stream.proofs.Memory.{unfinished_in}
use Rattle.lent_stream.proofs.is_unfinished.Goals as goal

other : (v : Next) → (v ≡ next.Short → ⊥) → is_short v ≡ false
other next.Short n = absurd (n refl)
other (next.Ends t) n = refl
other (next.Piece k) n = refl

pub returns-in-Short : goal.returns-in-Short
returns-in-Short c = sym (unfinished_in c.args.held c.args.memory.now c.next_in.ensures ∙ ap is_short c.in-Short.is)

pub returns-in_default : goal.returns-in_default
returns-in_default c = sym (unfinished_in c.args.held c.args.memory.now c.next_in.ensures ∙ other c.next_in.result c.in_default.not-Short)
