-- What feeding the parts of a stream leaves, each part in its turn and all into one output.
use Rattle.std.specs.Prelude.{ℕ, false, List, [], ◌∷◌, length}
use Rattle.wire.specs.Output.{over}
use Rattle.assembler.specs.Assembly.{step_of, assembly_of}
use Rattle.assembler.specs.declared.Progress.{Progress}
use Rattle.assembler.specs.declared.Assembly.{Assembly}
use Rattle.assembler.specs.declared.FedInPlace.{FedInPlace}
use Rattle.assembler.specs.declared.Answer.{Answer}
use Rattle.assembler.specs.declared.Answer.TheVariants.{Pending}
use Rattle.std.specs.Prelude.{Ok, Result}
use Rattle.protocol.specs.declared.Refusal.{Refusal}

-- the assembly, the last answer, and the output
pub record Collected : Type 0 where
  pub assembly : Assembly
  pub answer : Result Answer Refusal
  pub output : List ℕ

-- before any part
abbrev pub before : Progress → List ℕ → List ℕ → Collected
before p bytes out = record { assembly = assembly_of p bytes; answer = Ok (Pending false); output = out }

-- after the part p
abbrev pub after : Collected → List ℕ → Collected
after c p = record {
  assembly = (step_of c.assembly p (length c.output)).assembly;
  answer = (step_of c.assembly p (length c.output)).answer;
  output = over (step_of c.assembly p (length c.output)).information c.output;
}

unfoldable pub collected : Collected → List (List ℕ) → Collected
collected c [] = c
collected c (p ∷ ps) = collected (after c p) ps

abbrev pub told : Collected → FedInPlace
told c = record { progress = c.assembly.progress; answer = c.answer }
