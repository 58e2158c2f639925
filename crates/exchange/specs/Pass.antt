-- A message cut into a stream and fed from there to an empty assembly: what comes out is what went in.
use Rattle.std.specs.Prelude.{ℕ, false, List}
use Rattle.assembler.specs.Assembly.{zeros}
use Rattle.assembler.specs.declared.Answer.{Answer}
use Rattle.message.specs.declared.MessageHeader.{MessageHeader}
use Rattle.cutter.specs.Cut.{cut_of}
use Rattle.cutter.specs.declared.Fragments.{Fragments}
use Rattle.exchange.specs.Delivery.{passed_on}
use Rattle.std.specs.Prelude.{Ok, Err, Result}
use Rattle.protocol.specs.declared.Refusal.{Refusal}

-- the answer, the buffer and the output
pub record Pass : Type 0 where
  pub answer : Result Answer Refusal
  pub bytes : List ℕ
  pub output : List ℕ

-- what the cutter refuses touches nothing; what it accepts is the last piece's to answer
unfoldable pub pass_by : MessageHeader → List ℕ → List ℕ → List ℕ → (Result Fragments Refusal) → Pass
pass_by m information bytes out (Err r) = record { answer = Err r; bytes = bytes; output = out }
pass_by m information bytes out (Ok cut) = record {
  answer = (passed_on m information false out).answer;
  bytes = zeros;
  output = (passed_on m information false out).output;
}

unfoldable pub pass_of : MessageHeader → ℕ → List ℕ → List ℕ → List ℕ → List ℕ → Pass
pass_of m size information stream bytes out = pass_by m information bytes out (cut_of m size information stream).answer
