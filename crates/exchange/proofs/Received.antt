-- What the door receives is a run of the assembler over the pieces that are fed: a whole message changes neither.
-- Assumes nothing.
use mathlib.Core.Path.{◌≡◌, refl, ap}
use mathlib.Core.Bool.{Bool, true, false, cond}
use mathlib.Core.List.{List, [], ◌∷◌, ◌++◌}
use Prim.Native.Nat.{ℕ}
use Rattle.message.specs.Message.{is_whole_piece}
use Rattle.assembler.specs.Assembly.{Step, step_of}
use Rattle.assembler.specs.Run.{Piece, Seen, seen_of, run_of}
use Rattle.assembler.specs.Door.{fed_shown, receive_of, receive_all}
use Rattle.assembler.specs.declared.Assembly.{Assembly}
use Rattle.assembler.specs.declared.Answer.{Answer}
use Rattle.assembler.specs.declared.Answer.TheVariants.{Pending, Complete}
use Rattle.exchange.specs.Received.{fed, answered, answers, FedRun, ReceivedAsFed}
use Rattle.std.specs.Prelude.{Ok, Err, Result}
use Rattle.protocol.specs.declared.Refusal.{Refusal}

-- what the door shows of a fed piece is what the assembler answered
answered_fed : (s : List ℕ) (x : (Result Answer Refusal)) (information : List ℕ) → answered (fed_shown s x) information ≡ record { answer = x; information = information } ∷ []
unfolding fed_shown
answered_fed s (Ok (Pending d)) information = refl
answered_fed s (Ok (Complete m n d)) information = refl
answered_fed s (Err r) information = refl

-- one piece, by whether it is a whole message
one_more : (a : Assembly) (p : Piece) (ps : List Piece) → FedRun a ps → FedRun (step_of a p.bytes p.room).assembly ps → FedRun a (p ∷ ps)
unfolding fed answers receive_all run_of receive_of
one_more a p ps whole fragment = go (is_whole_piece p.bytes) refl
  where
    s : Step
    s = step_of a p.bytes p.room

    go : (w : Bool) → is_whole_piece p.bytes ≡ w → FedRun a (p ∷ ps)
    go true e = record { seen = rw e whole.seen; end = rw e whole.end }
    go false e = record {
      seen = rw (e, answered_fed p.bytes s.answer s.information) (ap (λ (l : List Seen). seen_of s ∷ l) fragment.seen);
      end = rw e fragment.end;
    }

pub received_as_fed : ReceivedAsFed
unfolding fed answers receive_all run_of
received_as_fed a [] = record { seen = refl; end = refl }
received_as_fed a (p ∷ ps) = one_more a p ps (received_as_fed a ps) (received_as_fed (step_of a p.bytes p.room).assembly ps)

-- what is fed of one list and then another
pub fed_append : (ps qs : List Piece) → fed (ps ++ qs) ≡ fed ps ++ fed qs
unfolding fed
fed_append [] qs = refl
fed_append (p ∷ ps) qs = go (is_whole_piece p.bytes) (fed_append ps qs)
  where
    go : (w : Bool) → fed (ps ++ qs) ≡ fed ps ++ fed qs → cond w (fed (ps ++ qs)) (p ∷ fed (ps ++ qs)) ≡ cond w (fed ps) (p ∷ fed ps) ++ fed qs
    go true e = e
    go false e = ap (λ (l : List Piece). p ∷ l) e
