-- The parts of the cutter's output, fed in turn into one output: the message comes out, and nothing else.
-- Assumes nothing.
use mathlib.Core.Path.{◌≡◌, refl, sym, ap, ◌∙◌}
use mathlib.Core.Bool.{Bool, false}
use mathlib.Core.List.{List, [], ◌∷◌}
use Prim.Native.Nat.{ℕ, zero, suc, ◌+◌}
use native.Mathlib.Omega.{arith}
use lib.ListN.{length}
use Rattle.wire.specs.Output.{over}
use Rattle.message.specs.declared.MessageHeader.{MessageHeader}
use Rattle.assembler.specs.Assembly.{empty, step_of}
use Rattle.assembler.specs.Run.{Seen, Run, run_of}
use Rattle.assembler.specs.declared.Assembly.{Assembly}
use Rattle.assembler.specs.declared.Answer.{Answer}
use Rattle.exchange.specs.Messages.{pieces, last_seen, received}
use Rattle.exchange.specs.Collected.{Collected, after, collected}
use Rattle.exchange.specs.Delivery.{last_says}
use Rattle.std.specs.Prelude.{Result}
use Rattle.protocol.specs.declared.Refusal.{Refusal}

abbrev gives : Assembly → (Result Answer Refusal) → List ℕ → Collected
gives a t out = record { assembly = a; answer = t; output = out }

abbrev result : MessageHeader → List ℕ → ℕ → Bool → List ℕ → Collected
result m information room d out =
    gives empty (last_seen m information d room).answer (over (last_seen m information d room).information out)

pub false_says : (n : ℕ) → last_says n false ≡ false
false_says zero = refl
false_says (suc n) = refl

heads : {x y : Seen} {xs ys : List Seen} → x ∷ xs ≡ y ∷ ys → x ≡ y
heads e = cc

tails : {x y : Seen} {xs ys : List Seen} → x ∷ xs ≡ y ∷ ys → xs ≡ ys
tails e = cc

some_none : {x : Seen} {xs : List Seen} → x ∷ xs ≡ [] → ⊥
some_none e = let z : ◌≡◌ {A = ℕ} 0 1 = cc in omega arith

-- what a part gives where the caller's output has the room
after_is : (a : Assembly) (t : (Result Answer Refusal)) (p out : List ℕ) (room : ℕ) → length out ≡ room
    → after (gives a t out) p ≡ gives (step_of a p room).assembly (step_of a p room).answer (over (step_of a p room).information out)
after_is a t p out room e = λ i. record {
  assembly = (step_of a p (e i)).assembly;
  answer = (step_of a p (e i)).answer;
  output = over (step_of a p (e i)).information out;
}

over_nothing : (out : List ℕ) → over [] out ≡ out
unfolding over
over_nothing out = refl

module _ (m : MessageHeader) (information : List ℕ) (room : ℕ) where
  pub collected_run : (ps : List (List ℕ)) (n k : ℕ) (d : Bool) (a : Assembly) (t : (Result Answer Refusal)) (out : List ℕ) → length out ≡ room
      → run_of a (pieces (λ _. room) k ps) ≡ received m information d room n → collected (gives a t out) ps ≡ result m information room (last_says n d) out
  unfolding run_of pieces received collected
  collected_run [] zero k d a t out e r = absurd (some_none (sym (ap (λ (x : Run). x.seen) r)))
  collected_run [] (suc n) k d a t out e r = absurd (some_none (sym (ap (λ (x : Run). x.seen) r)))
  collected_run (p ∷ []) zero k d a t out e r =
      let h = heads (ap (λ (x : Run). x.seen) r) in
      after_is a t p out room e
      ∙ (λ i. record { assembly = (r i).end; answer = (h i).answer; output = over (h i).information out })
  collected_run (p ∷ q ∷ ps) zero k d a t out e r = absurd (some_none (tails (ap (λ (x : Run). x.seen) r)))
  collected_run (p ∷ ps) (suc n) k d a t out e r =
      let h = heads (ap (λ (x : Run). x.seen) r) in
      let l = tails (ap (λ (x : Run). x.seen) r) in
      let s = step_of a p room in
      let here : after (gives a t out) p ≡ gives s.assembly s.answer out =
      after_is a t p out room e ∙ ap (gives s.assembly s.answer) (ap (λ (x : Seen). over x.information out) h ∙ over_nothing out) in
      ap (λ (c : Collected). collected c ps) here
      ∙ collected_run ps n (k + 1) false s.assembly s.answer out e (λ i. record { seen = l i; end = (r i).end })
      ∙ ap (λ (b : Bool). result m information room b out) (false_says n)
