-- Which memory of a stream is taken: what calls leave keeps the rules, and what keeps them is left by one call.
-- Assumes nothing.
use mathlib.Core.Path.{◌≡◌, refl, sym, ap, ◌∙◌}
use mathlib.Core.Bool.{Bool, true, false, cond}
use mathlib.Core.List.{List, [], ◌∷◌}
use Prim.Native.Nat.{ℕ, ◌≤◌}
use native.Mathlib.Omega.{arith}
use native.Mathlib.Decide.{dec_le}
use borrow.Author.Tests.{le-ltb, ltb-false, eqb-true, eq-eqb, not-false}
use lib.Dec.{ltb, eqb}
use lib.ListN.{length, take, drop, replicate, length-drop}
use lib.Seq.{length-take-le, take_all}
use Rattle.wire.specs.Numbers.{u32_at}
use Rattle.protocol.specs.MessageType.{is_whole}
use Rattle.protocol.specs.Verdict.{judge, no_fault}
use Rattle.protocol.proofs.Verdicts.{fits_kept, kept_fits}
use Rattle.message.specs.Message.{most_information}
use Rattle.assembler.specs.Assembly.{empty}
use Rattle.assembler.specs.declared.Assembly.{Assembly}
use Rattle.lent.proofs.GoingOn.{never}
use Rattle.stream.specs.declared.front.Next.{Next}
use Rattle.stream.specs.declared.front.Next.TheVariants as next
use Rattle.stream.specs.Stream.{StreamOn, held_in, keeping, wrong_start, next_of, Feeding, value_door, feed_on}
use Rattle.stream.specs.Run.{Call, calls_of, Kept, short, ended}
use Rattle.stream.proofs.Starts.{short_bound}
use Rattle.stream.proofs.Keeping.{held_back, kept_by, kept_call, nothing_held}
use Rattle.stream.proofs.Cut.{calls_keep}
use Rattle.lent_stream.specs.LentStream.{stream_size, ended_beside, is_short, is_unfinished, stream_rules}
use Rattle.stream_claims.specs.Memory.{end_of, LeftByCalls, StreamTakenExactly}

-- ---- what calls leave keeps the rules

pub keeps : (m h : List ℕ) (e : Bool) → next_of h ≡ next.Short → (e ≡ true → h ≡ []) → u32_at m 0 ≡ length h → u32_at m 4 ≡ cond e 1 0 → take (u32_at m 0) (drop 8 m) ≡ h → judge (stream_rules m) ≡ no_fault
unfolding ended_beside is_unfinished
keeps m h e k none p q f =
    kept_fits (stream_rules m) (le-ltb 4095 (u32_at m 0) (omega (arith, p, short_bound h k)), (rw q (flag e), (rw (p, q) (beside e none), (rw (f, k) refl, tt))))
  where
    flag : (b : Bool) → ltb 1 (cond b 1 0) ≡ false
    flag true = refl
    flag false = refl

    beside : (b : Bool) → (b ≡ true → h ≡ []) → ended_beside (cond b 1 0) (length h) ≡ false
    beside true g = rw (g refl) refl
    beside false g = refl

left_taken : (m : List ℕ) → LeftByCalls m → judge (stream_rules m) ≡ no_fault
left_taken m L = go (calls_keep Assembly value_door empty L.bytes L.calls)
  where
    go : Kept (end_of L.bytes L.calls) → judge (stream_rules m) ≡ no_fault
    go (short a h e k) =
        keeps m h false k (λ z. never z) (L.held ∙ ap (λ (s : StreamOn Assembly). s.state.held) e) (L.ended ∙ ap (λ (s : StreamOn Assembly). cond s.state.ended 1 0) e)
        (L.front ∙ ap (λ (s : StreamOn Assembly). held_in s.state s.piece) e ∙ held_back h)
    go (ended a e) =
        keeps m [] true nothing_held (λ z. refl) (L.held ∙ ap (λ (s : StreamOn Assembly). s.state.held) e) (L.ended ∙ ap (λ (s : StreamOn Assembly). cond s.state.ended 1 0) e)
        (L.front ∙ ap (λ (s : StreamOn Assembly). held_in s.state s.piece) e ∙ held_back [])

-- ---- what keeps them is left by one call

abbrev all : List ℕ → List Call
all x = record { offered = length x; room = most_information } ∷ []

end_one : (x : List ℕ) (v : Next) → next_of x ≡ v → end_of x (all x) ≡ (kept_by value_door empty [] x v).stream
unfolding calls_of
end_one x v k =
    ap (λ (y : List ℕ). (feed_on value_door (keeping empty [] false) y most_information).stream) (take_all (length x) x (omega arith))
    ∙ ap (λ (f : Feeding Assembly). f.stream) (kept_call value_door empty [] x nothing_held most_information (omega arith))
    ∙ ap (λ (w : Next). (kept_by value_door empty [] x w).stream) k

-- eight zeros are a length field of 0
ending : List ℕ
ending = replicate 8 0

ends : next_of ending ≡ next.Ends 0
unfolding ending next_of wrong_start u32_at is_whole
ends = refl

pub is_short_says : (v : Next) → is_short v ≡ true → v ≡ next.Short
is_short_says next.Short e = refl
is_short_says (next.Ends t) e = let w : ◌≡◌ {A = ℕ} 0 1 = cc in absurd (omega arith)
is_short_says (next.Piece n) e = let w : ◌≡◌ {A = ℕ} 0 1 = cc in absurd (omega arith)

taken_left : (m : List ℕ) → stream_size ≤ length m → judge (stream_rules m) ≡ no_fault → LeftByCalls m
unfolding ended_beside is_unfinished
taken_left m own e =
    let k = fits_kept (stream_rules m) e in
    let few : u32_at m 0 ≤ 4095 = ltb-false 4095 (u32_at m 0) k.0 in
    let flag : u32_at m 4 ≤ 1 = ltb-false 1 (u32_at m 4) k.1.0 in
    let h = take (u32_at m 0) (drop 8 m) in
    let n : length h ≡ u32_at m 0 = length-take-le (u32_at m 0) (drop 8 m) (omega (arith, few, own, length-drop 8 m)) in
    let unfinished : next_of h ≡ next.Short = is_short_says (next_of h) (not-false _ k.1.1.1.0) in
    elim (dec_le (u32_at m 4) 0) [
      | yes l ↦ (
          let s = end_one h next.Short unfinished in
          record {
            bytes = h;
            calls = all h;
            roomy = (omega arith, tt);
            held = sym n ∙ sym (ap (λ (x : StreamOn Assembly). x.state.held) s);
            ended = (let z : u32_at m 4 ≡ 0 = omega (arith, l) in z) ∙ sym (ap (λ (x : StreamOn Assembly). cond x.state.ended 1 0) s);
            front = sym (ap (λ (x : StreamOn Assembly). held_in x.state x.piece) s ∙ held_back h);
          })
      | no l ↦ (
          let s = end_one ending (next.Ends 0) ends in
          let one : u32_at m 4 ≡ 1 = omega (arith, flag, l) in
          let none : u32_at m 0 ≡ 0 = eqb-true (u32_at m 0) 0 (not-false (eqb (u32_at m 0) 0) (rw (eq-eqb (u32_at m 4) 1 one) at k.1.1.0)) in
          record {
            bytes = ending;
            calls = all ending;
            roomy = (omega arith, tt);
            held = none ∙ sym (ap (λ (x : StreamOn Assembly). x.state.held) s);
            ended = one ∙ sym (ap (λ (x : StreamOn Assembly). cond x.state.ended 1 0) s);
            front = ap (λ (j : ℕ). take j (drop 8 m)) none ∙ sym (ap (λ (x : StreamOn Assembly). held_in x.state x.piece) s);
          })
    ]

pub stream_taken_exactly : StreamTakenExactly
stream_taken_exactly m own = (taken_left m own, left_taken m)
