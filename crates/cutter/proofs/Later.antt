-- The loop that writes the later fragments: its invariant, its start, a turn of it and its end.
-- Assumes nothing.
use Rattle.std.proofs.Common.{◌≡◌, ℕ, suc, ◌+◌, ◌-◌, ◌*◌, ◌<◌, ◌≤◌, min, ◌⊎◌, List, [], ◌++◌, length, take, drop, sym, refl, ap, ◌∙◌, inl, inr, ⊎_elim, append_assoc, append-nil, arith, length-append, length-drop, drop_of_length-le, length-take, take_all, drop-drop}
use native.Mathlib.Decide.{dec_le}
use lib.Seq.{sets}
use Rattle.wire.proofs.Laws.{sets_then}
use Rattle.message.specs.declared.MessageHeader.{MessageHeader}
use Rattle.cutter.specs.Cut.{fragment_bytes, later_fragments, joined}
use Rattle.cutter.proofs.Stored.{stored_length, length_fragment}

either : (a b : ℕ) → (a ≤ b) ⊎ (b ≤ a)
either a b = elim (dec_le a b) [ yes h ↦ inl h | no h ↦ inr (omega arith) ]

-- a count cut to what there is takes and leaves the same
pub cut_take : (xs : List ℕ) (n k : ℕ) → n ≡ min (length xs) k → take n xs ≡ take k xs
cut_take xs n k e =
    ⊎_elim (λ h. let q : n ≡ k = omega arith in ap (λ (j : ℕ). take j xs) q) (λ h. take_all n xs (omega arith) ∙ sym (take_all k xs h)) (either k (length xs))

pub cut_drop : (xs : List ℕ) (n k : ℕ) → n ≡ min (length xs) k → drop n xs ≡ drop k xs
cut_drop xs n k e =
    ⊎_elim (λ h. let q : n ≡ k = omega arith in ap (λ (j : ℕ). drop j xs) q)
    (λ h. let q : length xs ≤ n = omega arith in drop_of_length-le xs q ∙ sym (drop_of_length-le xs h)) (either k (length xs))

-- a part of the information from where it was cut up to now
part : (xs : List ℕ) (at n k : ℕ) → n ≡ min (length xs - at) k → take (at + n - at) (drop at xs) ≡ take k (drop at xs)
part xs at n k e =
    let q : at + n - at ≡ n = omega arith in
    ap (λ (j : ℕ). take j (drop at xs)) q ∙ cut_take (drop at xs) n k (e ∙ ap (λ (l : ℕ). min l k) (sym (length-drop at xs)))

next : (m : MessageHeader) (each total number : ℕ) (xs : List ℕ) → number < total
    → joined (later_fragments m each total number (total - number) xs)
    ≡ fragment_bytes m total number (take each xs) ++ joined (later_fragments m each total (number + 1) (total - (number + 1)) (drop each xs))
unfolding later_fragments joined
next m each total number xs h = let e : total - number ≡ suc (total - (number + 1)) = omega arith in rw e refl

module _ (m : MessageHeader) (each total : ℕ) (information : List ℕ) (from : ℕ) (s : List ℕ) (at : ℕ) where
  -- w is written, and what is left of the fragments is still to come
  pub record Going (out : List ℕ) (number position end : ℕ) : Type 0 where
    pub w : List ℕ
    pub is : out ≡ sets s at w
    pub ends : end ≡ at + length w
    pub rest : w ++ joined (later_fragments m each total number (total - number) (drop position information))
        ≡ joined (later_fragments m each total 1 (total - 1) (drop from information))
    pub some : 0 < number
    pub most : number ≤ total
    pub within : position ≤ length information
    pub low : end ≤ 4096 * number

  pub begin : 0 < total → from ≤ length information → at ≤ 4096 → Going s 1 from at
  begin some h l = record { w = []; is = refl; ends = omega arith; rest = refl; some = omega arith; most = some; within = h; low = omega arith }

  -- what the next fragment takes
  takes : (number position n : ℕ) → n ≡ min (length information - position) each
      → length (fragment_bytes m total number (take each (drop position information))) ≡ 20 + n
  takes number position n en =
      let xs = drop position information in
      let lb : length (take each xs) ≡ n = simp (length-take, length-drop) (omega arith) in
      length_fragment m total number (take each xs) ∙ ap (λ (k : ℕ). 20 + k) lb

  -- where all fragments have room, the next one has
  pub room : {out : List ℕ} {number position end : ℕ} (n : ℕ) → Going out number position end → number < total
      → n ≡ min (length information - position) each
      → at + length (joined (later_fragments m each total 1 (total - 1) (drop from information))) ≤ length s → end + (20 + n) ≤ length out
  room {out} {number} {position} n g less en h =
      let xs = drop position information in
      let p = fragment_bytes m total number (take each xs) in
      let after = joined (later_fragments m each total (number + 1) (total - (number + 1)) (drop each xs)) in
      let here = joined (later_fragments m each total number (total - number) xs) in
      let a : length here ≡ length p + length after = ap length (next m each total number xs less) ∙ length-append p after in
      let b : length g.w + length here ≡ _ = sym (length-append g.w here) ∙ ap length g.rest in
      let same : length out ≡ length s = stored_length s at g.w g.is in
      omega (arith, takes number position n en, a, b, same, g.ends)

  pub turn : {out out' : List ℕ} {number position end : ℕ} (n : ℕ) → each ≤ 4076 → Going out number position end → number < total
      → n ≡ min (length information - position) each
      → out' ≡ sets out end (fragment_bytes m total number (take (position + n - position) (drop position information)))
      → Going out' (number + 1) (position + n) (end + 20 + n)
  turn {out} {out'} {number} {position} {end} n cap g less en eo =
      let xs = drop position information in
      let p = fragment_bytes m total number (take each xs) in
      let lp : length p ≡ 20 + n = takes number position n en in
      let eo' : out' ≡ sets out (at + length g.w) p = eo ∙ (λ i. sets out (g.ends i) (fragment_bytes m total number (part information position n each en i))) in
      let left = later_fragments m each total (number + 1) (total - (number + 1)) in
      let ed : drop (position + n) information ≡ drop each xs =
      sym (drop-drop n position information) ∙ cut_drop xs n each (en ∙ ap (λ (l : ℕ). min l each) (sym (length-drop position information))) in
      record {
        w = g.w ++ p;
        is = sets_then g.w p at (length g.w) s refl g.is eo';
        ends = omega (arith, g.ends, length-append g.w p, lp);
        rest = append_assoc g.w p (joined (left (drop (position + n) information)))
            ∙ ap (λ (l : List ℕ). g.w ++ (p ++ joined (left l))) ed ∙ ap (λ (l : List ℕ). g.w ++ l) (sym (next m each total number xs less)) ∙ g.rest;
        some = omega arith;
        most = omega arith;
        within = omega (arith, g.within);
        low = omega (arith, g.low);
      }

  pub finish : {out : List ℕ} {number position end : ℕ} → Going out number position end → total ≤ number
      → out ≡ sets s at (joined (later_fragments m each total 1 (total - 1) (drop from information)))
  unfolding later_fragments joined
  finish {number = number} g past =
      let e : total - number ≡ 0 = omega arith in
      g.is ∙ ap (sets s at) (sym (append-nil g.w) ∙ rw e at g.rest)
