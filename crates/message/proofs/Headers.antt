-- What accepted headers say, and which headers are accepted.
-- Assumes nothing.
use mathlib.Core.Path.{◌≡◌, refl}
use mathlib.Core.Logic.{◌⊎◌, inl, inr}
use mathlib.Core.Bool.{Bool, true, false, not, cond, ◌&&◌, ◌||◌}
use mathlib.Core.List.{List}
use Prim.Native.Nat.{ℕ, ◌≤◌, ◌<◌}
use native.Mathlib.Omega.{arith}
use borrow.Author.Tests.{ltb-false, leb-false, eqb-true, eqb-false, eq-eqb, ne_eqb, le-ltb, lt-leb, not-false}
use lib.Dec.{ltb, eqb}
use lib.ListN.{length}
use Rattle.wire.specs.Numbers.{u32_at}
use Rattle.protocol.specs.MessageType.{INDICATE_STATUS, is_fragmented}
use Rattle.protocol.specs.Verdict.{judge}
use Rattle.protocol.specs.declared.Refusal.{Refusal}
use Rattle.protocol.proofs.Verdicts.{fits_kept, kept_fits}
use Rattle.message.specs.Message.{most_information, most_transfer, header_at, wrong_total, header_rules, header_by, header_of, length_place, first_length, message_at, declared_at, carried_by, wrong_word, wrong_amount, first_rules, first_by, first_header_of, opened_by, fragment_by, fragment_of}
use Rattle.message.specs.declared.FragmentHeader.{FragmentHeader}
use Rattle.message.specs.declared.FirstHeader.{FirstHeader}
use Rattle.message.specs.declared.Fragment.{Fragment}
use Rattle.message.specs.declared.Fragment.TheVariants as fragment
use Rattle.std.specs.Prelude.{Ok, Err}
use Rattle.message.specs.Message.{First}
use Rattle.message.specs.Message.{Header}
use Rattle.protocol.specs.Verdict.{Verdict}
use Rattle.std.specs.Prelude.{Result}

-- ---- places

-- the information length stands at 40 or at 44
pub place_cases : (t : ℕ) → (length_place t ≡ 40) ⊎ (length_place t ≡ 44)
unfolding length_place
place_cases t = go (eqb t INDICATE_STATUS)
  where
    go : (b : Bool) → (◌≡◌ {A = ℕ} (cond b 40 44) 40) ⊎ (◌≡◌ {A = ℕ} (cond b 40 44) 44)
    go true = inl refl
    go false = inr refl

pub place_most : (t : ℕ) → (40 ≤ length_place t) × (length_place t ≤ 44)
place_most t = elim (place_cases t) [ inl e ↦ omega arith | inr e ↦ omega arith ]

pub type_at : (s : List ℕ) → (message_at s).message_type ≡ u32_at s 0
unfolding message_at
type_at s = refl

-- ---- amounts

-- a right amount is at most the declared one, and all of it at the last fragment
pub amount_right : (last : Bool) (g d : ℕ) → wrong_amount last g d ≡ false → (g ≤ d) × (last ≡ true → g ≡ d)
unfolding wrong_amount
amount_right last g d = go (ltb d g) refl last
  where
    go : (b : Bool) → ltb d g ≡ b → (l : Bool) → (b || (l && not (eqb g d))) ≡ false → (g ≤ d) × (l ≡ true → g ≡ d)
    go true h l e = let z : ◌≡◌ {A = ℕ} 0 1 = cc in absurd (omega arith)
    go false h true e = (ltb-false d g h, λ _. eqb-true g d (not-false (eqb g d) e))
    go false h false e = (ltb-false d g h, λ f. let z : ◌≡◌ {A = ℕ} 0 1 = cc in absurd (omega arith))

-- as much as the declared, or less before the last fragment, is right
pub right_all : (last : Bool) (g d : ℕ) → g ≡ d → wrong_amount last g d ≡ false
unfolding wrong_amount
right_all true g d e = let h : g ≤ d = omega arith in rw (le-ltb d g h, eq-eqb g d e)
right_all false g d e = let h : g ≤ d = omega arith in rw (le-ltb d g h)

pub right_less : (last : Bool) (g d : ℕ) → last ≡ false → g ≤ d → wrong_amount last g d ≡ false
unfolding wrong_amount
right_less last g d e h = rw (e, le-ltb d g h)

-- ---- the header of every fragment

total_right : (n : ℕ) → wrong_total n ≡ false → (0 < n) × (n ≤ 128)
unfolding wrong_total
total_right n = go (eqb n 0) refl
  where
    go : (b : Bool) → eqb n 0 ≡ b → (b || ltb 128 n) ≡ false → (0 < n) × (n ≤ 128)
    go true h e = let z : ◌≡◌ {A = ℕ} 0 1 = cc in absurd (omega arith)
    go false h e = let z : n ≡ 0 → ⊥ = eqb-false n 0 h in (omega arith, ltb-false 128 n e)

right_total : (n : ℕ) → 0 < n → n ≤ 128 → wrong_total n ≡ false
unfolding wrong_total
right_total n h l = let z : n ≡ 0 → ⊥ = λ e. omega arith in rw (ne_eqb n 0 z, le-ltb 128 n l)

-- the header h of a fragment s that is accepted
pub record Accepted (s : List ℕ) (h : FragmentHeader) : Type 0 where
  pub is : header_at s ≡ h
  pub long : 20 ≤ length s
  pub short : length s ≤ most_transfer
  pub known : is_fragmented (u32_at s 0) ≡ true
  pub some : 0 < h.total
  pub few : h.total ≤ 128
  pub within : h.number < h.total

header_accepted : (s : List ℕ) (h : FragmentHeader) → header_of s ≡ Ok h → Accepted s h
unfolding header_of header_by
header_accepted s h e = go (judge (header_rules s)) refl e
  where
    go : (v : Verdict) → judge (header_rules s) ≡ v → header_by v s ≡ Ok h → Accepted s h
    go (Ok _) j q =
        let k = fits_kept (header_rules s) j in
        let same : header_at s ≡ h = cc in
        let t = total_right (u32_at s 12) k.1.1.1.1.0 in
        rw (← same) (record {
          is = refl;
          long = ltb-false _ _ k.0;
          short = ltb-false _ _ k.1.1.0;
          known = not-false _ k.1.1.1.0;
          some = t.0;
          few = t.1;
          within = leb-false _ _ k.1.1.1.1.1.0;
        })
    go (Err r) j q = let z : ◌≡◌ {A = ℕ} 0 1 = cc in absurd (omega arith)

-- a fragment whose header keeps the rules is accepted
accepted_header : (s : List ℕ) → 20 ≤ length s → u32_at s 4 ≡ length s → length s ≤ most_transfer → is_fragmented (u32_at s 0) ≡ true → 0 < u32_at s 12 → u32_at s 12 ≤ 128
    → u32_at s 16 < u32_at s 12 → header_of s ≡ Ok (header_at s)
unfolding header_of header_by
accepted_header s long all short known some few within =
    rw (kept_fits (header_rules s)
    (le-ltb _ _ long, (rw (eq-eqb _ _ all) refl, (le-ltb _ _ short, (rw known refl, (right_total _ some few, (lt-leb _ _ within, tt)))))))

-- ---- the header of a first fragment

-- what the first header f of a fragment s that is accepted says
pub record Opened (s : List ℕ) (f : FirstHeader) : Type 0 where
  pub message : f.message ≡ message_at s
  pub declared : f.information_length ≡ declared_at s
  pub long : first_length (u32_at s 0) ≤ length s
  pub word : wrong_word (message_at s) ≡ false
  pub small : f.information_length ≤ most_information
  pub amount : wrong_amount (eqb (u32_at s 12) 1) (carried_by s) f.information_length ≡ false

first_accepted : (s : List ℕ) (f : FirstHeader) → first_header_of s ≡ Ok f → Opened s f
unfolding first_header_of first_by
first_accepted s f e = go (judge (first_rules s)) refl e
  where
    go : (v : Verdict) → judge (first_rules s) ≡ v → first_by v s ≡ Ok f → Opened s f
    go (Ok _) j q =
        let k = fits_kept (first_rules s) j in
        let same : record { message = message_at s; information_length = declared_at s } ≡ f = cc in
        rw (← same) (record {
          message = refl;
          declared = refl;
          long = ltb-false _ _ k.0;
          word = k.1.0;
          small = ltb-false _ _ k.1.1.0;
          amount = k.1.1.1.0;
        })
    go (Err r) j q = let z : ◌≡◌ {A = ℕ} 0 1 = cc in absurd (omega arith)

-- a first header that keeps the rules is accepted
accepted_first : (s : List ℕ) → first_length (u32_at s 0) ≤ length s → wrong_word (message_at s) ≡ false → declared_at s ≤ most_information
    → wrong_amount (eqb (u32_at s 12) 1) (carried_by s) (declared_at s) ≡ false
    → first_header_of s ≡ Ok (record { message = message_at s; information_length = declared_at s })
unfolding first_header_of first_by
accepted_first s long word small amount = rw (kept_fits (first_rules s) (le-ltb _ _ long, (word, (le-ltb _ _ small, (amount, tt)))))

-- ---- one fragment: refused, or the headers that it has

pub data FragmentView (s : List ℕ) : (Result Fragment Refusal) → Type 0 where
  refuses : (r : Refusal) → FragmentView s (Err r)
  opens : (h : FragmentHeader) (f : FirstHeader) → Accepted s h → h.number ≡ 0 → Opened s f → FragmentView s (Ok (fragment.First h f))
  follows : (h : FragmentHeader) → Accepted s h → (h.number ≡ 0 → ⊥) → FragmentView s (Ok (fragment.Later h))

pub fragment_view : (s : List ℕ) → FragmentView s (fragment_of s)
unfolding fragment_of fragment_by opened_by
fragment_view s = go (header_of s) refl
  where
    opened : (h : FragmentHeader) → Accepted s h → h.number ≡ 0 → (o : First) → first_header_of s ≡ o → FragmentView s (opened_by h o)
    opened h a z (Err r) e = refuses r
    opened h a z (Ok f) e = opens h f a z (first_accepted s f e)

    numbered : (h : FragmentHeader) → Accepted s h → (b : Bool) → eqb h.number 0 ≡ b → FragmentView s (cond b (opened_by h (first_header_of s)) (Ok (fragment.Later h)))
    numbered h a true z = opened h a (eqb-true _ _ z) (first_header_of s) refl
    numbered h a false z = follows h a (eqb-false _ _ z)

    go : (x : Header) → header_of s ≡ x → FragmentView s (fragment_by s x)
    go (Err r) e = refuses r
    go (Ok h) e = numbered h (header_accepted s h e) (eqb h.number 0) refl

pub later_accepted : (s : List ℕ) (h : FragmentHeader) → fragment_of s ≡ Ok (fragment.Later h) → Accepted s h
later_accepted s h e = go (fragment_view s) e
  where
    go : {f : (Result Fragment Refusal)} → FragmentView s f → f ≡ Ok (fragment.Later h) → Accepted s h
    go (refuses r) q = let z : ◌≡◌ {A = ℕ} 0 1 = cc in absurd (omega arith)
    go (opens g f a n o) q = let z : ◌≡◌ {A = ℕ} 0 1 = cc in absurd (omega arith)
    go (follows g a n) q = let k : g ≡ h = cc in rw k at a

-- a fragment that keeps the rules is accepted: a later one with its header, a first one with both
pub accepted_later : (s : List ℕ) → 20 ≤ length s → u32_at s 4 ≡ length s → length s ≤ most_transfer → is_fragmented (u32_at s 0) ≡ true → 0 < u32_at s 12 → u32_at s 12 ≤ 128
    → u32_at s 16 < u32_at s 12 → 0 < u32_at s 16 → fragment_of s ≡ Ok (fragment.Later (header_at s))
unfolding fragment_of fragment_by
accepted_later s long all short known some few within later =
    let z : u32_at s 16 ≡ 0 → ⊥ = λ e. omega arith in
    rw (accepted_header s long all short known some few within, ne_eqb (u32_at s 16) 0 z)

pub accepted_opening : (s : List ℕ) → u32_at s 4 ≡ length s → length s ≤ most_transfer → is_fragmented (u32_at s 0) ≡ true → 0 < u32_at s 12 → u32_at s 12 ≤ 128
    → u32_at s 16 ≡ 0 → first_length (u32_at s 0) ≤ length s → wrong_word (message_at s) ≡ false → declared_at s ≤ most_information
    → wrong_amount (eqb (u32_at s 12) 1) (carried_by s) (declared_at s) ≡ false
    → fragment_of s ≡ Ok (fragment.First (header_at s) (record { message = message_at s; information_length = declared_at s }))
unfolding fragment_of fragment_by opened_by
accepted_opening s all short known some few zero long word small amount =
    let l : 20 ≤ length s = omega (arith, long, place_most (u32_at s 0)) in
    rw (accepted_header s l all short known some few (omega arith), eq-eqb (u32_at s 16) 0 zero, accepted_first s long word small amount)
