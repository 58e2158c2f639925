-- Laws of numbers in bytes and of runs: over the number of bytes, so that each serves every width.
-- Assumes nothing.
use mathlib.Core.Path.{◌≡◌, refl, sym, ap, ◌∙◌}
use mathlib.Core.Logic.{◌⊎◌, inl, inr}
use mathlib.Core.List.{List, [], ◌∷◌, ◌++◌, append_assoc, append-nil}
use Prim.Native.Nat.{ℕ, zero, suc, ◌+◌, ◌*◌, ◌/◌, ◌%◌, ◌^◌, ◌-◌, ◌≤◌, ◌<◌}
use native.Mathlib.Nat.{zero-add, add-zero, add-suc, suc-add}
use native.Mathlib.Numerals.{add-one}
use native.Mathlib.Omega.{arith}
use lib.ListN.{length, get_or, set, take, drop, get_or-eq_default, drop_of_length-le, length-append, length-drop, replicate, replicate-append-replicate}
use lib.Seq.{sets, length-sets, sets-eq, set_out, get_or-set_other, get_or-take, get_or-drop, length-take-le, take-suc, take_all, take-length, take_at, drop_at, drop-drop}
use Rattle.wire.specs.Numbers.{num, u32_at, digits}
use Rattle.wire.specs.Output.{fitted, over}

-- ---- past the end

-- a read past the end is zero
pub num_out : (n : ℕ) (s : List ℕ) (at : ℕ) → length s ≤ at → num n s at ≡ 0
num_out zero s at h = refl
num_out (suc n) s at h = omega (arith, num_out n s (suc at) (omega arith), get_or-eq_default s 0 h)

-- a store past the end changes nothing
pub sets_out : (vs s : List ℕ) (at : ℕ) → length s ≤ at → sets s at vs ≡ s
sets_out [] s at h = refl
sets_out (v ∷ vs) s at h = rw (set_out s at v h) (sets_out vs s (suc at) (omega arith))

-- a part of a slice that goes to the end is what is left behind its start
pub take_rest : (at : ℕ) (s : List ℕ) → take (length s - at) (drop at s) ≡ drop at s
take_rest at s = take_all (length s - at) (drop at s) (rw (length-drop at s) (omega arith))

-- ---- a number and its bytes

pub length_digits : (n v : ℕ) → length (digits n v) ≡ n
length_digits zero v = refl
length_digits (suc n) v = ap suc (length_digits n (v / 256))

num_cons : (n : ℕ) (x : ℕ) (s : List ℕ) (at : ℕ) → num n (x ∷ s) (suc at) ≡ num n s at
num_cons zero x s at = refl
num_cons (suc n) x s at = ap (λ (k : ℕ). get_or s at 0 + 256 * k) (num_cons n x s (suc at))

-- what stands before is passed over
pub num_skip : (n : ℕ) (p t : List ℕ) (i : ℕ) → num n (p ++ t) (length p + i) ≡ num n t i
num_skip n [] t i = ap (num n t) (zero-add i)
num_skip n (x ∷ p) t i = ap (num n (x ∷ (p ++ t))) (suc-add (length p) i) ∙ num_cons n x (p ++ t) (length p + i) ∙ num_skip n p t i

-- a number of a part is the number at its place
pub num_in : (m n : ℕ) (s : List ℕ) (at k : ℕ) → k + m ≤ n → num m (take n (drop at s)) k ≡ num m s (at + k)
num_in zero n s at k h = refl
num_in (suc m) n s at k h =
    let byte = get_or-take n (drop at s) k 0 (omega arith) ∙ get_or-drop at s k 0 in
    let rest = num_in m n s at (suc k) (omega arith) ∙ ap (num m s) (add-suc at k) in
    omega (arith, byte, rest)

-- a number of four bytes in the n bytes from `at`, as the code takes them, and the first of them
pub word_in : (s : List ℕ) (at n k : ℕ) {v : ℕ} → k + 4 ≤ n → v ≡ u32_at (take (at + n - at) (drop at s)) k → v ≡ u32_at s (at + k)
unfolding u32_at
word_in s at n k h e = e ∙ num_in 4 (at + n - at) s at k (omega arith)

pub first_in : (s : List ℕ) (at n : ℕ) {v : ℕ} → 4 ≤ n → v ≡ u32_at (take (at + n - at) (drop at s)) 0 → v ≡ u32_at s at
first_in s at n h e = word_in s at n 0 (omega arith) e ∙ ap (u32_at s) (add-zero at)

-- a number's bytes give the number back
pub num_digits : (n v : ℕ) (rest : List ℕ) → v < 256 ^ n → num n (digits n v ++ rest) 0 ≡ v
num_digits zero v rest h = omega arith
num_digits (suc n) v rest h =
    omega (arith, num_cons n (v % 256) (digits n (v / 256) ++ rest) 0, num_digits n (v / 256) rest (omega arith))

-- a read at the place of a store gives what was stored
pub read_same : (n v : ℕ) (s : List ℕ) (at : ℕ) → at + n ≤ length s → v < 256 ^ n → num n (sets s at (digits n v)) at ≡ v
read_same n v s at h b =
    let rest = drop (at + length (digits n v)) s in
    ap (λ (l : List ℕ). num n l at) (sets-eq (digits n v) s at (omega (arith, length_digits n v)) ∙ append_assoc (take at s) (digits n v) rest)
    ∙ ap (num n (take at s ++ (digits n v ++ rest))) (sym (add-zero at ∙ refl) ∙ ap (λ (k : ℕ). k + 0) (sym (length-take-le at s (omega arith))))
    ∙ num_skip n (take at s) (digits n v ++ rest) 0 ∙ num_digits n v rest b

pub get_d_sets_other : (vs s : List ℕ) (at j : ℕ) → (j < at) ⊎ (at + length vs ≤ j) → get_or (sets s at vs) j 0 ≡ get_or s j 0
get_d_sets_other [] s at j h = refl
get_d_sets_other (v ∷ vs) s at j (inl h) =
    get_d_sets_other vs (set s at v) (suc at) j (inl (omega arith)) ∙ get_or-set_other s at j v 0 (omega arith)
get_d_sets_other (v ∷ vs) s at j (inr h) =
    get_d_sets_other vs (set s at v) (suc at) j (inr (omega arith)) ∙ get_or-set_other s at j v 0 (omega arith)

-- a read beside a store gives what was there
pub read_other : (m : ℕ) (vs s : List ℕ) (at b : ℕ) → (b + m ≤ at) ⊎ (at + length vs ≤ b) → num m (sets s at vs) b ≡ num m s b
read_other zero vs s at b h = refl
read_other (suc m) vs s at b (inl h) =
    rw (get_d_sets_other vs s at b (inl (omega arith)), read_other m vs s at (suc b) (inl (omega arith)))
read_other (suc m) vs s at b (inr h) =
    rw (get_d_sets_other vs s at b (inr h), read_other m vs s at (suc b) (inr (omega arith)))

-- ---- the code's sums and stores, byte by byte

pub two : (s : List ℕ) (at : ℕ) {a b : ℕ} → a ≡ get_or s at 0 → b ≡ get_or s (at + 1) 0 → a + 256 * b ≡ num 2 s at
two s at p q = omega (arith, p, q ∙ ap (λ (k : ℕ). get_or s k 0) (add-one at))

pub four : (s : List ℕ) (at : ℕ) {a b c d : ℕ} → a ≡ get_or s at 0 → b ≡ get_or s (at + 1) 0 → c ≡ get_or s (at + 2) 0 → d ≡ get_or s (at + 3) 0
    → a + 256 * (b + 256 * (c + 256 * d)) ≡ num 4 s at
four s at p q r t =
    let g : ℕ → ℕ = λ k. get_or s k 0 in
    let r₁ : at + 2 ≡ suc (suc at) = omega arith in
    let t₁ : at + 3 ≡ suc (suc (suc at)) = omega arith in
    omega (arith, p, q ∙ ap g (add-one at), r ∙ ap g r₁, t ∙ ap g t₁)

pub eight : (s : List ℕ) (at : ℕ) {a b : ℕ} → a ≡ num 4 s at → b ≡ num 4 s (at + 4) → a + 4294967296 * b ≡ num 8 s at
eight s at p q =
    let e : at + 4 ≡ suc (suc (suc (suc at))) = omega arith in
    omega (arith, p, q ∙ ap (num 4 s) e)

pub two_to : (s : List ℕ) (at w x : ℕ) {s₁ s₂ : List ℕ} → s₁ ≡ set s at w → s₂ ≡ set s₁ (at + 1) x → s₂ ≡ sets s at (w ∷ x ∷ [])
two_to s at w x p q = let q₁ : at + 1 ≡ suc at = add-one at in cc

pub four_to : (s : List ℕ) (at w x y z : ℕ) {s₁ s₂ s₃ s₄ : List ℕ} → s₁ ≡ set s at w → s₂ ≡ set s₁ (at + 1) x → s₃ ≡ set s₂ (at + 2) y → s₄ ≡ set s₃ (at + 3) z
    → s₄ ≡ sets s at (w ∷ x ∷ y ∷ z ∷ [])
four_to s at w x y z p q r t =
    let q₁ : at + 1 ≡ suc at = omega arith in
    let r₁ : at + 2 ≡ suc (suc at) = omega arith in
    let t₁ : at + 3 ≡ suc (suc (suc at)) = omega arith in
    cc

pub eight_to : (s : List ℕ) (at v : ℕ) {s₁ s₂ : List ℕ} → s₁ ≡ sets s at (digits 4 v) → s₂ ≡ sets s₁ (at + 4) (digits 4 (v / 256 / 256 / 256 / 256))
    → s₂ ≡ sets s at (digits 8 v)
eight_to s at v {s₁} p q =
    let e : at + 4 ≡ suc (suc (suc (suc at))) = omega arith in
    q ∙ ap (λ (k : ℕ). sets s₁ k (digits 4 (v / 256 / 256 / 256 / 256))) e
    ∙ ap (λ (l : List ℕ). sets l (suc (suc (suc (suc at)))) (digits 4 (v / 256 / 256 / 256 / 256))) p

-- ---- runs of stores

-- a run of stores in two parts
pub sets_append : (xs ys s : List ℕ) (at : ℕ) → sets s at (xs ++ ys) ≡ sets (sets s at xs) (at + length xs) ys
sets_append [] ys s at = rw add-zero
sets_append (x ∷ xs) ys s at = sets_append xs ys (set s at x) (suc at) ∙ rw (suc-add, add-suc)

pub sets_then : (xs ys : List ℕ) (at k : ℕ) (s : List ℕ) {s₁ s₂ : List ℕ} → length xs ≡ k → s₁ ≡ sets s at xs → s₂ ≡ sets s₁ (at + k) ys
    → s₂ ≡ sets s at (xs ++ ys)
sets_then xs ys at k s e p q = q ∙ (λ i. sets (p i) (at + sym e i) ys) ∙ sym (sets_append xs ys s at)

-- bytes stored from the front, where they have room
pub sets_over : (b s : List ℕ) → length b ≤ length s → sets s 0 b ≡ over b s
unfolding over
sets_over b s h = sets-eq b s 0 (omega arith) ∙ ap (λ (k : ℕ). b ++ drop k s) (zero-add (length b))

-- bytes that fill all of a part
pub sets_all : (b s : List ℕ) → length b ≡ length s → sets s 0 b ≡ b
unfolding over
sets_all b s e = sets_over b s (omega arith) ∙ rw (drop_of_length-le s {i = length b} (omega arith)) (append-nil b)

-- a part of the output that is filled, put back where it was lent from: by what it is then, by stores from
-- its front, and at the front
pub part_copied : (b s : List ℕ) (at n : ℕ) {t : List ℕ} → length b ≡ n → at + n ≤ length s → t ≡ b → take at s ++ (t ++ drop n (drop at s)) ≡ sets s at b
part_copied b s at n e h p = rw (p, drop-drop n at s, ← e) (sym (sets-eq b s at (omega arith) ∙ append_assoc (take at s) b (drop (at + length b) s)))

pub part_filled : (b s : List ℕ) (at n : ℕ) {t : List ℕ} → length b ≡ n → at + n ≤ length s → t ≡ sets (take n (drop at s)) 0 b
    → take at s ++ (t ++ drop n (drop at s)) ≡ sets s at b
part_filled b s at n e h p =
    let part : length (take n (drop at s)) ≡ n = length-take-le n (drop at s) (omega (arith, length-drop at s)) in
    part_copied b s at n e h (p ∙ sets_all b (take n (drop at s)) (e ∙ sym part))

pub front_filled : (b s : List ℕ) (n : ℕ) {t : List ℕ} → length b ≡ n → n ≤ length s → t ≡ sets (take n s) 0 b → t ++ drop n s ≡ sets s 0 b
front_filled b s n e h p = part_filled b s 0 n e (omega arith) p

-- what stands before the end of a run of stores, and after it
pub take_sets : (b xs : List ℕ) (at : ℕ) → at + length xs ≤ length b → take (at + length xs) (sets b at xs) ≡ take at b ++ xs
take_sets b xs at h =
    let e : length (take at b ++ xs) ≡ at + length xs = length-append (take at b) xs ∙ ap (λ (k : ℕ). k + length xs) (length-take-le at b (omega arith)) in
    ap (take (at + length xs)) (sets-eq xs b at h) ∙ take_at (take at b ++ xs) (drop (at + length xs) b) (at + length xs) e

pub drop_sets : (b xs : List ℕ) (at : ℕ) → at + length xs ≤ length b → drop (at + length xs) (sets b at xs) ≡ drop (at + length xs) b
drop_sets b xs at h =
    let e : length (take at b ++ xs) ≡ at + length xs = length-append (take at b) xs ∙ ap (λ (k : ℕ). k + length xs) (length-take-le at b (omega arith)) in
    ap (drop (at + length xs)) (sets-eq xs b at h) ∙ drop_at (take at b ++ xs) (drop (at + length xs) b) (at + length xs) e

-- the front of such an output
pub take_over : (b s : List ℕ) (n : ℕ) → length b ≡ n → take n (over b s) ≡ b
unfolding over
take_over b s n e = take_at b (drop (length b) s) n e

-- ---- a run with zeros past its end

pub length_fitted : (n : ℕ) (t : List ℕ) → length (fitted n t) ≡ n
unfolding fitted
length_fitted zero t = refl
length_fitted (suc n) t = length-append (fitted n t) (get_or t n 0 ∷ []) ∙ omega (arith, length_fitted n t)

-- one byte more
pub run_more : (n at : ℕ) (s t : List ℕ) {s₁ s₂ : List ℕ} {b : ℕ} → s₁ ≡ sets s at (fitted n t) → b ≡ get_or t n 0 → s₂ ≡ set s₁ (at + n) b
    → s₂ ≡ sets s at (fitted (n + 1) t)
unfolding fitted
run_more n at s t p q r =
    let e : n + 1 ≡ suc n = omega arith in
    let m : length (fitted n t) ≡ n = length_fitted n t in
    let a : sets s at (fitted n t ++ (get_or t n 0 ∷ [])) ≡ sets (sets s at (fitted n t)) (at + length (fitted n t)) (get_or t n 0 ∷ []) =
    sets_append (fitted n t) (get_or t n 0 ∷ []) s at in
    r ∙ rw (p, q, e, a, m)

past : (k at room : ℕ) (s t : List ℕ) → length s ≤ at + room → sets s at (fitted (room + k) t) ≡ sets s at (fitted room t)
unfolding fitted
past zero at room s t h = rw add-zero
past (suc k) at room s t h =
    let n = room + k in
    ap (λ (j : ℕ). sets s at (fitted j t)) (add-suc room k)
    ∙ sets_append (fitted n t) (get_or t n 0 ∷ []) s at
    ∙ sets_out (get_or t n 0 ∷ []) (sets s at (fitted n t)) (at + length (fitted n t))
    (omega (arith, length-sets s at (fitted n t), length_fitted n t))
    ∙ past k at room s t h

-- what has no room is dropped
pub run_past : (n at room : ℕ) (s t : List ℕ) → room ≤ n → length s ≤ at + room → sets s at (fitted n t) ≡ sets s at (fitted room t)
run_past n at room s t l h =
    let e : room + (n - room) ≡ n = omega arith in
    ap (λ (j : ℕ). sets s at (fitted j t)) (sym e) ∙ past (n - room) at room s t h

-- a run that its text fills
pub fitted_take : (n : ℕ) (t : List ℕ) → n ≤ length t → fitted n t ≡ take n t
unfolding fitted
fitted_take zero t h = refl
fitted_take (suc n) t h = rw (fitted_take n t (omega arith), take-suc t n 0 h)

-- the whole of a text
pub fitted_all : (t : List ℕ) → fitted (length t) t ≡ t
fitted_all t = fitted_take (length t) t (omega arith) ∙ take-length t

-- a text that is cut where the output ends
pub sets_cut : (t s : List ℕ) (at room : ℕ) → room ≤ length t → length s ≤ at + room → sets s at (take room t) ≡ sets s at t
sets_cut t s at room l h =
    ap (sets s at) (sym (fitted_take room t l)) ∙ sym (run_past (length t) at room s t l h) ∙ ap (sets s at) (fitted_all t)

-- a run through a block in between
pub fitted_through : (n : ℕ) (block t : List ℕ) → n ≤ length block → fitted n (sets block 0 (fitted n t)) ≡ fitted n t
fitted_through n block t h =
    let xs = fitted n t in
    let e : length xs ≡ n = length_fitted n t in
    fitted_take n (sets block 0 xs) (omega (arith, length-sets block 0 xs)) ∙ ap (take n) (sets_over xs block (omega arith)) ∙ take_over xs block n e

-- a text and zeros after it
pub fitted_pad : (k : ℕ) (t : List ℕ) → fitted (length t + k) t ≡ t ++ replicate k 0
unfolding fitted
fitted_pad zero t = rw (add-zero, append-nil, fitted_take (length t) t (omega arith), take-length)
fitted_pad (suc k) t =
    let z : get_or t (length t + k) 0 ≡ 0 = get_or-eq_default t 0 (omega arith) in
    let e : replicate {A = ℕ} k 0 ++ replicate 1 0 ≡ replicate (suc k) 0 = replicate-append-replicate k 1 0 ∙ ap (λ (j : ℕ). replicate j 0) (add-one k) in
    ap (λ (j : ℕ). fitted j t) (add-suc (length t) k) ∙ rw (z, fitted_pad k t, append_assoc t (replicate k 0) (replicate 1 0), e)

-- the whole of a text, and zeros behind it
pub fitted_rest : (n : ℕ) (t : List ℕ) → length t ≤ n → fitted (length t) t ++ fitted (n - length t) [] ≡ fitted n t
fitted_rest n t h =
    let k = n - length t in
    let e : length t + k ≡ n = omega arith in
    let z : fitted k [] ≡ replicate k 0 = ap (λ (j : ℕ). fitted j []) (sym (zero-add k)) ∙ fitted_pad k [] in
    rw (fitted_all t, z) (sym (fitted_pad k t) ∙ ap (λ (j : ℕ). fitted j t) e)

-- a text is read back from where it was put, past what stands before it
pub text_at : (p x rest : List ℕ) (n base : ℕ) → length p ≡ base → length x ≤ n → take (length x) (drop base (p ++ (fitted n x ++ rest))) ≡ x
text_at p x rest n base e h =
    let zeros : List ℕ = replicate (n - length x) 0 in
    let m : length x + (n - length x) ≡ n = omega arith in
    let f : fitted n x ≡ x ++ zeros = ap (λ (k : ℕ). fitted k x) (sym m) ∙ fitted_pad (n - length x) x in
    ap (take (length x)) (drop_at p (fitted n x ++ rest) base e ∙ ap (λ (l : List ℕ). l ++ rest) f ∙ append_assoc x zeros rest)
    ∙ take_at x (zeros ++ rest) (length x) refl
