-- Lent memory: the length of what an assembly's numbers take, and stores at its front.
-- Assumes nothing.
use mathlib.Core.Path.{◌≡◌, refl, sym, ap, ◌∙◌}
use mathlib.Core.Logic.{◌⊎◌, inl, inr}
use mathlib.Core.Bool.{Bool, true, false, cond}
use mathlib.Core.List.{List, [], ◌∷◌, ◌++◌, append_assoc, append-nil}
use Prim.Native.Nat.{ℕ, suc, ◌+◌, ◌*◌, ◌/◌, ◌%◌, ◌≤◌, ◌<◌}
use native.Mathlib.Omega.{arith}
use borrow.Author.Tests.{lt-ltb, le-ltb}
use lib.Dec.{ltb}
use lib.ListN.{length, get_or, set, take, drop, replicate, take-append-drop, length-append, length-take, length-drop, length-replicate}
use lib.Seq.{sets, set-get_or, take_all, take_at, take-append-le, drop_at, drop-drop, drop-length}
use Rattle.wire.specs.Numbers.{u32_at, digits}
use Rattle.wire.specs.Output.{over}
use Rattle.wire.proofs.Laws.{sets_over, sets_then, four, four_to}
use Rattle.protocol.specs.Service.{id_at, id_bytes}
use Rattle.message.specs.declared.MessageHeader.{MessageHeader}
use Rattle.assembler.specs.Assembly.{assembly_of, empty, step_of, lent_step_of}
use Rattle.assembler.specs.declared.Progress.{Progress}
use Rattle.assembler.specs.declared.Assembly.{Assembly}
use Rattle.assembler.proofs.Left.{begun, joined, Left, nothing, pending}
use Rattle.lent.specs.LentAssembly.{assembly_size, message_in, buffer_in, message_bytes, count_bytes, progress_bytes, changed_in, cleared}

pub length_message : (h : MessageHeader) → length (message_bytes h) ≡ 32
unfolding message_bytes id_bytes
length_message h = refl

pub length_progress : (p : Progress) → length (progress_bytes p) ≡ 48
unfolding progress_bytes message_bytes count_bytes id_bytes
length_progress p = refl

-- the front filled with zeros
pub front_cleared : (n : ℕ) (m : List ℕ) → n ≤ length m → replicate (length (take n m)) 0 ++ drop n m ≡ over (replicate n 0) m
unfolding over
front_cleared n m room =
    let e : length (take n m) ≡ n = length-take n m ∙ omega (arith, room) in
    ap (λ (k : ℕ). replicate k 0 ++ drop n m) e ∙ ap (λ (k : ℕ). replicate n 0 ++ drop k m) (sym (length-replicate {A = ℕ} n 0))

pub cleared_zeros : (m : List ℕ) → cleared m ≡ over (replicate assembly_size 0) m
unfolding cleared
cleared_zeros m = refl

-- what stands behind the numbers of an assembly
drop_front : (n : ℕ) (m r : List ℕ) → n ≤ length m → drop n (take n m ++ r) ≡ r
drop_front n m r room = drop_at (take n m) r n (length-take n m ∙ omega (arith, room))

-- k bytes behind the first n given back, and then n put before them
pub put_front : (n k : ℕ) (m b xs : List ℕ) {s : List ℕ} → n + k ≤ length m → length b ≡ k → length xs ≡ n → s ≡ sets (take n m ++ (b ++ drop k (drop n m))) 0 xs → s ≡ over (xs ++ b) m
unfolding over
put_front n k m b xs room eb ex e =
    let rest = b ++ drop (n + k) m in
    let fits : length xs ≤ length (take n m ++ rest) = simp (length-append, length-take) (omega (arith, room, ex)) in
    let all : length (xs ++ b) ≡ n + k = length-append xs b ∙ omega (arith, ex, eb) in
    e ∙ ap (λ (t : List ℕ). sets (take n m ++ (b ++ t)) 0 xs) (drop-drop k n m)
    ∙ sets_over xs (take n m ++ rest) fits
    ∙ ap (λ (j : ℕ). xs ++ drop j (take n m ++ rest)) ex
    ∙ ap (λ (t : List ℕ). xs ++ t) (drop_front n m rest (omega (arith, room)))
    ∙ sym (append_assoc xs b (drop (n + k) m))
    ∙ ap (λ (j : ℕ). (xs ++ b) ++ drop j m) (sym all)

-- the buffer of an assembly, and then its numbers
pub put_back : (m b xs : List ℕ) {s : List ℕ} → assembly_size ≤ length m → length b ≡ 4096 → length xs ≡ 48 → s ≡ sets (take 48 m ++ (b ++ drop 4096 (drop 48 m))) 0 xs
    → s ≡ over (xs ++ b) m
put_back m b xs room eb ex e = put_front 48 4096 m b xs room eb ex e

pub length_buffer : (m : List ℕ) → assembly_size ≤ length m → length (buffer_in m) ≡ 4096
length_buffer m room = length-take 4096 (drop 48 m) ∙ simp length-drop (omega (arith, room))

-- ---- a number put back where it was read

-- the lowest byte, then the others
pub lowest : (n x y : ℕ) → x < 256 → digits (suc n) (x + 256 * y) ≡ x ∷ digits n y
lowest n x y l =
    let e : (x + 256 * y) % 256 ≡ x = omega (arith, l) in
    let f : (x + 256 * y) / 256 ≡ y = omega (arith, l) in
    λ i. e i ∷ digits n (f i)

four_digits : (a b c d : ℕ) → a < 256 → b < 256 → c < 256 → d < 256 → digits 4 (a + 256 * (b + 256 * (c + 256 * d))) ≡ a ∷ b ∷ c ∷ d ∷ []
four_digits a b c d la lb lc ld =
    let e : d % 256 ≡ d = omega (arith, ld) in
    lowest 3 a _ la
    ∙ ap (λ (t : List ℕ). a ∷ t) (lowest 2 b _ lb)
    ∙ ap (λ (t : List ℕ). a ∷ b ∷ t) (lowest 1 c d lc)
    ∙ ap (λ (x : ℕ). a ∷ b ∷ c ∷ x ∷ []) e

pub word_kept : (m : List ℕ) (at : ℕ) {a b c d : ℕ} → a ≡ get_or m at 0 → b ≡ get_or m (at + 1) 0 → c ≡ get_or m (at + 2) 0 → d ≡ get_or m (at + 3) 0
    → a < 256 → b < 256 → c < 256 → d < 256 → sets m at (digits 4 (a + 256 * (b + 256 * (c + 256 * d)))) ≡ m
word_kept m at {a} {b} {c} {d} ea eb ec ed la lb lc ld =
    let same : (i x : ℕ) → x ≡ get_or m i 0 → m ≡ set m i x = λ i x e. sym (ap (set m i) e ∙ set-get_or m i 0) in
    ap (sets m at) (four_digits a b c d la lb lc ld)
    ∙ sym (four_to m at a b c d (same at a ea) (same (at + 1) b eb) (same (at + 2) c ec) (same (at + 3) d ed))

-- each byte of the memory fits
abbrev pub Bytes : List ℕ → Type 0
Bytes m = (k : ℕ) → get_or m k 0 < 256

number_kept : (m : List ℕ) (at : ℕ) → Bytes m → sets m at (digits 4 (u32_at m at)) ≡ m
unfolding u32_at
number_kept m at fits =
    ap (λ (k : ℕ). sets m at (digits 4 k)) (sym (four m at refl refl refl refl))
    ∙ word_kept m at refl refl refl refl (fits at) (fits (at + 1)) (fits (at + 2)) (fits (at + 3))

-- what the memory holds already is put back behind what it holds already
pub kept_then : (xs ys : List ℕ) (at k : ℕ) (m : List ℕ) → length xs ≡ k → sets m at xs ≡ m → sets m (at + k) ys ≡ m → sets m at (xs ++ ys) ≡ m
kept_then xs ys at k m e p q = sym (sets_then xs ys at k m e (sym p) (sym q))

-- the message put back where it was read
pub message_kept : (m : List ℕ) → Bytes m → sets m 0 (message_bytes (message_in m)) ≡ m
unfolding message_in message_bytes id_at id_bytes
message_kept m fits =
    let d : ℕ → List ℕ = λ at. digits 4 (u32_at m at) in
    let k : (at : ℕ) → sets m at (d at) ≡ m = λ at. number_kept m at fits in
    let words = d 8 ++ (d 12 ++ (d 16 ++ d 20)) in
    let id : sets m 8 words ≡ m = kept_then (d 8) (d 12 ++ (d 16 ++ d 20)) 8 4 m refl (k 8) (kept_then (d 12) (d 16 ++ d 20) 12 4 m refl (k 12) (kept_then (d 16) (d 20) 16 4 m refl (k 16) (k 20))) in
    let rest : sets m 8 (words ++ (d 24 ++ d 28)) ≡ m = kept_then words (d 24 ++ d 28) 8 16 m refl id (kept_then (d 24) (d 28) 24 4 m refl (k 24) (k 28)) in
    kept_then (d 0) (d 4 ++ (words ++ (d 24 ++ d 28))) 0 4 m refl (k 0) (kept_then (d 4) (words ++ (d 24 ++ d 28)) 4 4 m refl (k 4) rest)

-- ---- the numbers after a feed

-- what the front of the memory holds already, put back after the buffer came back
front_kept : (m r xs : List ℕ) → assembly_size ≤ length m → length xs ≡ 32 → sets m 0 xs ≡ m → sets (take 48 m ++ r) 0 xs ≡ take 48 m ++ r
unfolding over
front_kept m r xs room n kept =
    let f = take 48 m in
    let l : 32 ≤ length f = simp length-take (omega (arith, room)) in
    let fits : length xs ≤ length m = omega (arith, n, room) in
    let fits₁ : length xs ≤ length (f ++ r) = simp length-append (omega (arith, n, l)) in
    let front : (t : List ℕ) → take 32 (f ++ t) ≡ take 32 f = λ t. take-append-le 32 f t l in
    let own : xs ≡ take 32 m = sym (take_at xs (drop 32 m) 32 n) ∙ ap (take 32) (sym (ap (λ (k : ℕ). xs ++ drop k m) n) ∙ sym (sets_over xs m fits) ∙ kept) in
    let same : xs ≡ take 32 (f ++ r) = own ∙ ap (take 32) (sym (take-append-drop 48 m)) ∙ front (drop 48 m) ∙ sym (front r) in
    sets_over xs (f ++ r) fits₁ ∙ ap (λ (k : ℕ). xs ++ drop k (f ++ r)) n ∙ ap (λ (t : List ℕ). t ++ drop 32 (f ++ r)) same ∙ take-append-drop 32 (f ++ r)

-- where only the counts were put, the message was there before
pub changed_all : (m r : List ℕ) (p q : Progress) → assembly_size ≤ length m → sets m 0 (message_bytes p.message) ≡ m → (q.next < 2) ⊎ (q.message ≡ p.message)
    → changed_in q (take 48 m ++ r) ≡ sets (take 48 m ++ r) 0 (progress_bytes q)
unfolding changed_in progress_bytes
changed_all m r p q room kept (inl l) = rw (lt-ltb q.next 2 l)
changed_all m r p q room kept (inr e) = by_test (ltb q.next 2)
  where
    s : List ℕ
    s = take 48 m ++ r

    put : sets s 32 (count_bytes q) ≡ sets s 0 (message_bytes q.message ++ count_bytes q)
    put =
        let k : sets s 0 (message_bytes q.message) ≡ s = ap (λ (h : MessageHeader). sets s 0 (message_bytes h)) e ∙ front_kept m r (message_bytes p.message) room (length_message p.message) kept in
        sets_then (message_bytes q.message) (count_bytes q) 0 32 s (length_message q.message) (sym k) refl

    by_test : (b : Bool) → cond b (sets s 0 (message_bytes q.message ++ count_bytes q)) (sets s 32 (count_bytes q)) ≡ sets s 0 (message_bytes q.message ++ count_bytes q)
    by_test true = refl
    by_test false = put

-- what feeding leaves is of one or the other kind
pub left_kind : (a : Assembly) (s : List ℕ) (q : Progress) → Left a s q → (q.next < 2) ⊎ (q.message ≡ a.progress.message)
unfolding empty
left_kind a s q (nothing e) = inl (let z : q.next ≡ 0 = ap (λ (p : Progress). p.next) e in omega (arith, z))
left_kind a s q (pending w (begun e v n c)) = inl (omega (arith, n))
left_kind a s q (pending w (joined e n)) = inr e

-- a feed in the buffer of an assembly in memory is one of the whole buffer
pub whole_step : (p : Progress) (m s : List ℕ) (room : ℕ) → assembly_size ≤ length m → lent_step_of p (buffer_in m) s room ≡ step_of (assembly_of p (buffer_in m)) s room
unfolding lent_step_of
whole_step p m s room h =
    let e = length_buffer m h in
    rw (le-ltb (length (buffer_in m)) 4096 (omega (arith, e)), take_all 4096 (buffer_in m) (omega (arith, e)))

pub whole_over : (x b : List ℕ) → length x ≡ 4096 → length b ≡ 4096 → over x b ≡ x
unfolding over
whole_over x b e f = rw (e, ← f, drop-length b) (append-nil x)
