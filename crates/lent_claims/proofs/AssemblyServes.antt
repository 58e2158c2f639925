-- Memory that feeding left holds the assembly that it gave: a run in lent memory is the run by value.
-- Assumes nothing.
use mathlib.Core.Path.{◌≡◌, refl, sym, ap, ◌∙◌}
use mathlib.Core.Bool.{Bool, true, false, cond}
use mathlib.Core.List.{List, [], ◌∷◌, ◌++◌, append_assoc}
use Prim.Native.Nat.{ℕ, zero, suc, ◌+◌, ◌*◌, ◌≤◌, ◌<◌, ◌^◌}
use native.Mathlib.Omega.{arith}
use borrow.Author.Tests.{le-ltb}
use lib.Dec.{eqb}
use lib.ListN.{length, get_or, take, drop, length-append, length-drop, length-replicate, replicate-append-replicate}
use lib.Seq.{take_at, drop_at}
use Rattle.wire.specs.Numbers.{num, u32_at, digits}
use Rattle.wire.specs.Output.{over}
use Rattle.wire.proofs.Laws.{num_digits, num_skip}
use Rattle.protocol.specs.MessageType.{INDICATE_STATUS}
use Rattle.protocol.specs.Service.{id_at, id_bytes}
use Rattle.message.specs.Message.{word_at, message_at, is_whole_piece}
use Rattle.assembler.specs.Assembly.{assembly_of, empty, step_of}
use Rattle.assembler.specs.Run.{Piece}
use Rattle.assembler.specs.Door.{whole_shown, fed_shown, whole_received, fed_received, receive_of, receive_all}
use Rattle.assembler.specs.declared.Progress.{Progress}
use Rattle.assembler.specs.declared.Assembly.{Assembly}
use Rattle.assembler.proofs.Left.{Waits, begun, joined, Left, nothing, pending, left, left_whole}
use Rattle.lent_progress.specs.LentProgress.{progress_verdict}
use Rattle.lent.specs.LentAssembly.{assembly_size, message_in, progress_in, buffer_in, message_bytes, count_bytes, progress_bytes, held, cleared, emptied, Feeding, kept, kept_of, feed_in, untouched, fed_in, receive_in}
use Rattle.lent_claims.specs.Given.{WordsOfWidth, Bytes, message_words}
use Rattle.lent_claims.proofs.NumbersLeft.{none_fits, left_fits}
use Rattle.lent_claims.specs.AssemblyMemory.{words_of, Holds, run_in, AllBytes, MemoryServes}
use Rattle.lent.proofs.Memory.{length_progress, length_buffer}
use Rattle.protocol.specs.Verdict.{no_fault}

-- ---- words one after another

abbrev words_bytes : List ℕ → List ℕ
words_bytes [] = []
words_bytes (x ∷ xs) = digits 4 x ++ words_bytes xs

-- each word is read back from its place
read_word : (ws t : List ℕ) (i : ℕ) → WordsOfWidth ws → i < length ws → num 4 (words_bytes ws ++ t) (4 * i) ≡ get_or ws i 0
read_word [] t i e l = absurd (omega arith)
read_word (x ∷ xs) t zero e l = num_digits 4 x (words_bytes xs ++ t) (omega (arith, e.0))
read_word (x ∷ xs) t (suc i) e l =
    let at : 4 * suc i ≡ 4 + 4 * i = omega arith in
    ap (num 4 (digits 4 x ++ (words_bytes xs ++ t))) at ∙ num_skip 4 (digits 4 x) (words_bytes xs ++ t) (4 * i) ∙ read_word xs t i e.1 (omega (arith, l))

as_words : (p : Progress) (t : List ℕ) → progress_bytes p ++ t ≡ words_bytes (words_of p) ++ t
unfolding progress_bytes message_bytes count_bytes id_bytes
as_words p t = refl

-- the numbers of an assembly are read back from the front of the memory
numbers_back : (p : Progress) (t : List ℕ) → WordsOfWidth (words_of p) → progress_in (progress_bytes p ++ t) ≡ p
unfolding progress_in message_in id_at u32_at
numbers_back p t e =
    let f : (i : ℕ) → i < 12 → num 4 (progress_bytes p ++ t) (4 * i) ≡ get_or (words_of p) i 0 =
    λ i l. ap (λ (s : List ℕ). num 4 s (4 * i)) (as_words p t) ∙ read_word (words_of p) t i e l in
    λ j. record {
      message = record {
        message_type = f 0 (omega arith) j;
        transaction = f 1 (omega arith) j;
        service = record { word0 = f 2 (omega arith) j; word1 = f 3 (omega arith) j; word2 = f 4 (omega arith) j; word3 = f 5 (omega arith) j };
        cid = f 6 (omega arith) j;
        word = f 7 (omega arith) j;
      };
      total = f 8 (omega arith) j;
      next = f 9 (omega arith) j;
      information_length = f 10 (omega arith) j;
      gathered = f 11 (omega arith) j;
    }

-- ---- what was put into memory that has the room is what it holds

pub length_held : (a : Assembly) (m : List ℕ) → length a.bytes ≡ 4096 → length (progress_bytes a.progress ++ a.bytes) ≡ assembly_size
length_held a m whole = length-append (progress_bytes a.progress) a.bytes ∙ omega (arith, length_progress a.progress, whole)

held_parts : (a : Assembly) (m : List ℕ) → length a.bytes ≡ 4096 → held a m ≡ progress_bytes a.progress ++ (a.bytes ++ drop assembly_size m)
unfolding held over
held_parts a m whole =
    ap (λ (k : ℕ). (progress_bytes a.progress ++ a.bytes) ++ drop k m) (length_held a m whole) ∙ append_assoc (progress_bytes a.progress) a.bytes (drop assembly_size m)

held_holds : (a : Assembly) (m : List ℕ) → assembly_size ≤ length m → length a.bytes ≡ 4096 → progress_verdict a.progress ≡ no_fault → WordsOfWidth (words_of a.progress) → Holds (held a m) a
held_holds a m room whole fits small =
    let e = held_parts a m whole in
    let b = progress_bytes a.progress in
    let t = a.bytes ++ drop assembly_size m in
    let n : length (b ++ t) ≡ length m = length-append b t ∙ (let k = length-append a.bytes (drop assembly_size m) in let l = length-drop assembly_size m in omega (arith, k, l, room, whole, length_progress a.progress)) in
    record {
      room = let r : length (held a m) ≡ length m = ap length e ∙ n in omega (arith, r, room);
      numbers = ap progress_in e ∙ numbers_back a.progress t small;
      buffer = ap buffer_in e ∙ ap (take 4096) (drop_at b t 48 (length_progress a.progress)) ∙ take_at a.bytes (drop assembly_size m) 4096 whole;
      fits = fits;
      small = small;
    }

-- ---- its numbers are of 32 bits

pub word_small : (s : List ℕ) (at : ℕ) → Bytes s → num 4 s at < 2 ^ 32
word_small s at b = omega (arith, b at, b (suc at), b (suc (suc at)), b (suc (suc (suc at))))

own_word_small : (t : ℕ) (s : List ℕ) → Bytes s → word_at t s < 2 ^ 32
unfolding word_at u32_at
own_word_small t s b = go (eqb t INDICATE_STATUS)
  where
    go : (i : Bool) → cond i 0 (u32_at s 40) < 2 ^ 32
    go true = omega arith
    go false = word_small s 40 b

message_small : (s : List ℕ) → Bytes s → WordsOfWidth (message_words (message_at s))
unfolding message_at id_at u32_at
message_small s b =
    (word_small s 0 b, (word_small s 8 b, (word_small s 20 b, (word_small s 24 b, (word_small s 28 b, (word_small s 32 b, (word_small s 36 b, (own_word_small (u32_at s 0) s b, tt))))))))

-- the words of a message, and the counts of one that waits
waits_small : (p : Progress) → Waits p → WordsOfWidth (message_words p.message) → WordsOfWidth (words_of p)
waits_small p w x = (
  x.0,
  (
    x.1.0,
    (
      x.1.1.0,
      (
        x.1.1.1.0,
        (
          x.1.1.1.1.0,
          (
            x.1.1.1.1.1.0,
            (
              x.1.1.1.1.1.1.0,
              (
                x.1.1.1.1.1.1.1.0,
                (omega (arith, w.few), (omega (arith, w.few, w.unfinished), (omega (arith, w.declared), (omega (arith, w.declared, w.within), tt)))),
              ),
            ),
          ),
        ),
      ),
    ),
  ),
)

first_words : (p : Progress) → WordsOfWidth (words_of p) → WordsOfWidth (message_words p.message)
first_words p x =
    (x.0, (x.1.0, (x.1.1.0, (x.1.1.1.0, (x.1.1.1.1.0, (x.1.1.1.1.1.0, (x.1.1.1.1.1.1.0, (x.1.1.1.1.1.1.1.0, tt))))))))

none_small : WordsOfWidth (words_of empty.progress)
unfolding empty
none_small =
    let z : 0 < 2 ^ 32 = omega arith in
    (z, (z, (z, (z, (z, (z, (z, (z, (z, (z, (z, (z, tt))))))))))))

left_small : (a : Assembly) (s : List ℕ) (p : Progress) → Bytes s → WordsOfWidth (words_of a.progress) → Left a s p → WordsOfWidth (words_of p)
left_small a s p b e (nothing q) = rw q none_small
left_small a s p b e (pending w (begun q v n c)) = waits_small p w (rw q (message_small s b))
left_small a s p b e (pending w (joined q n)) = waits_small p w (rw q (first_words a.progress e))

-- ---- one feed, then a run

pub fed_in_lem : (m : List ℕ) (a : Assembly) (s : List ℕ) (room : ℕ) → Holds m a → feed_in m s room ≡ kept (step_of a s room) m
unfolding feed_in kept_of
fed_in_lem m a s room H =
    rw (H.numbers, H.fits) (ap (λ (x : List ℕ). kept (step_of (assembly_of a.progress x) s room) m) H.buffer)

pub feed_holds : (m : List ℕ) (a : Assembly) (s : List ℕ) (room : ℕ) → Bytes s → Holds m a
    → ((feed_in m s room).answer ≡ (step_of a s room).answer) × ((feed_in m s room).information ≡ (step_of a s room).information) × Holds (feed_in m s room).memory (step_of a s room).assembly
feed_holds m a s room b H =
    let e = fed_in_lem m a s room H in
    let l = left a s room in
    let whole : length a.bytes ≡ 4096 = sym (ap length H.buffer) ∙ length_buffer m H.room in (
      ap (λ (f : Feeding). f.answer) e,
      ap (λ (f : Feeding). f.information) e,
      rw e (held_holds (step_of a s room).assembly m H.room (left_whole a s room whole) (left_fits a s _ H.fits l) (left_small a s _ b H.small l)),
    )

-- 4,144 zeros are the empty assembly
pub zeros_empty : (m : List ℕ) → cleared m ≡ held empty m
unfolding cleared held empty progress_bytes message_bytes count_bytes id_bytes
zeros_empty m = ap (λ (b : List ℕ). over b m) (sym (replicate-append-replicate 48 4096 0))

empty_whole : length empty.bytes ≡ 4096
unfolding empty
empty_whole = length-replicate {A = ℕ} 4096 0

pub empty_holds : (m : List ℕ) → assembly_size ≤ length m → Holds (emptied m).memory empty
unfolding emptied
empty_holds m room = rw (le-ltb _ _ room, zeros_empty m) (held_holds empty m room empty_whole none_fits none_small)

-- one received piece, whole message or fragment
pub receive_holds : (m : List ℕ) (a : Assembly) (s : List ℕ) (room : ℕ) → Bytes s → Holds m a
    → ((receive_in m s room).received ≡ (receive_of a s room).received) × ((receive_in m s room).information ≡ (receive_of a s room).information)
    × Holds (receive_in m s room).memory (receive_of a s room).assembly
unfolding receive_in receive_of
receive_holds m a s room b H = rw (le-ltb _ _ H.room) (go (is_whole_piece s))
  where
    go : (w : Bool)
        → ((cond w (untouched m (whole_shown s)) (fed_in s (feed_in m s room))).received ≡ (cond w (whole_received a s) (fed_received s (step_of a s room))).received)
        × ((cond w (untouched m (whole_shown s)) (fed_in s (feed_in m s room))).information ≡ (cond w (whole_received a s) (fed_received s (step_of a s room))).information)
        × Holds (cond w (untouched m (whole_shown s)) (fed_in s (feed_in m s room))).memory (cond w (whole_received a s) (fed_received s (step_of a s room))).assembly
    go true = (refl, refl, H)
    go false = let f = feed_holds m a s room b H in (ap (fed_shown s) f.0, f.1, f.2)

run_holds : (m : List ℕ) (a : Assembly) (ps : List Piece) → AllBytes ps → Holds m a → ((run_in m ps).seen ≡ (receive_all a ps).seen) × Holds (run_in m ps).memory (receive_all a ps).end
unfolding run_in receive_all
run_holds m a [] bs H = (refl, H)
run_holds m a (p ∷ ps) bs H =
    let f = receive_holds m a p.bytes p.room bs.0 H in
    let r = run_holds (receive_in m p.bytes p.room).memory (receive_of a p.bytes p.room).assembly ps bs.1 f.2 in
    (λ i. record { received = f.0 i; information = f.1 i } ∷ r.0 i, r.1)

-- "each feed gets the assembly .. as the one before left it": in memory as by value
pub memory_serves : MemoryServes
memory_serves m room ps bs = let r = run_holds (emptied m).memory empty ps bs (empty_holds m room) in record { seen = r.0; held = r.1 }
