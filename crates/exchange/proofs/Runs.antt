-- The fragments of a message, fed one after another to any assembly, complete it.
-- Assumes nothing.
use mathlib.Core.Path.{◌≡◌, refl, sym, ap, ◌∙◌}
use mathlib.Core.Bool.{Bool, true, false, cond}
use mathlib.Core.List.{List, [], ◌∷◌, ◌++◌, append_assoc}
use Prim.Native.Nat.{ℕ, zero, suc, ◌+◌, ◌-◌, ◌*◌, ◌≤◌, ◌<◌}
use native.Mathlib.Omega.{arith}
use native.Mathlib.Nat.{suc-mul}
use borrow.Author.Tests.{eq-eqb, ne_eqb, le-leb}
use lib.Dec.{eqb, ltb}
use lib.ListN.{length, take, drop, length-append, length-take, length-drop, length-replicate, take-append-drop}
use lib.Seq.{sets, length-sets, take_all}
use Rattle.wire.proofs.Laws.{take_sets}
use Rattle.protocol.specs.MessageType.{is_fragmented}
use Rattle.protocol.specs.Verdict.{judge}
use Rattle.protocol.proofs.Verdicts.{kept_fits}
use Rattle.message.specs.Message.{most_information, most_transfer, first_length, wrong_word, wrong_amount}
use Rattle.message.specs.declared.MessageHeader.{MessageHeader}
use Rattle.message.proofs.Headers.{right_all, right_less}
use Rattle.assembler.specs.Assembly.{Step, assembly_of, empty, is_pending, refused, waiting, completed, grown, gather_of, continues, join_rules, join_of, judged_by, judged_of, begun_bytes, step_by, step_of}
use Rattle.assembler.specs.Run.{Seen, Run, seen_of, and_then, run_of}
use Rattle.assembler.specs.declared.Assembly.{Assembly}
use Rattle.assembler.specs.declared.Answer.TheVariants.{Pending, Complete}
use Rattle.protocol.specs.Refusal.{refusal, output_too_small}
use Rattle.cutter.specs.Cut.{fragment_bytes, first_bytes, later_fragments, fragments_by}
use Rattle.cutter.proofs.Stored.{length_fragment}
use Rattle.exchange.specs.Messages.{OfWidth, header_seen, pieces, received}
use Rattle.exchange.proofs.Fragments.{header_of, later_judged, drop_fragment, first_judged, drop_first}
use Rattle.protocol.specs.Verdict.{no_fault}
use Rattle.std.specs.Prelude.{Ok, Err}

-- an assembly in the middle of m: `number` comes next, and the first `gathered` of `bytes` are there
abbrev pub held : MessageHeader → ℕ → ℕ → ℕ → ℕ → List ℕ → Assembly
held m total declared number gathered bytes =
    assembly_of (record { message = header_seen m; total = total; next = number; information_length = declared; gathered = gathered }) bytes

-- ---- one step

module _ (m : MessageHeader) (F : OfWidth m) (known : is_fragmented m.message_type ≡ true) (total : ℕ) (few : total ≤ 128) where
  -- a first fragment begins anew, whatever the assembly is
  pub first_step : (a : Assembly) (room n : ℕ) (xs : List ℕ) → 0 < total → wrong_word m ≡ false → n ≤ most_information → first_length m.message_type + length xs ≤ most_transfer
      → wrong_amount (eqb total 1) (length xs) n ≡ false
      → step_of a (first_bytes m total n xs) room ≡ gather_of (held m total n 0 0 (begun_bytes (is_pending a.progress) a.bytes)) xs (is_pending a.progress) room
  unfolding step_of step_by judged_of judged_by
  first_step a room n xs some word small short amount =
      rw (first_judged m F total n xs few small short known some word amount, drop_first m total n xs)

  continues_own : (declared number gathered : ℕ) (bytes : List ℕ) → declared ≤ most_information
      → continues (held m total declared number gathered bytes).progress
      (header_of m total number) ≡ true
  unfolding continues header_seen
  continues_own declared number gathered bytes small =
      rw (eq-eqb m.message_type m.message_type refl, eq-eqb m.transaction m.transaction refl, eq-eqb total total refl, eq-eqb number number refl, le-leb declared 4096 small)

  -- a later fragment joins the message that it belongs to
  pub next_step : (declared number gathered : ℕ) (bytes body : List ℕ) (room : ℕ) → 0 < number → number < total → 20 + length body ≤ most_transfer → declared ≤ most_information
      → wrong_amount (eqb (number + 1) total) (gathered + length body) declared ≡ false
      → step_of (held m total declared number gathered bytes) (fragment_bytes m total number body) room ≡ gather_of (held m total declared number gathered bytes) body false room
  unfolding step_of step_by judged_of judged_by join_of begun_bytes
  next_step declared number gathered bytes body room some less short small amount =
      let p = fragment_bytes m total number body in
      let h = header_of m total number in
      let l : length p - 20 ≡ length body = omega (arith, length_fragment m total number body) in
      let fits : judge (join_rules (held m total declared number gathered bytes).progress h (length p)) ≡ no_fault =
      kept_fits (join_rules (held m total declared number gathered bytes).progress h (length p))
      (rw (continues_own declared number gathered bytes small) refl, (ap (λ (k : ℕ). wrong_amount (eqb (number + 1) total) (gathered + k) declared) l ∙ amount, tt)) in
      rw (later_judged m F total number body (omega arith) (omega arith) (omega arith) known few less some short, fits, drop_fragment m total number body)

pub gather_wait : (m : MessageHeader) (total declared number gathered : ℕ) (bytes xs : List ℕ) (d : Bool) (room : ℕ) → (number + 1 ≡ total → ⊥)
    → gather_of (held m total declared number gathered bytes) xs d room ≡ waiting (held m total declared (number + 1) (gathered + length xs) (sets bytes gathered xs)) d
unfolding gather_of grown
gather_wait m total declared number gathered bytes xs d room more = rw (ne_eqb (number + 1) total more)

gather_last : (m : MessageHeader) (total declared number gathered : ℕ) (bytes xs : List ℕ) (d : Bool) (room : ℕ) → number + 1 ≡ total
    → gather_of (held m total declared number gathered bytes) xs d room
    ≡ cond (ltb room declared) (refused (refusal output_too_small declared)) (completed (held m total declared number gathered bytes) xs d)
unfolding gather_of
gather_last m total declared number gathered bytes xs d room last = rw (eq-eqb (number + 1) total last)

-- a last step, as it is seen
abbrev alone : Step → Run
alone s = record { seen = seen_of s ∷ []; end = s.assembly }

abbrev only : Seen → Run
only x = record { seen = x ∷ []; end = empty }

last_seen : (m : MessageHeader) (total number gathered : ℕ) (bytes xs information : List ℕ) (d : Bool) (room : ℕ) (s : Step)
    → s ≡ cond (ltb room (length information)) (refused (refusal output_too_small (length information))) (completed (held m total (length information) number gathered bytes) xs d)
    → take gathered bytes ++ xs ≡ information → alone s ≡ received m information d room 0
unfolding received refused completed
last_seen m total number gathered bytes xs information d room s e all = go (ltb room (length information)) e
  where
    go : (b : Bool) → s ≡ cond b (refused (refusal output_too_small (length information))) (completed (held m total (length information) number gathered bytes) xs d)
        → alone s
        ≡ only (cond b (record { answer = Err (refusal output_too_small (length information)); information = [] }) (record { answer = Ok (Complete (header_seen m) (length information) d); information = information }))
    go true q = rw q refl
    go false q = rw (q, all) refl

-- a step that waits, before what comes after it
waits : (m : MessageHeader) (information : List ℕ) (d : Bool) (room left : ℕ) {r : Run} → r ≡ received m information false room left
    → and_then (record { answer = Ok (Pending d); information = [] }) r ≡ received m information d room (suc left)
unfolding received
waits m information d room left e = ap (and_then (record { answer = Ok (Pending d); information = [] })) e

-- ---- the fragments from `number` on, once `got` is gathered and xs is left

module _ (m : MessageHeader) (F : OfWidth m) (known : is_fragmented m.message_type ≡ true) (total : ℕ) (few : total ≤ 128) (each : ℕ) (cap : 20 + each ≤ 4096)
    (room : ℕ → ℕ) (information : List ℕ) (small : length information ≤ 4096) where
  later_run : (left number gathered : ℕ) (bytes got xs : List ℕ) → 0 < number → number + suc left ≡ total → length xs ≤ suc left * each
      → gathered ≡ length got → take gathered bytes ≡ got → length bytes ≡ 4096 → got ++ xs ≡ information
      → run_of (held m total (length information) number gathered bytes) (pieces room number (later_fragments m each total number (suc left) xs))
      ≡ received m information false (room (number + left)) left
  unfolding run_of pieces later_fragments waiting
  later_run zero number gathered bytes got xs some e enough eg et eb ei =
      let whole : take each xs ≡ xs = take_all each xs (omega arith) in
      let all : gathered + length xs ≡ length information = omega (arith, length-append got xs, ap length ei) in
      let same : number ≡ number + 0 = omega arith in
      rw (whole, ← same)
      (last_seen m total number gathered bytes xs information false (room number) (step_of (held m total (length information) number gathered bytes) (fragment_bytes m total number xs) (room number))
      (next_step m F known total few (length information) number gathered bytes xs (room number) some (omega arith) (omega arith) small
      (right_all (eqb (number + 1) total) (gathered + length xs) (length information) all)
      ∙ gather_last m total (length information) number gathered bytes xs false (room number) e)
      (ap (λ (l : List ℕ). l ++ xs) et ∙ ei))
  later_run (suc left) number gathered bytes got xs some e enough eg et eb ei =
      let b = take each xs in
      let lb : length b ≤ each = simp length-take (omega arith) in
      let lx : length b ≤ length xs = simp length-take (omega arith) in
      let sum : length got + length xs ≡ length information = sym (length-append got xs) ∙ ap length ei in
      let more : number + 1 ≡ total → ⊥ = λ q. omega arith in
      let place : number + 1 + left ≡ number + suc left = omega arith in
      rw (next_step m F known total few (length information) number gathered bytes b (room number) some (omega arith) (omega arith) small
      (right_less (eqb (number + 1) total) (gathered + length b) (length information) (ne_eqb (number + 1) total more) (omega arith))
      ∙ gather_wait m total (length information) number gathered bytes b false (room number) more)
      (waits m information false (room (number + suc left)) left
      (later_run left (number + 1) (gathered + length b) (sets bytes gathered b) (got ++ b) (drop each xs) (omega arith) (omega arith)
      (simp length-drop (omega (arith, suc-mul (suc left) each)))
      (simp length-append (omega arith))
      (take_sets bytes b gathered (omega arith) ∙ ap (λ (l : List ℕ). l ++ b) et)
      (length-sets bytes gathered b ∙ eb)
      (append_assoc got b (drop each xs) ∙ simp take-append-drop ei) ∙ ap (λ (k : ℕ). received m information false (room k) left) place))

-- ---- all fragments

begun_length : (b : Bool) (bytes : List ℕ) → length bytes ≡ 4096 → length (begun_bytes b bytes) ≡ 4096
unfolding begun_bytes
begun_length true bytes e = length-replicate {A = ℕ} 4096 0
begun_length false bytes e = e

-- fed to any assembly of 4,096 bytes, they complete their message at the last one, or meet 11 there
pub all_run : (m : MessageHeader) → OfWidth m → is_fragmented m.message_type ≡ true → wrong_word m ≡ false → (a : Assembly) → length a.bytes ≡ 4096
    → (room : ℕ → ℕ) (first each : ℕ) (information : List ℕ) (later : ℕ) → first_length m.message_type + first ≤ 4096 → 20 + each ≤ 4096 → length information ≤ 4096
    → later < 128 → length information - first ≤ later * each
    → run_of a (pieces room 0 (fragments_by m first each later information)) ≡ received m information (is_pending a.progress) (room later) later
unfolding run_of pieces fragments_by later_fragments waiting
all_run m F known word a ea room first each information zero hf he small few enough =
    let whole : take first information ≡ information = take_all first information (omega arith) in
    let d = is_pending a.progress in
    let bytes = begun_bytes d a.bytes in
    rw whole
    (last_seen m 1 0 0 bytes information information d (room 0) (step_of a (first_bytes m 1 (length information) information) (room 0))
    (first_step m F known 1 (omega arith) a (room 0) (length information) information (omega arith) word small (omega arith) (right_all true (length information) (length information) refl)
    ∙ gather_last m 1 (length information) 0 0 bytes information d (room 0) refl) refl)
all_run m F known word a ea room first each information (suc left) hf he small few enough =
    let d = is_pending a.progress in
    let bytes = begun_bytes d a.bytes in
    let total = 1 + suc left in
    let b = take first information in
    let lb : length b ≤ first = simp length-take (omega arith) in
    let lx : length b ≤ length information = simp length-take (omega arith) in
    let eb : length bytes ≡ 4096 = begun_length d a.bytes ea in
    let one : total ≡ 1 → ⊥ = λ q. omega arith in
    let more : 0 + 1 ≡ total → ⊥ = λ q. omega arith in
    let place : 0 + 1 + left ≡ suc left = omega arith in
    rw (first_step m F known total (omega arith) a (room 0) (length information) b (omega arith) word small (omega arith)
    (right_less (eqb total 1) (length b) (length information) (ne_eqb total 1 one) lx)
    ∙ gather_wait m total (length information) 0 0 bytes b d (room 0) more)
    (waits m information d (room (suc left)) left
    (later_run m F known total (omega arith) each he room information small left (0 + 1) (0 + length b) (sets bytes 0 b) b (drop first information) (omega arith) (omega arith)
    (simp length-drop enough) (omega arith) (take_sets bytes b 0 (omega arith)) (length-sets bytes 0 b ∙ eb) (take-append-drop first information)
    ∙ ap (λ (k : ℕ). received m information false (room k) left) place))
