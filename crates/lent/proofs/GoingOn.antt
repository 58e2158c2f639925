-- A later fragment with which the message goes on: the memory is taken, and the step is one that waits.
-- Assumes nothing.
use mathlib.Core.Path.{◌≡◌, refl, sym, ap, ◌∙◌}
use mathlib.Core.Logic.{inl, inr, ⊎_elim}
use mathlib.Core.Bool.{Bool, true, false, not}
use mathlib.Core.List.{List, [], ◌++◌}
use Prim.Native.Nat.{ℕ, ◌+◌, ◌-◌, ◌≤◌, ◌<◌}
use native.Mathlib.Omega.{arith}
use borrow.Author.Tests.{eqb-true, eq-eqb, ne_eqb, lt-ltb, le-ltb, lt-leb, le-leb}
use lib.Dec.{ltb, eqb}
use lib.ListN.{length, take, drop, length-drop}
use lib.Seq.{sets, length-sets}
use Rattle.wire.specs.Numbers.{u32_at}
use Rattle.wire.specs.Output.{over}
use Rattle.wire.proofs.Laws.{take_rest}
use Rattle.protocol.specs.Verdict.{judge, no_fault}
use Rattle.protocol.proofs.Tests.{or_cases, cases_and}
use Rattle.protocol.proofs.Verdicts.{kept_fits}
use Rattle.protocol.specs.MessageType.{is_whole, is_fragmented}
use Rattle.message.specs.Message.{is_whole_piece, header_at, fragment_of}
use Rattle.message.specs.declared.Fragment.TheVariants as fragment
use Rattle.message.proofs.Headers.{accepted_later, right_less}
use Rattle.assembler.specs.Assembly.{assembly_of, waiting, grown_progress, grown, gather_of, continues, join_rules, join_of, judged_by, judged_of, begun_bytes, step_by, step_of}
use Rattle.assembler.specs.Door.{fed_shown}
use Rattle.assembler.specs.declared.Progress.{Progress}
use Rattle.assembler.specs.declared.door.Received.TheVariants as received
use Rattle.lent_progress.specs.LentProgress.{above_carried, pending_rules, progress_verdict}
use Rattle.lent.specs.LentAssembly.{assembly_size, progress_in, buffer_in, assembly_in, message_bytes, count_bytes, progress_bytes, changed_in, held, too_small, kept_of, feed_in, untouched, receive_in, GoesOn}
use Rattle.lent.proofs.Memory.{length_progress, length_buffer, put_back, changed_all}
use Rattle.std.specs.Prelude.{Ok, Err}

-- what is false is not true
pub never : {A : Type 0} → ◌≡◌ {A = Bool} false true → A
never e = let z : ◌≡◌ {A = ℕ} 0 1 = cc in absurd (omega arith)

-- the memory is taken
pub amid_fits : (p : Progress) (s : List ℕ) → GoesOn p s → progress_verdict p ≡ no_fault
unfolding progress_verdict above_carried
amid_fits p s G =
    let A = G.message in
    let some : p.total ≡ 0 → ⊥ = λ e. omega (arith, A.more, e) in
    let begun : p.next ≡ 0 → ⊥ = λ e. omega (arith, A.later, e) in
    let many : p.next ≡ 1 → ⊥ = λ e. omega (arith, A.later, e) in
    let less : p.next < p.total = omega (arith, A.more) in
    let within : p.gathered ≤ p.information_length = omega (arith, G.within) in
    rw (ne_eqb _ _ some)
    (kept_fits (pending_rules p) (
      ap not A.known,
      (A.word, (le-ltb _ _ A.few, (ne_eqb _ _ begun, (lt-leb _ _ less, (le-ltb _ _ A.declared, (le-ltb _ _ within, (cases_and (eqb p.next 1) _ (inl (ne_eqb p.next 1 many)), tt))))))),
    ))

-- the piece is a later fragment
later : (p : Progress) (s : List ℕ) → GoesOn p s → fragment_of s ≡ Ok (fragment.Later (header_at s))
later p s G =
    let N = G.piece in
    let A = G.message in
    accepted_later s N.long N.all N.short (ap is_fragmented N.type ∙ A.known) (omega (arith, N.total, A.more)) (omega (arith, N.total, A.few))
    (omega (arith, N.total, N.number, A.more)) (omega (arith, N.number, A.later))

-- and joins
joins : (p : Progress) (s : List ℕ) → GoesOn p s → judge (join_rules p (header_at s) (length s)) ≡ no_fault
unfolding continues
joins p s G =
    let N = G.piece in
    let A = G.message in
    let more : u32_at s 16 + 1 ≡ u32_at s 12 → ⊥ = λ e. omega (arith, N.total, N.number, A.more, e) in
    kept_fits (join_rules p (header_at s) (length s)) (
      rw (eq-eqb _ _ (sym N.type), eq-eqb _ _ (sym N.transaction), eq-eqb _ _ (sym N.total), eq-eqb _ _ (sym N.number), le-leb _ _ A.declared) refl,
      (right_less (eqb (u32_at s 16 + 1) (u32_at s 12)) (p.gathered + (length s - 20)) p.information_length (ne_eqb _ _ more) G.within, tt),
    )

-- it is no whole message's
pub type_fragmented : (t : ℕ) → is_fragmented t ≡ true → is_whole t ≡ false
unfolding is_fragmented is_whole
type_fragmented t e = ⊎_elim (λ h. rw (eqb-true t 3 h)) (λ h. ⊎_elim (λ k. rw (eqb-true t 0x80000003 k)) (λ k. ⊎_elim (λ l. rw (eqb-true t 0x80000007 l)) (λ l. never l) (or_cases _ _ k)) (or_cases _ _ h)) (or_cases _ _ e)

pub not_whole : (p : Progress) (s : List ℕ) → GoesOn p s → is_whole_piece s ≡ false
unfolding is_whole_piece
not_whole p s G =
    cases_and (not (ltb (length s) 4)) (is_whole (u32_at s 0)) (inr (type_fragmented (u32_at s 0) (ap is_fragmented G.piece.type ∙ G.message.known)))

pub goes_on : (p : Progress) (bytes s : List ℕ) (room : ℕ) → GoesOn p s → step_of (assembly_of p bytes) s room ≡ waiting (grown (assembly_of p bytes) (drop 20 s)) false
unfolding step_of step_by judged_of judged_by join_of begun_bytes gather_of
goes_on p bytes s room G =
    let more : p.next + 1 ≡ p.total → ⊥ = λ e. omega (arith, G.message.more, e) in
    rw (later p s G, joins p s G, ne_eqb (p.next + 1) p.total more)

-- memory without the room is refused, whatever the piece is
pub no_room : (m s : List ℕ) (room : ℕ) → length m < assembly_size → receive_in m s room ≡ untouched m (Err too_small)
unfolding receive_in
no_room m s room l = rw (lt-ltb (length m) assembly_size l)

-- so the door's answer is known at once
pub received_on : (m s : List ℕ) (room : ℕ) → assembly_size ≤ length m → GoesOn (progress_in m) s
    → receive_in m s room ≡ record { memory = held (grown (assembly_in m) (drop 20 s)) m; received = Ok (received.Pending (u32_at s 0) (u32_at s 8) false); information = [] }
unfolding receive_in feed_in kept_of waiting fed_shown
received_on m s room l G =
    let p = progress_in m in
    rw (le-ltb (length m) assembly_size l, not_whole p s G, amid_fits p s G, goes_on p (buffer_in m) s room G)

-- ---- the memory after it

counts_only : (q : Progress) (x : List ℕ) → 2 ≤ q.next → sets x 32 (count_bytes q) ≡ changed_in q x
unfolding changed_in
counts_only q x l = rw (le-ltb q.next 2 l)

pub gone_on : (m : List ℕ) (p : Progress) (s : List ℕ) {b x : List ℕ} → assembly_size ≤ length m → sets m 0 (message_bytes p.message) ≡ m → GoesOn p s
    → b ≡ sets (buffer_in m) p.gathered (take (length s - 20) (drop 20 s))
    → x ≡ sets (take 48 m ++ (b ++ drop 4096 (drop 48 m))) 32 (count_bytes (grown_progress p (length s - 20)))
    → x ≡ held (grown (assembly_of p (buffer_in m)) (drop 20 s)) m
unfolding held grown
gone_on m p s {b} {x} room kept G eb ex =
    let q = grown_progress p (length s - 20) in
    let rest = b ++ drop 4096 (drop 48 m) in
    let e : b ≡ sets (buffer_in m) p.gathered (drop 20 s) = eb ∙ ap (sets (buffer_in m) p.gathered) (take_rest 20 s) in
    let n : length s - 20 ≡ length (drop 20 s) = sym (length-drop 20 s) in
    let whole : length b ≡ 4096 = ap length e ∙ length-sets (buffer_in m) p.gathered (drop 20 s) ∙ length_buffer m room in
    put_back m b (progress_bytes q) room whole (length_progress q)
    (ex ∙ counts_only q (take 48 m ++ rest) (omega (arith, G.message.later)) ∙ changed_all m rest p q room kept (inr refl))
    ∙ (λ i. over (progress_bytes (grown_progress p (n i)) ++ e i) m)
