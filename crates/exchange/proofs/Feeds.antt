-- What a feed can be, with what it says of the piece: refused, or its header breaks no rule and it is the next fragment of a message that it begins or that waits for it.
-- Assumes nothing.
use mathlib.Core.Path.{◌≡◌, refl, sym, ap, ◌∙◌}
use mathlib.Core.Bool.{Bool, false}
use mathlib.Core.List.{List}
use Prim.Native.Nat.{ℕ, ◌<◌}
use native.Mathlib.Omega.{arith}
use borrow.Author.Tests.{eq-eqb, ne_eqb, not-false}
use lib.ListN.{length, drop, length-replicate}
use Rattle.wire.specs.Numbers.{u32_at}
use Rattle.protocol.specs.Verdict.{judge}
use Rattle.protocol.specs.declared.Refusal.{Refusal}
use Rattle.protocol.proofs.Verdicts.{fits_kept}
use Rattle.message.specs.Message.{header_at, header_rules, header_by, header_of, first_length, message_at, fragment_by, fragment_of}
use Rattle.message.specs.declared.FragmentHeader.{FragmentHeader}
use Rattle.message.specs.declared.FirstHeader.{FirstHeader}
use Rattle.message.specs.declared.Fragment.{Fragment}
use Rattle.message.specs.declared.Fragment.TheVariants as fragment
use Rattle.message.proofs.Headers.{Accepted, FragmentView, refuses as no_fragment, opens, follows, fragment_view}
use Rattle.assembler.specs.Assembly.{Step, assembly_of, is_pending, refused, begun_progress, begun_bytes, continues, join_rules, join_of, judged_by, judged_of, step_by, step_of}
use Rattle.assembler.specs.Run.{Clean}
use Rattle.assembler.specs.declared.Progress.{Progress}
use Rattle.assembler.specs.declared.Assembly.{Assembly}
use Rattle.assembler.proofs.Laws.{Gathers, Continues, continues_says, brings}
use Rattle.assembler.proofs.View.{GatherView, gather_view}
use Rattle.assembler.proofs.Clean.{begun_zeros}
use Rattle.exchange.specs.Damage.{FragmentOf, carried}
use Rattle.std.specs.Prelude.{Ok, Err}
use Rattle.protocol.specs.Verdict.{no_fault}
use Rattle.protocol.specs.Verdict.{Verdict}
use Rattle.std.specs.Prelude.{Result}

-- a piece that is judged as a fragment has a header that breaks no rule
header_fits : (s : List ℕ) (f : (Result Fragment Refusal)) → fragment_of s ≡ f → ((r : Refusal) → f ≡ Err r → ⊥) → judge (header_rules s) ≡ no_fault
unfolding fragment_of fragment_by header_of header_by
header_fits s f = go (judge (header_rules s)) refl
  where
    go : (v : Verdict) → judge (header_rules s) ≡ v → fragment_by s (header_by v s) ≡ f → ((r : Refusal) → f ≡ Err r → ⊥) → judge (header_rules s) ≡ no_fault
    go (Ok _) j e n = j
    go (Err r) j e n = absurd (n r (sym e))

-- what a fragment carries, by its number
carried_first : (s : List ℕ) (h : FragmentHeader) → header_at s ≡ h → h.number ≡ 0 → carried s ≡ drop (first_length h.message_type) s
unfolding carried
carried_first s h e z =
    let n : u32_at s 16 ≡ 0 = ap (λ (x : FragmentHeader). x.number) e ∙ z in
    let t : u32_at s 0 ≡ h.message_type = ap (λ (x : FragmentHeader). x.message_type) e in
    rw (eq-eqb (u32_at s 16) 0 n, t) refl

carried_later : (s : List ℕ) (h : FragmentHeader) → header_at s ≡ h → (h.number ≡ 0 → ⊥) → carried s ≡ drop 20 s
unfolding carried
carried_later s h e z =
    let n : u32_at s 16 ≡ 0 → ⊥ = λ q. z (sym (ap (λ (x : FragmentHeader). x.number) e) ∙ q) in
    rw (ne_eqb (u32_at s 16) 0 n) refl

-- the piece s is the next fragment of the message with the progress p, and may be gathered
pub record Next (p : Progress) (s : List ℕ) : Type 0 where
  pub fragment : FragmentOf p.message p.total p.next s
  pub gathers : Gathers p (carried s)

-- a piece is refused, begins a message with the progress q, or joins the one that waits
pub data FeedView (a : Assembly) (s : List ℕ) (x : Step) : Type 0 where
  bad : (r : Refusal) → x ≡ refused r → FeedView a s x
  starts : (q : Progress) (bytes : List ℕ) (d : Bool) → q.next ≡ 0 → q.gathered ≡ 0 → length bytes ≡ 4096 → q.message ≡ message_at s → Next q s
      → GatherView (assembly_of q bytes) (carried s) d x → FeedView a s x
  joins : 0 < a.progress.next → Next a.progress s → GatherView a (carried s) false x → FeedView a s x

-- the header of a first piece is that of the message that it begins
first_header : (s : List ℕ) (h : FragmentHeader) (f : FirstHeader) → header_at s ≡ h → h.number ≡ 0 → f.message ≡ message_at s
    → header_at s ≡ record { message_type = f.message.message_type; transaction = f.message.transaction; total = h.total; number = 0 }
unfolding message_at
first_header s h f e z m = λ i. record {
  message_type = (sym m i).message_type;
  transaction = (sym m i).transaction;
  total = (e i).total;
  number = (ap (λ (x : FragmentHeader). x.number) e ∙ z) i;
}

-- the header of a later piece is the one that the message waits for
joined_header : (p : Progress) (h : FragmentHeader) → Continues p h
    → h ≡ record { message_type = p.message.message_type; transaction = p.message.transaction; total = p.total; number = p.next }
joined_header p h c = λ i. record { message_type = sym c.type i; transaction = sym c.transaction i; total = sym c.total i; number = sym c.number i }

pub feed_view : (a : Assembly) → Clean a → (s : List ℕ) (room : ℕ) → FeedView a s (step_of a s room)
unfolding step_of step_by judged_of judged_by join_of begun_bytes
feed_view a C s room = go (fragment_view s) refl
  where
    joining : (h : FragmentHeader) → Accepted s h → (h.number ≡ 0 → ⊥) → fragment_of s ≡ Ok (fragment.Later h) → (v : Verdict) → judge (join_rules a.progress h (length s)) ≡ v
        → FeedView a s (step_by a.bytes s room (join_of v a.progress))
    joining h A z e (Err r) j = bad r refl
    joining h A z e (Ok _) j =
        let c = continues_says a.progress h (not-false (continues a.progress h) (fits_kept (join_rules a.progress h (length s)) j).0) in
        let b = carried_later s h A.is z in
        let g = brings a.progress s (record { progress = a.progress; from = 20; dropped = false }) (rw (e, j) refl) in
        joins (omega (arith, c.number, z))
        (record {
          fragment = record { accepted = header_fits s _ e (λ r q. let w : ◌≡◌ {A = ℕ} 0 1 = cc in absurd (omega arith)); says = A.is ∙ joined_header a.progress h c };
          gathers = rw b g.1;
        })
        (rw b (gather_view a (drop 20 s) false room))

    go : {f : (Result Fragment Refusal)} → FragmentView s f → fragment_of s ≡ f → FeedView a s (step_of a s room)
    go (no_fragment r) e = rw e (bad r refl)
    go (opens h f A z O) e =
        let b = carried_first s h A.is z in
        let g = brings a.progress s (record { progress = begun_progress h f; from = first_length h.message_type; dropped = is_pending a.progress }) (rw e refl) in
        rw e (starts (begun_progress h f) (begun_bytes (is_pending a.progress) a.bytes) (is_pending a.progress) refl refl
        (ap length (begun_zeros a C) ∙ length-replicate {A = ℕ} 4096 0) O.message
        (record {
          fragment = record { accepted = header_fits s _ e (λ r q. let w : ◌≡◌ {A = ℕ} 0 1 = cc in absurd (omega arith)); says = first_header s h f A.is z O.message };
          gathers = rw b g.1;
        })
        (rw b (gather_view (assembly_of (begun_progress h f) (begun_bytes (is_pending a.progress) a.bytes)) (drop (first_length h.message_type) s) (is_pending a.progress) room)))
    go (follows h A z) e = rw e (joining h A z e (judge (join_rules a.progress h (length s))) refl)
