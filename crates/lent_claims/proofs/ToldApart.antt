-- A fault of an assembly's memory is a contradiction, and no fault of a piece is one: by the rules' reasons.
-- Assumes nothing.
use native.Mathlib.Omega.{arith}
use mathlib.Core.Path.{ap, ◌≡◌, refl}
use mathlib.Core.Bool.{Bool, true, false, cond, not}
use mathlib.Core.List.{List, [], ◌∷◌}
use Prim.Native.Nat.{ℕ, ◌+◌}
use lib.Dec.{eqb, ltb}
use lib.ListN.{length, drop}
use Rattle.protocol.specs.Refusal.{refusal, number_of, contradiction, output_too_small}
use Rattle.protocol.specs.Verdict.{fault_if, first_of, Rule, rule, judge_from, judge, no_fault, Verdict}
use Rattle.protocol.specs.declared.Refusal.{Refusal}
use Rattle.protocol.specs.declared.Reason.{Reason}
use Rattle.protocol.specs.declared.Reason.TheVariants.{TooShort, WrongLength, Unknown, WrongFragment, TooLong, OffsetInFixedPart, PastEnd, WrongSize, OutsideTable, Contradiction, OutputTooSmall, WrongVersion, AboveHost, VersionNotListed, WrongCount, WrongTransferSize, MisalignedOffset, OffsetWithZeroSize, BadLine}
use Rattle.message.specs.Message.{header_at, header_rules, header_by, header_of, first_length, first_rules, first_by, first_header_of, opened_by, fragment_by, fragment_of}
use Rattle.message.specs.declared.FragmentHeader.{FragmentHeader}
use Rattle.message.specs.declared.Fragment.{Fragment}
use Rattle.message.specs.declared.Fragment.TheVariants as fragment
use Rattle.assembler.specs.Assembly.{assembly_of, is_pending, refused, waiting, completed, grown, gather_of, begun_progress, join_rules, join_of, judged_by, judged_of, begun_bytes, step_by, step_of}
use Rattle.assembler.specs.declared.Progress.{Progress}
use Rattle.assembler.specs.declared.Assembly.{Assembly}
use Rattle.assembler.specs.declared.Answer.{Answer}
use Rattle.assembler.specs.declared.Answer.TheVariants.{Pending, Complete}
use Rattle.lent_progress.specs.LentProgress.{is_none, pending_rules, progress_verdict}
use Rattle.lent_claims.specs.AssemblyMemory.{ToldApart}
use Rattle.std.specs.Prelude.{Ok, Err, Result}

-- ---- the reason of a verdict is one of its rules'

module _ (P : Reason → Type 0) where
  abbrev Each : List Rule → Type 0
  Each [] = Unit
  Each (r ∷ rs) = P r.reason × Each rs

  abbrev Says : Verdict → Type 0
  Says (Ok _) = Unit
  Says (Err r) = P r.reason

  says_if : (b : Bool) (n : Reason) (place : ℕ) → P n → Says (fault_if b n place)
  unfolding fault_if
  says_if true n place h = h
  says_if false n place h = tt

  says_first : (v w : Verdict) → Says v → Says w → Says (first_of v w)
  unfolding first_of
  says_first (Ok _) w x y = y
  says_first (Err r) w x y = x

  says_from : (v : Verdict) (rs : List Rule) → Says v → Each rs → Says (judge_from v rs)
  unfolding judge_from
  says_from v [] x y = x
  says_from v (r ∷ rs) x y =
      says_from (first_of v (fault_if r.broken r.reason r.place)) rs
      (says_first v (fault_if r.broken r.reason r.place) x (says_if r.broken r.reason r.place y.0)) y.1

  says : (rs : List Rule) → Each rs → Says (judge rs)
  says rs y = says_from no_fault rs tt y

-- ---- the memory's

abbrev Contradicts : Reason → Type 0
Contradicts n = n ≡ contradiction

progress_says : (p : Progress) → Says Contradicts (progress_verdict p)
unfolding progress_verdict
progress_says p = go (eqb p.total 0)
  where
    go : (b : Bool) → Says Contradicts (cond b (judge (rule (not (is_none p)) contradiction 32 ∷ [])) (judge (pending_rules p)))
    go true = says Contradicts (rule (not (is_none p)) contradiction 32 ∷ []) (refl, tt)
    go false = says Contradicts (pending_rules p) (refl, (refl, (refl, (refl, (refl, (refl, (refl, (refl, tt))))))))

memory_contradicts : (p : Progress) (r : Refusal) → progress_verdict p ≡ Err r → r.reason ≡ contradiction
memory_contradicts p r e = rw e at (progress_says p)

-- ---- the piece's

abbrev Differs : Reason → Type 0
Differs n = n ≡ contradiction → ⊥

abbrev Other : (Result Answer Refusal) → Type 0
Other (Ok (Pending d)) = Unit
Other (Ok (Complete m n d)) = Unit
Other (Err r) = Differs r.reason

gather_other : (a : Assembly) (xs : List ℕ) (d : Bool) (room : ℕ) → Other (gather_of a xs d room).answer
unfolding gather_of refused waiting completed
gather_other a xs d room = go (eqb (a.progress.next + 1) a.progress.total) (ltb room a.progress.information_length)
  where
    go : (last small : Bool)
        → Other (cond last (cond small (refused (refusal output_too_small a.progress.information_length)) (completed a xs d)) (waiting (grown a xs) d)).answer
    go true true = λ e. cc
    go true false = tt
    go false small = tt

-- a fragment by itself
abbrev FragmentSays : (Result Fragment Refusal) → Type 0
FragmentSays (Ok (fragment.First h f)) = Unit
FragmentSays (Ok (fragment.Later h)) = Unit
FragmentSays (Err r) = Differs r.reason

header_says : (s : List ℕ) → Says Differs (judge (header_rules s))
header_says s =
    says Differs (header_rules s)
    ((λ e. cc), ((λ e. cc), ((λ e. cc), ((λ e. cc), ((λ e. cc), ((λ e. cc), tt))))))

first_says : (s : List ℕ) → Says Differs (judge (first_rules s))
first_says s = says Differs (first_rules s) ((λ e. cc), ((λ e. cc), ((λ e. cc), ((λ e. cc), tt))))

fragment_says : (s : List ℕ) → FragmentSays (fragment_of s)
unfolding fragment_of fragment_by header_of header_by opened_by first_header_of first_by
fragment_says s = go (judge (header_rules s)) (header_says s)
  where
    opened : (v : Verdict) → Says Differs v → FragmentSays (opened_by (header_at s) (first_by v s))
    opened (Ok _) x = tt
    opened (Err r) x = x

    numbered : (b : Bool) → FragmentSays (cond b (opened_by (header_at s) (first_header_of s)) (Ok (fragment.Later (header_at s))))
    numbered true = opened (judge (first_rules s)) (first_says s)
    numbered false = tt

    go : (v : Verdict) → Says Differs v → FragmentSays (fragment_by s (header_by v s))
    go (Ok _) x = numbered (eqb (header_at s).number 0)
    go (Err r) x = x

step_other : (a : Assembly) (s : List ℕ) (room : ℕ) → Other (step_of a s room).answer
unfolding step_of step_by judged_of judged_by join_of refused
step_other a s room = go (fragment_of s) (fragment_says s)
  where
    joined : (h : FragmentHeader) (v : Verdict) → Says Differs v → Other (step_by a.bytes s room (join_of v a.progress)).answer
    joined h (Ok _) x = gather_other (assembly_of a.progress (begun_bytes false a.bytes)) (drop 20 s) false room
    joined h (Err r) x = x

    go : (f : (Result Fragment Refusal)) → FragmentSays f → Other (step_by a.bytes s room (judged_by a.progress (length s) f)).answer
    go (Ok (fragment.First h f)) x =
        gather_other (assembly_of (begun_progress h f) (begun_bytes (is_pending a.progress) a.bytes)) (drop (first_length h.message_type) s) (is_pending a.progress) room
    go (Ok (fragment.Later h)) x =
        joined h (judge (join_rules a.progress h (length s))) (says Differs (join_rules a.progress h (length s)) ((λ e. cc), ((λ e. cc), tt)))
    go (Err r) x = x

piece_other : (a : Assembly) (s : List ℕ) (room : ℕ) (r : Refusal) → (step_of a s room).answer ≡ Err r → r.reason ≡ contradiction → ⊥
piece_other a s room r e = rw e at (step_other a s room)

-- one reason has the number
numbered_ten : (n : Reason) → number_of n ≡ number_of contradiction → n ≡ contradiction
unfolding number_of
numbered_ten TooShort e = absurd (omega (arith, e))
numbered_ten WrongLength e = absurd (omega (arith, e))
numbered_ten Unknown e = absurd (omega (arith, e))
numbered_ten WrongFragment e = absurd (omega (arith, e))
numbered_ten TooLong e = absurd (omega (arith, e))
numbered_ten OffsetInFixedPart e = absurd (omega (arith, e))
numbered_ten PastEnd e = absurd (omega (arith, e))
numbered_ten WrongSize e = absurd (omega (arith, e))
numbered_ten OutsideTable e = absurd (omega (arith, e))
numbered_ten Contradiction e = refl
numbered_ten OutputTooSmall e = absurd (omega (arith, e))
numbered_ten WrongVersion e = absurd (omega (arith, e))
numbered_ten AboveHost e = absurd (omega (arith, e))
numbered_ten VersionNotListed e = absurd (omega (arith, e))
numbered_ten WrongCount e = absurd (omega (arith, e))
numbered_ten WrongTransferSize e = absurd (omega (arith, e))
numbered_ten MisalignedOffset e = absurd (omega (arith, e))
numbered_ten OffsetWithZeroSize e = absurd (omega (arith, e))
numbered_ten BadLine e = absurd (omega (arith, e))

pub told_apart : ToldApart
told_apart = record {
  memory = λ p r e. ap number_of (memory_contradicts p r e);
  piece = λ a s room r e n. piece_other a s room r e (numbered_ten r.reason n);
}
