-- The assembler (document 01, "Messages and fragments"): "the assembly holds 4,096 bytes, all zero when empty, and zero past those gathered".
-- In this order: assemblies; what a feed gives; the bytes of a piece gathered; how a first piece is judged, a later piece, any piece; the whole step.
-- That every assembly which feeding reaches is zero past the bytes gathered is a theorem (proofs/Clean).
use Rattle.std.specs.Prelude.{ℕ, ◌+◌, ◌-◌, ◌≤◌, ◌≡◌, Bool, false, not, cond, ◌&&◌, List, [], ◌∷◌, ◌++◌, ltb, leb, eqb, length, take, drop, replicate}
use Rattle.std.proofs.lemmas.List.Edits.{sets}
use Rattle.protocol.specs.Refusal.{refusal, wrong_length, wrong_fragment, output_too_small}
use Rattle.protocol.specs.Verdict.{Rule, rule, judge}
use Rattle.protocol.specs.declared.Refusal.{Refusal}
use Rattle.message.specs.Message.{most_information, first_length, wrong_amount, fragment_of}
use Rattle.message.specs.declared.FragmentHeader.{FragmentHeader}
use Rattle.message.specs.declared.FirstHeader.{FirstHeader}
use Rattle.message.specs.declared.Fragment.{Fragment}
use Rattle.message.specs.declared.Fragment.TheVariants as fragment
use Rattle.assembler.specs.declared.Progress.{Progress}
use Rattle.assembler.specs.declared.Assembly.{Assembly}
use Rattle.assembler.specs.declared.Fed.{Fed}
use Rattle.assembler.specs.declared.FedInPlace.{FedInPlace}
use Rattle.assembler.specs.declared.Gathering.{Gathering}
use Rattle.assembler.specs.declared.Answer.{Answer}
use Rattle.assembler.specs.declared.Answer.TheVariants.{Pending, Complete}
use Rattle.std.specs.Prelude.{Ok, Err}
use Rattle.protocol.specs.Verdict.{Verdict}
use Rattle.std.specs.Prelude.{Result}

-- ---- assemblies

abbrev pub zeros : List ℕ
zeros = replicate 4096 0

abbrev pub assembly_of : Progress → List ℕ → Assembly
assembly_of p b = record { progress = p; bytes = b }

unfoldable pub empty : Assembly
empty = record {
  progress = record {
    message = record { message_type = 0; transaction = 0; service = record { word0 = 0; word1 = 0; word2 = 0; word3 = 0 }; cid = 0; word = 0 };
    total = 0;
    next = 0;
    information_length = 0;
    gathered = 0;
  };
  bytes = zeros;
}

-- a message is unfinished
abbrev pub is_pending : Progress → Bool
is_pending p = ltb 0 p.total

-- ---- what a feed gives: the assembly after it, the answer, and the information that goes to the front of the output

pub record Step : Type 0 where
  pub assembly : Assembly
  pub answer : Result Answer Refusal
  pub information : List ℕ

-- what the two forms of a feed return of it
abbrev pub by_value : Step → Fed
by_value s = record { assembly = s.assembly; answer = s.answer }

abbrev pub in_place : Step → FedInPlace
in_place s = record { progress = s.assembly.progress; answer = s.answer }

-- "a refused fragment leaves an empty assembly"
unfoldable pub refused : Refusal → Step
refused r = record { assembly = empty; answer = Err r; information = [] }

unfoldable pub waiting : Assembly → Bool → Step
waiting a dropped = record { assembly = a; answer = Ok (Pending dropped); information = [] }

-- "a complete message empties the assembly": the bytes gathered and then xs are the information
unfoldable pub completed : Assembly → List ℕ → Bool → Step
completed a xs dropped = record {
  assembly = empty;
  answer = Ok (Complete a.progress.message a.progress.information_length dropped);
  information = take a.progress.gathered a.bytes ++ xs;
}

-- ---- the bytes xs of a piece gathered

abbrev pub grown_progress : Progress → ℕ → Progress
grown_progress p n = record {
  message = p.message;
  total = p.total;
  next = p.next + 1;
  information_length = p.information_length;
  gathered = p.gathered + n;
}

unfoldable pub grown : Assembly → List ℕ → Assembly
grown a xs = assembly_of (grown_progress a.progress (length xs)) (sets a.bytes a.progress.gathered xs)

-- "at completion output too small for the information is 11"
unfoldable pub gather_of : Assembly → List ℕ → Bool → ℕ → Step
gather_of a xs dropped room =
    cond (eqb (a.progress.next + 1) a.progress.total)
    (cond (ltb room a.progress.information_length) (refused (refusal output_too_small a.progress.information_length)) (completed a xs dropped))
    (waiting (grown a xs) dropped)

-- ---- a first piece: "it begins anew"

abbrev pub begun_progress : FragmentHeader → FirstHeader → Progress
begun_progress h f = record {
  message = f.message;
  total = h.total;
  next = 0;
  information_length = f.information_length;
  gathered = 0;
}

-- ---- a later piece

-- "type, transaction, total and expected number must all match a pending message"; no message has more than 4,096 bytes of information
unfoldable pub continues : Progress → FragmentHeader → Bool
continues p h =
    eqb p.message.message_type h.message_type
    && (eqb p.message.transaction h.transaction
    && (eqb p.total h.total && (eqb p.next h.number && leb p.information_length most_information)))

abbrev pub join_rules : Progress → FragmentHeader → ℕ → List Rule
join_rules p h n =
    rule (not (continues p h)) wrong_fragment 16
    ∷ rule (wrong_amount (eqb (h.number + 1) h.total) (p.gathered + (n - 20)) p.information_length) wrong_length 4
    ∷ []

unfoldable pub join_of : Verdict → Progress → Result Gathering Refusal
join_of (Ok _) p = Ok (record { progress = p; from = 20; dropped = false })
join_of (Err r) p = Err r

-- ---- any piece s: refused, or its information from a place on joins a message

unfoldable pub judged_by : Progress → ℕ → (Result Fragment Refusal) → Result Gathering Refusal
judged_by p n (Err r) = Err r
judged_by p n (Ok (fragment.First h f)) = Ok (record { progress = (begun_progress h f); from = (first_length h.message_type); dropped = (is_pending p) })
judged_by p n (Ok (fragment.Later h)) = join_of (judge (join_rules p h n)) p

unfoldable pub judged_of : Progress → List ℕ → Result Gathering Refusal
judged_of p s = judged_by p (length s) (fragment_of s)

-- ---- what feeding the piece s does, with room for so many bytes in the output

-- a first piece over an unfinished message clears the buffer
unfoldable pub begun_bytes : Bool → List ℕ → List ℕ
begun_bytes dropped bytes = cond dropped zeros bytes

unfoldable pub step_by : List ℕ → List ℕ → ℕ → (Result Gathering Refusal) → Step
step_by bytes s room (Err r) = refused r
step_by bytes s room (Ok gathering) = gather_of (assembly_of gathering.progress (begun_bytes gathering.dropped bytes)) (drop gathering.from s) gathering.dropped room

unfoldable pub step_of : Assembly → List ℕ → ℕ → Step
step_of a s room = step_by a.bytes s room (judged_of a.progress s)

-- with a buffer whose length only its caller knows: one of fewer than 4,096 bytes is refused and stays as it was, of a longer one the first 4,096 are used
unfoldable pub lent_step_of : Progress → List ℕ → List ℕ → ℕ → Step
lent_step_of p bytes s room =
    cond (ltb (length bytes) most_information) record {
      assembly = assembly_of empty.progress [];
      answer = Err (refusal output_too_small most_information);
      information = [];
    } (step_of (assembly_of p (take most_information bytes)) s room)

-- the information of a complete message is as long as its answer says, and has room (proofs/Delivered)
abbrev pub Delivers : (Result Answer Refusal) → List ℕ → ℕ → Type 0
Delivers (Ok (Complete m n dropped)) information room = (length information ≡ n) × (n ≤ room)
Delivers (Ok (Pending dropped)) information room = Unit
Delivers (Err r) information room = Unit
