-- What is claimed of entries beside the promise: the code's calls one after the other, and what an entry can change, in words of rows.
-- In this order: a table just made; a run of the code; which entries count and which are right; what they change; what an answer tells of secrets; all of it.
use Rattle.std.specs.Prelude.{ℕ, suc, ◌≤◌, ◌<◌, ◌≡◌, ◌⊎◌, ◌↔◌, true, false, List, [], ◌∷◌, map, Ok, Err, Result}
use Rattle.pin_entry.specs.PinTable.{Row, Table, put, puk_of, pin_of, is_puk, Call, same_text, enter_operation, Asked, asks, unread, entry, unsupported, expected, unblocked, entered_row, one_less, puk_table, entered, step, table_after, answers_of}
use Rattle.pin_entry.specs.Meaning.{table_of, entry_of, asked_of, enter_of, made_of}
use Rattle.pin_entry.specs.declared.PinTable.{PinTable}
use Rattle.pin_entry.specs.declared.PinAnswer.{PinAnswer}
use Rattle.pin_entry.specs.declared.Entered.{Entered}
use Rattle.pin_entry.specs.declared.starts.PinStart.{PinStart}
use Rattle.protocol.specs.declared.Refusal.{Refusal}

-- ---- a table just made: "tries at their starting numbers", and no PIN is entered

pub record Fresh (t : Table) : Type 0 where
  pub tries : (k : ℕ) → (t k).tries ≡ (t k).start
  pub entered : (k : ℕ) → (t k).entered ≡ false

-- ---- a run of the code

-- each payload is given to the table as the one before left it, and gives what the promise of `enter` says
pub data Run : PinTable → List (List ℕ) → List (Result PinAnswer Refusal) → PinTable → Type 0 where
  ends : {p : PinTable} → Run p [] [] p
  enters : {p q : PinTable} {s : List ℕ} {ss : List (List ℕ)} {xs : List (Result PinAnswer Refusal)} (r : Entered)
      → entry_of r ≡ enter_of (table_of p) s → Run r.table ss xs q → Run p (s ∷ ss) (r.answer ∷ xs) q

-- "any sequence of entries answers as a plain table of secrets and tries does"
pub record AsPlain (p : PinTable) (ss : List (List ℕ)) (xs : List (Result PinAnswer Refusal)) (q : PinTable) : Type 0 where
  pub answers : xs ≡ answers_of (table_of p) (map asked_of ss)
  pub table : table_of q ≡ table_after (table_of p) (map asked_of ss)

-- ---- which entries count, and which are right

-- the text is compared with the secret
pub record Counts (t : Table) (c : Call) : Type 0 where
  pub enter : c.operation ≡ enter_operation
  pub present : (t c.type).present ≡ true
  pub awaited : expected t c.type ≡ true
  pub tries : (t c.type).tries ≡ 0 → ⊥

pub record Right (t : Table) (c : Call) : Type 0 where
  pub counts : Counts t c
  pub text : (t c.type).secret ≡ c.pin

-- a right PUK, and k is the PIN that it unblocks
pub record Unblocks (t : Table) (c : Call) (k : ℕ) : Type 0 where
  pub right : Right t c
  pub puk : is_puk c.type ≡ true
  pub own : k ≡ pin_of c.type

-- a right entry for k itself
pub record Enters (t : Table) (c : Call) (k : ℕ) : Type 0 where
  pub right : Right t c
  pub own : k ≡ c.type

-- ---- what they change

-- every entry is one of four
pub data Effect (t : Table) (c : Call) : Type 0 where
  nothing : (entered t c).table ≡ t → Effect t c
  wrong : Counts t c → ((t c.type).secret ≡ c.pin → ⊥) → (entered t c).table ≡ put t c.type (one_less (t c.type)) → Effect t c
  right_pin : Right t c → is_puk c.type ≡ false → (entered t c).table ≡ put t c.type (entered_row (t c.type)) → Effect t c
  right_puk : Right t c → is_puk c.type ≡ true → (entered t c).table ≡ puk_table t c.type c.new → Effect t c

-- "puts a PIN's tries back to the starting number .. and nothing else raises them"
pub record Raised (t : Table) (c : Call) (k : ℕ) : Type 0 where
  pub cause : Enters t c k ⊎ Unblocks t c k
  pub full : ((entered t c).table k).tries ≡ (t k).start

-- no row has more tries than it started with
abbrev pub Within : Table → Type 0
Within t = (k : ℕ) → (t k).tries ≤ (t k).start

-- what no entry changes of a row
pub record Kept (a b : Row) : Type 0 where
  pub present : b.present ≡ a.present
  pub enabled : b.enabled ≡ a.enabled
  pub start : b.start ≡ a.start

-- ---- what an answer tells of secrets

-- two rows that differ in their secrets at most
pub record Alike (a b : Row) : Type 0 where
  pub present : a.present ≡ b.present
  pub enabled : a.enabled ≡ b.enabled
  pub entered : a.entered ≡ b.entered
  pub tries : a.tries ≡ b.tries
  pub start : a.start ≡ b.start

-- ---- all of it, for one entry and for a run from a table just made

pub record CallClaims (t : Table) (c : Call) : Type 0 where
  -- only its own right entry or its right PUK raises the tries of a PIN, to the starting number
  pub raised : (k : ℕ) → (t k).tries < ((entered t c).table k).tries → Raised t c k
  -- only its own right entry raises those of a PUK
  pub puk_raised : (k : ℕ) → is_puk k ≡ true → (t k).tries < ((entered t c).table k).tries → Enters t c k
  -- an entry for one type changes no other row but the PIN that its PUK unblocks
  pub others : (k : ℕ) → (k ≡ c.type → ⊥) → (Unblocks t c k → ⊥) → (entered t c).table k ≡ t k
  -- a secret changes by a right PUK alone, and to its new text
  pub secrets : (k : ℕ) → (Unblocks t c k → ⊥) → ((entered t c).table k).secret ≡ (t k).secret
  pub unblocked : (k : ℕ) → Unblocks t c k → (entered t c).table k ≡ unblocked (t k) c.new
  -- an operation other than Enter: 9, no payload, and the same table
  pub operations : (c.operation ≡ enter_operation → ⊥) → entered t c ≡ unsupported t
  -- a right entry puts its own tries back; a wrong one that counts takes one of those there are, so they never go below 0
  pub refills : Right t c → ((entered t c).table c.type).tries ≡ (t c.type).start
  pub costs : Counts t c → ((t c.type).secret ≡ c.pin → ⊥) → suc ((entered t c).table c.type).tries ≡ (t c.type).tries
  -- what no entry changes
  pub kept : (k : ℕ) → Kept (t k) ((entered t c).table k)

-- a refused payload: its refusal, and the same table
abbrev pub AskedClaims : Table → Asked → Type 0
AskedClaims t (asks c) = CallClaims t c
AskedClaims t (unread r) = step t (unread r) ≡ entry t (Err r)

-- each of a sequence, on the table that the ones before it left
abbrev pub EachStep : Table → List Asked → Type 0
EachStep t [] = Unit
EachStep t (a ∷ rest) = AskedClaims t a × EachStep (step t a).table rest

pub record RunClaims (p : PinTable) (ss : List (List ℕ)) (xs : List (Result PinAnswer Refusal)) (q : PinTable) : Type 0 where
  pub plain : AsPlain p ss xs q
  pub steps : EachStep (table_of p) (map asked_of ss)
  pub within : Within (table_of q)

-- ---- what is proved (proofs/Text, proofs/Rows, proofs/Unseen, proofs/Runs)

-- right means that all bytes are equal
abbrev pub RightExactly : Type 0
RightExactly = (a b : List ℕ) → (same_text a b ≡ true) ↔ (a ≡ b)

-- the two lists of pairs say the same
abbrev pub PairsAgree : Type 0
PairsAgree = (k j : ℕ) → k < 18 → 0 < j → (puk_of k ≡ j → pin_of j ≡ k) × (pin_of k ≡ j → puk_of j ≡ k)

-- of all secrets an answer tells whether the text is the one of its type, and nothing else
abbrev pub SecretsUnseen : Type 0
SecretsUnseen = (t u : Table) (c : Call) → ((k : ℕ) → Alike (t k) (u k)) → same_text (t c.type).secret c.pin ≡ same_text (u c.type).secret c.pin
    → (entered t c).answer ≡ (entered u c).answer

-- a table just made is fresh
abbrev pub MadeFresh : Type 0
MadeFresh = (rows : List PinStart) → Fresh (made_of rows).table

-- from the table that `make` gives, and from the one without rows where it refuses, any sequence of payloads answers as the plain table, and what each can change is said above
abbrev pub EveryRun : Type 0
EveryRun = (rows : List PinStart) (p : PinTable) → table_of p ≡ (made_of rows).table → (ss : List (List ℕ)) (xs : List (Result PinAnswer Refusal)) (q : PinTable) → Run p ss xs q → RunClaims p ss xs q
