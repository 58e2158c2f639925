-- What is claimed of the REGISTER_STATE payload beside the promises, whichever choice the reader makes: the rules in words of fields, what
-- lies between the choices, what the other version shows, widths.
use Rattle.std.specs.Prelude.{ℕ, ◌≤◌, ◌<◌, ◌^◌, ◌≡◌, ◌⊎◌, ◌↔◌, cond, List, length, take, Ok, Err}
use Rattle.std.specs.Int.Bits.{bit_and}
use Rattle.protocol.specs.Refusal.{refusal, too_short, outside_table}
use Rattle.protocol.specs.Verdict.{judge, no_fault}
use Rattle.protocol.specs.DataClass.{mask_of, only_classes}
use Rattle.protocol.specs.declared.Refusal.{Refusal}
use Rattle.protocol.specs.declared.Version.{Version}
use Rattle.protocol.specs.declared.Version.TheVariants.{V1, V2}
use Rattle.pairs.specs.Pair.{range_at}
use Rattle.pairs.specs.Claims.{SizeFits, PairFits, Safe, OffsetWithZeroSize, shown_in}
use Rattle.texts.specs.Claims.{first_inside, stray_rules}
use Rattle.pairs.specs.declared.PairKind.TheVariants.{Text}
use Rattle.pairs.specs.declared.ZeroSize.{ZeroSize}
use Rattle.pairs.specs.declared.ZeroSize.TheVariants.{Absent, Strict}
use Rattle.registration.specs.declared.RegistrationForm.{RegistrationForm}
use Rattle.registration.specs.declared.RegistrationForm.TheVariants.{V1 as Form1, V2 as Form2}
use Rattle.registration.specs.declared.Registration.{Registration}
use Rattle.registration.specs.declared.RegistrationTexts.{RegistrationTexts}
use Rattle.registration.specs.Registration.{fixed_part, record_at, text_rows, texts_of, pairs_at, texts_at, shown, read_with, version_of, three, bytes_of, write_of, laid_for, written_verdict, RegistrationRead}

-- ---- the rules in words of fields

-- every bit of the field is a class of the version
abbrev pub OnlyClasses : Version → ℕ → Type 0
OnlyClasses v class = bit_and class (mask_of v) ≡ class

abbrev pub FormFits : RegistrationForm → Type 0
FormFits Form1 = Unit
FormFits (Form2 class) = OnlyClasses V2 class

-- the numbers of a record, by the tables of a version
pub record NumbersFit (v : Version) (p : Registration) : Type 0 where
  pub state : p.register_state ≤ 6
  pub mode : p.register_mode ≤ 2
  pub available : OnlyClasses v p.available_data_class
  pub cellular : p.cellular_class ≤ 3
  pub flag : p.registration_flag ≤ 3
  pub form : FormFits p.form
  pub registered : (p.available_data_class ≡ 0) ⊎ ((3 ≤ p.register_state) × (p.register_state ≤ 5))

-- what a reader accepts
pub record Acceptable (v : Version) (z : ZeroSize) (s : List ℕ) : Type 0 where
  pub fixed : fixed_part v ≤ length s
  pub most : length s ≤ 4096
  pub numbers : NumbersFit v (record_at v s)
  pub id : PairFits z Text (fixed_part v) 12 (length s) (range_at s 20)
  pub name : PairFits z Text (fixed_part v) 40 (length s) (range_at s 28)
  pub roaming : PairFits z Text (fixed_part v) 126 (length s) (range_at s 36)

-- one of the pairs has an offset beside size 0
abbrev pub StrayOffset : List ℕ → Type 0
StrayOffset s = OffsetWithZeroSize (range_at s 20) ⊎ (OffsetWithZeroSize (range_at s 28) ⊎ OffsetWithZeroSize (range_at s 36))

-- accepted by default and refused by the strict choice
pub record OnlyByDefault (v : Version) (s : List ℕ) : Type 0 where
  pub accepted : read_with v Absent s ≡ Ok ((record_at v s), (texts_at s))
  pub refusal : Refusal
  pub refused : read_with v Strict s ≡ Err refusal

-- what a writer accepts, by the sizes a, b and c of the texts
pub record Writable (p : Registration) (a b c : ℕ) : Type 0 where
  pub numbers : NumbersFit (version_of p) p
  pub id : SizeFits Text 12 a
  pub name : SizeFits Text 40 b
  pub roaming : SizeFits Text 126 c

-- ---- no text is read outside the payload or inside the fixed part

pub record TextsSafe (fixed n : ℕ) (t : RegistrationTexts) : Type 0 where
  pub id : Safe fixed n t.provider_id
  pub name : Safe fixed n t.provider_name
  pub roaming : Safe fixed n t.roaming_text

-- ---- reading what is written

-- the bytes s, read at the record's version, show the record, and each range shown is the text
pub record Returned (choice : ZeroSize) (p : Registration) (x y z : List ℕ) (s : List ℕ) : Type 0 where
  pub texts : RegistrationTexts
  pub read : read_with (version_of p) choice s ≡ Ok (p, texts)
  pub id : shown_in s texts.provider_id ≡ x
  pub name : shown_in s texts.provider_name ≡ y
  pub roaming : shown_in s texts.roaming_text ≡ z

-- ---- what the other version shows

-- the fields that both forms have, in another form
abbrev pub in_form : RegistrationForm → Registration → Registration
in_form f p = record {
  nw_error = p.nw_error;
  register_state = p.register_state;
  register_mode = p.register_mode;
  available_data_class = p.available_data_class;
  cellular_class = p.cellular_class;
  registration_flag = p.registration_flag;
  form = f;
}

-- bytes of 2.00 at 1.00: the shared fields and the texts, unless a class is one of 2.00 only
abbrev pub shown_earlier : Registration → RegistrationTexts → RegistrationRead
shown_earlier p t = cond (only_classes V1 p.available_data_class) (Ok ((in_form Form1 p), t)) (Err (refusal outside_table 12))

-- bytes of 1.00 at 2.00, by the sizes of the texts: the first one there lies in the larger fixed part; with none it is the length
abbrev pub refused_later : ℕ → ℕ → ℕ → Refusal
refused_later id name roaming = first_inside (refusal too_short 48) text_rows (three id name roaming)

-- ---- each field is of its width

abbrev pub FormOfWidth : RegistrationForm → Type 0
FormOfWidth Form1 = Unit
FormOfWidth (Form2 class) = class < 2 ^ 32

pub record OfWidth (p : Registration) : Type 0 where
  pub error : p.nw_error < 2 ^ 32
  pub state : p.register_state < 2 ^ 32
  pub mode : p.register_mode < 2 ^ 32
  pub available : p.available_data_class < 2 ^ 32
  pub cellular : p.cellular_class < 2 ^ 32
  pub flag : p.registration_flag < 2 ^ 32
  pub form : FormOfWidth p.form

-- ---- what is proved (proofs/Acceptance, proofs/RoundTrip, proofs/OtherVersion)

-- an accepted payload keeps the rules, and shows the record and the texts at their places
abbrev pub Accepted : Type 0
Accepted = (v : Version) (z : ZeroSize) (s : List ℕ) (p : Registration) (t : RegistrationTexts) → read_with v z s ≡ Ok (p, t)
    → Acceptable v z s × ((p ≡ record_at v s) × (t ≡ texts_at s))

abbrev pub AcceptedExactly : Type 0
AcceptedExactly = (v : Version) (z : ZeroSize) (s : List ℕ) → (read_with v z s ≡ Ok ((record_at v s), (texts_at s))) ↔ Acceptable v z s

-- each text shown is absent, or lies behind the fixed part, at a multiple of 4, and inside the payload
abbrev pub EveryTextSafe : Type 0
EveryTextSafe = (v : Version) (z : ZeroSize) (s : List ℕ) (p : Registration) (t : RegistrationTexts) → read_with v z s ≡ Ok (p, t)
    → TextsSafe (fixed_part v) (length s) t

-- under the strict choice the texts shown are the pairs as they stand, as before order 10
abbrev pub StrictTexts : Type 0
StrictTexts = (v : Version) (s : List ℕ) (p : Registration) (t : RegistrationTexts) → read_with v Strict s ≡ Ok (p, t) → t ≡ texts_of (pairs_at s)

-- of a payload that is accepted by default the strict choice shows the same, or refuses the first offset beside size 0 by 18
abbrev pub StrictOfAccepted : Type 0
StrictOfAccepted = (v : Version) (s : List ℕ) → Acceptable v Absent s
    → read_with v Strict s ≡ shown (judge (stray_rules text_rows (pairs_at s))) (record_at v s) (texts_at s)

-- what the default accepts and the strict choice refuses has an offset beside a size of 0 and is good otherwise, and all of that is
abbrev pub BetweenChoices : Type 0
BetweenChoices = (v : Version) (s : List ℕ) → OnlyByDefault v s ↔ (Acceptable v Absent s × StrayOffset s)

-- what the strict choice accepts, the default shows as it does
abbrev pub StrictWithin : Type 0
StrictWithin = (v : Version) (s : List ℕ) (p : Registration) (t : RegistrationTexts) → read_with v Strict s ≡ Ok (p, t) → read_with v Absent s ≡ Ok (p, t)

abbrev pub WrittenExactly : Type 0
WrittenExactly = (p : Registration) (x y z s : List ℕ)
    → ((write_of p x y z s).answer ≡ Ok (length (bytes_of p x y z))) ↔ (Writable p (length x) (length y) (length z) × (length (bytes_of p x y z) ≤ length s))

-- what the writer puts into an output, read at the record's version, is the record with its texts
abbrev pub RoundTrip : Type 0
RoundTrip = (choice : ZeroSize) (p : Registration) (x y z s : List ℕ) (n : ℕ) → OfWidth p → (write_of p x y z s).answer ≡ Ok n
    → Returned choice p x y z (take n (write_of p x y z s).output)

abbrev pub LaterReadEarlier : Type 0
LaterReadEarlier = (choice : ZeroSize) (p : Registration) (x y z : List ℕ) → version_of p ≡ V2 → OfWidth p → written_verdict p (length x) (length y) (length z) ≡ no_fault
    → read_with V1 choice (bytes_of p x y z) ≡ shown_earlier p (laid_for p x y z)

abbrev pub EarlierReadLater : Type 0
EarlierReadLater = (choice : ZeroSize) (p : Registration) (x y z : List ℕ) → version_of p ≡ V1 → OfWidth p → written_verdict p (length x) (length y) (length z) ≡ no_fault
    → read_with V2 choice (bytes_of p x y z) ≡ Err (refused_later (length x) (length y) (length z))
