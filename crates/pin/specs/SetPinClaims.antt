-- What is claimed of the SET_PIN payload beside the promises, whichever choice the reader makes: the rules in words of fields, what lies
-- between the choices, widths.
use Rattle.std.specs.Prelude.{ℕ, ◌≤◌, ◌<◌, ◌^◌, ◌≡◌, ◌↔◌, List, length, take, Ok}
use Rattle.protocol.specs.Verdict.{judge}
use Rattle.pairs.specs.Pair.{range_at}
use Rattle.pairs.specs.Claims.{SizeFits, PairFits, Safe, shown_in}
use Rattle.pairs.specs.declared.PairKind.TheVariants.{Text}
use Rattle.pairs.specs.declared.ZeroSize.{ZeroSize}
use Rattle.pairs.specs.declared.ZeroSize.TheVariants.{Absent, Strict}
use Rattle.texts.specs.Claims.{stray_rules}
use Rattle.pin.specs.declared.set_pin.SetPin.{SetPin}
use Rattle.pin.specs.declared.set_pin.SetPinTexts.{SetPinTexts}
use Rattle.pin.specs.SetPin.{fixed_part, record_at, text_rows, texts_of, pairs_at, texts_at, shown, read_with, bytes_of, write_of}

-- ---- the rules in words of fields

pub record NumbersFit (p : SetPin) : Type 0 where
  pub type : p.pin_type ≤ 17
  pub operation : p.pin_operation ≤ 3

-- what a reader accepts
pub record Acceptable (z : ZeroSize) (s : List ℕ) : Type 0 where
  pub fixed : fixed_part ≤ length s
  pub most : length s ≤ 4096
  pub numbers : NumbersFit (record_at s)
  pub pin : PairFits z Text fixed_part 32 (length s) (range_at s 8)
  pub new : PairFits z Text fixed_part 32 (length s) (range_at s 16)

-- what a writer accepts, by the sizes a and b of the texts
pub record Writable (p : SetPin) (a b : ℕ) : Type 0 where
  pub numbers : NumbersFit p
  pub pin : SizeFits Text 32 a
  pub new : SizeFits Text 32 b

-- no text is read outside the payload or inside the fixed part
pub record TextsSafe (n : ℕ) (t : SetPinTexts) : Type 0 where
  pub pin : Safe fixed_part n t.pin
  pub new : Safe fixed_part n t.new_pin

-- the bytes s show the record, and each range shown is the text
pub record Returned (z : ZeroSize) (p : SetPin) (x y s : List ℕ) : Type 0 where
  pub texts : SetPinTexts
  pub read : read_with z s ≡ Ok (p, texts)
  pub pin : shown_in s texts.pin ≡ x
  pub new : shown_in s texts.new_pin ≡ y

pub record OfWidth (p : SetPin) : Type 0 where
  pub type : p.pin_type < 2 ^ 32
  pub operation : p.pin_operation < 2 ^ 32

-- ---- what is proved (proofs/SetPinLaws, proofs/SetPinTrip)

-- an accepted payload keeps the rules, and shows the record and the texts at their places
abbrev pub Accepted : Type 0
Accepted = (z : ZeroSize) (s : List ℕ) (p : SetPin) (t : SetPinTexts) → read_with z s ≡ Ok (p, t) → Acceptable z s × ((p ≡ record_at s) × (t ≡ texts_at s))

abbrev pub AcceptedExactly : Type 0
AcceptedExactly = (z : ZeroSize) (s : List ℕ) → (read_with z s ≡ Ok ((record_at s), (texts_at s))) ↔ Acceptable z s

-- each text shown is absent, or lies behind the fixed part, at a multiple of 4, and inside the payload
abbrev pub EveryTextSafe : Type 0
EveryTextSafe = (z : ZeroSize) (s : List ℕ) (p : SetPin) (t : SetPinTexts) → read_with z s ≡ Ok (p, t) → TextsSafe (length s) t

-- under the strict choice the texts shown are the pairs as they stand
abbrev pub StrictTexts : Type 0
StrictTexts = (s : List ℕ) (p : SetPin) (t : SetPinTexts) → read_with Strict s ≡ Ok (p, t) → t ≡ texts_of (pairs_at s)

-- of a payload that is accepted by default the strict choice shows the same, or refuses the first offset beside size 0 by 18
abbrev pub StrictOfAccepted : Type 0
StrictOfAccepted = (s : List ℕ) → Acceptable Absent s → read_with Strict s ≡ shown (judge (stray_rules text_rows (pairs_at s))) (record_at s) (texts_at s)

-- what the strict choice accepts, the default shows as it does
abbrev pub StrictWithin : Type 0
StrictWithin = (s : List ℕ) (p : SetPin) (t : SetPinTexts) → read_with Strict s ≡ Ok (p, t) → read_with Absent s ≡ Ok (p, t)

abbrev pub WrittenExactly : Type 0
WrittenExactly = (p : SetPin) (x y s : List ℕ)
    → ((write_of p x y s).answer ≡ Ok (length (bytes_of p x y))) ↔ (Writable p (length x) (length y) × (length (bytes_of p x y) ≤ length s))

-- what the writer puts into an output is the record with its texts
abbrev pub RoundTrip : Type 0
RoundTrip = (z : ZeroSize) (p : SetPin) (x y s : List ℕ) (n : ℕ) → OfWidth p → (write_of p x y s).answer ≡ Ok n
    → Returned z p x y (take n (write_of p x y s).output)
