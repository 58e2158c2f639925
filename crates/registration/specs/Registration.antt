-- The REGISTER_STATE payload (document 01, "Registration"; document 02, order 10; source 000, MBIM_REGISTRATION_STATE_INFO_V2).
-- In this order: the fields and their places; the rules, in the order in which they are judged; what a reader answers; what a writer gives.
use Rattle.std.specs.Prelude.{ℕ, Bool, not, ◌&&◌, ◌||◌, List, [], ◌∷◌, ◌++◌, ltb, eqb, length, get_or, Ok, Err, Result}
use Rattle.wire.specs.Numbers.{u32_at, digits}
use Rattle.protocol.specs.Refusal.{outside_table, contradiction}
use Rattle.protocol.specs.Verdict.{Rule, rule, judge, first_of, open_length, Writing, writing, Verdict}
use Rattle.protocol.specs.DataClass.{only_classes}
use Rattle.protocol.specs.declared.Version.{Version}
use Rattle.protocol.specs.declared.Version.TheVariants.{V1, V2}
use Rattle.pairs.specs.Pair.{by_default, reached, range}
use Rattle.texts.specs.Texts.{row, ranges_at, all_shown, laid, end_of, ranges_bytes}
use Rattle.texts.specs.Texts as pairs
use Rattle.pairs.specs.declared.Range.{Range}
use Rattle.pairs.specs.declared.ZeroSize.{ZeroSize}
use Rattle.registration.specs.declared.RegistrationForm.{RegistrationForm}
use Rattle.registration.specs.declared.RegistrationForm.TheVariants.{V1 as Form1, V2 as Form2}
use Rattle.registration.specs.declared.Registration.{Registration}
use Rattle.registration.specs.declared.RegistrationTexts.{RegistrationTexts}
use Rattle.protocol.specs.declared.Refusal.{Refusal}

abbrev pub RegistrationRead : Type 0
RegistrationRead = Result (Registration × RegistrationTexts) Refusal

-- ---- fields and places

-- "Fixed part 48 or 52"
abbrev pub fixed_part : Version → ℕ
fixed_part V1 = 48
fixed_part V2 = 52

-- at 2.00 PreferredDataClass 48
abbrev pub form_at : Version → List ℕ → RegistrationForm
form_at V1 s = Form1
form_at V2 s = Form2 (u32_at s 48)

-- NwError 0, RegisterState 4, RegisterMode 8, AvailableDataClass 12, CellularClass 16, flags 44
unfoldable pub record_at : Version → List ℕ → Registration
record_at v s = record {
  nw_error = u32_at s 0;
  register_state = u32_at s 4;
  register_mode = u32_at s 8;
  available_data_class = u32_at s 12;
  cellular_class = u32_at s 16;
  registration_flag = u32_at s 44;
  form = form_at v s;
}

-- "pairs ProviderId 20, ProviderName 28, RoamingText 36 with limits 12, 40 and 126 bytes"
abbrev pub text_rows : List (List ℕ)
text_rows = row 20 12 ∷ row 28 40 ∷ row 36 126 ∷ []

abbrev pub texts : Range → Range → Range → RegistrationTexts
texts id name roaming = record { provider_id = id; provider_name = name; roaming_text = roaming }

-- three ranges in field order
abbrev pub texts_of : List Range → RegistrationTexts
texts_of ps = texts (get_or ps 0 (range 0 0)) (get_or ps 1 (range 0 0)) (get_or ps 2 (range 0 0))

-- the pairs as they stand, and the texts as they are shown
unfoldable pub pairs_at : List ℕ → List Range
pairs_at s = ranges_at s text_rows

unfoldable pub texts_at : List ℕ → RegistrationTexts
texts_at s = texts_of (all_shown (pairs_at s))

-- ---- rules: broken, reason, place; the first broken one decides

-- state 0 to 6, mode 0 to 2, the classes of the version, cellular class within mask 3
unfoldable pub front_rules : Version → Registration → List Rule
front_rules v p =
    rule (ltb 6 p.register_state) outside_table 4
    ∷ rule (ltb 2 p.register_mode) outside_table 8
    ∷ rule (not (only_classes v p.available_data_class)) outside_table 12
    ∷ rule (ltb 3 p.cellular_class) outside_table 16
    ∷ []

-- the pairs, in n bytes, by the reader's choice
unfoldable pub texts_verdict : ZeroSize → ℕ → ℕ → List Range → Verdict
texts_verdict z fixed n ps = pairs.texts_verdict z fixed n text_rows ps

-- the class is not 0 though the state is not 3, 4 or 5
abbrev pub unregistered : ℕ → ℕ → Bool
unregistered state class = not (eqb class 0) && (ltb state 3 || ltb 5 state)

-- the preferred classes, at 2.00, and the rules after them
abbrev pub preferred_rules : RegistrationForm → List Rule → List Rule
preferred_rules Form1 rest = rest
preferred_rules (Form2 class) rest = rule (not (only_classes V2 class)) outside_table 48 ∷ rest

-- flags within mask 3; at 2.00 the preferred classes; last what contradicts
unfoldable pub back_rules : Registration → List Rule
back_rules p =
    rule (ltb 3 p.registration_flag) outside_table 44
    ∷ preferred_rules p.form (rule (unregistered p.register_state p.available_data_class) contradiction 12 ∷ [])

-- ---- what a reader answers

abbrev pub shown : Verdict → Registration → RegistrationTexts → RegistrationRead
shown (Ok _) p t = Ok (p, t)
shown (Err r) p t = Err r

-- before the pairs: the length and the numbers in front of them
unfoldable pub head_verdict : Version → List ℕ → Verdict
head_verdict v s = first_of (open_length (fixed_part v) (length s)) (judge (front_rules v (record_at v s)))

unfoldable pub verdict_with : Version → ZeroSize → List ℕ → Verdict
verdict_with v z s =
    first_of (open_length (fixed_part v) (length s))
    (first_of (judge (front_rules v (record_at v s)))
    (first_of (texts_verdict z (fixed_part v) (length s) (pairs_at s))
    (judge (back_rules (record_at v s)))))

-- what a choice decides
abbrev pub choice_verdict : Version → ZeroSize → List ℕ → Verdict
choice_verdict v z s = reached (head_verdict v s) (texts_verdict z (fixed_part v) (length s) (pairs_at s))

unfoldable pub read_with : Version → ZeroSize → List ℕ → RegistrationRead
read_with v z s = shown (verdict_with v z s) (record_at v s) (texts_at s)

abbrev pub read_of : Version → List ℕ → RegistrationRead
read_of v s = read_with v by_default s

-- ---- what a writer gives

abbrev pub version_in : RegistrationForm → Version
version_in Form1 = V1
version_in (Form2 class) = V2

abbrev pub version_of : Registration → Version
version_of p = version_in p.form

-- three sizes or three texts, in field order
abbrev pub three : {A : Type 0} → A → A → A → List A
three a b c = a ∷ b ∷ c ∷ []

-- the sizes of the texts; a pair that the writer places breaks no other rule (proofs/RoundTrip)
unfoldable pub size_rules : ℕ → ℕ → ℕ → List Rule
size_rules id name roaming = pairs.size_rules text_rows (three id name roaming)

-- what fits is at most 232 bytes long, so number 5 is never given
unfoldable pub written_verdict : Registration → ℕ → ℕ → ℕ → Verdict
written_verdict p id name roaming =
    first_of (judge (front_rules (version_of p) p)) (first_of (judge (size_rules id name roaming)) (judge (back_rules p)))

-- the texts straight after the fixed part, in field order
unfoldable pub laid_texts : ℕ → ℕ → ℕ → ℕ → RegistrationTexts
laid_texts fixed id name roaming = texts_of (laid fixed (three id name roaming))

abbrev pub length_of : Version → ℕ → ℕ → ℕ → ℕ
length_of v id name roaming = end_of (fixed_part v) (three id name roaming)

unfoldable pub front_bytes : Registration → List ℕ
front_bytes p =
    digits 4 p.nw_error
    ++ (digits 4 p.register_state ++ (digits 4 p.register_mode ++ (digits 4 p.available_data_class ++ digits 4 p.cellular_class)))

unfoldable pub texts_bytes : Range → Range → Range → List ℕ
texts_bytes id name roaming = ranges_bytes (three id name roaming)

-- the preferred classes, at 2.00
abbrev pub preferred_bytes : RegistrationForm → List ℕ
preferred_bytes Form1 = []
preferred_bytes (Form2 class) = digits 4 class

unfoldable pub back_bytes : Registration → List ℕ
back_bytes p = digits 4 p.registration_flag ++ preferred_bytes p.form

unfoldable pub fixed_bytes : Registration → Range → Range → Range → List ℕ
fixed_bytes p id name roaming = front_bytes p ++ (texts_bytes id name roaming ++ back_bytes p)

abbrev pub fixed_with : Registration → RegistrationTexts → List ℕ
fixed_with p t = fixed_bytes p t.provider_id t.provider_name t.roaming_text

-- where the texts x, y and z of a record go
abbrev pub laid_for : Registration → List ℕ → List ℕ → List ℕ → RegistrationTexts
laid_for p x y z = laid_texts (fixed_part (version_of p)) (length x) (length y) (length z)

-- the payload's bytes, with the texts x, y and z
unfoldable pub bytes_of : Registration → List ℕ → List ℕ → List ℕ → List ℕ
bytes_of p x y z = fixed_with p (laid_for p x y z) ++ pairs.texts_bytes (three x y z)

-- the answer, and the output at exit
unfoldable pub write_of : Registration → List ℕ → List ℕ → List ℕ → List ℕ → Writing
write_of p x y z s = writing (written_verdict p (length x) (length y) (length z)) (bytes_of p x y z) s
