-- A reader's choice by its number (document 02, order 10): 0, a size of 0 is absent whatever the offset; 1, strict; any other is 9 at 0.
use Rattle.std.specs.Prelude.{ℕ, cond, eqb, Result, Ok, Err}
use Rattle.protocol.specs.Refusal.{refusal, outside_table}
use Rattle.protocol.specs.declared.Refusal.{Refusal}
use Rattle.protocol.specs.declared.Version.{Version}
use Rattle.pairs.specs.declared.ZeroSize.{ZeroSize}
use Rattle.pairs.specs.declared.ZeroSize.TheVariants.{Absent, Strict}
use Rattle.c_structs.specs.Answers.{at_version}

abbrev pub Chosen : Type 0
Chosen = Result ZeroSize Refusal

unfoldable pub zero_size_of : ℕ → Chosen
zero_size_of n = cond (eqb n 0) (Ok Absent) (cond (eqb n 1) (Ok Strict) (Err (refusal outside_table 0)))

abbrev pub choose_on : {A : Type 0} → Chosen → (Refusal → A) → (ZeroSize → A) → A
choose_on (Ok z) stop go = go z
choose_on (Err r) stop go = stop r

-- judge the number n, then go on by its choice
abbrev pub by_choice : {A : Type 0} → ℕ → (Refusal → A) → (ZeroSize → A) → A
by_choice n stop go = choose_on (zero_size_of n) stop go

-- ---- a version's number, and then a choice's

abbrev pub Reading : Type 0
Reading = Result (Version × ZeroSize) Refusal

abbrev pub chosen_at : Version → ℕ → Reading
chosen_at v k = by_choice k Err (λ z. Ok (v, z))

unfoldable pub reading_of : ℕ → ℕ → Reading
reading_of n k = at_version n Err (λ v. chosen_at v k)

abbrev pub read_on : {A : Type 0} → Reading → (Refusal → A) → (Version → ZeroSize → A) → A
read_on (Ok (v, z)) stop go = go v z
read_on (Err r) stop go = stop r

-- judge both numbers, then go on at the version and by the choice
abbrev pub by_reading : {A : Type 0} → ℕ → ℕ → (Refusal → A) → (Version → ZeroSize → A) → A
by_reading n k stop go = read_on (reading_of n k) stop go
