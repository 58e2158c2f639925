-- A reader that has judged the numbers and the payload by a choice may go on as the plain one does. Proved over the reader.
-- Assumes nothing.
use Prim.Native.Nat.{ℕ}
use native.Mathlib.Omega.{arith}
use mathlib.Core.Path.{◌≡◌, ap}
use Rattle.std.specs.Prelude.{Result, Ok, Err}
use Rattle.protocol.specs.declared.Refusal.{Refusal}
use Rattle.protocol.specs.declared.Version.{Version}
use Rattle.protocol.specs.Verdict.{Verdict, no_fault}
use Rattle.handshake.specs.Versions.{numbered}
use Rattle.pairs.specs.Pair.{by_default}
use Rattle.pairs.specs.declared.ZeroSize.{ZeroSize}
use Rattle.c_structs.specs.Answers.{go_on, at_version}
use Rattle.c_structs.specs.Choices.{Chosen, zero_size_of, choose_on, Reading, reading_of, read_on, by_reading}

module _ {A : Type 0} (stop : Refusal → A) (verdict : Version → ZeroSize → Verdict) (read : Version → ZeroSize → A)
    (judged : (v : Version) (z : ZeroSize) → verdict v z ≡ no_fault → read v by_default ≡ read v z)
    (faulted : (v : Version) (z : ZeroSize) (r : Refusal) → verdict v z ≡ Err r → stop r ≡ read v z) where
  pub chosen_fits : (n k : ℕ) → by_reading n k Err verdict ≡ no_fault → at_version n stop (λ v. read v by_default) ≡ by_reading n k stop read
  unfolding reading_of
  chosen_fits n k = by_numbers (numbered n) (zero_size_of k)
    where
      by_numbers : (x : Result Version Refusal) (y : Chosen) → read_on (go_on x Err (λ v. choose_on y Err (λ z. Ok (v, z)))) Err verdict ≡ no_fault
          → go_on x stop (λ v. read v by_default) ≡ read_on (go_on x Err (λ v. choose_on y Err (λ z. Ok (v, z)))) stop read
      by_numbers (Ok v) (Ok z) e = judged v z e
      by_numbers (Ok v) (Err r) e = let q : ◌≡◌ {A = ℕ} 0 1 = cc in absurd (omega arith)
      by_numbers (Err r) y e = let q : ◌≡◌ {A = ℕ} 0 1 = cc in absurd (omega arith)

  pub chosen_fault : (n k : ℕ) (r : Refusal) → by_reading n k Err verdict ≡ Err r → stop r ≡ by_reading n k stop read
  chosen_fault n k r = by_reading_lem (reading_of n k)
    where
      by_reading_lem : (x : Reading) → read_on x Err verdict ≡ Err r → stop r ≡ read_on x stop read
      by_reading_lem (Ok (v, z)) e = faulted v z r e
      by_reading_lem (Err q) e = let same : q ≡ r = cc in rw same

-- where both numbers are in their tables, what is read at the version's number is read at the version
pub version_told : {A : Type 0} (n k : ℕ) (stop : Refusal → A) (read : Version → A) (v : Version) (z : ZeroSize) → reading_of n k ≡ Ok (v, z) → at_version n stop read ≡ read v
unfolding reading_of
version_told {A} n k stop read v z = by_numbers (numbered n) (zero_size_of k)
  where
    by_numbers : (x : Result Version Refusal) (y : Chosen) → ◌≡◌ {A = Reading} (go_on x Err (λ w. choose_on y Err (λ u. Ok (w, u)))) (Ok (v, z)) → go_on x stop read ≡ read v
    by_numbers (Ok w) (Ok u) e = let same : ◌≡◌ {A = Version × ZeroSize} (w, u) (v, z) = cc in ap (λ (p : Version × ZeroSize). read p.0) same
    by_numbers (Ok w) (Err r) e = let q : ◌≡◌ {A = ℕ} 0 1 = cc in absurd (omega arith)
    by_numbers (Err r) y e = let q : ◌≡◌ {A = ℕ} 0 1 = cc in absurd (omega arith)
