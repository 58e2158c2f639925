-- The loop that feeds the parts of a stream: its invariant, its start, a turn of it and its end.
-- Assumes nothing.
use mathlib.Core.Path.{◌≡◌, refl, sym, ap, ◌∙◌}
use mathlib.Core.List.{List}
use Prim.Native.Nat.{ℕ, suc, ◌+◌, ◌-◌, ◌<◌, min}
use native.Mathlib.Omega.{arith}
use lib.ListN.{length, take, drop}
use Rattle.wire.specs.Output.{over}
use Rattle.assembler.specs.Assembly.{assembly_of, in_place, step_of}
use Rattle.assembler.specs.declared.FedInPlace.{FedInPlace}
use Rattle.cutter.proofs.Later.{cut_take, cut_drop}
use Rattle.exchange.specs.Messages.{parts}
use Rattle.exchange.specs.Collected.{Collected, after, collected}

-- what a loop has come to
abbrev pub now : FedInPlace → List ℕ → List ℕ → Collected
now f bytes out = record { assembly = assembly_of f.progress bytes; answer = f.answer; output = out }

next : (c : Collected) (size count k : ℕ) (s : List ℕ) → k < count
    → collected c (parts (count - k) size s) ≡ collected (after c (take size s)) (parts (count - (k + 1)) size (drop size s))
unfolding collected parts
next c size count k s h = let e : count - k ≡ suc (count - (k + 1)) = omega arith in rw e refl

-- one more part is fed: the first n bytes of what is left, x
pub turn : {f' : FedInPlace} {bytes' out' p y : List ℕ} (f : FedInPlace) (bytes out x : List ℕ) (size count k n : ℕ) → k < count → n ≡ min (length x) size
    → p ≡ take n x → y ≡ drop n x
    → f' ≡ in_place (step_of (assembly_of f.progress bytes) p (length out))
    → bytes' ≡ (step_of (assembly_of f.progress bytes) p (length out)).assembly.bytes
    → out' ≡ over (step_of (assembly_of f.progress bytes) p (length out)).information out
    → collected (now f' bytes' out') (parts (count - (k + 1)) size y) ≡ collected (now f bytes out) (parts (count - k) size x)
turn {f'} {bytes'} {out'} {p} {y} f bytes out x size count k n less en ep ey ef eb eo =
    let here : now f' bytes' out' ≡ after (now f bytes out) p =
    (λ i. record { assembly = record { progress = (ef i).progress; bytes = eb i }; answer = (ef i).answer; output = eo i }) in
    (λ i. collected ((here ∙ ap (after (now f bytes out)) (ep ∙ cut_take x n size en)) i) (parts (count - (k + 1)) size ((ey ∙ cut_drop x n size en) i)))
    ∙ sym (next (now f bytes out) size count k x less)

pub finish : (c : Collected) (size left : ℕ) (x : List ℕ) → left ≡ 0 → c ≡ collected c (parts left size x)
unfolding collected parts
finish c size left x e = rw e
