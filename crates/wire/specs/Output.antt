-- What a lent output holds: bytes put at its front, and bytes fitted to a length.
use Rattle.std.specs.Prelude.{ℕ, zero, suc, List, [], ◌∷◌, ◌++◌, length, get_or, drop}

-- the first n bytes of t, and zeros past its end
unfoldable pub fitted : ℕ → List ℕ → List ℕ
fitted zero t = []
fitted (suc n) t = fitted n t ++ (get_or t n 0 ∷ [])

-- the bytes b at the front of the output s; all output past them stays as it was
unfoldable pub over : List ℕ → List ℕ → List ℕ
over b s = b ++ drop (length b) s
