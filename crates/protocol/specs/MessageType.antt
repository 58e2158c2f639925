-- Message types (document 01, "Messages and fragments"): the whole ones and the fragmented ones.
use Rattle.std.specs.Prelude.{ℕ, Bool, false, ◌||◌, List, [], ◌∷◌, eqb}

abbrev pub OPEN : ℕ
OPEN = 1

abbrev pub CLOSE : ℕ
CLOSE = 2

abbrev pub COMMAND : ℕ
COMMAND = 3

abbrev pub HOST_ERROR : ℕ
HOST_ERROR = 4

abbrev pub OPEN_DONE : ℕ
OPEN_DONE = 0x80000001

abbrev pub CLOSE_DONE : ℕ
CLOSE_DONE = 0x80000002

abbrev pub COMMAND_DONE : ℕ
COMMAND_DONE = 0x80000003

abbrev pub FUNCTION_ERROR : ℕ
FUNCTION_ERROR = 0x80000004

abbrev pub INDICATE_STATUS : ℕ
INDICATE_STATUS = 0x80000007

-- "COMMAND has type (0 query, 1 set)"
abbrev pub QUERY : ℕ
QUERY = 0

abbrev pub SET : ℕ
SET = 1

abbrev pub is_in : List ℕ → ℕ → Bool
is_in [] n = false
is_in (k ∷ ks) n = eqb n k || is_in ks n

unfoldable pub is_whole : ℕ → Bool
is_whole = is_in (OPEN ∷ CLOSE ∷ HOST_ERROR ∷ OPEN_DONE ∷ CLOSE_DONE ∷ FUNCTION_ERROR ∷ [])

unfoldable pub is_fragmented : ℕ → Bool
is_fragmented = is_in (COMMAND ∷ COMMAND_DONE ∷ INDICATE_STATUS ∷ [])
