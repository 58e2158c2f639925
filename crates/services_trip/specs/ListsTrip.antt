-- What the writer of two lists gives, read again in one pass.
use Rattle.std.specs.Prelude.{ℕ, ◌≤◌, ◌<◌, ◌^◌, ◌≡◌, Ok, List, length, get_or, take}
use Rattle.wire.specs.Output.{over}
use Rattle.services_query.specs.ServicesQuery.{all_with}
use Rattle.pairs.specs.declared.ZeroSize.{ZeroSize}
use Rattle.services_lists.specs.ServicesLists.{count_of, write_all_of}

-- each number of a list is of its width
abbrev pub NumbersOfWidth : List ℕ → Type 0
NumbersOfWidth xs = (k : ℕ) → get_or xs k 0 < 2 ^ 32

-- what is written of two lists gives both back, at the fronts of lists f and c with room for them
abbrev pub AllReadBack : Type 0
AllReadBack = (choice : ZeroSize) (max : ℕ) (fields cids s : List ℕ) (n : ℕ) → max < 2 ^ 32 → NumbersOfWidth fields → NumbersOfWidth cids
    → (write_all_of max fields cids s).answer ≡ Ok n → (f c : List ℕ) → length fields ≤ length f → length cids ≤ length c
    → all_with choice (take n (write_all_of max fields cids s).output) f c
    ≡ record { answer = Ok (record { elements = count_of fields; cids = length cids }); fields = over fields f; cids = over cids c }
