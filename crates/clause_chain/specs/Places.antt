-- Private. Which of the items that were added are left: those that the table has at the place where they were added.
use Rattle.std.specs.Prelude.{◌≡◌, ◌+◌, ◌<◌, ℕ, nat_eq, Bool, false, if◌then◌else◌, List, [], ◌∷◌, length, Option, Some, None, Contains}
use Rattle.std.specs.HashMap.{HashMap, get}
use Rattle.clause_chain.specs.contracts.signed_term.SignedTermPartialEq.TheImpl as signed
use Rattle.clause_chain.specs.declared.signed_term.SignedTerm.{SignedTerm}

-- what the table says of an item
abbrev pub place_in : {S : Type 0} → HashMap SignedTerm ℕ S → SignedTerm → Option ℕ
place_in places item = get (signed.ghosts).eq places item

abbrev pub is_here : Option ℕ → ℕ → Bool
is_here (Some n) k = nat_eq n k
is_here None k = false

-- what is left of the items that were added from a place on
abbrev pub left_from : (SignedTerm → Option ℕ) → ℕ → List SignedTerm → List SignedTerm
left_from places k [] = []
left_from places k (x ∷ xs) =
    if is_here (places x) k then x ∷ left_from places (k + 1) xs else left_from places (k + 1) xs

-- what the table has is left, and was added
pub record ArePlaces (places : SignedTerm → Option ℕ) (added : List SignedTerm) : Type 0 where
  pub within : (x : SignedTerm) (n : ℕ) → places x ≡ Some n → n < length added
  pub there : (x : SignedTerm) (n : ℕ) → places x ≡ Some n → Contains (left_from places 0 added) x
