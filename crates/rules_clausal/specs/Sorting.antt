-- Private. Clauses of references in order.
use Rattle.std.specs.Prelude.{◌≢◌, ℕ, List, All, AllPairs, Contains, IsPermutation}
use Rattle.std.specs.List.Sorted.{IsNonDecreasing}

-- a clause, sorted by the numbers of its literals
pub record IsInOrder (clause sorted : List ℕ) : Type 0 where
  pub moved : IsPermutation clause sorted
  pub rising : IsNonDecreasing sorted

-- the new clause has the literals of the old one, each once
pub record HasAllOnce (old new : List ℕ) : Type 0 where
  pub kept : All (Contains new) old
  pub none_new : All (Contains old) new
  pub once : AllPairs (λ p q. p ≢ q) new
