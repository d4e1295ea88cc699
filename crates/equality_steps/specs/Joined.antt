-- Private. How literals come into the clause of a resolution.
use Rattle.std.specs.Prelude.{◌≡◌, ◌⊎◌, ◌↔◌, ℕ, nat_eq, List, [], ◌∷◌, ◌++◌, Contains, IsTrue}
use Rattle.std.specs.HashSet.{contains}
use Rattle.rule_model.specs.Resolution.{LeavesWithout, IsFirstsOf}
use Rattle.equality_steps.specs.declared.firsts.Firsts.{Firsts}

-- what was seen are the literals
pub record IsFirsts (f : Firsts) : Type 0 where
  pub seen : (r : ℕ) → IsTrue (contains nat_eq f.seen r) ↔ Contains f.literals.items r

-- the literal is added at the end, where it is not there yet
abbrev pub AddsMissing : List ℕ → ℕ → List ℕ → Type 0
AddsMissing old literal new = (Contains old literal × (new ≡ old)) ⊎ ((¬ Contains old literal) × (new ≡ old ++ literal ∷ []))

-- The literals that are others than one of them are added in turn: where the list was without repeats what some literals are, it is
-- that of these and of the others.
pub record AddsOthers (other : ℕ) (old clause new : List ℕ) : Type 0 where
  pub rest : List ℕ
  pub others : LeavesWithout other clause rest
  pub firsts : (done : List ℕ) → IsFirstsOf [] done old → IsFirstsOf [] (done ++ rest) new

-- what is left of one clause without a literal, and of another without another, in turn
pub record IsLeftOver (here there : ℕ) (left right clause : List ℕ) : Type 0 where
  pub first : List ℕ
  pub one : AddsOthers here [] left first
  pub other : AddsOthers there first right clause
