-- Public. Lists of leaves that are those of variables.
use Rattle.std.specs.Prelude.{◌≡◌, ◌⊎◌, ℕ, List, Contains}
use Rattle.sym_table.specs.Table.{Table, IsLeaf}
use Rattle.term_model.specs.Terms.{Var}
use Rattle.term_pool.specs.StandsFor.{variable_leaf}

-- These are the leaves of the variables: each leaf is that of one of them, and each of them has its leaf there.
pub record AreFreeLeaves (s : Table) (leaves : List ℕ) (xs : List Var) : Type 0 where
  pub each : (k : ℕ) → Contains leaves k → (x : Var) × IsLeaf s k (variable_leaf x) × Contains xs x
  pub all : (x : Var) → Contains xs x → (k : ℕ) × IsLeaf s k (variable_leaf x) × Contains leaves k

-- the list has the leaf of the variable
abbrev pub HasVariable : Table → List ℕ → Var → Type 0
HasVariable s leaves x = (k : ℕ) × IsLeaf s k (variable_leaf x) × Contains leaves k

-- the leaf is that of a variable that meets P
abbrev pub IsLeafOfSome : Table → ℕ → (Var → Type 0) → Type 0
IsLeafOfSome s k P = (x : Var) × IsLeaf s k (variable_leaf x) × P x

-- the new list has what the old one had, the leaves of the variables that meet P, and no others
pub record AddsLeaves (s : Table) (old new : List ℕ) (P : Var → Type 0) : Type 0 where
  pub kept : (k : ℕ) → Contains old k → Contains new k
  pub all : (x : Var) → P x → HasVariable s new x
  pub only : (k : ℕ) → Contains new k → Contains old k ⊎ IsLeafOfSome s k P

-- the new list has what the old one had and k, and no others
pub record AddsOne (old new : List ℕ) (k : ℕ) : Type 0 where
  pub kept : (j : ℕ) → Contains old j → Contains new j
  pub here : Contains new k
  pub only : (j : ℕ) → Contains new j → Contains old j ⊎ (j ≡ k)

-- the new list has what the old one had and those leaves that are not bound, and no others
pub record AddsUnbound (leaves bound old new : List ℕ) : Type 0 where
  pub kept : (k : ℕ) → Contains old k → Contains new k
  pub all : (k : ℕ) → Contains leaves k → ¬ Contains bound k → Contains new k
  pub only : (k : ℕ) → Contains new k → Contains old k ⊎ (Contains leaves k × (¬ Contains bound k))
