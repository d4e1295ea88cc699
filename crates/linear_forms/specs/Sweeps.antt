-- Private. Sweeps over numbered nodes: what each turn comes to, and what is kept.
use Rattle.std.specs.Prelude.{◌≡◌, ◌≢◌, ℕ, ℤ, pos, ◌+◌, ◌<◌, ◌≤◌, ◌^◌, ◌+ℤ◌, ◌*ℤ◌, unsigned_abs, List, [], ◌∷◌, ◌++◌, All, length, slice_index_or, slice_set}
use Rattle.std.specs.Prelude.{◌⊎◌}
use Rattle.linear_forms.specs.declared.nodes.Node.{Node}
use Rattle.linear_forms.specs.declared.nodes.Node.TheVariants.{Number, Opaque, Multiple, Sum}
use Rattle.linear_forms.specs.declared.nodes.Coefficient.{Coefficient}
pub use Rattle.linear_forms.specs.Coefficients.{AreOfDifferentTerms}
use Rattle.linear_forms.specs.Factors.{passed, total, load, total_value, sizes_of, CountsUnits, IsWeighed, IsAbove}

-- the node of a number, where there is one
abbrev pub node_at : List Node → ℕ → Node
node_at nodes k = slice_index_or nodes k (Number (pos 0))

abbrev pub factor_at : List ℤ → ℕ → ℤ
factor_at factors k = slice_index_or factors k (pos 0)

-- where a sweep stands: the factors that are left, the constant, and the coefficients of the opaque terms that were passed
pub record SweepState : Type 0 where
  pub factors : List ℤ
  pub constant : ℤ
  pub found : List Coefficient

abbrev pub state : List ℤ → ℤ → List Coefficient → SweepState
state factors constant found = record { factors = factors; constant = constant; found = found }

-- the parts of each node are lower
abbrev pub AreOrdered : List Node → Type 0
AreOrdered nodes = (k : ℕ) → k < length nodes → IsAbove k (node_at nodes k)

-- Weights of nodes. A node of a weight that is too wide is never passed on, so of that nothing is asked.
pub record AreWeighed (nodes : List Node) (w : ℕ → ℕ) : Type 0 where
  pub positive : (k : ℕ) → 1 ≤ w k
  pub each : (k : ℕ) → k < length nodes → w k < 2 ^ 127 → IsWeighed w (node_at nodes k) (w k)

-- values of nodes, where opaque terms have values by their references
abbrev pub AreCounted : List Node → (ℕ → ℕ) → ℤ → (ℕ → ℤ) → (ℕ → ℤ) → Type 0
AreCounted nodes w unit o v = (k : ℕ) → k < length nodes → w k < 2 ^ 127 → CountsUnits unit o v (node_at nodes k) (v k)

abbrev pub load_in : (ℕ → ℕ) → SweepState → ℕ
load_in w s = unsigned_abs s.constant + (load w s.factors + sizes_of s.found)

abbrev pub total_in : ℤ → (ℕ → ℤ) → (ℕ → ℤ) → SweepState → ℤ
total_in unit o v s = s.constant *ℤ unit +ℤ (total v s.factors +ℤ total_value o s.found)

-- what a node's turn comes to, where its factor is taken and not 0
abbrev pub without : SweepState → ℕ → SweepState
without s k = record s { factors = slice_set s.factors k (pos 0) }

abbrev pub after_turn : Node → ℤ → SweepState → SweepState
after_turn (Number n) factor s = record s { constant = s.constant +ℤ factor *ℤ n }
after_turn (Opaque r) factor s = record s { found = s.found ++ record { term = r; number = factor } ∷ [] }
after_turn (Multiple p) factor s = record s { factors = passed (Multiple p) factor s.factors }
after_turn (Sum p q) factor s = record s { factors = passed (Sum p q) factor s.factors }

-- a node has had its turn
abbrev pub IsNodeSwept : List Node → ℕ → SweepState → SweepState → Type 0
IsNodeSwept nodes k s new =
    ((factor_at s.factors k ≡ pos 0) × (new ≡ without s k))
    ⊎ ((factor_at s.factors k ≢ pos 0) × (new ≡ after_turn (node_at nodes k) (factor_at s.factors k) (without s k)))

-- there is room for a turn of the node k
pub record CanSettle (nodes : List Node) (k : ℕ) (s : SweepState) : Type 0 where
  pub weights : ℕ → ℕ
  pub weighed : AreWeighed nodes weights
  pub within : load_in weights s < 2 ^ 127
  pub ordered : AreOrdered nodes
  pub long : length s.factors ≡ length nodes
  pub there : k < length nodes

-- a node from k on is this opaque term
pub record IsOpaqueFrom (nodes : List Node) (k r : ℕ) : Type 0 where
  pub number : ℕ
  pub from : k ≤ number
  pub node : node_at nodes number ≡ Opaque r

-- an opaque term has one node
abbrev pub HaveOwnNodes : List Node → Type 0
HaveOwnNodes nodes = (i j r : ℕ) → node_at nodes i ≡ Opaque r → node_at nodes j ≡ Opaque r → i ≡ j

-- a sweep has come from the state s down to the node k
pub record IsSweeping (nodes : List Node) (s now : SweepState) (k : ℕ) : Type 0 where
  pub long : length now.factors ≡ length nodes
  pub kept :
      (w : ℕ → ℕ) (unit : ℤ) (o v : ℕ → ℤ) → AreWeighed nodes w → load_in w s < 2 ^ 127 → AreCounted nodes w unit o v →
      total_in unit o v now ≡ total_in unit o v s
  pub light : (w : ℕ → ℕ) → AreWeighed nodes w → load_in w s < 2 ^ 127 → load_in w now ≤ load_in w s
  pub passed : (j : ℕ) → k ≤ j → factor_at now.factors j ≡ pos 0
  pub from : All (λ (c : Coefficient). IsOpaqueFrom nodes k c.term) now.found
  pub apart : HaveOwnNodes nodes → AreOfDifferentTerms now.found
  pub others : All (λ (c : Coefficient). c.number ≢ pos 0) now.found

abbrev pub starting : List ℤ → SweepState
starting factors = state factors (pos 0) []

-- there is room for a sweep
pub record CanSweep (nodes : List Node) (factors : List ℤ) : Type 0 where
  pub weights : ℕ → ℕ
  pub weighed : AreWeighed nodes weights
  pub within : load weights factors < 2 ^ 127
  pub ordered : AreOrdered nodes
  pub long : length factors ≡ length nodes

-- the sum of multiples of nodes is this constant and these coefficients
pub record IsSwept (nodes : List Node) (factors : List ℤ) (constant : ℤ) (found : List Coefficient) : Type 0 where
  pub kept :
      (w : ℕ → ℕ) (unit : ℤ) (o v : ℕ → ℤ) → AreWeighed nodes w → load w factors < 2 ^ 127 → AreCounted nodes w unit o v →
      constant *ℤ unit +ℤ total_value o found ≡ total v factors
  pub light : (w : ℕ → ℕ) → AreWeighed nodes w → load w factors < 2 ^ 127 → unsigned_abs constant + sizes_of found ≤ load w factors
  pub from : All (λ (c : Coefficient). IsOpaqueFrom nodes 0 c.term) found
  pub apart : HaveOwnNodes nodes → AreOfDifferentTerms found
  pub others : All (λ (c : Coefficient). c.number ≢ pos 0) found
