-- Private. Factors of numbered nodes, and how one is passed on to the parts of its node.
use Rattle.std.specs.Prelude.{◌≡◌, ℕ, ℤ, pos, suc, ◌+◌, ◌*◌, ◌<◌, ◌≤◌, ◌^◌, ◌+ℤ◌, ◌*ℤ◌, unsigned_abs, List, [], ◌∷◌, length, slice_index_or, slice_set}
use Rattle.linear_forms.specs.declared.nodes.Node.{Node}
use Rattle.linear_forms.specs.declared.nodes.Node.TheVariants.{Number, Opaque, Multiple, Sum}
use Rattle.linear_forms.specs.declared.nodes.Coefficient.{Coefficient}
pub use Rattle.linear_forms.specs.Coefficients.{sizes_of}

-- with so much added to a factor
abbrev pub added : List ℤ → ℕ → ℤ → List ℤ
added factors i n = slice_set factors i (slice_index_or factors i (pos 0) +ℤ n)

abbrev pub passed : Node → ℤ → List ℤ → List ℤ
passed (Number n) factor factors = factors
passed (Opaque r) factor factors = factors
passed (Multiple p) factor factors = added factors p.node (factor *ℤ p.times)
passed (Sum p q) factor factors = added (added factors p.node (factor *ℤ p.times)) q.node (factor *ℤ q.times)

abbrev pub passed_number : Node → ℤ → ℤ → ℤ
passed_number (Number n) factor constant = constant +ℤ factor *ℤ n
passed_number (Opaque r) factor constant = constant
passed_number (Multiple p) factor constant = constant
passed_number (Sum p q) factor constant = constant

-- the sum of all factors times the values of their nodes, and the same in absolute value
abbrev pub total : (ℕ → ℤ) → List ℤ → ℤ
total v [] = pos 0
total v (f ∷ fs) = f *ℤ v 0 +ℤ total (λ k. v (suc k)) fs

abbrev pub load : (ℕ → ℕ) → List ℤ → ℕ
load w [] = 0
load w (f ∷ fs) = unsigned_abs f * w 0 + load (λ k. w (suc k)) fs

-- the same of coefficients, where opaque terms have these values by their references
abbrev pub total_value : (ℕ → ℤ) → List Coefficient → ℤ
total_value o [] = pos 0
total_value o (c ∷ cs) = c.number *ℤ o c.term +ℤ total_value o cs

-- a node has this value where its parts have theirs; a number counts so many units
abbrev pub CountsUnits : ℤ → (ℕ → ℤ) → (ℕ → ℤ) → Node → ℤ → Type 0
CountsUnits unit o v (Number n) z = z ≡ n *ℤ unit
CountsUnits unit o v (Opaque r) z = z ≡ o r
CountsUnits unit o v (Multiple p) z = z ≡ p.times *ℤ v p.node
CountsUnits unit o v (Sum p q) z = z ≡ p.times *ℤ v p.node +ℤ q.times *ℤ v q.node

-- a node weighs at least as much as its parts together
abbrev pub IsWeighed : (ℕ → ℕ) → Node → ℕ → Type 0
IsWeighed w (Number n) m = unsigned_abs n ≤ m
IsWeighed w (Opaque r) m = Unit {0}
IsWeighed w (Multiple p) m = unsigned_abs p.times * w p.node ≤ m
IsWeighed w (Sum p q) m = unsigned_abs p.times * w p.node + unsigned_abs q.times * w q.node ≤ m

-- the parts of a node are below a number
abbrev pub IsAbove : ℕ → Node → Type 0
IsAbove k (Number n) = Unit {0}
IsAbove k (Opaque r) = Unit {0}
IsAbove k (Multiple p) = p.node < k
IsAbove k (Sum p q) = (p.node < k) × (q.node < k)

-- there is room for what a node passes on, since its weight bounds it
pub record HasRoomToPass (node : Node) (factor constant : ℤ) (factors : List ℤ) : Type 0 where
  pub weights : ℕ → ℕ
  pub own : ℕ
  pub positive : (k : ℕ) → 1 ≤ weights k
  pub parts : IsAbove (length factors) node
  pub weighed : IsWeighed weights node own
  pub within : unsigned_abs factor * own + (unsigned_abs constant + load weights factors) < 2 ^ 127
