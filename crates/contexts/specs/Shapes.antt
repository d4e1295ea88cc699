-- Private. The trees that walks over the cells of a term meet: those of terms and of lists of terms, where the head of a
-- let is followed by the cell of its bindings and its body, and each binding is the cell of a leaf and a tree.
use Rattle.std.specs.Prelude.{ℕ, Bool, true, false, ⊤}
use Rattle.pair_pool.specs.Trees.{Tree, leaf, cell}
use Rattle.pair_pool.specs.Views.{PassView, Knows}
use Rattle.term_pool.specs.Heights.{is_let_head}

-- of two statements the first where the test is true, and else the second
abbrev pub Either : Bool → Type 0 → Type 0 → Type 0
Either true P Q = P
Either false P Q = Q

abbrev mutual
  pub HasShape : Tree → Type 0
  HasShape (leaf k) = ⊤
  HasShape (cell a b) = Either (is_let_head a) (HasLetShape b) (HasShape a × HasShape b)

  -- the cell of bindings and a body
  pub HasLetShape : Tree → Type 0
  HasLetShape (leaf k) = ⊥
  HasLetShape (cell list u) = HasListShape list × HasShape u

  -- a list of bindings
  pub HasListShape : Tree → Type 0
  HasListShape (leaf k) = ⊤
  HasListShape (cell pair rest) = HasPairShape pair × HasListShape rest

  -- the cell of a variable's leaf and its value
  pub HasPairShape : Tree → Type 0
  HasPairShape (leaf k) = ⊥
  HasPairShape (cell (leaf k) t) = HasShape t
  HasPairShape (cell (cell c d) t) = ⊥

-- r is known as such a tree
pub record IsShaped (pass : PassView) (r : ℕ) : Type 0 where
  pub tree : Tree
  pub known : Knows pass r tree
  pub shape : HasShape tree

-- r is known as the cell of bindings and a body
pub record IsLetRest (pass : PassView) (r : ℕ) : Type 0 where
  pub tree : Tree
  pub known : Knows pass r tree
  pub shape : HasLetShape tree

-- r is known as a list of bindings
pub record IsBindingList (pass : PassView) (r : ℕ) : Type 0 where
  pub tree : Tree
  pub known : Knows pass r tree
  pub shape : HasListShape tree
