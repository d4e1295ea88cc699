-- Private. Which leaves stand free in the tree of a term: not under a let that binds them.
use Rattle.std.specs.Prelude.{◌≡◌, ◌⊎◌, ℕ}
use Rattle.pair_pool.specs.Trees.{Tree, leaf, cell}
use Rattle.term_pool.specs.Heights.{is_let_head}
use Rattle.contexts.specs.Shapes.{Either}

-- the binding, and the list of bindings, binds the variable with this leaf
abbrev pub IsBinder : ℕ → Tree → Type 0
IsBinder k (leaf j) = ⊥
IsBinder k (cell x t) = x ≡ leaf k

abbrev pub BindsLeaf : ℕ → Tree → Type 0
BindsLeaf k (leaf j) = ⊥
BindsLeaf k (cell pair rest) = IsBinder k pair ⊎ BindsLeaf k rest

abbrev mutual
  pub IsFreeLeaf : ℕ → Tree → Type 0
  IsFreeLeaf k (leaf j) = j ≡ k
  IsFreeLeaf k (cell a b) = Either (is_let_head a) (IsFreeInLet k b) (IsFreeLeaf k a ⊎ IsFreeLeaf k b)

  -- in the cell of a let's bindings and its body
  pub IsFreeInLet : ℕ → Tree → Type 0
  IsFreeInLet k (leaf j) = ⊥
  IsFreeInLet k (cell list u) = IsFreeInValues k list ⊎ ((¬ BindsLeaf k list) × IsFreeLeaf k u)

  -- in the values of a list of bindings, and in that of one
  pub IsFreeInValues : ℕ → Tree → Type 0
  IsFreeInValues k (leaf j) = ⊥
  IsFreeInValues k (cell pair rest) = IsFreeInValue k pair ⊎ IsFreeInValues k rest

  pub IsFreeInValue : ℕ → Tree → Type 0
  IsFreeInValue k (leaf j) = ⊥
  IsFreeInValue k (cell x t) = IsFreeLeaf k t
