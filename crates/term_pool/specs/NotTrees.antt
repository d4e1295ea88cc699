-- Private. The trees of leading negations, and references that are known to be such.
use Rattle.std.specs.Prelude.{ℕ, zero, suc}
use Rattle.pair_pool.specs.Trees.{Tree, leaf, cell}
use Rattle.pair_pool.specs.Views.{PassView, Knows}
use Rattle.term_pool.specs.StandsFor.{nil_tree}

-- the tree of the application of leaf k to one argument, and of so many of them
abbrev pub not_tree : ℕ → Tree → Tree
not_tree k t = cell (leaf k) (cell t nil_tree)

abbrev pub nots_tree : ℕ → ℕ → Tree → Tree
nots_tree k zero t = t
nots_tree k (suc n) t = not_tree k (nots_tree k n t)

-- r is known as the application of leaf k to one argument, which is `inner`
pub record IsNotOf (pass : PassView) (k r inner : ℕ) : Type 0 where
  pub tree : Tree
  pub inner_known : Knows pass inner tree
  pub known : Knows pass r (not_tree k tree)

-- r is known as n applications of leaf k to one argument, below which is `inner`, which is none
pub record IsUnderNots (pass : PassView) (k r n inner : ℕ) : Type 0 where
  pub tree : Tree
  pub inner_known : Knows pass inner tree
  pub known : Knows pass r (nots_tree k n tree)
  pub bare : (t : Tree) → Knows pass inner (not_tree k t) → ⊥
