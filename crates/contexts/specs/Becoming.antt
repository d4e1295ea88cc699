-- Private. What the tree of a term becomes when trees are put in for leaves, where lets go on binding.
use Rattle.std.specs.Prelude.{◌≡◌, ℕ, List, ◌++◌, Option, Some, None, nat_eq, if◌then◌else◌}
use Rattle.std.specs.HashMap.{HashMap, get}
use Rattle.std.specs.List.{list_any}
use Rattle.std.specs.declared.hash.BuildHasherDefault.{BuildHasherDefault}
use Rattle.std.specs.declared.hash.FoldHasher.{FoldHasher}
use Rattle.pair_pool.specs.Trees.{Tree, leaf, cell}
use Rattle.pair_pool.specs.Views.{PassView, Knows}
use Rattle.term_pool.specs.Heights.{is_let_head}
use Rattle.term_pool.specs.Trees.{pair_leaves}

-- what is put in for leaf k: f k, unless a let around it binds it
abbrev pub image : (ℕ → Tree) → List ℕ → ℕ → Tree
image f hidden k = if list_any (nat_eq k) hidden then leaf k else f k

-- the tree, where the leaves that lets around it bind are these
abbrev mutual
  pub becomes : (ℕ → Tree) → List ℕ → Tree → Tree
  becomes f hidden (leaf k) = image f hidden k
  becomes f hidden (cell a b) =
      if is_let_head a then cell a (let_becomes f hidden b) else cell (becomes f hidden a) (becomes f hidden b)

  pub let_becomes : (ℕ → Tree) → List ℕ → Tree → Tree
  let_becomes f hidden (leaf k) = leaf k
  let_becomes f hidden (cell list u) = cell (bindings_become f hidden list) (becomes f (hidden ++ pair_leaves list) u)

  -- a let binds nothing in the values that it gives
  pub bindings_become : (ℕ → Tree) → List ℕ → Tree → Tree
  bindings_become f hidden (leaf k) = leaf k
  bindings_become f hidden (cell pair rest) = cell (binding_becomes f hidden pair) (bindings_become f hidden rest)

  pub binding_becomes : (ℕ → Tree) → List ℕ → Tree → Tree
  binding_becomes f hidden (leaf k) = leaf k
  binding_becomes f hidden (cell x t) = cell x (becomes f hidden t)

-- what is put in for leaves, by references
abbrev pub Images : Type 0
Images = HashMap ℕ ℕ (BuildHasherDefault FoldHasher)

-- what is put in for a leaf, by a look-up in the map
abbrev pub Look : Type 0
Look = ℕ → Option ℕ

abbrev pub look_of : Images → Look
look_of images k = get nat_eq images k

abbrev pub IsImageAt : PassView → Option ℕ → ℕ → Tree → Type 0
IsImageAt pass None k t = t ≡ leaf k
IsImageAt pass (Some r) k t = Knows pass r t

abbrev pub AreImages : PassView → Images → (ℕ → Tree) → Type 0
AreImages pass images f = (k : ℕ) → IsImageAt pass (get nat_eq images k) k (f k)

-- the images are known
pub record HasImages (pass : PassView) (images : Images) : Type 0 where
  pub trees : ℕ → Tree
  pub are : AreImages pass images trees
