-- Public. Terms as binary trees with symbols for leaves, and the cells of these trees: how terms are kept in a pool, whatever numbers
-- its symbols have (`StandsFor` of `term_pool` says the same of a table of symbols).
use Rattle.std.specs.Prelude.{pos, ℕ, ◌≤◌, List, [], ◌∷◌, ◌++◌, length, Contains}
use Rattle.std.specs.List.{AllByRecursion}
use Rattle.sym_table.specs.Leaf.{Leaf, nil, let_head, operator, function}
use Rattle.term_model.specs.Terms.{Term, Terms, Bindings, numeral, variable, operation, call, let_in, no_terms, term, no_bindings, binding}

pub data SymbolTree : Type 0 where
  symbol : Leaf → SymbolTree
  pair : SymbolTree → SymbolTree → SymbolTree

abbrev mutual
  -- the tree of a term
  pub tree_of : Term → SymbolTree
  tree_of (numeral n) = symbol (Leaf.numeral (pos n))
  tree_of (variable x) = symbol (Leaf.variable x.name x.sort)
  tree_of (operation op ts) = application_tree (operator op) ts
  tree_of (call f ts) = application_tree (function f.name f.arguments f.target) ts
  tree_of (let_in bs u) = pair (symbol let_head) (pair (bindings_tree bs) (tree_of u))

  pub application_tree : Leaf → Terms → SymbolTree
  application_tree l no_terms = symbol l
  application_tree l (term t ts) = pair (symbol l) (pair (tree_of t) (list_tree ts))

  pub list_tree : Terms → SymbolTree
  list_tree no_terms = symbol nil
  list_tree (term t ts) = pair (tree_of t) (list_tree ts)

  pub bindings_tree : Bindings → SymbolTree
  bindings_tree no_bindings = symbol nil
  bindings_tree (binding x t bs) = pair (pair (symbol (Leaf.variable x.name x.sort)) (tree_of t)) (bindings_tree bs)

-- the cells of a tree, each as often as it stands there
abbrev pub cells_of : SymbolTree → List SymbolTree
cells_of (symbol l) = []
cells_of (pair a b) = pair a b ∷ (cells_of a ++ cells_of b)

-- each cell of the tree is among these
abbrev pub HasCells : List SymbolTree → SymbolTree → Type 0
HasCells cells tree = AllByRecursion (λ c. Contains cells c) (cells_of tree)

-- the terms together have at most n distinct cells
pub record HaveFewCells (terms : List Term) (n : ℕ) : Type 0 where
  pub cells : List SymbolTree
  pub few : length cells ≤ n
  pub each : AllByRecursion (λ t. HasCells cells (tree_of t)) terms
