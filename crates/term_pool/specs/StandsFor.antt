-- Public. When a binary tree stands for a term, by a table of symbols.
-- A variable, a numeral or a symbol without arguments is a leaf. An application `(f t1 .. tn)` is the cell
-- (f, [t1 .. tn]). The list [t1 .. tn] is the cell (t1, [t2 .. tn]), and the empty list is the leaf of nil. A let
-- `(let ((x1 t1) .. (xn tn)) u)` is the cell (let, (B, u)), where B is the list of the cells (xi, ti)
-- (SMT-LIB 2.6, "Terms and Formulas"). The leaves of nil and of let are the same in every table.
use Rattle.std.specs.Prelude.{◌≡◌, pos, ℕ, List, [], ◌∷◌}
use Rattle.std.specs.List.{AllZip}
use Rattle.pair_pool.specs.Trees.{Tree, leaf, cell}
use Rattle.sym_table.specs.Leaf.{Leaf, operator, function}
use Rattle.sym_table.specs.Table.{Table, IsLeaf}
use Rattle.term_model.specs.Terms.{Var, Fun, Term, Terms, Bindings, numeral, variable, operation, call, let_in, no_terms, term, no_bindings, binding}

-- the leaves that begin every table: the end of a list, and the head of a let
abbrev pub nil_tree : Tree
nil_tree = leaf 0

abbrev pub let_tree : Tree
let_tree = leaf 1

-- the symbol of a variable, and of a declared function
abbrev pub variable_leaf : Var → Leaf
variable_leaf x = Leaf.variable x.name x.sort

abbrev pub function_leaf : Fun → Leaf
function_leaf f = function f.name f.arguments f.target

-- the tree is a leaf that the table reads as the symbol l
abbrev pub IsLeafOf : Table → Tree → Leaf → Type 0
IsLeafOf s (leaf k) l = IsLeaf s k l
IsLeafOf s (cell a b) l = ⊥

-- the tree is a cell whose parts meet P and Q
abbrev pub IsCellOf : Tree → (Tree → Type 0) → (Tree → Type 0) → Type 0
IsCellOf (leaf k) P Q = ⊥
IsCellOf (cell a b) P Q = P a × Q b

abbrev mutual
  pub StandsFor : Table → Tree → Term → Type 0
  StandsFor s tree (numeral n) = IsLeafOf s tree (Leaf.numeral (pos n))
  StandsFor s tree (variable x) = IsLeafOf s tree (variable_leaf x)
  StandsFor s tree (operation op ts) = StandsForApplication s tree (operator op) ts
  StandsFor s tree (call f ts) = StandsForApplication s tree (function_leaf f) ts
  StandsFor s tree (let_in bs u) =
      IsCellOf tree (λ head. head ≡ let_tree)
      (λ rest. IsCellOf rest (λ list. StandsForBindings s list bs) (λ body. StandsFor s body u))

  -- the application of the symbol l: a leaf where there are no arguments
  pub StandsForApplication : Table → Tree → Leaf → Terms → Type 0
  StandsForApplication s tree l no_terms = IsLeafOf s tree l
  StandsForApplication s tree l (term t ts) =
      IsCellOf tree (λ head. IsLeafOf s head l)
      (λ list. IsCellOf list (λ first. StandsFor s first t) (λ rest. StandsForList s rest ts))

  pub StandsForList : Table → Tree → Terms → Type 0
  StandsForList s tree no_terms = tree ≡ nil_tree
  StandsForList s tree (term t ts) = IsCellOf tree (λ first. StandsFor s first t) (λ rest. StandsForList s rest ts)

  pub StandsForBindings : Table → Tree → Bindings → Type 0
  StandsForBindings s tree no_bindings = tree ≡ nil_tree
  StandsForBindings s tree (binding x t bs) =
      IsCellOf tree
      (λ pair. IsCellOf pair (λ name. IsLeafOf s name (variable_leaf x)) (λ value. StandsFor s value t))
      (λ rest. StandsForBindings s rest bs)

-- trees and terms in the same order, each tree standing for its term
abbrev pub StandForAll : Table → List Tree → List Term → Type 0
StandForAll s trees ts = AllZip (StandsFor s) trees ts

-- the bindings are those of the variables' leaves to the terms that the trees stand for, in order
abbrev pub StandForValues : Table → List ℕ → List Tree → Bindings → Type 0
StandForValues s [] [] no_bindings = Unit {0}
StandForValues s [] [] (binding x t bs) = ⊥
StandForValues s [] (a ∷ trees) bs = ⊥
StandForValues s (k ∷ ks) [] bs = ⊥
StandForValues s (k ∷ ks) (a ∷ trees) no_bindings = ⊥
StandForValues s (k ∷ ks) (a ∷ trees) (binding x t bs) =
    IsLeaf s k (variable_leaf x) × StandsFor s a t × StandForValues s ks trees bs
