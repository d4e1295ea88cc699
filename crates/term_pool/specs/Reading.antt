-- Public. What the calls that read terms return.
use Rattle.std.specs.Prelude.{◌≡◌, ℕ, ◌<◌, pos, List, [], ◌∷◌, length}
use Rattle.sym_table.specs.Leaf.{operator}
use Rattle.sym_table.specs.Table.{Table, IsLeaf}
use Rattle.term_model.specs.Terms.{Var, Term, Bindings, numeral, variable, operation, call, let_in, list_of, no_bindings, binding}
use Rattle.term_pool.specs.declared.shape.Shape.{Shape}
use Rattle.term_pool.specs.StandsFor.{variable_leaf, function_leaf}
use Rattle.term_pool.specs.Views.{TermsView, RefersTo}

-- the arguments of an application, and of any other term none
abbrev pub arguments_of : Term → List Term
arguments_of (numeral n) = []
arguments_of (variable x) = []
arguments_of (operation op ts) = list_of ts
arguments_of (call f ts) = list_of ts
arguments_of (let_in bs u) = []

-- bindings as a list
abbrev pub list_of_bindings : Bindings → List (Var × Term)
list_of_bindings no_bindings = []
list_of_bindings (binding x t bs) = (x, t) ∷ list_of_bindings bs

-- the bindings of a let, and of any other term none
abbrev pub bindings_of : Term → List (Var × Term)
bindings_of (numeral n) = []
bindings_of (variable x) = []
bindings_of (operation op ts) = []
bindings_of (call f ts) = []
bindings_of (let_in bs u) = list_of_bindings bs

abbrev pub IsLet : Term → Type 0
IsLet (numeral n) = ⊥
IsLet (variable x) = ⊥
IsLet (operation op ts) = ⊥
IsLet (call f ts) = ⊥
IsLet (let_in bs u) = Unit {0}

-- the shape of a term: which leaf it is, or its head's leaf and how many arguments it has, or how many bindings
abbrev pub IsShapeOf : Table → Term → Shape → Type 0
IsShapeOf s (numeral n) shape = shape ≡ Shape.Num (pos n)
IsShapeOf s (variable x) shape = (k : ℕ) × IsLeaf s k (variable_leaf x) × (shape ≡ Shape.Var k)
IsShapeOf s (operation op ts) shape =
    (k : ℕ) × IsLeaf s k (operator op) × (shape ≡ Shape.App k (length (list_of ts)))
IsShapeOf s (call f ts) shape =
    (k : ℕ) × IsLeaf s k (function_leaf f) × (shape ≡ Shape.App k (length (list_of ts)))
IsShapeOf s (let_in bs u) shape = shape ≡ Shape.LetTerm (length (list_of_bindings bs))

-- by some table, r stands for an application with an argument at place i, counted from 0
pub record HasArgument (v : TermsView) (r i : ℕ) : Type 0 where
  pub symbols : Table
  pub means : Term
  pub refers : RefersTo symbols v r means
  pub there : i < length (arguments_of means)

-- by some table, r stands for a let with a binding at place i, counted from 0
pub record HasBinding (v : TermsView) (r i : ℕ) : Type 0 where
  pub symbols : Table
  pub means : Term
  pub refers : RefersTo symbols v r means
  pub there : i < length (bindings_of means)

-- by some table, r stands for a let
pub record IsLetTerm (v : TermsView) (r : ℕ) : Type 0 where
  pub symbols : Table
  pub bindings : Bindings
  pub body : Term
  pub refers : RefersTo symbols v r (let_in bindings body)
