-- Public. How many cells terms have in sum, where each is counted as often as it stands there.
use Rattle.std.specs.Prelude.{ℕ, ◌+◌, List, [], ◌∷◌}
use Rattle.term_model.specs.Terms.{Term, Terms, Bindings, numeral, variable, operation, call, let_in, no_terms, term, no_bindings, binding}

abbrev mutual
  -- a let has a cell for its head and one for its bindings with its body
  pub cells_in : Term → ℕ
  cells_in (numeral n) = 0
  cells_in (variable x) = 0
  cells_in (operation op ts) = cells_in_application ts
  cells_in (call f ts) = cells_in_application ts
  cells_in (let_in bs u) = 2 + cells_in_bindings bs + cells_in u

  -- an application has a cell for its head with its arguments, where it has some
  pub cells_in_application : Terms → ℕ
  cells_in_application no_terms = 0
  cells_in_application (term t ts) = 2 + cells_in t + cells_in_list ts

  -- a list has a cell for each item
  pub cells_in_list : Terms → ℕ
  cells_in_list no_terms = 0
  cells_in_list (term t ts) = 1 + cells_in t + cells_in_list ts

  -- a binding has a cell, and another one in the list of them
  pub cells_in_bindings : Bindings → ℕ
  cells_in_bindings no_bindings = 0
  cells_in_bindings (binding x t bs) = 2 + cells_in t + cells_in_bindings bs

-- the terms together
abbrev pub cells_in_all : List Term → ℕ
cells_in_all [] = 0
cells_in_all (t ∷ ts) = cells_in t + cells_in_all ts
