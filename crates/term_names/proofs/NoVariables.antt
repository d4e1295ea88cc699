-- Where the table has no leaf of a variable, none stands free in a term over it.
use Rattle.std.proofs.Common.{ℕ, [], inl, inr}
use Rattle.sym_table.specs.Leaf.{Leaf, operator}
use Rattle.sym_table.specs.Table.{Table, IsLeaf}
use Rattle.pair_pool.specs.Trees.{Tree, leaf, cell}
use Rattle.term_model.specs.FreeVariables.{IsFree, IsFreeAmong, IsFreeBound}
use Rattle.term_model.specs.Terms.{Var, Term, numeral, variable, operation, call, let_in, Terms, no_terms, term, Bindings, no_bindings, binding}
use Rattle.term_model.proofs.Lists.{contains_none}
use Rattle.term_pool.specs.StandsFor.{StandsFor, StandsForApplication, StandsForList, StandsForBindings, variable_leaf, function_leaf}
use Rattle.term_pool.specs.Views.{TermsView, RefersTo}
use Rattle.term_expansion.specs.Free.{AddsLeaves}

-- no leaf is that of a variable
abbrev pub HasNoVariables : Table → Type 0
HasNoVariables s = (k : ℕ) (x : Var) → IsLeaf s k (variable_leaf x) → ⊥

mutual
  closed : (s : Table) → HasNoVariables s → (t : Term) (tree : Tree) → StandsFor s tree t → (x : Var) → IsFree x t → ⊥
  closed s none (numeral n) tree p x free = free
  closed s none (variable y) (leaf k) p x free = none k y p
  closed s none (variable y) (cell a b) p x free = p
  closed s none (operation op ts) tree p x free = closed_application s none ts (operator op) tree p x free
  closed s none (call f ts) tree p x free = closed_application s none ts (function_leaf f) tree p x free
  closed s none (let_in bs u) (leaf k) p x free = p
  closed s none (let_in bs u) (cell head (leaf k)) p x free = p.1
  closed s none (let_in bs u) (cell head (cell list body)) p x (inl free) = closed_bindings s none bs list p.1.0 x free
  closed s none (let_in bs u) (cell head (cell list body)) p x (inr free) = closed s none u body p.1.1 x free.1

  closed_application : (s : Table) → HasNoVariables s → (ts : Terms) (l : Leaf) (tree : Tree) → StandsForApplication s tree l ts → (x : Var) → IsFreeAmong x ts → ⊥
  closed_application s none no_terms l tree p x free = free
  closed_application s none (term t ts) l (leaf k) p x free = p
  closed_application s none (term t ts) l (cell head (leaf k)) p x free = p.1
  closed_application s none (term t ts) l (cell head (cell first rest)) p x (inl free) = closed s none t first p.1.0 x free
  closed_application s none (term t ts) l (cell head (cell first rest)) p x (inr free) = closed_list s none ts rest p.1.1 x free

  closed_list : (s : Table) → HasNoVariables s → (ts : Terms) (tree : Tree) → StandsForList s tree ts → (x : Var) → IsFreeAmong x ts → ⊥
  closed_list s none no_terms tree p x free = free
  closed_list s none (term t ts) (leaf k) p x free = p
  closed_list s none (term t ts) (cell first rest) p x (inl free) = closed s none t first p.0 x free
  closed_list s none (term t ts) (cell first rest) p x (inr free) = closed_list s none ts rest p.1 x free

  -- what is bound is a variable of the table
  closed_bindings : (s : Table) → HasNoVariables s → (bs : Bindings) (tree : Tree) → StandsForBindings s tree bs → (x : Var) → IsFreeBound x bs → ⊥
  closed_bindings s none no_bindings tree p x free = free
  closed_bindings s none (binding y t bs) (leaf k) p x free = p
  closed_bindings s none (binding y t bs) (cell (leaf k) rest) p x free = p.0
  closed_bindings s none (binding y t bs) (cell (cell (leaf k) value) rest) p x free = none k y p.0.0
  closed_bindings s none (binding y t bs) (cell (cell (cell a b) value) rest) p x free = p.0.0

-- so there are no leaves of free variables
pub none-free : (s : Table) (v : TermsView) (r : ℕ) → HasNoVariables s → (t : Term) → RefersTo s v r t → AddsLeaves s [] [] (λ x. IsFree x t)
none-free s v r none t h = record {
  kept = λ k c. c;
  all = λ x free. absurd (closed s none t h.tree h.stands x free);
  only = λ k c. absurd (contains_none k c);
}
