-- Cited by crates above. A tree that stands for a term by a table does so by a table that keeps its leaves.
use Rattle.std.proofs.Common.{pos}
use Rattle.pair_pool.specs.Trees.{Tree, leaf, cell}
use Rattle.sym_table.specs.Leaf.{Leaf, operator}
use Rattle.sym_table.specs.Table.{Table, Keeps}
use Rattle.term_model.specs.Terms.{Term, Terms, Bindings, numeral, variable, operation, call, let_in, no_terms, term, no_bindings, binding}
use Rattle.term_pool.specs.StandsFor.{variable_leaf, function_leaf, IsLeafOf, IsCellOf, StandsFor, StandsForApplication, StandsForList, StandsForBindings}

leaf_stays : (s z : Table) → Keeps s z → (l : Leaf) (a : Tree) → IsLeafOf s a l → IsLeafOf z a l
leaf_stays s z h l (leaf k) p = h.leaves k l p
leaf_stays s z h l (cell a b) p = absurd p

cell_stays : (a : Tree) (P Q R S : Tree → Type 0) → ((x : Tree) → P x → R x) → ((x : Tree) → Q x → S x) → IsCellOf a P Q → IsCellOf a R S
cell_stays (leaf k) P Q R S first second p = absurd p
cell_stays (cell a b) P Q R S first second p = (first a p.0, second b p.1)

mutual
  pub stays : (s z : Table) → Keeps s z → (t : Term) (a : Tree) → StandsFor s a t → StandsFor z a t
  stays s z h (numeral n) a p = leaf_stays s z h (Leaf.numeral (pos n)) a p
  stays s z h (variable x) a p = leaf_stays s z h (variable_leaf x) a p
  stays s z h (operation op ts) a p = application_stays s z h (operator op) ts a p
  stays s z h (call f ts) a p = application_stays s z h (function_leaf f) ts a p
  stays s z h (let_in bs u) a p =
      cell_stays a _ _ _ _ (λ x e. e) (λ x q. cell_stays x _ _ _ _ (bindings_stay s z h bs) (stays s z h u) q) p

  application_stays : (s z : Table) → Keeps s z → (l : Leaf) (ts : Terms) (a : Tree) → StandsForApplication s a l ts → StandsForApplication z a l ts
  application_stays s z h l no_terms a p = leaf_stays s z h l a p
  application_stays s z h l (term t ts) a p =
      cell_stays a _ _ _ _ (leaf_stays s z h l)
      (λ x q. cell_stays x _ _ _ _ (stays s z h t) (list_stays s z h ts) q) p

  list_stays : (s z : Table) → Keeps s z → (ts : Terms) (a : Tree) → StandsForList s a ts → StandsForList z a ts
  list_stays s z h no_terms a p = p
  list_stays s z h (term t ts) a p = cell_stays a _ _ _ _ (stays s z h t) (list_stays s z h ts) p

  bindings_stay : (s z : Table) → Keeps s z → (bs : Bindings) (a : Tree) → StandsForBindings s a bs → StandsForBindings z a bs
  bindings_stay s z h no_bindings a p = p
  bindings_stay s z h (binding x t bs) a p =
      cell_stays a _ _ _ _
      (λ y q. cell_stays y _ _ _ _ (leaf_stays s z h (variable_leaf x)) (stays s z h t) q)
      (bindings_stay s z h bs) p
