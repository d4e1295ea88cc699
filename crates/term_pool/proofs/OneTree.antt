-- A term has one tree.
use Rattle.std.proofs.Common.{◌≡◌, ℕ, refl, sym, ◌∙◌, ap, pos}
use Rattle.pair_pool.specs.Trees.{Tree, leaf, cell}
use Rattle.sym_table.specs.Leaf.{Leaf, operator}
use Rattle.sym_table.specs.Table.{Table, IsTable}
use Rattle.term_model.specs.Terms.{Term, Terms, Bindings, numeral, variable, operation, call, let_in, no_terms, term, no_bindings, binding}
use Rattle.term_pool.specs.StandsFor.{variable_leaf, function_leaf, IsLeafOf, IsCellOf, StandsFor, StandsForApplication, StandsForList, StandsForBindings}

one_leaf : (s : Table) → IsTable s → (l : Leaf) (a b : Tree) → IsLeafOf s a l → IsLeafOf s b l → a ≡ b
one_leaf s h l (leaf j) (leaf k) p q = ap (λ (n : ℕ). leaf n) (h.apart j k l l p q refl refl)
one_leaf s h l (leaf j) (cell c d) p q = absurd q
one_leaf s h l (cell c d) b p q = absurd p

one_cell : (a b : Tree) (P Q : Tree → Type 0) → ((x y : Tree) → P x → P y → x ≡ y) → ((x y : Tree) → Q x → Q y → x ≡ y) → IsCellOf a P Q → IsCellOf b P Q → a ≡ b
one_cell (leaf j) b P Q one_first one_second p q = absurd p
one_cell (cell c d) (leaf k) P Q one_first one_second p q = absurd q
one_cell (cell c d) (cell e f) P Q one_first one_second p q =
    let first = one_first c e p.0 q.0 in let second = one_second d f p.1 q.1 in cc

mutual
  pub one_tree : (s : Table) → IsTable s → (t : Term) (a b : Tree) → StandsFor s a t → StandsFor s b t → a ≡ b
  one_tree s h (numeral n) a b p q = one_leaf s h (Leaf.numeral (pos n)) a b p q
  one_tree s h (variable x) a b p q = one_leaf s h (variable_leaf x) a b p q
  one_tree s h (operation op ts) a b p q = one_application s h (operator op) ts a b p q
  one_tree s h (call f ts) a b p q = one_application s h (function_leaf f) ts a b p q
  one_tree s h (let_in bs u) a b p q =
      one_cell a b _ _ (λ x y e f. e ∙ sym f)
      (λ x y v w. one_cell x y _ _ (one_bindings s h bs) (one_tree s h u) v w) p q

  one_application : (s : Table) → IsTable s → (l : Leaf) (ts : Terms) (a b : Tree) → StandsForApplication s a l ts → StandsForApplication s b l ts → a ≡ b
  one_application s h l no_terms a b p q = one_leaf s h l a b p q
  one_application s h l (term t ts) a b p q =
      one_cell a b _ _ (one_leaf s h l)
      (λ x y v w. one_cell x y _ _ (one_tree s h t) (one_list s h ts) v w) p q

  one_list : (s : Table) → IsTable s → (ts : Terms) (a b : Tree) → StandsForList s a ts → StandsForList s b ts → a ≡ b
  one_list s h no_terms a b p q = p ∙ sym q
  one_list s h (term t ts) a b p q = one_cell a b _ _ (one_tree s h t) (one_list s h ts) p q

  one_bindings : (s : Table) → IsTable s → (bs : Bindings) (a b : Tree) → StandsForBindings s a bs → StandsForBindings s b bs → a ≡ b
  one_bindings s h no_bindings a b p q = p ∙ sym q
  one_bindings s h (binding x t bs) a b p q =
      one_cell a b _ _
      (λ c d v w. one_cell c d _ _ (one_leaf s h (variable_leaf x)) (one_tree s h t) v w)
      (one_bindings s h bs) p q
