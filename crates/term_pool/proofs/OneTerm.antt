-- Cited by crates above. A tree stands for one term: it can be decoded.
use Rattle.std.proofs.Common.{◌≡◌, ℕ, refl, ap, ◌∙◌, pos, Option, Some}
use Rattle.pair_pool.specs.Trees.{Tree, leaf, cell}
use Rattle.pair_pool.specs.Views.{IsOneToOne, HasPartsOfTrees}
use Rattle.pair_pool.specs.Decoding.{HasTreesWithin}
use Rattle.sym_table.specs.Leaf.{Leaf, operator, let_head}
use Rattle.sym_table.specs.Table.{Table, IsLeaf, IsTable}
use Rattle.term_model.specs.Terms.{Term, Terms, Bindings, numeral, variable, operation, call, let_in, no_terms, term, no_bindings, binding}
use Rattle.term_pool.specs.Decoding.{leaf_term, applied_where, cell_term, leaf_at, decode, decode_list, decode_bindings, HasTermsAt}
use Rattle.term_pool.specs.StandsFor.{variable_leaf, function_leaf, IsLeafOf, StandsFor, StandsForList, StandsForBindings}
use Rattle.term_pool.specs.Views.{TermsView}
use Rattle.term_pool.proofs.Depth.{depth-bound}

leaf_at-is : (s : Table) (a : Tree) (l : Leaf) → IsLeafOf s a l → leaf_at s a ≡ Some l
leaf_at-is s (leaf k) l p = p
leaf_at-is s (cell a b) l p = absurd p

decode-leaf : (s : Table) (a : Tree) (l : Leaf) → IsLeafOf s a l → decode s a ≡ leaf_term (Some l)
decode-leaf s (leaf k) l p = ap leaf_term p
decode-leaf s (cell a b) l p = absurd p

applied-leaf : (s : Table) (k : ℕ) (l : Leaf) (f : Terms → Term) → leaf_at s (leaf k) ≡ Some l → (ts : Option Terms) (u : Option Term) → cell_term (Some l) ts u ≡ applied_where f ts → cell_term (leaf_at s (leaf k)) ts u ≡ applied_where f ts
applied-leaf s k l f e ts u p = rw e p

mutual
  pub decode-is : (s : Table) → IsLeaf s 1 let_head → (t : Term) (a : Tree) → StandsFor s a t → decode s a ≡ Some t
  decode-is s h (numeral n) a p = decode-leaf s a (Leaf.numeral (pos n)) p
  decode-is s h (variable x) a p = decode-leaf s a (variable_leaf x) p
  decode-is s h (operation op no_terms) a p = decode-leaf s a (operator op) p
  decode-is s h (operation op (term t ts)) (leaf k) p = absurd p
  decode-is s h (operation op (term t ts)) (cell a (leaf k)) p = absurd p.1
  decode-is s h (operation op (term t ts)) (cell a (cell b c)) p =
      let head = leaf_at-is s a (operator op) p.0 in
      let first = decode-is s h t b p.1.0 in
      let rest = decode_list-is s h ts c p.1.1 in
      rw (head, first, rest)
  decode-is s h (call f no_terms) a p = decode-leaf s a (function_leaf f) p
  decode-is s h (call f (term t ts)) (leaf k) p = absurd p
  decode-is s h (call f (term t ts)) (cell a (leaf k)) p = absurd p.1
  decode-is s h (call f (term t ts)) (cell a (cell b c)) p =
      let head = leaf_at-is s a (function_leaf f) p.0 in
      let first = decode-is s h t b p.1.0 in
      let rest = decode_list-is s h ts c p.1.1 in
      rw (head, first, rest)
  decode-is s h (let_in bs u) (leaf k) p = absurd p
  decode-is s h (let_in bs u) (cell a (leaf k)) p = absurd p.1
  decode-is s h (let_in bs u) (cell a (cell b c)) p =
      let is_let = p.0 in
      let list = decode_bindings-is s h bs b p.1.0 in
      let body = decode-is s h u c p.1.1 in
      rw (is_let, h, list, body)

  decode_list-is : (s : Table) → IsLeaf s 1 let_head → (ts : Terms) (a : Tree) → StandsForList s a ts → decode_list s a ≡ Some ts
  decode_list-is s h no_terms a p = rw p
  decode_list-is s h (term t ts) (leaf k) p = absurd p
  decode_list-is s h (term t ts) (cell a b) p =
      let first = decode-is s h t a p.0 in let rest = decode_list-is s h ts b p.1 in rw (first, rest)

  decode_bindings-is : (s : Table) → IsLeaf s 1 let_head → (bs : Bindings) (a : Tree) → StandsForBindings s a bs → decode_bindings s a ≡ Some bs
  decode_bindings-is s h no_bindings a p = rw p
  decode_bindings-is s h (binding x t bs) (leaf k) p = absurd p
  decode_bindings-is s h (binding x t bs) (cell (leaf k) b) p = absurd p.0
  decode_bindings-is s h (binding x t bs) (cell (cell a c) b) p =
      let name = leaf_at-is s a (variable_leaf x) p.0.0 in
      let value = decode-is s h t c p.0.1 in
      let rest = decode_bindings-is s h bs b p.1 in
      rw (name, value, rest)

pub one_term : (s : Table) → IsTable s → (a : Tree) (t u : Term) → StandsFor s a t → StandsFor s a u → t ≡ u
one_term s h a t u p q =
    let head = h.begins 1 let_head refl in
    let first = decode-is s head t a p in let second = decode-is s head u a q in cc

-- the term at a reference is the one that it stands for
pub terms_at : (v : TermsView) → IsOneToOne v.pass → HasPartsOfTrees v.pass → HasTreesWithin v.pass → HasTermsAt v
terms_at v one parts trees s r t table h =
    let tree = trees _ r h.tree h.known (depth-bound v.pass one parts r h.tree h.known) in
    ap (decode s) tree ∙ decode-is s (table.begins 1 let_head refl) t h.tree h.stands
