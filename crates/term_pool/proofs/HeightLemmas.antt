-- Cited by crates above. Heights of trees that stand for terms.
use Rattle.std.proofs.Common.{◌≡◌, ◌≢◌, ℕ, zero, suc, slice_get, ◌<◌, ◌≤◌, ◌^◌, refl, ◌∙◌, ap, arith, Some, false, nat_eq}
use Rattle.std.proofs.lemmas.Bool.Decides.{nat_tests}
use Rattle.pair_pool.specs.Trees.{Tree, leaf, cell}
use Rattle.pair_pool.specs.Views.{PassView, Knows, IsOneToOne, HasPartsOfTrees}
use Rattle.sym_table.specs.Leaf.{Leaf, operator, let_head}
use Rattle.sym_table.specs.Table.{Table, IsLeaf, IsTable}
use Rattle.term_model.specs.Terms.{Var, Term, Terms, Bindings, numeral, variable, operation, call, let_in, no_terms, term, list_of, no_bindings, binding}
use Rattle.term_model.specs.Heights.{height, highest, highest_bound}
use Rattle.term_pool.specs.declared.heights.Heights.{Heights}
use Rattle.term_pool.specs.StandsFor.{StandsFor, StandsForList, StandsForBindings, function_leaf}
use Rattle.term_pool.specs.Reading.{arguments_of, list_of_bindings, bindings_of}
use Rattle.term_pool.specs.Views.{TermsView, RefersTo}
use Rattle.term_pool.specs.Heights.{is_let_head}
use Rattle.term_pool.specs.HeightTables.{heights_of}
use Rattle.term_pool.proofs.ShapeLemmas.{not_let}

pub head_is_let : (p : PassView) → IsOneToOne p → HasPartsOfTrees p → (a : ℕ) (t : Tree) → Knows p a t → nat_eq a 1 ≡ is_let_head t
head_is_let p one parts a (leaf k) known = let n = parts.leaf_number a k known in ap (λ (m : ℕ). nat_eq m 1) n.0
head_is_let p one parts a (cell s t) known =
    let above : 2 ^ 30 ≤ a = one.high a s t known in let other : a ≢ 1 = omega arith in grind (arith, nat_tests)

pub other_head : (s : Table) (k : ℕ) (l : Leaf) → IsLeaf s 1 let_head → IsLeaf s k l → l ≢ let_head → nat_eq k 1 ≡ false
other_head s k l h p apart = let other = not_let s k l h p apart in grind (arith, nat_tests)

-- what a tree has as a term is the height of the term
mutual
  unfolding height

  pub term_height : (s : Table) → IsLeaf s 1 let_head → (t : Term) (tree : Tree) → StandsFor s tree t → (heights_of tree).term ≡ height t
  term_height s h (numeral n) (leaf k) p = refl
  term_height s h (numeral n) (cell a b) p = absurd p
  term_height s h (variable x) (leaf k) p = refl
  term_height s h (variable x) (cell a b) p = absurd p
  term_height s h (operation op no_terms) (leaf k) p = refl
  term_height s h (operation op no_terms) (cell a b) p = absurd p
  term_height s h (operation op (term u us)) (leaf k) p = absurd p
  term_height s h (operation op (term u us)) (cell (cell c d) b) p = absurd p.0
  term_height s h (operation op (term u us)) (cell (leaf k) b) p =
      let other = other_head s k (operator op) h p.0 (λ e. cc) in
      let list = list_height s h (term u us) b p.1 in
      rw (other, list) (omega arith)
  term_height s h (call f no_terms) (leaf k) p = refl
  term_height s h (call f no_terms) (cell a b) p = absurd p
  term_height s h (call f (term u us)) (leaf k) p = absurd p
  term_height s h (call f (term u us)) (cell (cell c d) b) p = absurd p.0
  term_height s h (call f (term u us)) (cell (leaf k) b) p =
      let other = other_head s k (function_leaf f) h p.0 (λ e. cc) in
      let list = list_height s h (term u us) b p.1 in
      rw (other, list) (omega arith)
  term_height s h (let_in bs u) (leaf k) p = absurd p
  term_height s h (let_in bs u) (cell a (leaf k)) p = absurd p.1
  term_height s h (let_in bs u) (cell a (cell list body)) p =
      let is_let = p.0 in
      let values = bindings_height s h bs list p.1.0 in
      let inner = term_height s h u body p.1.1 in
      rw (is_let, values, inner) (omega arith)

  list_height : (s : Table) → IsLeaf s 1 let_head → (ts : Terms) (tree : Tree) → StandsForList s tree ts → (heights_of tree).list ≡ highest ts
  list_height s h no_terms tree p = rw p
  list_height s h (term t ts) (leaf k) p = absurd p
  list_height s h (term t ts) (cell a b) p =
      let first = term_height s h t a p.0 in let rest = list_height s h ts b p.1 in rw (first, rest)

  bindings_height : (s : Table) → IsLeaf s 1 let_head → (bs : Bindings) (tree : Tree) → StandsForBindings s tree bs → (heights_of tree).bindings ≡ highest_bound bs
  bindings_height s h no_bindings tree p = rw p
  bindings_height s h (binding x t bs) (leaf k) p = absurd p
  bindings_height s h (binding x t bs) (cell (leaf k) b) p = absurd p.0
  bindings_height s h (binding x t bs) (cell (cell a c) b) p =
      let value = term_height s h t c p.0.1 in let rest = bindings_height s h bs b p.1 in rw (value, rest)

pub height_is : (s : Table) (v : TermsView) (r : ℕ) (h : Heights) → ((t : Tree) → Knows v.pass r t → h ≡ heights_of t) → (t : Term) → IsTable s → RefersTo s v r t → h.term ≡ height t
height_is s v r h heights t table refers =
    let same = heights refers.tree refers.known in
    let height = term_height s (table.begins 1 let_head refl) t refers.tree refers.stands in
    ap (λ (x : Heights). x.term) same ∙ height

-- parts are less high
item_high : (ts : Terms) (i : ℕ) (a : Term) → slice_get (list_of ts) i ≡ Some a → height a ≤ highest ts
unfolding height
item_high no_terms i a e = absurd (cc)
item_high (term t ts) zero a e = let same : t ≡ a = cc in rw (← same) (omega arith)
item_high (term t ts) (suc i) a e = let rest = item_high ts i a e in omega arith

pub argument_less : (t a : Term) (i : ℕ) → slice_get (arguments_of t) i ≡ Some a → height a < height t
unfolding height
argument_less (numeral n) a i e = absurd (cc)
argument_less (variable x) a i e = absurd (cc)
argument_less (operation op ts) a i e = let h = item_high ts i a e in omega arith
argument_less (call f ts) a i e = let h = item_high ts i a e in omega arith
argument_less (let_in bs u) a i e = absurd (cc)

value_high : (bs : Bindings) (i : ℕ) (x : Var) (u : Term) → slice_get (list_of_bindings bs) i ≡ Some (x, u) → height u ≤ highest_bound bs
unfolding height
value_high no_bindings i x u e = absurd (cc)
value_high (binding y t bs) zero x u e =
    let pair : ◌≡◌ {A = Var × Term} (y, t) (x, u) = cc in
    let same : t ≡ u = ap (λ (p : Var × Term). p.1) pair in rw (← same) (omega arith)
value_high (binding y t bs) (suc i) x u e = let rest = value_high bs i x u e in omega arith

pub value_less : (t u : Term) (x : Var) (i : ℕ) → slice_get (bindings_of t) i ≡ Some (x, u) → height u < height t
unfolding height
value_less (numeral n) u x i e = absurd (cc)
value_less (variable y) u x i e = absurd (cc)
value_less (operation op ts) u x i e = absurd (cc)
value_less (call f ts) u x i e = absurd (cc)
value_less (let_in bs t) u x i e = let h = value_high bs i x u e in omega arith
