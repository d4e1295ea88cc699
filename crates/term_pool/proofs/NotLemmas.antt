-- Leading negations of trees and of terms.
use Rattle.std.proofs.Common.{◌≡◌, ℕ, zero, suc, ◌<◌, ◌≤◌, ◌+◌, ◌^◌, ◌%◌, refl, ◌∙◌, ap, arith, Bool, IsTrue, ◌↔◌}
use Rattle.pair_pool.specs.Trees.{Tree, leaf, cell}
use Rattle.pair_pool.specs.Views.{PassView, Knows, IsKnown, IsOneToOne, HasPartsOfTrees, HasListsInOrder}
use Rattle.sym_table.specs.Leaf.{operator, let_head}
use Rattle.sym_table.specs.Table.{Table, IsLeaf, IsTable}
use Rattle.sym_table.proofs.Tables.{one_symbol}
use Rattle.term_model.specs.declared.symbols.Op.{Op}
use Rattle.term_model.specs.Terms.{Term, numeral, variable, operation, call, let_in, no_terms, term, not_of}
use Rattle.term_pool.specs.StandsFor.{nil_tree, let_tree, function_leaf, StandsFor}
use Rattle.term_pool.specs.Views.{TermsView, RefersTo}
use Rattle.term_pool.specs.Nots.{negated, IsStripped}
use Rattle.term_pool.specs.NotTrees.{not_tree, nots_tree, IsNotOf, IsUnderNots}
use Rattle.term_pool.specs.Views.{IsKnownCell}
use Rattle.term_pool.proofs.Depth.{depth-bound}
use Rattle.term_pool.specs.Trees.{depth}
use Rattle.term_pool.proofs.ReadingLemmas.{leaf_of}

-- r is known as n applications of leaf k to one argument, below which is `inner`
pub record IsNotsSoFar (p : PassView) (k r n inner : ℕ) : Type 0 where
  pub tree : Tree
  pub inner_known : Knows p inner tree
  pub known : Knows p r (nots_tree k n tree)

nots_tree-inner : (k n : ℕ) (t : Tree) → nots_tree k n (not_tree k t) ≡ nots_tree k (suc n) t
nots_tree-inner k zero t = refl
nots_tree-inner k (suc n) t = ap (not_tree k) (nots_tree-inner k n t)

depth-nots : (k n : ℕ) (t : Tree) → n ≤ depth (nots_tree k n t)
depth-nots k zero t = omega arith
depth-nots k (suc n) t = let ih = depth-nots k n t in omega arith

pub nots_below : (p : PassView) → IsOneToOne p → HasPartsOfTrees p → HasListsInOrder p → (k r n inner : ℕ) → IsNotsSoFar p k r n inner → n < 2 ^ 31
nots_below p one parts order k r n inner h =
    let d = depth-bound p one parts r _ h.known in
    let e = depth-nots k n h.tree in
    let s = order.size in
    omega arith

pub nots_start : (p : PassView) (k r : ℕ) → IsKnown p r → IsNotsSoFar p k r 0 r
nots_start p k r h = record { tree = h.tree; inner_known = h.stands; known = h.stands }

pub nots_next : (p : PassView) → IsOneToOne p → (k r n a b : ℕ) → IsNotsSoFar p k r n a → IsNotOf p k a b → IsNotsSoFar p k r (n + 1) b
nots_next p one k r n a b h i =
    let same : h.tree ≡ not_tree k i.tree = one.one_tree a _ _ h.inner_known i.known in
    let next : suc n ≡ n + 1 = omega arith in
    record {
      tree = i.tree;
      inner_known = i.inner_known;
      known = rw (← next, ← nots_tree-inner k n i.tree, ← same) h.known;
    }

pub nots_known : (p : PassView) (k r n a : ℕ) → IsNotsSoFar p k r n a → IsKnown p a
nots_known p k r n a h = record { tree = h.tree; stands = h.inner_known }

pub nots_all : (p : PassView) (k r n a : ℕ) → IsNotsSoFar p k r n a → ((t : Tree) → Knows p a (not_tree k t) → ⊥) → IsUnderNots p k r n a
nots_all p k r n a h none = record { tree = h.tree; inner_known = h.inner_known; known = h.known; bare = none }

-- a term whose tree is an application of the leaf of `not` to one argument is a negation
under : (s : Table) (k : ℕ) → IsTable s → IsLeaf s k (operator Op.Not) → (t : Term) (tree : Tree) → StandsFor s (not_tree k tree) t → (u : Term) × (t ≡ not_of u) × StandsFor s tree u
under s k table is_not (numeral n) tree h = absurd h
under s k table is_not (variable x) tree h = absurd h
under s k table is_not (operation op no_terms) tree h = absurd h
under s k table is_not (operation op (term t (term u us))) tree h = absurd h.1.1
under s k table is_not (operation op (term t no_terms)) tree h =
    let same : operator op ≡ operator Op.Not = one_symbol s k _ _ h.0 is_not in
    let is_op = go same in
    (t, (rw is_op refl), h.1.0)
  where
    go : operator op ≡ operator Op.Not → op ≡ Op.Not
    go e = cc
under s k table is_not (call f no_terms) tree h = absurd h
under s k table is_not (call f (term t ts)) tree h =
    let same : function_leaf f ≡ operator Op.Not = one_symbol s k _ _ h.0 is_not in absurd (go same)
  where
    go : function_leaf f ≡ operator Op.Not → ⊥
    go e = cc
under s k table is_not (let_in bs u) tree h = absurd (go h.0 (table.begins 1 let_head refl))
  where
    number : (m n : ℕ) → leaf m ≡ leaf n → m ≡ n
    number m n e = cc

    differ : let_head ≡ operator Op.Not → ⊥
    differ e = cc

    go : leaf k ≡ let_tree → IsLeaf s 1 let_head → ⊥
    go e p = let f = number k 1 e in differ (one_symbol s 1 _ _ p (rw f at is_not))

pub all_under : (s : Table) (k : ℕ) → IsTable s → IsLeaf s k (operator Op.Not) → (n : ℕ) (t : Term) (tree : Tree) → StandsFor s (nots_tree k n tree) t → (u : Term) × (t ≡ negated n u) × StandsFor s tree u
all_under s k table is_not zero t tree h = (t, refl, h)
all_under s k table is_not (suc n) t tree h =
    let outer = under s k table is_not t (nots_tree k n tree) h in
    let inner = all_under s k table is_not n outer.0 tree outer.2 in
    (inner.0, outer.1 ∙ ap not_of inner.1, inner.2)

-- the tree of a negation
negation_tree : (s : Table) (k : ℕ) → IsTable s → IsLeaf s k (operator Op.Not) → (v : Term) (tree : Tree) → StandsFor s tree (not_of v) → (inner : Tree) × (tree ≡ not_tree k inner)
negation_tree s k table is_not v (leaf j) h = absurd h
negation_tree s k table is_not v (cell (cell a b) c) h = absurd h.0
negation_tree s k table is_not v (cell (leaf j) (leaf m)) h = absurd h.1
negation_tree s k table is_not v (cell (leaf j) (cell a b)) h =
    let same : j ≡ k = table.apart j k _ _ h.0 is_not refl refl in
    let nil : b ≡ nil_tree = h.1.1 in
    (a, rw (same, nil) refl)

pub strips : (s : Table) (v w : TermsView) (k r n a : ℕ) (odd : Bool) → IsTable s → IsLeaf s k (operator Op.Not) → IsOneToOne v.pass → w.pass ≡ v.pass → IsUnderNots v.pass k r n a → (IsTrue odd ↔ (n % 2 ≡ 1)) → (t : Term) → RefersTo s v r t → IsStripped s w t a odd
strips s v w k r n a odd table is_not one same h parity t refers =
    let tree : refers.tree ≡ nots_tree k n h.tree = one.one_tree r _ _ refers.known h.known in
    let found = all_under s k table is_not n t h.tree (rw tree at refers.stands) in
    record {
      inner = found.0;
      refers = record { tree = h.tree; known = rw same h.inner_known; stands = found.2 };
      strips = record { nots = n; whole = found.1; bare = none found.0 found.2; parity = parity };
    }
  where
    none : (u : Term) → StandsFor s h.tree u → (x : Term) → u ≡ not_of x → ⊥
    none u stands x e =
        let shown = negation_tree s k table is_not x h.tree (rw e at stands) in
        h.bare shown.0 (rw shown.1 at h.inner_known)

pub not_found : (p : PassView) → IsOneToOne p → HasPartsOfTrees p → (k r head list inner rest : ℕ) → k < 2 ^ 30 → IsKnownCell p r → IsKnownCell p list → ((s t : Tree) → Knows p r (cell s t) → Knows p head s) → ((s t : Tree) → Knows p r (cell s t) → Knows p list t) → ((s t : Tree) → Knows p list (cell s t) → Knows p inner s) → ((s t : Tree) → Knows p list (cell s t) → Knows p rest t) → head ≡ k → rest ≡ 0 → IsNotOf p k r inner
not_found p one parts k r head list inner rest small outer within first second first_of second_of is_head is_nil =
    let low : head < 2 ^ 30 = omega arith in
    let low2 : rest < 2 ^ 30 = omega arith in
    let a : outer.first ≡ leaf head = leaf_of p one parts head outer.first (first _ _ outer.stands) low in
    let b : outer.second ≡ cell within.first within.second = one.one_tree list _ _ (second _ _ outer.stands) within.stands in
    let d : within.second ≡ leaf rest = leaf_of p one parts rest within.second (second_of _ _ within.stands) low2 in
    record {
      tree = within.first;
      inner_known = first_of _ _ within.stands;
      known = rw (a, b, d, is_head, is_nil) at outer.stands;
    }
