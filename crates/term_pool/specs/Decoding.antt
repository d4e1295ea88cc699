-- Public. The term at a reference as a function of what contracts see, for measures, which see no tree and no term.
use Rattle.std.specs.Prelude.{◌≡◌, ℕ, ◌+◌, ◌^◌, pos, negsuc, ℤ, Option, Some, None, slice_get}
use Rattle.pair_pool.specs.Trees.{Tree, leaf, cell}
use Rattle.pair_pool.specs.Views.{PassView}
use Rattle.pair_pool.specs.Decoding.{tree_within}
use Rattle.sym_table.specs.Leaf.{Leaf, operator, function, let_head, nil}
use Rattle.sym_table.specs.Table.{Table, IsTable}
use Rattle.term_model.specs.Terms.{Term, Terms, Bindings, numeral, variable, operation, call, let_in, no_terms, term, no_bindings, binding}
use Rattle.term_pool.specs.Views.{TermsView, RefersTo}

-- the numeral of a whole number
abbrev pub numeral_of : ℤ → Option Term
numeral_of (pos n) = Some (numeral n)
numeral_of (negsuc n) = None

-- the term of a leaf
abbrev pub leaf_term : Option Leaf → Option Term
leaf_term None = None
leaf_term (Some nil) = None
leaf_term (Some let_head) = None
leaf_term (Some (operator op)) = Some (operation op no_terms)
leaf_term (Some (function n ss t)) = Some (call (record { name = n; arguments = ss; target = t }) no_terms)
leaf_term (Some (Leaf.variable n s)) = Some (variable (record { name = n; sort = s }))
leaf_term (Some (Leaf.numeral z)) = numeral_of z

-- a head with arguments
abbrev pub applied_where : (Terms → Term) → Option Terms → Option Term
applied_where f None = None
applied_where f (Some ts) = Some (f ts)

-- the term of a cell, by its first part, and what its second part is as a list and as the rest of a let
abbrev pub cell_term : Option Leaf → Option Terms → Option Term → Option Term
cell_term None ts u = None
cell_term (Some nil) ts u = None
cell_term (Some let_head) ts u = u
cell_term (Some (operator op)) ts u = applied_where (operation op) ts
cell_term (Some (function n ss t)) ts u = applied_where (call (record { name = n; arguments = ss; target = t })) ts
cell_term (Some (Leaf.variable n s)) ts u = None
cell_term (Some (Leaf.numeral z)) ts u = None

-- lists, lets and bindings of parts that are there
abbrev pub both_terms : Option Term → Option Terms → Option Terms
both_terms None ts = None
both_terms (Some t) None = None
both_terms (Some t) (Some ts) = Some (term t ts)

abbrev pub let_where : Option Bindings → Option Term → Option Term
let_where None t = None
let_where (Some bs) None = None
let_where (Some bs) (Some t) = Some (let_in bs t)

abbrev pub both_bindings : Option Leaf → Option Term → Option Bindings → Option Bindings
both_bindings None t bs = None
both_bindings (Some nil) t bs = None
both_bindings (Some let_head) t bs = None
both_bindings (Some (operator op)) t bs = None
both_bindings (Some (function n ss u)) t bs = None
both_bindings (Some (Leaf.numeral z)) t bs = None
both_bindings (Some (Leaf.variable n s)) None bs = None
both_bindings (Some (Leaf.variable n s)) (Some t) None = None
both_bindings (Some (Leaf.variable n s)) (Some t) (Some bs) = Some (binding (record { name = n; sort = s }) t bs)

-- what a leaf stands for
abbrev pub leaf_at : Table → Tree → Option Leaf
leaf_at s (leaf k) = slice_get s.leaves k
leaf_at s (cell a b) = None

-- what a tree stands for as a term, as a list of arguments, as the rest of a let and as its bindings, if it is one
abbrev mutual
  pub decode : Table → Tree → Option Term
  decode s (leaf k) = leaf_term (slice_get s.leaves k)
  decode s (cell a b) = cell_term (leaf_at s a) (decode_list s b) (decode_let s b)

  pub decode_list : Table → Tree → Option Terms
  decode_list s (leaf k) = Some no_terms
  decode_list s (cell a b) = both_terms (decode s a) (decode_list s b)

  pub decode_let : Table → Tree → Option Term
  decode_let s (leaf k) = None
  decode_let s (cell a b) = let_where (decode_bindings s a) (decode s b)

  pub decode_bindings : Table → Tree → Option Bindings
  decode_bindings s (leaf k) = Some no_bindings
  decode_bindings s (cell a b) = both_bindings (first_leaf s a) (second_term s a) (decode_bindings s b)

  pub first_leaf : Table → Tree → Option Leaf
  first_leaf s (leaf k) = None
  first_leaf s (cell a b) = leaf_at s a

  pub second_term : Table → Tree → Option Term
  second_term s (leaf k) = None
  second_term s (cell a b) = decode s b

-- the tree that r is known to stand for: no such tree is deeper
abbrev pub tree_at : PassView → ℕ → Tree
tree_at pass r = tree_within pass (2 ^ 30 + pass.places) r

-- the term that r stands for by the table; of a reference that stands for none it says nothing
abbrev pub term_at : Table → TermsView → ℕ → Option Term
term_at s v r = decode s (tree_at v.pass r)

-- by each table, it is the term that a reference stands for
abbrev pub HasTermsAt : TermsView → Type 0
HasTermsAt v = (s : Table) (r : ℕ) (t : Term) → IsTable s → RefersTo s v r t → term_at s v r ≡ Some t
