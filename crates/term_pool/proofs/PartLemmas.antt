-- What the parts of a term's tree stand for, all at once.
use Rattle.std.proofs.Common.{◌≡◌, ◌≢◌, ℕ, ◌<◌, ◌^◌, refl, sym, ◌∙◌, ap, arith, List, [], ◌∷◌, length, take, drop}
use Rattle.std.specs.List.{All}
use Rattle.std.proofs.Math.Seq.{take-append_seam, drop-append_seam}
use Rattle.std.proofs.lemmas.List.Elements.{All-nil, All-cons}
use Rattle.pair_pool.specs.Trees.{Tree, leaf, cell}
use Rattle.pair_pool.specs.Views.{PassView, Knows, IsKnown, IsOneToOne, HasPartsOfTrees}
use Rattle.sym_table.specs.Leaf.{operator, let_head}
use Rattle.sym_table.specs.Table.{Table, IsLeaf, IsTable}
use Rattle.term_model.specs.Terms.{Var, Term, Terms, Bindings, numeral, variable, operation, call, let_in, no_terms, term, list_of, no_bindings, binding}
use Rattle.term_model.proofs.Zips.{zip_then}
use Rattle.term_model.proofs.Lists.{drop-whole}
use Rattle.term_pool.specs.StandsFor.{let_tree, function_leaf, StandsFor, StandsForList, StandsForBindings}
use Rattle.term_pool.specs.Trees.{pair_leaves}
use Rattle.term_pool.specs.TreeLists.{tree_items, AreLeafPairs, pair_trees, AddsItems, IsPairList, AddsPairs}
use Rattle.term_pool.specs.Views.{TermsView, RefersTo, ReferToAll, KnowsAll, IsKnownCell}
use Rattle.term_pool.specs.Building.{IsAppliedLeaf, AreBindings}
use Rattle.term_pool.specs.Reading.{arguments_of, IsLet, IsLetTerm}
use Rattle.term_pool.specs.StandsFor.{StandForAll}
use Rattle.term_pool.proofs.ReadingLemmas.{leaf_of, let_trees}
use Rattle.term_pool.proofs.ShapeLemmas.{not_let}

-- heads
leaf_application : (s : Table) (t : Term) (k : ℕ) → StandsFor s (leaf k) t → IsAppliedLeaf s k (arguments_of t) t
leaf_application s (numeral n) k h = (h, refl)
leaf_application s (variable x) k h = (h, refl)
leaf_application s (operation op no_terms) k h = (h, refl)
leaf_application s (operation op (term t ts)) k h = absurd h
leaf_application s (call f no_terms) k h = (h, refl)
leaf_application s (call f (term t ts)) k h = absurd h
leaf_application s (let_in bs u) k h = absurd h

pub leaf_head : (s : Table) (v : TermsView) → IsOneToOne v.pass → HasPartsOfTrees v.pass → (r n : ℕ) → n ≡ r → r < 2 ^ 30 → (t : Term) → RefersTo s v r t → IsAppliedLeaf s n (arguments_of t) t
leaf_head s v one parts r n e low t h =
    let is : h.tree ≡ leaf r = leaf_of v.pass one parts r h.tree h.known low in
    rw e (leaf_application s t r (rw is at h.stands))

-- the head of a term that is a cell is a leaf
cell_application : (s : Table) (t : Term) (k : ℕ) (rest : Tree) → StandsFor s (cell (leaf k) rest) t → k ≢ 1 → IsAppliedLeaf s k (arguments_of t) t
cell_application s (numeral n) k rest h other = absurd h
cell_application s (variable x) k rest h other = absurd h
cell_application s (operation op no_terms) k rest h other = absurd h
cell_application s (operation op (term t ts)) k rest h other = (h.0, refl)
cell_application s (call f no_terms) k rest h other = absurd h
cell_application s (call f (term t ts)) k rest h other = (h.0, refl)
cell_application s (let_in bs u) k rest h other = absurd (other (number h.0))
  where
    number : leaf k ≡ let_tree → k ≡ 1
    number e = cc

head_leaf : (s : Table) (t : Term) (a b : Tree) → StandsFor s (cell a b) t → (k : ℕ) × (a ≡ leaf k)
head_leaf s (numeral n) a b h = absurd h
head_leaf s (variable x) a b h = absurd h
head_leaf s (operation op no_terms) a b h = absurd h
head_leaf s (operation op (term t ts)) (leaf k) b h = (k, refl)
head_leaf s (operation op (term t ts)) (cell c d) b h = absurd h.0
head_leaf s (call f no_terms) a b h = absurd h
head_leaf s (call f (term t ts)) (leaf k) b h = (k, refl)
head_leaf s (call f (term t ts)) (cell c d) b h = absurd h.0
head_leaf s (let_in bs u) a b h = (1, h.0)

pub cell_head : (s : Table) (v : TermsView) → IsOneToOne v.pass → HasPartsOfTrees v.pass → (r head n : ℕ) → IsKnownCell v.pass r → ((s t : Tree) → Knows v.pass r (cell s t) → Knows v.pass head s) → n ≡ head → n ≢ 1 → (t : Term) → RefersTo s v r t → IsAppliedLeaf s n (arguments_of t) t
cell_head s v one parts r head n c first e other t h =
    let same : h.tree ≡ cell c.first c.second = one.one_tree r h.tree _ h.known c.stands in
    let stands = rw same at h.stands in
    let (k, is) = head_leaf s t c.first c.second stands in
    let number = parts.leaf_number head k (rw is at (first c.first c.second c.stands)) in
    let n_is : n ≡ k = e ∙ number.0 in
    rw n_is (cell_application s t k c.second (rw is at stands) (λ f. other (n_is ∙ f)))

is_let : (s : Table) (t : Term) (k : ℕ) (rest : Tree) → IsLeaf s 1 let_head → StandsFor s (cell (leaf k) rest) t → k ≡ 1 → IsLet t
is_let s (numeral n) k rest begins h e = absurd h
is_let s (variable x) k rest begins h e = absurd h
is_let s (operation op no_terms) k rest begins h e = absurd h
is_let s (operation op (term t ts)) k rest begins h e = absurd (not_let s k (operator op) begins h.0 (λ f. cc) e)
is_let s (call f no_terms) k rest begins h e = absurd h
is_let s (call f (term t ts)) k rest begins h e = absurd (not_let s k (function_leaf f) begins h.0 (λ g. cc) e)
is_let s (let_in bs u) k rest begins h e = tt

pub let_head_is : (s : Table) (v : TermsView) → IsTable s → IsOneToOne v.pass → HasPartsOfTrees v.pass → (r head n : ℕ) → IsKnownCell v.pass r → ((s t : Tree) → Knows v.pass r (cell s t) → Knows v.pass head s) → n ≡ head → n ≡ 1 → (t : Term) → RefersTo s v r t → IsLet t
let_head_is s v table one parts r head n c first e is_one t h =
    let same : h.tree ≡ cell c.first c.second = one.one_tree r h.tree _ h.known c.stands in
    let stands = rw same at h.stands in
    let (k, is) = head_leaf s t c.first c.second stands in
    let number = parts.leaf_number head k (rw is at (first c.first c.second c.stands)) in
    let k_is : k ≡ 1 = sym number.0 ∙ sym e ∙ is_one in
    is_let s t k c.second (table.begins 1 let_head refl) (rw is at stands) k_is

-- arguments
items_stand : (s : Table) (ts : Terms) (b : Tree) → StandsForList s b ts → StandForAll s (tree_items b) (list_of ts)
items_stand s no_terms b h = rw h tt
items_stand s (term t ts) (leaf k) h = absurd h
items_stand s (term t ts) (cell a b) h = (h.0, items_stand s ts b h.1)

arguments_stand : (s : Table) (t : Term) (a b : Tree) → StandsFor s (cell a b) t → (IsLet t → ⊥) → StandForAll s (tree_items b) (arguments_of t)
arguments_stand s (numeral n) a b h never = absurd h
arguments_stand s (variable x) a b h never = absurd h
arguments_stand s (operation op no_terms) a b h never = absurd h
arguments_stand s (operation op (term t ts)) a b h never = items_stand s (term t ts) b h.1
arguments_stand s (call f no_terms) a b h never = absurd h
arguments_stand s (call f (term t ts)) a b h never = items_stand s (term t ts) b h.1
arguments_stand s (let_in bs u) a b h never = absurd (never tt)

refer_all : (s : Table) (v : TermsView) (rs : List ℕ) (trees : List Tree) (ts : List Term) → KnowsAll v.pass rs trees → StandForAll s trees ts → ReferToAll s v rs ts
refer_all s v = zip_then (Knows v.pass) (StandsFor s) (RefersTo s v) (λ r a t known stands. record { tree = a; known = known; stands = stands })

all_known : (p : PassView) (rs : List ℕ) (trees : List Tree) → KnowsAll p rs trees → All (IsKnown p) rs
all_known p [] trees h = All-nil (IsKnown p)
all_known p (r ∷ rs) [] h = absurd h
all_known p (r ∷ rs) (t ∷ trees) h = All-cons (IsKnown p) r rs (record { tree = t; stands = h.0 }) (all_known p rs trees h.1)

no_arguments : (s : Table) (t : Term) (k : ℕ) → StandsFor s (leaf k) t → arguments_of t ≡ []
no_arguments s (numeral n) k h = refl
no_arguments s (variable x) k h = refl
no_arguments s (operation op no_terms) k h = refl
no_arguments s (operation op (term t ts)) k h = absurd h
no_arguments s (call f no_terms) k h = refl
no_arguments s (call f (term t ts)) k h = absurd h
no_arguments s (let_in bs u) k h = absurd h

pub leaf_arguments : (s : Table) (v : TermsView) → IsOneToOne v.pass → HasPartsOfTrees v.pass → (r : ℕ) (old : List ℕ) → r < 2 ^ 30 → (t : Term) → RefersTo s v r t → ReferToAll s v (drop (length old) old) (arguments_of t)
leaf_arguments s v one parts r old low t h =
    let is : h.tree ≡ leaf r = leaf_of v.pass one parts r h.tree h.known low in
    let none = no_arguments s t r (rw is at h.stands) in
    rw (drop-whole old, none) tt

pub added_arguments : (s : Table) (v : TermsView) → IsOneToOne v.pass → (r list : ℕ) (old new : List ℕ) → IsKnownCell v.pass r → ((s t : Tree) → Knows v.pass r (cell s t) → Knows v.pass list t) → AddsItems v.pass list old new → (t : Term) → RefersTo s v r t → (IsLet t → ⊥) → ReferToAll s v (drop (length old) new) (arguments_of t)
added_arguments s v one r list old new c second adds t h never =
    let same : h.tree ≡ cell c.first c.second = one.one_tree r h.tree _ h.known c.stands in
    let known = adds.known c.second (second c.first c.second c.stands) in
    let behind : drop (length old) new ≡ adds.items = ap (drop (length old)) adds.added ∙ drop-append_seam old adds.items in
    rw behind (refer_all s v adds.items (tree_items c.second) (arguments_of t) known (arguments_stand s t c.first c.second (rw same at h.stands) never))

pub added_known : (p : PassView) (r list : ℕ) (old new : List ℕ) → IsKnownCell p r → ((s t : Tree) → Knows p r (cell s t) → Knows p list t) → AddsItems p list old new → All (IsKnown p) (drop (length old) new)
added_known p r list old new c second adds =
    let known = adds.known c.second (second c.first c.second c.stands) in
    let behind : drop (length old) new ≡ adds.items = ap (drop (length old)) adds.added ∙ drop-append_seam old adds.items in
    rw behind (all_known p adds.items (tree_items c.second) known)

pub added_kept : (p : PassView) (list : ℕ) (old new : List ℕ) → AddsItems p list old new → take (length old) new ≡ old
added_kept p list old new adds = ap (take (length old)) adds.added ∙ take-append_seam old adds.items

-- bindings
pairs_of_bindings : (s : Table) (bs : Bindings) (b : Tree) → StandsForBindings s b bs → AreLeafPairs b
pairs_of_bindings s no_bindings b h = rw h tt
pairs_of_bindings s (binding x t bs) (leaf k) h = absurd h
pairs_of_bindings s (binding x t bs) (cell (leaf k) b) h = absurd h.0
pairs_of_bindings s (binding x t bs) (cell (cell (leaf k) c) b) h = pairs_of_bindings s bs b h.1
pairs_of_bindings s (binding x t bs) (cell (cell (cell d e) c) b) h = absurd h.0.0

bindings_read : (s : Table) (v : TermsView) (bs : Bindings) (b : Tree) (leaves rs : List ℕ) → StandsForBindings s b bs → leaves ≡ pair_leaves b → KnowsAll v.pass rs (pair_trees b) → AreBindings s v leaves rs bs
bindings_read s v no_bindings b leaves rs h e k = go rs (rw h at e) (rw h at k)
  where
    go : (rs : List ℕ) → leaves ≡ [] → KnowsAll v.pass rs [] → AreBindings s v leaves rs no_bindings
    go [] f g = rw f tt
    go (r ∷ rs) f g = absurd g
bindings_read s v (binding x t bs) (leaf k) leaves rs h e known = absurd h
bindings_read s v (binding x t bs) (cell (leaf k) b) leaves rs h e known = absurd h.0
bindings_read s v (binding x t bs) (cell (cell (cell d f) c) b) leaves rs h e known = absurd h.0.0
bindings_read s v (binding x t bs) (cell (cell (leaf k) c) b) leaves [] h e known = absurd known
bindings_read s v (binding x t bs) (cell (cell (leaf k) c) b) leaves (r ∷ rs) h e known =
    rw e (
      h.0.0,
      record { tree = c; known = known.0; stands = h.0.1 },
      bindings_read s v bs b (pair_leaves b) rs h.1 refl known.1,
    )

pub let_list : (v : TermsView) (r rest list : ℕ) → IsLetTerm v r → ((s t : Tree) → Knows v.pass r (cell s t) → Knows v.pass rest t) → ((s t : Tree) → Knows v.pass rest (cell s t) → Knows v.pass list s) → IsPairList v.pass list
let_list v r rest list h second first =
    let trees = let_trees h.symbols h.refers.tree h.bindings h.body h.refers.stands in
    record {
      tree = trees.list;
      stands = first _ _ (second _ _ (rw trees.whole at h.refers.known));
      pairs = pairs_of_bindings h.symbols h.bindings trees.list trees.bindings;
    }

pub added_bindings : (s : Table) (v : TermsView) (r rest list : ℕ) (old_leaves new_leaves old new : List ℕ) → ((s t : Tree) → Knows v.pass r (cell s t) → Knows v.pass rest t) → ((s t : Tree) → Knows v.pass rest (cell s t) → Knows v.pass list s) → AddsPairs v.pass list old_leaves new_leaves old new → (bs : Bindings) (u : Term) → RefersTo s v r (let_in bs u) → AreBindings s v (drop (length old_leaves) new_leaves) (drop (length old) new) bs
added_bindings s v r rest list old_leaves new_leaves old new second first adds bs u h =
    let trees = let_trees s h.tree bs u h.stands in
    let known = first _ _ (second _ _ (rw trees.whole at h.known)) in
    let leaves_behind : drop (length old_leaves) new_leaves ≡ adds.leaves = ap (drop (length old_leaves)) adds.leaves_added ∙ drop-append_seam old_leaves adds.leaves in
    let behind : drop (length old) new ≡ adds.items = ap (drop (length old)) adds.added ∙ drop-append_seam old adds.items in
    rw (leaves_behind, behind) (bindings_read s v bs trees.list adds.leaves adds.items trees.bindings (adds.leaves_are trees.list known) (adds.known trees.list known))

pub pairs_kept_leaves : (p : PassView) (list : ℕ) (old_leaves new_leaves old new : List ℕ) → AddsPairs p list old_leaves new_leaves old new → take (length old_leaves) new_leaves ≡ old_leaves
pairs_kept_leaves p list old_leaves new_leaves old new adds = ap (take (length old_leaves)) adds.leaves_added ∙ take-append_seam old_leaves adds.leaves

pub pairs_kept : (p : PassView) (list : ℕ) (old_leaves new_leaves old new : List ℕ) → AddsPairs p list old_leaves new_leaves old new → take (length old) new ≡ old
pairs_kept p list old_leaves new_leaves old new adds = ap (take (length old)) adds.added ∙ take-append_seam old adds.items

-- a variable is a leaf
pub variable_low : (s : Table) (v : TermsView) → HasPartsOfTrees v.pass → (r : ℕ) (x : Var) → RefersTo s v r (variable x) → r < 2 ^ 30
variable_low s v parts r x h = go h.tree h.known h.stands
  where
    go : (tree : Tree) → Knows v.pass r tree → StandsFor s tree (variable x) → r < 2 ^ 30
    go (leaf k) known p = let n = parts.leaf_number r k known in omega (arith, n.0, n.1)
    go (cell a b) known p = absurd p
