-- Cited by crates above. What the parts of a term's tree stand for.
use Rattle.std.proofs.Common.{◌≡◌, ℕ, zero, suc, ◌<◌, ◌≤◌, ◌^◌, refl, sym, ◌∙◌, ap, arith, length, slice_get, Some}
use Rattle.pair_pool.specs.Trees.{Tree, leaf, cell}
use Rattle.pair_pool.specs.Views.{PassView, Knows, IsKnown, IsOneToOne, HasPartsOfTrees, IsUnchanged}
use Rattle.sym_table.specs.Leaf.{Leaf, operator}
use Rattle.sym_table.specs.Table.{Table, IsLeaf}
use Rattle.term_model.specs.Terms.{Var, Term, Terms, Bindings, numeral, variable, operation, call, let_in, no_terms, term, list_of, no_bindings, binding}
use Rattle.term_model.proofs.Basics.{same_some}
use Rattle.term_model.proofs.Lists.{nth_there}
use Rattle.term_pool.specs.StandsFor.{let_tree, variable_leaf, function_leaf, StandsFor, StandsForApplication, StandsForList, StandsForBindings}
use Rattle.term_pool.specs.Trees.{IsCellTree}
use Rattle.term_pool.specs.TreeLists.{list_length, list_item, HasItem}
use Rattle.term_pool.specs.Views.{TermsView, RefersTo, KeepsTerms, IsKnownCell}
use Rattle.term_pool.specs.Reading.{arguments_of, list_of_bindings, bindings_of, IsLet, HasArgument, HasBinding, IsLetTerm}
use Rattle.term_pool.specs.CellShapes.{IsTermCell}
use Rattle.term_pool.proofs.Keeping.{keeps-refl}
use Rattle.term_pool.proofs.Depth.{is_cell}

-- a known leaf
pub leaf_of : (p : PassView) → IsOneToOne p → HasPartsOfTrees p → (r : ℕ) (t : Tree) → Knows p r t → r < 2 ^ 30 → t ≡ leaf r
leaf_of p one parts r (leaf k) known low = let e = parts.leaf_number r k known in ap (λ (n : ℕ). leaf n) (sym e.0)
leaf_of p one parts r (cell a b) known low = let high = one.high r a b known in absurd (omega arith)

pub part_known : (p : PassView) (r a : ℕ) → IsKnownCell p r → ((s t : Tree) → Knows p r (cell s t) → Knows p a s) → IsKnown p a
part_known p r a h first = record { tree = h.first; stands = first h.first h.second h.stands }

pub second_known : (p : PassView) (r b : ℕ) → IsKnownCell p r → ((s t : Tree) → Knows p r (cell s t) → Knows p b t) → IsKnown p b
second_known p r b h second = record { tree = h.second; stands = second h.first h.second h.stands }

pub term_cell : (p : PassView) (r : ℕ) → IsTermCell p r → IsKnownCell p r
term_cell p r h = record { first = h.head; second = h.rest; stands = h.stands }

pub cell_known : (p : PassView) (b : ℕ) (t : Tree) → Knows p b t → IsCellTree t → IsKnownCell p b
cell_known p b (leaf k) known h = absurd h
cell_known p b (cell s t) known h = record { first = s; second = t; stands = known }

pub let_rest_known : (p : PassView) → IsOneToOne p → HasPartsOfTrees p → (r a b : ℕ) → IsTermCell p r → ((s t : Tree) → Knows p r (cell s t) → Knows p a s) → ((s t : Tree) → Knows p r (cell s t) → Knows p b t) → a ≡ 1 → IsKnownCell p b
let_rest_known p one parts r a b h first second e =
    let low : a < 2 ^ 30 = omega arith in
    let is_let = leaf_of p one parts a h.head (first h.head h.rest h.stands) low in
    cell_known p b h.rest (second h.head h.rest h.stands) (h.let_rest (is_let ∙ ap (λ (n : ℕ). leaf n) e))

-- the tree of an argument, in the list that is the second part of the application's tree
pub record ArgumentTree (s : Table) (tree : Tree) (a : Term) (i : ℕ) : Type 0 where
  pub head : Tree
  pub list : Tree
  pub whole : tree ≡ cell head list
  pub there : i < list_length list
  pub stands : StandsFor s (list_item list i) a

pub record ItemTree (s : Table) (list : Tree) (a : Term) (i : ℕ) : Type 0 where
  pub there : i < list_length list
  pub stands : StandsFor s (list_item list i) a

list_argument : (s : Table) (ts : Terms) (list : Tree) (i : ℕ) (a : Term) → StandsForList s list ts → slice_get (list_of ts) i ≡ Some a → ItemTree s list a i
list_argument s no_terms list i a h e = absurd (cc)
list_argument s (term t ts) (leaf k) i a h e = absurd h
list_argument s (term t ts) (cell b c) zero a h e =
    let same : t ≡ a = cc in record { there = omega arith; stands = rw same at h.0 }
list_argument s (term t ts) (cell b c) (suc i) a h e =
    let rest = list_argument s ts c i a h.1 e in
    record { there = let d = rest.there in omega arith; stands = rest.stands }

application_argument : (s : Table) (l : Leaf) (ts : Terms) (tree : Tree) (i : ℕ) (a : Term) → StandsForApplication s tree l ts → slice_get (list_of ts) i ≡ Some a → ArgumentTree s tree a i
application_argument s l no_terms tree i a h e = absurd (cc)
application_argument s l (term t ts) (leaf k) i a h e = absurd h
application_argument s l (term t ts) (cell head list) i a h e =
    let item = list_argument s (term t ts) list i a h.1 e in
    record { head = head; list = list; whole = refl; there = item.there; stands = item.stands }

pub argument_tree : (s : Table) (t : Term) (tree : Tree) (i : ℕ) (a : Term) → StandsFor s tree t → slice_get (arguments_of t) i ≡ Some a → ArgumentTree s tree a i
argument_tree s (numeral n) tree i a h e = absurd (cc)
argument_tree s (variable x) tree i a h e = absurd (cc)
argument_tree s (operation op ts) tree i a h e = application_argument s (operator op) ts tree i a h e
argument_tree s (call f ts) tree i a h e = application_argument s (function_leaf f) ts tree i a h e
argument_tree s (let_in bs u) tree i a h e = absurd (cc)

pub argument_cell : (v : TermsView) (r i : ℕ) → HasArgument v r i → IsKnownCell v.pass r
argument_cell v r i h =
    let found = nth_there (arguments_of h.means) i h.there in
    let tree = argument_tree h.symbols h.means h.refers.tree i found.0 h.refers.stands found.1 in
    record { first = tree.head; second = tree.list; stands = rw tree.whole at h.refers.known }

pub argument_item : (v : TermsView) (r i list : ℕ) → HasArgument v r i → ((s t : Tree) → Knows v.pass r (cell s t) → Knows v.pass list t) → HasItem v.pass list i
argument_item v r i list h second =
    let found = nth_there (arguments_of h.means) i h.there in
    let tree = argument_tree h.symbols h.means h.refers.tree i found.0 h.refers.stands found.1 in
    record { tree = tree.list; stands = second tree.head tree.list (rw tree.whole at h.refers.known); there = tree.there }

pub argument_refers : (s : Table) (v w : TermsView) (r i list a : ℕ) → w.pass ≡ v.pass → ((s t : Tree) → Knows v.pass r (cell s t) → Knows v.pass list t) → ((t : Tree) → Knows v.pass list t → Knows v.pass a (list_item t i)) → (t b : Term) → RefersTo s v r t → slice_get (arguments_of t) i ≡ Some b → RefersTo s w a b
argument_refers s v w r i list a same second item t b h e =
    let tree = argument_tree s t h.tree i b h.stands e in
    record {
      tree = list_item tree.list i;
      known = rw same (item tree.list (second tree.head tree.list (rw tree.whole at h.known)));
      stands = tree.stands;
    }

pub keeps-same : (v w : TermsView) → w ≡ v → KeepsTerms v w
keeps-same v w e = record {
  pool = ap (λ (x : TermsView). x.pool) e;
  pass = let f : w.pass ≡ v.pass = ap (λ (x : TermsView). x.pass) e in rw f (keeps-refl v.pass);
}

pub unchanged-same : (p q : PassView) → q ≡ p → IsUnchanged p q
unchanged-same p q e = rw e (record { places = refl; shares = refl; seen = refl; known = refl; placed = refl })

-- how many arguments there are
pub list_count : (s : Table) (ts : Terms) (list : Tree) → StandsForList s list ts → list_length list ≡ length (list_of ts)
list_count s no_terms list h = rw h
list_count s (term t ts) (leaf k) h = absurd h
list_count s (term t ts) (cell a b) h = ap suc (list_count s ts b h.1)

application_count : (s : Table) (l : Leaf) (ts : Terms) (head list : Tree) → StandsForApplication s (cell head list) l ts → list_length list ≡ length (list_of ts)
application_count s l no_terms head list h = absurd h
application_count s l (term t ts) head list h = list_count s (term t ts) list h.1

application_leaf : (s : Table) (l : Leaf) (ts : Terms) (k : ℕ) → StandsForApplication s (leaf k) l ts → 0 ≡ length (list_of ts)
application_leaf s l no_terms k h = refl
application_leaf s l (term t ts) k h = absurd h

pub cell_count : (s : Table) (t : Term) (head list : Tree) → StandsFor s (cell head list) t → (IsLet t → ⊥) → list_length list ≡ length (arguments_of t)
cell_count s (numeral n) head list h never = absurd h
cell_count s (variable x) head list h never = absurd h
cell_count s (operation op ts) head list h never = application_count s (operator op) ts head list h
cell_count s (call f ts) head list h never = application_count s (function_leaf f) ts head list h
cell_count s (let_in bs u) head list h never = absurd (never tt)

pub leaf_count : (s : Table) (t : Term) (k : ℕ) → StandsFor s (leaf k) t → 0 ≡ length (arguments_of t)
leaf_count s (numeral n) k h = refl
leaf_count s (variable x) k h = refl
leaf_count s (operation op ts) k h = application_leaf s (operator op) ts k h
leaf_count s (call f ts) k h = application_leaf s (function_leaf f) ts k h
leaf_count s (let_in bs u) k h = absurd h

pub leaf_counts : (s : Table) (v : TermsView) (r : ℕ) (t : Term) → IsOneToOne v.pass → HasPartsOfTrees v.pass → r < 2 ^ 30 → RefersTo s v r t → 0 ≡ length (arguments_of t)
leaf_counts s v r t one parts low h =
    leaf_count s t r (let e = leaf_of v.pass one parts r h.tree h.known low in rw e at h.stands)

pub cell_counts : (s : Table) (v : TermsView) (r list count : ℕ) (t : Term) → IsKnownCell v.pass r → IsOneToOne v.pass → ((a b : Tree) → Knows v.pass r (cell a b) → Knows v.pass list b) → ((b : Tree) → Knows v.pass list b → count ≡ list_length b) → RefersTo s v r t → (IsLet t → ⊥) → count ≡ length (arguments_of t)
cell_counts s v r list count t known_cell one second counts h never =
    let same : h.tree ≡ cell known_cell.first known_cell.second = one.one_tree r _ _ h.known known_cell.stands in
    let size = counts known_cell.second (second known_cell.first known_cell.second known_cell.stands) in
    size ∙ cell_count s t known_cell.first known_cell.second (rw same at h.stands) never

-- the tree of a let
pub record LetTrees (s : Table) (tree : Tree) (bs : Bindings) (u : Term) : Type 0 where
  pub list : Tree
  pub body : Tree
  pub whole : tree ≡ cell let_tree (cell list body)
  pub bindings : StandsForBindings s list bs
  pub stands : StandsFor s body u

pub let_trees : (s : Table) (tree : Tree) (bs : Bindings) (u : Term) → StandsFor s tree (let_in bs u) → LetTrees s tree bs u
let_trees s (leaf k) bs u h = absurd h
let_trees s (cell a (leaf k)) bs u h = absurd h.1
let_trees s (cell a (cell list body)) bs u h = record {
  list = list;
  body = body;
  whole = ap (λ (x : Tree). cell x (cell list body)) h.0;
  bindings = h.1.0;
  stands = h.1.1;
}

pub let_cell : (v : TermsView) (r : ℕ) → IsLetTerm v r → IsKnownCell v.pass r
let_cell v r h =
    let trees = let_trees h.symbols h.refers.tree h.bindings h.body h.refers.stands in
    record { first = let_tree; second = cell trees.list trees.body; stands = rw trees.whole at h.refers.known }

pub let_rest_cell : (v : TermsView) (r rest : ℕ) → IsLetTerm v r → ((s t : Tree) → Knows v.pass r (cell s t) → Knows v.pass rest t) → IsKnownCell v.pass rest
let_rest_cell v r rest h second =
    let trees = let_trees h.symbols h.refers.tree h.bindings h.body h.refers.stands in
    record { first = trees.list; second = trees.body; stands = second _ _ (rw trees.whole at h.refers.known) }

-- the tree of a binding in the list
pub record BindingTree (s : Table) (list : Tree) (x : Var) (u : Term) (i : ℕ) : Type 0 where
  pub name : ℕ
  pub value : Tree
  pub there : i < list_length list
  pub pair : list_item list i ≡ cell (leaf name) value
  pub names : IsLeaf s name (variable_leaf x)
  pub stands : StandsFor s value u

pub binding_tree : (s : Table) (bs : Bindings) (list : Tree) (i : ℕ) (x : Var) (u : Term) → StandsForBindings s list bs → slice_get (list_of_bindings bs) i ≡ Some (x, u) → BindingTree s list x u i
binding_tree s no_bindings list i x u h e = absurd (cc)
binding_tree s (binding y t bs) (leaf k) i x u h e = absurd h
binding_tree s (binding y t bs) (cell (leaf k) b) i x u h e = absurd h.0
binding_tree s (binding y t bs) (cell (cell (cell c d) f) b) i x u h e = absurd h.0.0
binding_tree s (binding y t bs) (cell (cell (leaf k) f) b) zero x u h e =
    let both = same_some e in
    let one : y ≡ x = ap (λ (p : Var × Term). p.0) both in
    let two : t ≡ u = ap (λ (p : Var × Term). p.1) both in
    record { name = k; value = f; there = omega arith; pair = refl; names = rw one at h.0.0; stands = rw two at h.0.1 }
binding_tree s (binding y t bs) (cell (cell (leaf k) f) b) (suc i) x u h e =
    let rest = binding_tree s bs b i x u h.1 e in
    record {
      name = rest.name;
      value = rest.value;
      there = let d = rest.there in omega arith;
      pair = rest.pair;
      names = rest.names;
      stands = rest.stands;
    }

pub record LetOf (s : Table) (tree : Tree) (x : Var) (w : Term) (i : ℕ) : Type 0 where
  pub bs : Bindings
  pub body : Term
  pub trees : LetTrees s tree bs body
  pub found : BindingTree s trees.list x w i

pub let_of : (s : Table) (t : Term) (tree : Tree) (i : ℕ) (x : Var) (w : Term) → StandsFor s tree t → slice_get (bindings_of t) i ≡ Some (x, w) → LetOf s tree x w i
let_of s (numeral n) tree i x w h e = absurd (cc)
let_of s (variable y) tree i x w h e = absurd (cc)
let_of s (operation op ts) tree i x w h e = absurd (cc)
let_of s (call f ts) tree i x w h e = absurd (cc)
let_of s (let_in bs u) tree i x w h e =
    let trees = let_trees s tree bs u h in
    record { bs = bs; body = u; trees = trees; found = binding_tree s bs trees.list i x w trees.bindings e }

pub record HasLetOf (v : TermsView) (r i : ℕ) : Type 0 where
  pub s : Table
  pub tree : Tree
  pub known : Knows v.pass r tree
  pub x : Var
  pub w : Term
  pub let_is : LetOf s tree x w i

pub has_let_of : (v : TermsView) (r i : ℕ) → HasBinding v r i → HasLetOf v r i
has_let_of v r i h =
    let found = nth_there (bindings_of h.means) i h.there in
    record {
      s = h.symbols;
      tree = h.refers.tree;
      known = h.refers.known;
      x = found.0.0;
      w = found.0.1;
      let_is = let_of h.symbols h.means h.refers.tree i found.0.0 found.0.1 h.refers.stands found.1;
    }

pub binding_cell : (v : TermsView) (r i : ℕ) → HasBinding v r i → IsKnownCell v.pass r
binding_cell v r i b =
    let h = has_let_of v r i b in
    record { first = let_tree; second = cell h.let_is.trees.list h.let_is.trees.body; stands = rw h.let_is.trees.whole at h.known }

pub binding_rest : (v : TermsView) (r i rest : ℕ) → HasBinding v r i → ((s t : Tree) → Knows v.pass r (cell s t) → Knows v.pass rest t) → IsKnownCell v.pass rest
binding_rest v r i rest b second =
    let h = has_let_of v r i b in
    record { first = h.let_is.trees.list; second = h.let_is.trees.body; stands = second _ _ (rw h.let_is.trees.whole at h.known) }

pub binding_item : (v : TermsView) (r i rest list : ℕ) → HasBinding v r i → ((s t : Tree) → Knows v.pass r (cell s t) → Knows v.pass rest t) → ((s t : Tree) → Knows v.pass rest (cell s t) → Knows v.pass list s) → HasItem v.pass list i
binding_item v r i rest list b second inner =
    let h = has_let_of v r i b in
    record {
      tree = h.let_is.trees.list;
      stands = inner _ _ (second _ _ (rw h.let_is.trees.whole at h.known));
      there = h.let_is.found.there;
    }

pub binding_pair : (v : TermsView) (r i rest list pair : ℕ) → HasBinding v r i → ((s t : Tree) → Knows v.pass r (cell s t) → Knows v.pass rest t) → ((s t : Tree) → Knows v.pass rest (cell s t) → Knows v.pass list s) → ((t : Tree) → Knows v.pass list t → Knows v.pass pair (list_item t i)) → IsKnownCell v.pass pair
binding_pair v r i rest list pair b second inner item =
    let h = has_let_of v r i b in
    let known = item _ (inner _ _ (second _ _ (rw h.let_is.trees.whole at h.known))) in
    record { first = leaf h.let_is.found.name; second = h.let_is.found.value; stands = rw h.let_is.found.pair at known }

pub binding_refers : (s : Table) (v w : TermsView) (r i rest list pair name value : ℕ) → HasPartsOfTrees v.pass → w.pass ≡ v.pass → ((s t : Tree) → Knows v.pass r (cell s t) → Knows v.pass rest t) → ((s t : Tree) → Knows v.pass rest (cell s t) → Knows v.pass list s) → ((t : Tree) → Knows v.pass list t → Knows v.pass pair (list_item t i)) → ((s t : Tree) → Knows v.pass pair (cell s t) → Knows v.pass name s) → ((s t : Tree) → Knows v.pass pair (cell s t) → Knows v.pass value t) → (t : Term) (x : Var) (u : Term) → RefersTo s v r t → slice_get (bindings_of t) i ≡ Some (x, u) → IsLeaf s name (variable_leaf x) × RefersTo s w value u
binding_refers s v w r i rest list pair name value parts same second inner item first_of second_of t x u h e =
    let is_let = let_of s t h.tree i x u h.stands e in
    let known = item _ (inner _ _ (second _ _ (rw is_let.trees.whole at h.known))) in
    let in_pair = rw is_let.found.pair at known in
    let number = parts.leaf_number name is_let.found.name (first_of _ _ in_pair) in (
      rw number.0 is_let.found.names,
      record { tree = is_let.found.value; known = rw same (second_of _ _ in_pair); stands = is_let.found.stands },
    )

pub item_known : (p : PassView) (list i a : ℕ) → HasItem p list i → ((t : Tree) → Knows p list t → Knows p a (list_item t i)) → IsKnown p a
item_known p list i a h item = record { tree = list_item h.tree i; stands = item h.tree h.stands }

pub reference_cell : (p : PassView) (r : ℕ) → HasPartsOfTrees p → 2 ^ 30 ≤ r → IsKnown p r → IsKnownCell p r
reference_cell p r parts above h = is_cell p parts r h.tree h.stands above
