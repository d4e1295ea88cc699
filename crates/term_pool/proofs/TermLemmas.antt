-- Cited by crates above. The trees of terms that are built and read.
use Rattle.std.proofs.Common.{◌≡◌, ℕ, refl, List, [], ◌∷◌, ◌↔◌}
use Rattle.pair_pool.specs.Trees.{Tree}
use Rattle.pair_pool.specs.Views.{PassView, Knows, IsOneToOne}
use Rattle.sym_table.specs.Leaf.{Leaf, operator}
use Rattle.sym_table.specs.Table.{Table, IsLeaf, IsTable}
use Rattle.term_model.specs.Terms.{Term, Terms, Bindings, numeral, variable, operation, call, let_in, no_terms, term, list_of, no_bindings, binding}
use Rattle.term_pool.specs.StandsFor.{function_leaf, StandsFor, StandsForApplication, StandsForList, StandsForBindings, StandForAll, StandForValues}
use Rattle.term_pool.specs.Trees.{list_tree, app_tree, binding_trees, let_term_tree}
use Rattle.term_pool.specs.Views.{TermsView, RefersTo, ReferToAll, KnowsAll}
use Rattle.term_pool.specs.Building.{IsAppliedLeaf, AreBindings, Builds}
use Rattle.term_pool.proofs.OneTree.{one_tree}
use Rattle.term_pool.proofs.OneTerm.{one_term}

pub record TreesOf (s : Table) (p : PassView) (rs : List ℕ) (ts : List Term) : Type 0 where
  pub trees : List Tree
  pub known : KnowsAll p rs trees
  pub stand : StandForAll s trees ts

pub trees_of : (s : Table) (v : TermsView) (rs : List ℕ) (ts : List Term) → ReferToAll s v rs ts → TreesOf s v.pass rs ts
trees_of s v [] [] h = record { trees = []; known = tt; stand = tt }
trees_of s v [] (t ∷ ts) h = absurd h
trees_of s v (r ∷ rs) [] h = absurd h
trees_of s v (r ∷ rs) (t ∷ ts) h =
    let rest = trees_of s v rs ts h.1 in
    record { trees = h.0.tree ∷ rest.trees; known = (h.0.known, rest.known); stand = (h.0.stands, rest.stand) }

list_stands : (s : Table) (us : Terms) (trees : List Tree) → StandForAll s trees (list_of us) → StandsForList s (list_tree trees) us
list_stands s no_terms [] h = refl
list_stands s no_terms (a ∷ trees) h = absurd h
list_stands s (term u us) [] h = absurd h
list_stands s (term u us) (a ∷ trees) h = (h.0, list_stands s us trees h.1)

application_stands : (s : Table) (head : ℕ) (l : Leaf) (us : Terms) (trees : List Tree) → IsLeaf s head l → StandForAll s trees (list_of us) → StandsForApplication s (app_tree head trees) l us
application_stands s head l no_terms [] p h = p
application_stands s head l no_terms (a ∷ trees) p h = absurd h
application_stands s head l (term u us) [] p h = absurd h
application_stands s head l (term u us) (a ∷ trees) p h = (p, (h.0, list_stands s us trees h.1))

alone : (s : Table) (trees : List Tree) (ts : List Term) → ts ≡ [] → StandForAll s trees ts → trees ≡ []
alone s [] ts e h = refl
alone s (a ∷ trees) [] e h = absurd h
alone s (a ∷ trees) (t ∷ ts) e h = cc

pub app_stands : (s : Table) (head : ℕ) (ts : List Term) (t : Term) (trees : List Tree) → IsAppliedLeaf s head ts t → StandForAll s trees ts → StandsFor s (app_tree head trees) t
app_stands s head ts (numeral n) trees p h = let e = alone s trees ts p.1 h in rw e p.0
app_stands s head ts (variable x) trees p h = let e = alone s trees ts p.1 h in rw e p.0
app_stands s head ts (operation op us) trees p h =
    application_stands s head (operator op) us trees p.0 (rw p.1 h)
app_stands s head ts (call f us) trees p h =
    application_stands s head (function_leaf f) us trees p.0 (rw p.1 h)
app_stands s head ts (let_in bs u) trees p h = absurd p

pub app_refers : (s : Table) (v w : TermsView) (head r : ℕ) (rs : List ℕ) → ((ts : List Tree) → KnowsAll v.pass rs ts → Builds v.pass w.pass r (app_tree head ts)) → (ts : List Term) (t : Term) → ReferToAll s v rs ts → IsAppliedLeaf s head ts t → RefersTo s w r t
app_refers s v w head r rs built ts t h p =
    let all = trees_of s v rs ts h in
    record {
      tree = app_tree head all.trees;
      known = (built all.trees all.known).stands;
      stands = app_stands s head ts t all.trees p all.stand;
    }

pub record BindingTrees (s : Table) (p : PassView) (vars values : List ℕ) (bs : Bindings) : Type 0 where
  pub trees : List Tree
  pub known : KnowsAll p values trees
  pub stand : StandsForBindings s (list_tree (binding_trees vars trees)) bs

pub bindings_stand : (s : Table) (v : TermsView) (vars values : List ℕ) (bs : Bindings) → AreBindings s v vars values bs → BindingTrees s v.pass vars values bs
bindings_stand s v [] [] no_bindings h = record { trees = []; known = tt; stand = refl }
bindings_stand s v [] [] (binding x t bs) h = absurd h
bindings_stand s v [] (r ∷ rs) bs h = absurd h
bindings_stand s v (k ∷ ks) [] bs h = absurd h
bindings_stand s v (k ∷ ks) (r ∷ rs) no_bindings h = absurd h
bindings_stand s v (k ∷ ks) (r ∷ rs) (binding x t bs) h =
    let rest = bindings_stand s v ks rs bs h.2 in
    record { trees = h.1.tree ∷ rest.trees; known = (h.1.known, rest.known); stand = ((h.0, h.1.stands), rest.stand) }

list_of_values_stands : (s : Table) (vars : List ℕ) (trees : List Tree) (bs : Bindings) → StandForValues s vars trees bs → StandsForBindings s (list_tree (binding_trees vars trees)) bs
list_of_values_stands s [] [] no_bindings h = refl
list_of_values_stands s [] [] (binding x t bs) h = absurd h
list_of_values_stands s [] (a ∷ trees) bs h = absurd h
list_of_values_stands s (k ∷ ks) [] bs h = absurd h
list_of_values_stands s (k ∷ ks) (a ∷ trees) no_bindings h = absurd h
list_of_values_stands s (k ∷ ks) (a ∷ trees) (binding x t bs) h = ((h.0, h.1), list_of_values_stands s ks trees bs h.2)

pub let_stands : (s : Table) (vars : List ℕ) (trees : List Tree) (body : Tree) (bs : Bindings) (u : Term) → StandForValues s vars trees bs → StandsFor s body u → StandsFor s (let_term_tree vars trees body) (let_in bs u)
let_stands s vars trees body bs u h k = (refl, (list_of_values_stands s vars trees bs h, k))

pub let_refers : (s : Table) (v w : TermsView) (r body : ℕ) (vars values : List ℕ) → ((ts : List Tree) (u : Tree) → KnowsAll v.pass values ts → Knows v.pass body u → Builds v.pass w.pass r (let_term_tree vars ts u)) → (bs : Bindings) (u : Term) → AreBindings s v vars values bs → RefersTo s v body u → RefersTo s w r (let_in bs u)
let_refers s v w r body vars values built bs u h k =
    let all = bindings_stand s v vars values bs h in
    record {
      tree = let_term_tree vars all.trees k.tree;
      known = (built all.trees k.tree all.known k.known).stands;
      stands = (refl, (all.stand, k.stands));
    }

pub equal_where : (s : Table) (v : TermsView) → IsTable s → IsOneToOne v.pass → (p q : ℕ) (t u : Term) → RefersTo s v p t → RefersTo s v q u → (p ≡ q) ↔ (t ≡ u)
equal_where s v table one p q t u h k = (forward, backward)
  where
    forward : p ≡ q → t ≡ u
    forward e =
        let same : h.tree ≡ k.tree = one.one_tree q _ _ (rw e at h.known) k.known in
        one_term s table k.tree t u (rw same at h.stands) k.stands

    backward : t ≡ u → p ≡ q
    backward e =
        let same : h.tree ≡ k.tree = one_tree s table u h.tree k.tree (rw e at h.stands) k.stands in
        one.one_reference p q k.tree (rw same at h.known) k.known
