-- What is put in for the variables of a term that has lets.
use Rattle.std.proofs.Common.{◌≡◌, inl, sym, ◌∙◌, subst, List, [], ◌∷◌, ◌++◌, Bool, true, false, if◌then◌else◌}
use Rattle.std.proofs.lemmas.Bool.{and_parts}
use Rattle.std.specs.List.{list_all}
use Rattle.pair_pool.specs.Trees.{Tree, leaf, cell}
use Rattle.sym_table.specs.Leaf.{Leaf, operator}
use Rattle.sym_table.specs.Table.{Table}
use Rattle.term_model.specs.Terms.{Var, var_eq, Term, numeral, variable, operation, call, let_in, Terms, no_terms, term, Bindings, no_bindings, binding}
use Rattle.term_model.specs.Heights.{height}
use Rattle.term_pool.specs.StandsFor.{function_leaf, StandsFor, StandsForApplication, StandsForList, StandsForBindings}
use Rattle.term_pool.specs.Views.{TermsView, RefersTo}
use Rattle.term_expansion.specs.Expanding.{Says, SaysWhole, IsSaid, HasPart, PlacesOne, FillsOne}
use Rattle.term_pool.specs.Placing.{PlacesTerm, LacksRoomFor}
use Rattle.rule_model.specs.Replacement.{Replacement, replaced_by, replaced, replaced_all, replaced_bindings}
use Rattle.problem_text.specs.TypedTerms.{Typed}
use Rattle.term_expansion.specs.Values.{IsValue, IsReplacement}
use Rattle.term_expansion.specs.declared.assignments.Assigned.{Assigned}
use Rattle.term_expansion.specs.declared.values.Bound.{Bound}
use Rattle.term_expansion.specs.declared.values.Value.{Value}
use Rattle.term_pool.proofs.Keeping.{part-refl}
use Rattle.rule_model.proofs.Replacing.{AreLetFree, replaced-let_free}
use Rattle.term_expansion.specs.SymbolsAndTerms.{both}

-- some tree stands for the term, the arguments or each term of a replacement
record HasTree (s : Table) (t : Term) : Type 0 where
  tree : Tree
  stands : StandsFor s tree t

record HasApplicationTree (s : Table) (l : Leaf) (ts : Terms) : Type 0 where
  tree : Tree
  stands : StandsForApplication s tree l ts

record HasListTree (s : Table) (ts : Terms) : Type 0 where
  tree : Tree
  stands : StandsForList s tree ts

abbrev HaveTrees : Table → Replacement → Type 0
HaveTrees s [] = Unit {0}
HaveTrees s (x ∷ q) = HasTree s x.1 × HaveTrees s q

have-joined : (s : Table) (p q : Replacement) → HaveTrees s p → HaveTrees s q → HaveTrees s (p ++ q)
have-joined s [] q h k = k
have-joined s (x ∷ p) q h k = (h.0, have-joined s p q h.1 k)

variable_tree : (s : Table) (q : Replacement) (x : Var) (tree : Tree) → HaveTrees s q → StandsFor s tree (variable x) → HasTree s (replaced_by q x)
variable_tree s [] x tree h k = record { tree = tree; stands = k }
variable_tree s (y ∷ q) x tree h k = go (var_eq y.0 x) (variable_tree s q x tree h.1 k)
  where
    go : (b : Bool) → HasTree s (replaced_by q x) → HasTree s (if b then y.1 else replaced_by q x)
    go true rest = h.0
    go false rest = rest

mutual
  unfolding replaced

  replaced_tree : (s : Table) (t : Term) (tree : Tree) (q : Replacement) → StandsFor s tree t → HaveTrees s q → HasTree s (replaced q t)
  replaced_tree s (numeral n) tree q p h = record { tree = tree; stands = p }
  replaced_tree s (variable x) tree q p h = variable_tree s q x tree h p
  replaced_tree s (operation op ts) tree q p h =
      let r = application_tree s (operator op) ts tree q p h in record { tree = r.tree; stands = r.stands }
  replaced_tree s (call f ts) tree q p h =
      let r = application_tree s (function_leaf f) ts tree q p h in record { tree = r.tree; stands = r.stands }
  replaced_tree s (let_in bs u) (leaf k) q p h = absurd p
  replaced_tree s (let_in bs u) (cell a (leaf k)) q p h = absurd p.1
  replaced_tree s (let_in bs u) (cell a (cell b c)) q p h =
      replaced_tree s u c (replaced_bindings q bs ++ q) p.1.1 (have-joined s (replaced_bindings q bs) q (bindings_trees s bs b q p.1.0 h) h)

  application_tree : (s : Table) (l : Leaf) (ts : Terms) (tree : Tree) (q : Replacement) → StandsForApplication s tree l ts → HaveTrees s q → HasApplicationTree s l (replaced_all q ts)
  application_tree s l no_terms tree q p h = record { tree = tree; stands = p }
  application_tree s l (term t ts) (leaf k) q p h = absurd p
  application_tree s l (term t ts) (cell a (leaf k)) q p h = absurd p.1
  application_tree s l (term t ts) (cell a (cell b c)) q p h =
      let first = replaced_tree s t b q p.1.0 h in
      let rest = list_tree_of s ts c q p.1.1 h in
      record { tree = cell a (cell first.tree rest.tree); stands = (p.0, (first.stands, rest.stands)) }

  list_tree_of : (s : Table) (ts : Terms) (tree : Tree) (q : Replacement) → StandsForList s tree ts → HaveTrees s q → HasListTree s (replaced_all q ts)
  list_tree_of s no_terms tree q p h = record { tree = tree; stands = p }
  list_tree_of s (term t ts) (leaf k) q p h = absurd p
  list_tree_of s (term t ts) (cell a b) q p h =
      let first = replaced_tree s t a q p.0 h in
      let rest = list_tree_of s ts b q p.1 h in
      record { tree = cell first.tree rest.tree; stands = (first.stands, rest.stands) }

  bindings_trees : (s : Table) (bs : Bindings) (tree : Tree) (q : Replacement) → StandsForBindings s tree bs → HaveTrees s q → HaveTrees s (replaced_bindings q bs)
  bindings_trees s no_bindings tree q p h = tt
  bindings_trees s (binding x t bs) (leaf k) q p h = absurd p
  bindings_trees s (binding x t bs) (cell (leaf k) b) q p h = absurd p.0
  bindings_trees s (binding x t bs) (cell (cell a c) b) q p h = (replaced_tree s t c q p.0.1 h, bindings_trees s bs b q p.1 h)

have_trees : (s : Table) (v : TermsView) (bs : List Bound) (q : Replacement) → IsReplacement (both s v) bs q → HaveTrees s q
have_trees s v [] [] h = tt
have_trees s v [] (x ∷ q) h = absurd h
have_trees s v (b ∷ bs) [] h = absurd h
have_trees s v (b ∷ bs) (x ∷ q) h = (record { tree = h.0.value.refers.tree; stands = h.0.value.refers.stands }, have_trees s v bs q h.1)

pub nothing_placed : (s : Table) (v w : TermsView) (bs : List Bound) (c : Value) → w ≡ v → (t : Typed) (q : Replacement) → IsValue (both s v) c t → IsReplacement (both s v) bs q → PlacesTerm s v.pass w.pass (replaced q t.tree)
nothing_placed s v w bs c e t q h k =
    let r = replaced_tree s t.tree h.refers.tree q h.refers.stands (have_trees s v bs q k) in
    subst (λ (x : TermsView). PlacesTerm s v.pass x.pass (replaced q t.tree)) (sym e)
    (record { tree = r.tree; stands = r.stands; placed = λ n a b k. inl k })

-- what the answer is a part of
pub record IsWhole (s : Table) (u : Term) : Type 0 where
  pub tree : Tree
  pub stands : StandsFor s tree u
  pub part : HasPart s tree u

pub whole_of : (s : Table) (v : TermsView) (bs : List Bound) (c : Value) (t : Typed) (q : Replacement) → IsValue (both s v) c t → IsReplacement (both s v) bs q → IsWhole s (replaced q t.tree)
whole_of s v bs c t q h k =
    let r = replaced_tree s t.tree h.refers.tree q h.refers.stands (have_trees s v bs q k) in
    record { tree = r.tree; stands = r.stands; part = record { tree = r.tree; stands = r.stands; part = part-refl r.tree } }

-- what a replacement puts in, for what a term needs
pub says_of : (s : Table) (v : TermsView) (a : List Assigned) (q : Replacement) (t : Term) → SaysWhole (both s v) a q → Says (both s v) a q t
says_of s v a q t h = record { variables = h.variables; puts = λ k x leaf n. h.puts k x leaf }

pub said_of : (s : Table) (v : TermsView) (a : List Assigned) (bs : List Bound) (c : Value) (t : Typed) (q : Replacement) → IsValue (both s v) c t → SaysWhole (both s v) a q → IsSaid (both s v) a c.term
said_of s v a bs c t q h k = record { means = t.tree; refers = h.refers; puts = q; says = says_of s v a q t.tree k }

pub put_places : (s : Table) (v w x : TermsView) (a : List Assigned) (bs : List Bound) (c : Value) → x ≡ w → PlacesOne (both s v) w a c.term → ((q : Replacement) → IsReplacement (both s v) bs q → SaysWhole (both s v) a q) → (t : Typed) (q : Replacement) → IsValue (both s v) c t → IsReplacement (both s v) bs q → PlacesTerm s v.pass x.pass (replaced q t.tree)
put_places s v w x a bs c e places says t q h k =
    let whole = whole_of s v bs c t q h k in
    subst (λ (z : TermsView). PlacesTerm s v.pass z.pass (replaced q t.tree)) (sym e)
    (record { tree = whole.tree; stands = whole.stands; placed = places t.tree q whole.tree h.refers (says_of s v a q t.tree (says q k)) whole.part })

pub put_lacks : (s : Table) (v w : TermsView) (a : List Assigned) (bs : List Bound) (c : Value) → FillsOne (both s v) w a c.term → ((q : Replacement) → IsReplacement (both s v) bs q → SaysWhole (both s v) a q) → (t : Typed) (q : Replacement) → IsValue (both s v) c t → IsReplacement (both s v) bs q → LacksRoomFor s w.pass (replaced q t.tree)
put_lacks s v w a bs c fills says t q h k =
    let whole = whole_of s v bs c t q h k in
    record { tree = whole.tree; stands = whole.stands; full = fills t.tree q whole.tree h.refers (says_of s v a q t.tree (says q k)) whole.part }

let_free : (s : Table) (v : TermsView) (bs : List Bound) (q : Replacement) → IsReplacement (both s v) bs q → list_all (λ (b : Bound). b.value.plain) bs ≡ true → AreLetFree q
let_free s v [] [] h e = tt
let_free s v [] (x ∷ q) h e = absurd h
let_free s v (b ∷ bs) [] h e = absurd h
let_free s v (b ∷ bs) (x ∷ q) h e =
    let both = and_parts b.value.plain (list_all (λ (b : Bound). b.value.plain) bs) e in (h.0.value.plain both.0, let_free s v bs q h.1 both.1)

pub put_value : (s : Table) (v x y : TermsView) (bs : List Bound) (c d : Value) → y ≡ x → d.sort ≡ c.sort → d.plain ≡ list_all (λ (b : Bound). b.value.plain) bs → (t : Typed) (q : Replacement) → IsValue (both s v) c t → IsReplacement (both s v) bs q → RefersTo s x d.term (replaced q t.tree) → d.height ≡ height (replaced q t.tree) → IsValue (both s y) d (record { tree = replaced q t.tree; sort = t.sort })
put_value s v x y bs c d e sort plain t q h k refers high =
    subst (λ (z : TermsView). IsValue (both s z) d (record { tree = replaced q t.tree; sort = t.sort })) (sym e)
    (record {
      refers = refers;
      sort = sort ∙ h.sort;
      high = high;
      plain = λ p. replaced-let_free t.tree q (let_free s v bs q k (sym plain ∙ p));
    })
