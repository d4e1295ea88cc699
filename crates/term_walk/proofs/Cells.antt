-- Private. What a term and a list are, by what is known of their cells.
use Rattle.std.proofs.Common.{◌≡◌, ℕ, ◌<◌, ◌≤◌, ◌^◌, pos, Some, List, [], ◌∷◌, ◌++◌, length, refl, sym, ap, ◌∙◌, subst, arith}
use Rattle.std.proofs.lemmas.Option.{slice_get_within}
use Rattle.pair_pool.specs.Trees.{Tree, leaf, cell}
use Rattle.pair_pool.specs.Views.{Knows, IsOneToOne, HasPartsOfTrees}
use Rattle.sym_table.specs.Leaf.{Leaf, operator}
use Rattle.sym_table.specs.Table.{Table, IsLeaf}
use Rattle.term_model.specs.Terms.{Var, Term, numeral, variable, operation, call, let_in, Terms, no_terms, term, Bindings, no_bindings, binding}
use Rattle.term_pool.specs.StandsFor.{variable_leaf, function_leaf, IsLeafOf, StandsFor, StandsForList, StandsForBindings}
use Rattle.term_pool.specs.Views.{TermsView, RefersTo, IsKnownCell}
use Rattle.term_walk.specs.Walks.{IsListOf, ArePairsOf, IsAppliedAt, IsLetAt, PutsArgument, IsBindingAt}
use Rattle.term_walk.specs.declared.tasks.Task.{Task}

-- a leaf that stands for something is in the table
pub leaf_within : (s : Table) (k : ℕ) (l : Leaf) → IsLeaf s k l → k < length s.leaves
leaf_within s k l is = slice_get_within s.leaves k l is

pub term_within : (s : Table) (k : ℕ) (t : Term) → StandsFor s (leaf k) t → k < length s.leaves
term_within s k (numeral n) is = leaf_within s k (Leaf.numeral (pos n)) is
term_within s k (variable x) is = leaf_within s k (variable_leaf x) is
term_within s k (operation op no_terms) is = leaf_within s k (operator op) is
term_within s k (operation op (term a ts)) is = absurd is
term_within s k (call f no_terms) is = leaf_within s k (function_leaf f) is
term_within s k (call f (term a ts)) is = absurd is
term_within s k (let_in bs t) is = absurd is

module _ (v : TermsView) (one : IsOneToOne v.pass) (parts : HasPartsOfTrees v.pass) where
  -- a reference below 2^30 is a leaf, and any other a cell
  pub leaf_tree : (r : ℕ) (t : Tree) → Knows v.pass r t → r < 2 ^ 30 → t ≡ leaf r
  leaf_tree r (leaf k) known low = ap leaf (sym (parts.leaf_number r k known).0)
  leaf_tree r (cell a b) known low = let h = one.high r a b known in absurd (omega (arith, h, low))

  pub record IsCellAt (r : ℕ) (t : Tree) : Type 0 where
    pub first : Tree
    pub second : Tree
    pub is : t ≡ cell first second
    pub known : Knows v.pass r (cell first second)

  pub cell_tree : (r : ℕ) (t : Tree) → Knows v.pass r t → 2 ^ 30 ≤ r → IsCellAt r t
  cell_tree r (leaf k) known high =
      let h = parts.leaf_number r k known in
      let e = h.0 in
      let l = h.1 in
      absurd (omega (arith, e, l, high))
  cell_tree r (cell a b) known high = record { first = a; second = b; is = refl; known = known }

  pub known_cell : (r : ℕ) (t : Tree) → Knows v.pass r t → 2 ^ 30 ≤ r → IsKnownCell v.pass r
  known_cell r t known high =
      let c = cell_tree r t known high in
      record { first = c.first; second = c.second; stands = c.known }

  -- what is known of the parts of a cell
  pub record ArePartsOf (r a b : ℕ) : Type 0 where
    pub first : (x y : Tree) → Knows v.pass r (cell x y) → Knows v.pass a x
    pub second : (x y : Tree) → Knows v.pass r (cell x y) → Knows v.pass b y

  -- a leaf that a term is
  pub leaf_stands : (s : Table) (r : ℕ) (t : Term) → RefersTo s v r t → r < 2 ^ 30 → StandsFor s (leaf r) t
  leaf_stands s r t h low = subst (λ x. StandsFor s x t) (leaf_tree r h.tree h.known low) h.stands

  head_is : (s : Table) (head : ℕ) (a : Tree) (l : Leaf) → Knows v.pass head a → IsLeafOf s a l → IsLeaf s head l
  head_is s head (leaf k) l known is = subst (λ j. IsLeaf s j l) (sym (parts.leaf_number head k known).0) is
  head_is s head (cell a b) l known is = absurd is

  -- a cell whose head is no let
  application_at : (s : Table) (head rest : ℕ) (a b : Tree) (t : Term) → Knows v.pass head a → Knows v.pass rest b → (head ≡ 1 → ⊥)
      → StandsFor s (cell a b) t → IsAppliedAt s v head rest t
  application_at s head rest a b (numeral n) first second no_let is = absurd is
  application_at s head rest a b (variable x) first second no_let is = absurd is
  application_at s head rest a b (operation op no_terms) first second no_let is = absurd is
  application_at s head rest a b (operation op (term x xs)) first second no_let is = record {
    symbol = operator op;
    first = x;
    others = xs;
    leaf_is = head_is s head a (operator op) first is.0;
    applied = (refl, refl);
    arguments = record { tree = b; known = second; stands = is.1 };
  }
  application_at s head rest a b (call f no_terms) first second no_let is = absurd is
  application_at s head rest a b (call f (term x xs)) first second no_let is = record {
    symbol = function_leaf f;
    first = x;
    others = xs;
    leaf_is = head_is s head a (function_leaf f) first is.0;
    applied = (refl, refl);
    arguments = record { tree = b; known = second; stands = is.1 };
  }
  application_at s head rest a b (let_in bs u) first second no_let is =
      absurd (no_let (parts.leaf_number head 1 (subst (λ x. Knows v.pass head x) is.0 first)).0)

  pub cell_application : (s : Table) (r head rest : ℕ) (t : Term) → 2 ^ 30 ≤ r → RefersTo s v r t → ArePartsOf r head rest → (head ≡ 1 → ⊥)
      → IsAppliedAt s v head rest t
  cell_application s r head rest t high h are no_let =
      let c = cell_tree r h.tree h.known high in
      application_at s head rest c.first c.second t (are.first c.first c.second c.known) (are.second c.first c.second c.known) no_let
      (subst (λ x. StandsFor s x t) c.is h.stands)

  -- a cell whose head is a let
  pub record IsLetCell (s : Table) (rest : ℕ) (t : Term) : Type 0 where
    pub bindings : Bindings
    pub inside : Term
    pub is : t ≡ let_in bindings inside
    pub list : Tree
    pub of_body : Tree
    pub known : Knows v.pass rest (cell list of_body)
    pub pairs_stand : StandsForBindings s list bindings
    pub body_stands : StandsFor s of_body inside

  let_at : (s : Table) (head rest : ℕ) (a b : Tree) (t : Term) → Knows v.pass head a → Knows v.pass rest b → head ≡ 1 → IsLeaf s 1 Leaf.let_head
      → StandsFor s (cell a b) t → IsLetCell s rest t
  let_at s head rest a b (numeral n) first second is_let there is = absurd is
  let_at s head rest a b (variable x) first second is_let there is = absurd is
  let_at s head rest a b (operation op no_terms) first second is_let there is = absurd is
  let_at s head rest a b (operation op (term x xs)) first second is_let there is =
      absurd (let e : IsLeaf s 1 (operator op) = subst (λ j. IsLeaf s j (operator op)) is_let (head_is s head a (operator op) first is.0) in
      let f : Some Leaf.let_head ≡ Some (operator op) = sym there ∙ e in cc)
  let_at s head rest a b (call f no_terms) first second is_let there is = absurd is
  let_at s head rest a b (call f (term x xs)) first second is_let there is =
      absurd (let e : IsLeaf s 1 (function_leaf f) = subst (λ j. IsLeaf s j (function_leaf f)) is_let (head_is s head a (function_leaf f) first is.0) in
      let g : Some Leaf.let_head ≡ Some (function_leaf f) = sym there ∙ e in cc)
  let_at s head rest a (leaf k) (let_in bs u) first second is_let there is = absurd is.1
  let_at s head rest a (cell list of_body) (let_in bs u) first second is_let there is = record {
    bindings = bs;
    inside = u;
    is = refl;
    list = list;
    of_body = of_body;
    known = second;
    pairs_stand = is.1.0;
    body_stands = is.1.1;
  }

  pub cell_let : (s : Table) (r head rest : ℕ) (t : Term) → 2 ^ 30 ≤ r → RefersTo s v r t → ArePartsOf r head rest → head ≡ 1
      → IsLeaf s 1 Leaf.let_head → IsLetCell s rest t
  cell_let s r head rest t high h are is_let there =
      let c = cell_tree r h.tree h.known high in
      let_at s head rest c.first c.second t (are.first c.first c.second c.known) (are.second c.first c.second c.known) is_let there
      (subst (λ x. StandsFor s x t) c.is h.stands)

  pub let_known : (s : Table) (rest : ℕ) (t : Term) → IsLetCell s rest t → IsKnownCell v.pass rest
  let_known s rest t h = record { first = h.list; second = h.of_body; stands = h.known }

  pub let_parts : (s : Table) (rest list body : ℕ) (t : Term) → IsLetCell s rest t → ArePartsOf rest list body → IsLetAt s v list body t
  let_parts s rest list body t h are = record {
    bindings = h.bindings;
    inside = h.inside;
    is = h.is;
    pairs = record { tree = h.list; known = are.first h.list h.of_body h.known; stands = h.pairs_stand };
    refers = record { tree = h.of_body; known = are.second h.list h.of_body h.known; stands = h.body_stands };
  }

  -- lists of arguments
  pub no_arguments : (s : Table) (r : ℕ) (ts : Terms) → r < 2 ^ 30 → IsListOf s v r ts → ts ≡ no_terms
  no_arguments s r ts low h = go ts (subst (λ x. StandsForList s x ts) (leaf_tree r h.tree h.known low) h.stands)
    where
      go : (ts : Terms) → StandsForList s (leaf r) ts → ts ≡ no_terms
      go no_terms is = refl
      go (term t ts) is = absurd is

  pub has_argument : (s : Table) (old_tasks new_tasks : List Task) (r first rest : ℕ) (ts : Terms) → 2 ^ 30 ≤ r → IsListOf s v r ts
      → ArePartsOf r first rest → new_tasks ≡ old_tasks ++ (Task.Arguments rest ∷ Task.Term first ∷ []) → PutsArgument s v old_tasks new_tasks ts
  has_argument s old_tasks new_tasks r first rest ts high h are put = go ts (subst (λ x. StandsForList s x ts) c.is h.stands)
    where
      c : IsCellAt r h.tree
      c = cell_tree r h.tree h.known high

      go : (ts : Terms) → StandsForList s (cell c.first c.second) ts → PutsArgument s v old_tasks new_tasks ts
      go no_terms is = absurd (let e : cell c.first c.second ≡ leaf 0 = is in cc)
      go (term t ts) is = record {
        first = t;
        others = ts;
        is = refl;
        of_first = first;
        of_others = rest;
        put = put;
        refers = record { tree = c.first; known = are.first c.first c.second c.known; stands = is.0 };
        list = record { tree = c.second; known = are.second c.first c.second c.known; stands = is.1 };
      }

  -- lists of bindings
  pub no_pairs : (s : Table) (r : ℕ) (bs : Bindings) → r < 2 ^ 30 → ArePairsOf s v r bs → bs ≡ no_bindings
  no_pairs s r bs low h = go bs (subst (λ x. StandsForBindings s x bs) (leaf_tree r h.tree h.known low) h.stands)
    where
      go : (bs : Bindings) → StandsForBindings s (leaf r) bs → bs ≡ no_bindings
      go no_bindings is = refl
      go (binding x t bs) is = absurd is

  -- the first pair of a list, and the others
  pub record IsPairAt (s : Table) (pair rest : ℕ) (bs : Bindings) : Type 0 where
    pub bound : Var
    pub value : Term
    pub others : Bindings
    pub is : bs ≡ binding bound value others
    pub of_name : Tree
    pub of_value : Tree
    pub known : Knows v.pass pair (cell of_name of_value)
    pub name_stands : IsLeafOf s of_name (variable_leaf bound)
    pub value_stands : StandsFor s of_value value
    pub list : ArePairsOf s v rest others

  pub first_pair : (s : Table) (r pair rest : ℕ) (bs : Bindings) → 2 ^ 30 ≤ r → ArePairsOf s v r bs → ArePartsOf r pair rest
      → IsPairAt s pair rest bs
  first_pair s r pair rest bs high h are =
      go bs c.first c.second (are.first c.first c.second c.known) (are.second c.first c.second c.known) (subst (λ x. StandsForBindings s x bs) c.is h.stands)
    where
      c : IsCellAt r h.tree
      c = cell_tree r h.tree h.known high

      go : (bs : Bindings) (a b : Tree) → Knows v.pass pair a → Knows v.pass rest b → StandsForBindings s (cell a b) bs → IsPairAt s pair rest bs
      go no_bindings a b first second is = absurd (let e : cell a b ≡ leaf 0 = is in cc)
      go (binding x t bs) (leaf k) b first second is = absurd is.0
      go (binding x t bs) (cell n w) b first second is = record {
        bound = x;
        value = t;
        others = bs;
        is = refl;
        of_name = n;
        of_value = w;
        known = first;
        name_stands = is.0.0;
        value_stands = is.0.1;
        list = record { tree = b; known = second; stands = is.1 };
      }

  pub pair_known : (s : Table) (pair rest : ℕ) (bs : Bindings) → IsPairAt s pair rest bs → IsKnownCell v.pass pair
  pair_known s pair rest bs h = record { first = h.of_name; second = h.of_value; stands = h.known }

  pub has_binding : (s : Table) (pair rest name value : ℕ) (bs : Bindings) → IsPairAt s pair rest bs → ArePartsOf pair name value
      → IsBindingAt s v name value rest bs
  has_binding s pair rest name value bs h are = record {
    bound = h.bound;
    value = h.value;
    others = h.others;
    is = h.is;
    leaf_is = head_is s name h.of_name (variable_leaf h.bound) (are.first h.of_name h.of_value h.known) h.name_stands;
    refers = record { tree = h.of_value; known = are.second h.of_name h.of_value h.known; stands = h.value_stands };
    list = h.list;
  }
