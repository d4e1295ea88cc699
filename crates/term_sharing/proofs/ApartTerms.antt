-- A term of the pool is apart from a name that no leaf has.
use Rattle.std.proofs.Common.{◌≡◌, ℕ, Bool, true, false, List, bytes_eq, refl, sym, [], ◌∷◌, None}
use Rattle.std.specs.List.{AllByRecursion}
use Rattle.std.proofs.lemmas.Slice.Eq.{bytes_eq-Decides}
use Rattle.pair_pool.specs.Trees.{Tree, leaf, cell}
use Rattle.sym_table.specs.Leaf.{operator}
use Rattle.sym_table.specs.Table.{Table}
use Rattle.term_model.specs.Terms.{Term, numeral, variable, operation, call, let_in, Terms, no_terms, term, Bindings, no_bindings, binding}
use Rattle.term_pool.specs.StandsFor.{variable_leaf, function_leaf, StandsFor, StandsForList, StandsForBindings}
use Rattle.problem_text.specs.Names.{Bound, innermost}
use Rattle.problem_text.specs.PrintedTerms.{HasNotName, HaveNotName, AreBoundWithoutName}
use Rattle.printed_proofs.specs.Naming.{BindsNot, BindNot, AreOtherNames}
use Rattle.term_sharing.specs.Naming.{IsNoLeaf, HasVariable}

pub other_way : (a b : List ℕ) → bytes_eq a b ≡ false → bytes_eq b a ≡ false
other_way a b e = go (bytes_eq b a) refl
  where
    go : (test : Bool) → bytes_eq b a ≡ test → test ≡ false
    go true f = let g = (bytes_eq-Decides a b).1 (sym ((bytes_eq-Decides b a).0 f)) in absurd (cc)
    go false f = refl

module _ (s : Table) (name : List ℕ) (no_leaf : IsNoLeaf s name) where
  mutual
    pub term_apart : (tree : Tree) (t : Term) → StandsFor s tree t → HasNotName name t × BindsNot name t
    term_apart tree (numeral n) is = (tt, tt)
    term_apart (leaf k) (variable x) is = (no_leaf k (variable_leaf x) is, tt)
    term_apart (cell a b) (variable x) is = absurd is
    term_apart (leaf k) (operation op no_terms) is = ((no_leaf k (operator op) is, tt), tt)
    term_apart (cell a b) (operation op no_terms) is = absurd is
    term_apart (leaf k) (operation op (term t ts)) is = absurd is
    term_apart (cell (leaf k) b) (operation op (term t ts)) is =
        let rest = terms_apart b (term t ts) is.1 in ((no_leaf k (operator op) is.0, rest.0), rest.1)
    term_apart (cell (cell a c) b) (operation op (term t ts)) is = absurd is.0
    term_apart (leaf k) (call f no_terms) is = ((no_leaf k (function_leaf f) is, tt), tt)
    term_apart (cell a b) (call f no_terms) is = absurd is
    term_apart (leaf k) (call f (term t ts)) is = absurd is
    term_apart (cell (leaf k) b) (call f (term t ts)) is =
        let rest = terms_apart b (term t ts) is.1 in ((no_leaf k (function_leaf f) is.0, rest.0), rest.1)
    term_apart (cell (cell a c) b) (call f (term t ts)) is = absurd is.0
    term_apart (leaf k) (let_in bs t) is = absurd is
    term_apart (cell h (leaf k)) (let_in bs t) is = absurd is.1
    term_apart (cell h (cell a b)) (let_in bs t) is =
        let first = bindings_apart a bs is.1.0 in
        let rest = term_apart b t is.1.1 in
        ((first.0, rest.0), (first.1, rest.1))

    terms_apart : (tree : Tree) (ts : Terms) → StandsForList s tree ts → HaveNotName name ts × BindNot name ts
    terms_apart tree no_terms is = (tt, tt)
    terms_apart (leaf k) (term t ts) is = absurd is
    terms_apart (cell a b) (term t ts) is =
        let first = term_apart a t is.0 in
        let rest = terms_apart b ts is.1 in
        ((first.0, rest.0), (first.1, rest.1))

    bindings_apart : (tree : Tree) (bs : Bindings) → StandsForBindings s tree bs → AreBoundWithoutName name bs × AreOtherNames name bs
    bindings_apart tree no_bindings is = (tt, tt)
    bindings_apart (leaf k) (binding x t bs) is = absurd is
    bindings_apart (cell (leaf k) b) (binding x t bs) is = absurd is.0
    bindings_apart (cell (cell (leaf k) a) b) (binding x t bs) is =
        let first = term_apart a t is.0.1 in
        let rest = bindings_apart b bs is.1 in
        ((first.0, rest.0), (other_way name x.name (no_leaf k (variable_leaf x) is.0.0), first.1, rest.1))
    bindings_apart (cell (cell (cell c d) a) b) (binding x t bs) is = absurd is.0.0

  pub place_apart : (scope : List Bound) → AllByRecursion (λ b. HasVariable s b.variable) scope → innermost scope name ≡ None
  place_apart [] have = refl
  place_apart (b ∷ bs) have =
      let first = other_way name b.variable.name (no_leaf have.0.0 (variable_leaf b.variable) have.0.1) in
      let rest = place_apart bs have.1 in
      rw (first, rest) refl
