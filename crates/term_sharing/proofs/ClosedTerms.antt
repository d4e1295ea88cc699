-- Terms in which no variable is free, by their parts.
use Rattle.std.proofs.Common.{◌≡◌, ◌≢◌, ◌⊎◌, inl, inr, ℕ, ◌+◌, ◌<◌, ◌≤◌, ◌^◌, Bool, true, false, not, List, [], ◌∷◌, refl, sym, ◌∙◌, subst, arith}
use Rattle.std.specs.Prelude.{All, IsTrue, nat_lt, slice_index, length}
use Rattle.std.proofs.Math.ListN.{get_or}
use Rattle.std.proofs.lemmas.Option.{slice_get-get_or}
use Rattle.std.proofs.lemmas.Bool.{cases_eq}
use Rattle.std.proofs.lemmas.Bool.Decides.{nat_tests}
use Rattle.std.specs.List.{AllZip}
use Rattle.std.proofs.lemmas.List.Elements.{All-nil, All-cons, All-head, All-tail}
use Rattle.pair_pool.specs.Trees.{Tree, leaf, cell}
use Rattle.pair_pool.specs.Views.{Knows, IsOneToOne, HasPartsOfTrees}
use Rattle.sym_table.specs.Table.{Table, IsLeaf}
use Rattle.term_model.specs.declared.symbols.Sort.{Sort}
use Rattle.term_model.specs.Sorts.{AreOf, AreBound, IsWellSorted}
use Rattle.term_model.specs.Terms.{Var, Term, numeral, variable, operation, call, let_in, Terms, no_terms, term, list_of, Bindings, no_bindings, binding}
use Rattle.term_pool.specs.Building.{AreBindings}
use Rattle.term_pool.specs.Reading.{arguments_of, IsLet}
use Rattle.term_pool.specs.StandsFor.{variable_leaf, StandsFor}
use Rattle.term_pool.specs.Views.{TermsView, RefersTo, ReferToAll}
use Rattle.rule_model.specs.Replacement.{free_variables, free_among}
use Rattle.sort_check.specs.WellSorted.{IsWellSortedTerm}
use Rattle.term_sharing.specs.NamedTerms.{IsClosed}

-- what tests say
pub is_high : (b : Bool) (r n : ℕ) → b ≡ false → (r < n → IsTrue b) → n ≤ r
is_high b r n e h = go (nat_lt r n) refl
  where
    go : (test : Bool) → nat_lt r n ≡ test → n ≤ r
    go true l = absurd (let low : r < n = grind (arith, nat_tests) in let f : b ≡ true = h low in let g : true ≡ false = sym f ∙ e in cc)
    go false l = grind (arith, nat_tests)

pub is_false : (b : Bool) → not b ≡ true → b ≡ false
is_false true e = absurd (cc)
is_false false e = refl

module _ (s : Table) (v : TermsView) where
  -- parts of well-sorted terms
  all_sorted : (ts : Terms) (ss : List Sort) (rs : List ℕ) → AreOf ts ss → AllZip (RefersTo s v) rs (list_of ts) → All (IsWellSortedTerm s v) rs
  all_sorted no_terms ss [] of refer = All-nil (IsWellSortedTerm s v)
  all_sorted no_terms ss (r ∷ rs) of refer = absurd refer
  all_sorted (term t ts) [] rs of refer = absurd of
  all_sorted (term t ts) (a ∷ ss) [] of refer = absurd refer
  all_sorted (term t ts) (a ∷ ss) (r ∷ rs) of refer =
      All-cons (IsWellSortedTerm s v) r rs (record { means = t; refers = refer.0; sorted = record { sort = a; of = of.0 } })
      (all_sorted ts ss rs of.1 refer.1)

  none_sorted : (rs : List ℕ) → AllZip (RefersTo s v) rs [] → All (IsWellSortedTerm s v) rs
  none_sorted [] refer = All-nil (IsWellSortedTerm s v)
  none_sorted (r ∷ rs) refer = absurd refer

  pub arguments_sorted : (t : Term) (rs : List ℕ) → IsWellSorted t → ReferToAll s v rs (arguments_of t) → All (IsWellSortedTerm s v) rs
  arguments_sorted (numeral n) rs w refer = none_sorted rs refer
  arguments_sorted (variable x) rs w refer = none_sorted rs refer
  arguments_sorted (operation op ts) rs w refer = all_sorted ts w.of.sorts rs w.of.arguments refer
  arguments_sorted (call f ts) rs w refer = all_sorted ts w.of.sorts rs w.of.arguments refer
  arguments_sorted (let_in bs t) rs w refer = none_sorted rs refer

  pub values_sorted : (bs : Bindings) (ks rs : List ℕ) → AreBound bs → AreBindings s v ks rs bs → All (IsWellSortedTerm s v) rs
  values_sorted no_bindings [] [] of are = All-nil (IsWellSortedTerm s v)
  values_sorted (binding x t bs) [] [] of are = absurd are
  values_sorted bs [] (r ∷ rs) of are = absurd are
  values_sorted bs (k ∷ ks) [] of are = absurd are
  values_sorted no_bindings (k ∷ ks) (r ∷ rs) of are = absurd are
  values_sorted (binding x t bs) (k ∷ ks) (r ∷ rs) of are =
      All-cons (IsWellSortedTerm s v) r rs (record { means = t; refers = are.1; sorted = record { sort = x.sort; of = of.0 } })
      (values_sorted bs ks rs of.1 are.2)

  -- one part more
  pub one_below : (rs : List ℕ) (i : ℕ) → i < length rs → ((k : ℕ) → k < i → IsClosed s v (slice_index rs k)) → (r : ℕ) → r ≡ get_or rs i r
      → IsClosed s v r → (k : ℕ) → k < i + 1 → IsClosed s v (slice_index rs k)
  one_below rs i there before r is here k low = go (cases_eq k i)
    where
      go : (k ≡ i) ⊎ (k ≢ i) → IsClosed s v (slice_index rs k)
      go (inl same) =
          let a = slice_get-get_or rs i r there in
          let b = slice_get-get_or rs i 0 there in
          let item : r ≡ slice_index rs i = cc in
          subst (λ j. IsClosed s v (slice_index rs j)) (sym same) (subst (IsClosed s v) item here)
      go (inr other) = before k (omega (arith, low, other))

  -- arguments without free variables
  all_closed : (ts : Terms) (rs : List ℕ) → AllZip (RefersTo s v) rs (list_of ts) → All (IsClosed s v) rs → free_among ts ≡ []
  unfolding free_among
  all_closed no_terms rs refer closed = refl
  all_closed (term t ts) [] refer closed = absurd refer
  all_closed (term t ts) (r ∷ rs) refer closed =
      let first = All-head (IsClosed s v) r rs closed t refer.0 in
      let rest = all_closed ts rs refer.1 (All-tail (IsClosed s v) r rs closed) in
      rw (first, rest) refl

  module _ (one : IsOneToOne v.pass) (parts : HasPartsOfTrees v.pass) (r : ℕ) where
    pub leaf_closed : r < 2 ^ 30 → ((x : Var) → IsLeaf s r (variable_leaf x) → ⊥) → IsClosed s v r
    unfolding free_variables free_among
    leaf_closed low none t refers = go refers.tree t refers.known refers.stands
      where
        go : (tree : Tree) (t : Term) → Knows v.pass r tree → StandsFor s tree t → free_variables t ≡ []
        go (cell a b) t known is = let h = one.high r a b known in absurd (omega (arith, h, low))
        go (leaf k) (numeral n) known is = refl
        go (leaf k) (variable x) known is = absurd (none x (subst (λ j. IsLeaf s j (variable_leaf x)) (sym (parts.leaf_number r k known).0) is))
        go (leaf k) (operation op no_terms) known is = refl
        go (leaf k) (operation op (term t ts)) known is = absurd is
        go (leaf k) (call f no_terms) known is = refl
        go (leaf k) (call f (term t ts)) known is = absurd is
        go (leaf k) (let_in bs t) known is = absurd is

    pub cell_closed : (t : Term) (rs : List ℕ) → 2 ^ 30 ≤ r → RefersTo s v r t → (IsLet t → ⊥) → ReferToAll s v rs (arguments_of t)
        → All (IsClosed s v) rs → free_variables t ≡ []
    unfolding free_variables
    cell_closed (numeral n) rs high refers no_let refer closed = refl
    cell_closed (variable x) rs high refers no_let refer closed = no_variable refers.tree refers.known refers.stands
      where
        no_variable : (tree : Tree) → Knows v.pass r tree → StandsFor s tree (variable x) → free_variables (variable x) ≡ []
        no_variable (leaf k) known is =
            let h = parts.leaf_number r k known in let e = h.0 in let l = h.1 in absurd (omega (arith, e, l, high))
        no_variable (cell a b) known is = absurd is
    cell_closed (operation op ts) rs high refers no_let refer closed = all_closed ts rs refer closed
    cell_closed (call f ts) rs high refers no_let refer closed = all_closed ts rs refer closed
    cell_closed (let_in bs t) rs high refers no_let refer closed = absurd (no_let tt)
