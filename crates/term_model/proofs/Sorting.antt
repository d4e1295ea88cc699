-- A well-sorted term has one sort, and a value of it.
use Rattle.std.proofs.Common.{◌≡◌, ℕ, List, [], ◌∷◌, ◌++◌, Bool, true, false, ◌&&◌, ℤ, zero, suc, ◌<◌, length, slice_index_or, Some, None, All, if◌then◌else◌, refl, sym, ap, ◌∙◌, subst, arith}
use Rattle.std.proofs.lemmas.List.Elements.{All-from_recursion}
use Rattle.std.specs.List.{AllByRecursion}
use Rattle.term_model.specs.declared.symbols.Sort.{Sort}
use Rattle.term_model.specs.declared.symbols.Op.{Op}
use Rattle.term_model.specs.Terms.{Var, Fun, Term, numeral, variable, operation, call, let_in, Terms, no_terms, term, Bindings, no_bindings, binding, list_of, sort_eq, var_eq}
use Rattle.term_model.specs.Values.{Value, truth, whole, HasSort, HaveSorts, some_value, as_truth}
use Rattle.term_model.specs.Operators.{meaning, chosen_value}
use Rattle.term_model.specs.Interpretations.{Row, RowFits, Interpretation, first_row, values_eq}
use Rattle.term_model.specs.Meaning.{Valuation, ValuationFits, value_at, value, values, bound}
use Rattle.term_model.specs.Sorts.{when, sorts_eq, choice_sort, application_sort, call_sort, divides, operation_sort, IsOf, AreOf, AreBound, IsWellSorted}
use Rattle.term_model.proofs.Basics.{and-left, and-right, then_branch}
use Rattle.term_model.proofs.Tests.{sort_eq_decides, var_eq_decides, sorts_eq_decides}

-- what a test that returns a sort has told
pub when-true : (b : Bool) (s u : Sort) → when b s ≡ Some u → b ≡ true
when-true true s u e = refl
when-true false s u e = cc

pub when-same : (b : Bool) (s u : Sort) → when b s ≡ Some u → u ≡ s
when-same true s u e = cc
when-same false s u e = cc

-- the sort of an `ite` is that of both its branches
pub choice_sort-branches : (c s t u : Sort) → choice_sort (c ∷ s ∷ t ∷ []) ≡ Some u → (u ≡ s) × (s ≡ t) × (c ≡ Sort.Bool)
choice_sort-branches c s t u e =
    let both = when-true (sort_eq Sort.Bool c && sort_eq s t) s u e in (
      when-same (sort_eq Sort.Bool c && sort_eq s t) s u e,
      (sort_eq_decides s t).0 (and-right (sort_eq Sort.Bool c) (sort_eq s t) both),
      sym ((sort_eq_decides Sort.Bool c).0 (and-left (sort_eq Sort.Bool c) (sort_eq s t) both)),
    )

pub some_value_fits : (s : Sort) → HasSort s (some_value s)
some_value_fits Sort.Bool = tt
some_value_fits Sort.Int = tt
some_value_fits (Sort.Declared n) = tt

pub value_at_fits : (r : Valuation) (x : Var) → ValuationFits r → HasSort x.sort (value_at r x)
value_at_fits [] x fits = some_value_fits x.sort
value_at_fits (b ∷ r) x fits = go (var_eq b.0 x) refl (value_at_fits r x fits.1)
  where
    go : (t : Bool) → var_eq b.0 x ≡ t → HasSort x.sort (value_at r x) → HasSort x.sort (if t then b.1 else value_at r x)
    go true e rest = subst (λ y. HasSort y.sort b.1) ((var_eq_decides b.0 x).0 e) fits.0
    go false e rest = rest

pub first_row_fits : (f : Fun) (rows : List Row) (default : Value) (vs : List Value) → AllByRecursion (RowFits f) rows → HasSort f.target default → HasSort f.target (first_row rows default vs)
first_row_fits f [] default vs fits here = here
first_row_fits f (row ∷ rows) default vs fits here =
    go (values_eq row.arguments vs) (first_row_fits f rows default vs fits.1 here)
  where
    go : (t : Bool) → HasSort f.target (first_row rows default vs) → HasSort f.target (if t then row.result else first_row rows default vs)
    go true rest = fits.0.result
    go false rest = rest

pub choice_fits : (s : Sort) (c : Bool) (v w : Value) → HasSort s v → HasSort s w → HasSort s (if c then v else w)
choice_fits s true v w h k = h
choice_fits s false v w h k = k

pub choice_has_sort : (ss : List Sort) (vs : List Value) (u : Sort) → choice_sort ss ≡ Some u → HaveSorts ss vs → HasSort u (chosen_value vs)
choice_has_sort [] vs u e h = absurd cc
choice_has_sort (c ∷ []) vs u e h = absurd cc
choice_has_sort (c ∷ s ∷ []) vs u e h = absurd cc
choice_has_sort (c ∷ s ∷ t ∷ x ∷ rest) vs u e h = absurd cc
choice_has_sort (c ∷ s ∷ t ∷ []) [] u e h = absurd h
choice_has_sort (c ∷ s ∷ t ∷ []) (v ∷ []) u e h = absurd h.1
choice_has_sort (c ∷ s ∷ t ∷ []) (v ∷ w ∷ []) u e h = absurd h.1.1
choice_has_sort (c ∷ s ∷ t ∷ []) (v ∷ w ∷ x ∷ []) u e h =
    let b = choice_sort-branches c s t u e in
    subst (λ k. HasSort k (chosen_value (v ∷ w ∷ x ∷ []))) (sym b.0)
    (choice_fits s (as_truth v) w x h.1.0 (subst (λ k. HasSort k x) (sym b.1) h.1.1.0))
choice_has_sort (c ∷ s ∷ t ∷ []) (v ∷ w ∷ x ∷ y ∷ vs) u e h = absurd h.1.1.1

-- an operation that has a sort divides by a constant other than zero, and has the sort of the application
pub operation_divides : (op : Op) (ts : Terms) (ss : List Sort) (u : Sort) → operation_sort op ts ss ≡ Some u → divides op ts ≡ true
operation_divides op ts ss u = go (divides op ts)
  where
    go : (b : Bool) → (if b then application_sort op ss else None) ≡ Some u → b ≡ true
    go true e = refl
    go false e = cc

pub operation_application : (op : Op) (ts : Terms) (ss : List Sort) (u : Sort) → operation_sort op ts ss ≡ Some u → application_sort op ss ≡ Some u
operation_application op ts ss u = go (divides op ts)
  where
    go : (b : Bool) → (if b then application_sort op ss else None) ≡ Some u → application_sort op ss ≡ Some u
    go true e = e
    go false e = cc

pub application_operation : (op : Op) (ts : Terms) (ss : List Sort) (u : Sort) → divides op ts ≡ true → application_sort op ss ≡ Some u
    → operation_sort op ts ss ≡ Some u
application_operation op ts ss u e h = ap (λ b. if b then application_sort op ss else None) e ∙ h

-- so where the divisors are alike the sorts are
pub operation_again : (op : Op) (ts us : Terms) (ss : List Sort) (u : Sort) → (divides op ts ≡ true → divides op us ≡ true)
    → operation_sort op ts ss ≡ Some u → operation_sort op us ss ≡ Some u
operation_again op ts us ss u h e =
    application_operation op us ss u (h (operation_divides op ts ss u e)) (operation_application op ts ss u e)

-- the operators' values have the sorts that the operators have
pub meaning_has_sort : (op : Op) (ss : List Sort) (vs : List Value) (u : Sort) → application_sort op ss ≡ Some u → HaveSorts ss vs → HasSort u (meaning op vs)
meaning_has_sort Op.True ss vs u e h = subst (λ k. HasSort k (meaning Op.True vs)) (sym (when-same _ _ u e)) tt
meaning_has_sort Op.False ss vs u e h = subst (λ k. HasSort k (meaning Op.False vs)) (sym (when-same _ _ u e)) tt
meaning_has_sort Op.Not ss vs u e h = subst (λ k. HasSort k (meaning Op.Not vs)) (sym (when-same _ _ u e)) tt
meaning_has_sort Op.Implies ss vs u e h = subst (λ k. HasSort k (meaning Op.Implies vs)) (sym (when-same _ _ u e)) tt
meaning_has_sort Op.And ss vs u e h = subst (λ k. HasSort k (meaning Op.And vs)) (sym (when-same _ _ u e)) tt
meaning_has_sort Op.Or ss vs u e h = subst (λ k. HasSort k (meaning Op.Or vs)) (sym (when-same _ _ u e)) tt
meaning_has_sort Op.Xor ss vs u e h = subst (λ k. HasSort k (meaning Op.Xor vs)) (sym (when-same _ _ u e)) tt
meaning_has_sort Op.Equal ss vs u e h = subst (λ k. HasSort k (meaning Op.Equal vs)) (sym (when-same _ _ u e)) tt
meaning_has_sort Op.Distinct ss vs u e h = subst (λ k. HasSort k (meaning Op.Distinct vs)) (sym (when-same _ _ u e)) tt
meaning_has_sort Op.Ite ss vs u e h = choice_has_sort ss vs u e h
meaning_has_sort Op.Minus ss vs u e h = subst (λ k. HasSort k (meaning Op.Minus vs)) (sym (when-same _ _ u e)) tt
meaning_has_sort Op.Plus ss vs u e h = subst (λ k. HasSort k (meaning Op.Plus vs)) (sym (when-same _ _ u e)) tt
meaning_has_sort Op.Times ss vs u e h = subst (λ k. HasSort k (meaning Op.Times vs)) (sym (when-same _ _ u e)) tt
meaning_has_sort Op.Div ss vs u e h = subst (λ k. HasSort k (meaning Op.Div vs)) (sym (when-same _ _ u e)) tt
meaning_has_sort Op.Mod ss vs u e h = subst (λ k. HasSort k (meaning Op.Mod vs)) (sym (when-same _ _ u e)) tt
meaning_has_sort Op.LessEq ss vs u e h = subst (λ k. HasSort k (meaning Op.LessEq vs)) (sym (when-same _ _ u e)) tt
meaning_has_sort Op.Less ss vs u e h = subst (λ k. HasSort k (meaning Op.Less vs)) (sym (when-same _ _ u e)) tt
meaning_has_sort Op.GreaterEq ss vs u e h = subst (λ k. HasSort k (meaning Op.GreaterEq vs)) (sym (when-same _ _ u e)) tt
meaning_has_sort Op.Greater ss vs u e h = subst (λ k. HasSort k (meaning Op.Greater vs)) (sym (when-same _ _ u e)) tt

pub call_has_sort : (I : Interpretation) (f : Fun) (ss : List Sort) (vs : List Value) (u : Sort) → call_sort f ss ≡ Some u → HasSort u (first_row (I.table f).rows (I.table f).default vs)
call_has_sort I f ss vs u e =
    subst (λ k. HasSort k (first_row (I.table f).rows (I.table f).default vs)) (sym (when-same _ _ u e))
    (first_row_fits f (I.table f).rows (I.table f).default vs (I.fits f).rows (I.fits f).default)

pub fits-append : (r s : Valuation) → ValuationFits r → ValuationFits s → ValuationFits (r ++ s)
fits-append [] s h k = k
fits-append (b ∷ r) s h k = (h.0, fits-append r s h.1 k)

mutual
  -- a well-sorted term has a value of its sort
  pub value_has_sort : (I : Interpretation) (r : Valuation) → ValuationFits r → (t : Term) (s : Sort) → IsOf t s → HasSort s (value I r t)
  value_has_sort I r fits (numeral n) s h = subst (λ k. HasSort k (value I r (numeral n))) (sym h) tt
  value_has_sort I r fits (variable x) s h = subst (λ k. HasSort k (value_at r x)) (sym h) (value_at_fits r x fits)
  value_has_sort I r fits (operation op ts) s h =
      meaning_has_sort op h.sorts (values I r ts) s (operation_application op ts h.sorts s h.is) (values_have_sorts I r fits ts h.sorts h.arguments)
  value_has_sort I r fits (call f ts) s h = call_has_sort I f h.sorts (values I r ts) s h.is
  value_has_sort I r fits (let_in bs t) s h =
      value_has_sort I (bound I r bs ++ r) (fits-append (bound I r bs) r (bound_fits I r fits bs h.0) fits) t s h.1

  pub values_have_sorts : (I : Interpretation) (r : Valuation) → ValuationFits r → (ts : Terms) (ss : List Sort) → AreOf ts ss → HaveSorts ss (values I r ts)
  values_have_sorts I r fits no_terms [] h = tt
  values_have_sorts I r fits no_terms (s ∷ ss) h = absurd h
  values_have_sorts I r fits (term t ts) [] h = absurd h
  values_have_sorts I r fits (term t ts) (s ∷ ss) h =
      (value_has_sort I r fits t s h.0, values_have_sorts I r fits ts ss h.1)

  pub bound_fits : (I : Interpretation) (r : Valuation) → ValuationFits r → (bs : Bindings) → AreBound bs → ValuationFits (bound I r bs)
  bound_fits I r fits no_bindings h = tt
  bound_fits I r fits (binding x t bs) h = (value_has_sort I r fits t x.sort h.0, bound_fits I r fits bs h.1)

mutual
  -- a term has at most one sort
  pub one_sort : (t : Term) (s u : Sort) → IsOf t s → IsOf t u → s ≡ u
  one_sort (numeral n) s u h k = h ∙ sym k
  one_sort (variable x) s u h k = h ∙ sym k
  one_sort (operation op ts) s u h k =
      let e = one_list ts h.sorts k.sorts h.arguments k.arguments in
      let f = h.is in
      let g = k.is in
      cc
  one_sort (call f ts) s u h k = when-same _ _ s h.is ∙ sym (when-same _ _ u k.is)
  one_sort (let_in bs t) s u h k = one_sort t s u h.1 k.1

  pub one_list : (ts : Terms) (ss us : List Sort) → AreOf ts ss → AreOf ts us → ss ≡ us
  one_list no_terms [] [] h k = refl
  one_list no_terms (s ∷ ss) us h k = absurd h
  one_list no_terms [] (u ∷ us) h k = absurd k
  one_list (term t ts) [] us h k = absurd h
  one_list (term t ts) (s ∷ ss) [] h k = absurd k
  one_list (term t ts) (s ∷ ss) (u ∷ us) h k =
      let e = one_sort t s u h.0 k.0 in
      let f = one_list ts ss us h.1 k.1 in
      cc

-- the sort that a well-sorted term comes with is its only one
pub well_sorted_sort : (t : Term) (w : IsWellSorted t) (s : Sort) → IsOf t s → s ≡ w.sort
well_sorted_sort t w s h = one_sort t s w.sort h w.of

-- the values of a let's variables, in front of those outside
pub all_bound_fit : (I : Interpretation) (r : Valuation) (bs : Bindings) → ValuationFits r → AreBound bs → ValuationFits (bound I r bs ++ r)
all_bound_fit I r bs fits h = fits-append (bound I r bs) r (bound_fits I r fits bs h) fits

pub call_is_of : (f : Fun) (ts : Terms) → AreOf ts f.arguments → IsOf (call f ts) f.target
call_is_of f ts h = record {
  sorts = f.arguments;
  arguments = h;
  is = then_branch (sorts_eq f.arguments f.arguments) (Some f.target) None ((sorts_eq_decides f.arguments f.arguments).1 refl);
}

-- every argument of a well-sorted term is well sorted
pub arguments_well_sorted : (ts : Terms) (ss : List Sort) → AreOf ts ss → AllByRecursion IsWellSorted (list_of ts)
arguments_well_sorted no_terms ss h = tt
arguments_well_sorted (term t ts) [] h = absurd h
arguments_well_sorted (term t ts) (s ∷ ss) h = (record { sort = s; of = h.0 }, arguments_well_sorted ts ss h.1)

pub operation_parts : (op : Op) (ts : Terms) (s : Sort) → IsOf (operation op ts) s → All IsWellSorted (list_of ts)
operation_parts op ts s h = All-from_recursion IsWellSorted (list_of ts) (arguments_well_sorted ts h.sorts h.arguments)

pub call_parts : (f : Fun) (ts : Terms) (s : Sort) → IsOf (call f ts) s → All IsWellSorted (list_of ts)
call_parts f ts s h = All-from_recursion IsWellSorted (list_of ts) (arguments_well_sorted ts h.sorts h.arguments)

-- a value of a sort is of that kind
pub bool_value : (v : Value) → HasSort Sort.Bool v → (b : Bool) × (v ≡ truth b)
bool_value (truth b) h = (b, refl)
bool_value (whole z) h = absurd h

pub int_value : (v : Value) → HasSort Sort.Int v → (z : ℤ) × (v ≡ whole z)
int_value (truth b) h = absurd h
int_value (whole z) h = (z, refl)

pub declared_value : (n : ℕ) (v : Value) → HasSort (Sort.Declared n) v → (z : ℤ) × (v ≡ whole z)
declared_value n (truth b) h = absurd h
declared_value n (whole z) h = (z, refl)

pub have_sorts_length : (ss : List Sort) (vs : List Value) → HaveSorts ss vs → length ss ≡ length vs
have_sorts_length [] [] h = refl
have_sorts_length [] (v ∷ vs) h = absurd h
have_sorts_length (s ∷ ss) [] h = absurd h
have_sorts_length (s ∷ ss) (v ∷ vs) h = let e = have_sorts_length ss vs h.1 in omega arith

pub have_sorts_each : (ss : List Sort) (vs : List Value) → HaveSorts ss vs → (k : ℕ) (s : Sort) (v : Value) → k < length ss → HasSort (slice_index_or ss k s) (slice_index_or vs k v)
have_sorts_each [] vs h k s v below = absurd (omega arith)
have_sorts_each (a ∷ ss) [] h k s v below = absurd h
have_sorts_each (a ∷ ss) (w ∷ vs) h zero s v below = h.0
have_sorts_each (a ∷ ss) (w ∷ vs) h (suc k) s v below = have_sorts_each ss vs h.1 k s v (omega arith)
