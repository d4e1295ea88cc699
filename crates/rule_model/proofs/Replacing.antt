-- Replacing lets keeps the sort and the value of a term, and leaves no let.
use Rattle.std.proofs.Common.{◌≡◌, List, [], ◌∷◌, ◌++◌, Bool, true, false, if◌then◌else◌, refl, sym, ◌∙◌, ap, subst, append_assoc}
use Rattle.std.specs.List.{AllByRecursion}
use Rattle.term_model.specs.declared.symbols.Sort.{Sort}
use Rattle.term_model.specs.declared.symbols.Op.{Op}
use Rattle.term_model.specs.Terms.{Var, var_eq, Term, numeral, variable, operation, call, let_in, Terms, no_terms, term, Bindings, no_bindings, binding}
use Rattle.term_model.specs.Sorts.{is_divisor, has_divisor, divides, IsOf, AreOf, AreBound}
use Rattle.term_model.specs.Operators.{meaning}
use Rattle.term_model.specs.Interpretations.{Interpretation, first_row}
use Rattle.term_model.specs.Meaning.{Valuation, value_at, value, values, bound}
use Rattle.term_model.proofs.Tests.{var_eq_decides}
use Rattle.term_model.proofs.Sorting.{operation_again}
use Rattle.term_model.proofs.Lists.{all_joined}
use Rattle.rule_model.specs.Replacement.{Replacement, replaced_by, replaced, replaced_all, replaced_bindings, HasNoLet, HaveNoLet, values_put}
use Rattle.rule_model.specs.Substitution.{HaveTheirSorts}

pub term_at-sort : (r : Replacement) (x : Var) → HaveTheirSorts r → IsOf (replaced_by r x) x.sort
term_at-sort [] x h = refl
term_at-sort (b ∷ r) x h = go (var_eq b.0 x) refl (term_at-sort r x h.1)
  where
    go : (t : Bool) → var_eq b.0 x ≡ t → IsOf (replaced_by r x) x.sort → IsOf (if t then b.1 else replaced_by r x) x.sort
    go true e rest = subst (λ y. IsOf b.1 y.sort) ((var_eq_decides b.0 x).0 e) h.0
    go false e rest = rest

-- a divisor has no variable, so that it stays
divisor_stays : (r : Replacement) (t : Term) → is_divisor t ≡ true → is_divisor (replaced r t) ≡ true
unfolding replaced
divisor_stays r (numeral n) e = e
divisor_stays r (operation Op.Minus (term (numeral n) no_terms)) e = e
divisor_stays r _ e = absurd cc

has_divisor_stays : (r : Replacement) (ts : Terms) → has_divisor ts ≡ true → has_divisor (replaced_all r ts) ≡ true
unfolding replaced
has_divisor_stays r no_terms e = absurd cc
has_divisor_stays r (term t no_terms) e = absurd cc
has_divisor_stays r (term t (term u ts)) e = divisor_stays r u e

divides_stays : (r : Replacement) (op : Op) (ts : Terms) → divides op ts ≡ true → divides op (replaced_all r ts) ≡ true
divides_stays r Op.Div ts e = has_divisor_stays r ts e
divides_stays r Op.Mod ts e = has_divisor_stays r ts e
divides_stays r _ ts e = refl

mutual
  unfolding replaced

  pub replaced-sort : (t : Term) (r : Replacement) (s : Sort) → HaveTheirSorts r → IsOf t s → IsOf (replaced r t) s
  replaced-sort (numeral n) r s h e = e
  replaced-sort (variable x) r s h e = subst (IsOf (replaced_by r x)) (sym e) (term_at-sort r x h)
  replaced-sort (operation op ts) r s h e = record {
    sorts = e.sorts;
    arguments = replaced_all-sorts ts r e.sorts h e.arguments;
    is = operation_again op ts (replaced_all r ts) e.sorts s (divides_stays r op ts) e.is;
  }
  replaced-sort (call f ts) r s h e =
      record { sorts = e.sorts; arguments = replaced_all-sorts ts r e.sorts h e.arguments; is = e.is }
  replaced-sort (let_in bs t) r s h e =
      replaced-sort t (replaced_bindings r bs ++ r) s
      (all_joined (λ b. IsOf b.1 b.0.sort) (replaced_bindings r bs) r (replaced_bindings-fit bs r h e.0) h) e.1

  pub replaced_all-sorts : (ts : Terms) (r : Replacement) (ss : List Sort) → HaveTheirSorts r → AreOf ts ss → AreOf (replaced_all r ts) ss
  replaced_all-sorts no_terms r [] h e = tt
  replaced_all-sorts no_terms r (s ∷ ss) h e = absurd e
  replaced_all-sorts (term t ts) r [] h e = absurd e
  replaced_all-sorts (term t ts) r (s ∷ ss) h e = (replaced-sort t r s h e.0, replaced_all-sorts ts r ss h e.1)

  pub replaced_bindings-fit : (bs : Bindings) (r : Replacement) → HaveTheirSorts r → AreBound bs → HaveTheirSorts (replaced_bindings r bs)
  replaced_bindings-fit no_bindings r h e = tt
  replaced_bindings-fit (binding x t bs) r h e = (replaced-sort t r x.sort h e.0, replaced_bindings-fit bs r h e.1)

-- each term that is put in has no let
abbrev pub AreLetFree : Replacement → Type 0
AreLetFree r = AllByRecursion (λ b. HasNoLet b.1) r

pub term_at-let_free : (r : Replacement) (x : Var) → AreLetFree r → HasNoLet (replaced_by r x)
term_at-let_free [] x h = tt
term_at-let_free (b ∷ r) x h = go (var_eq b.0 x) (term_at-let_free r x h.1)
  where
    go : (t : Bool) → HasNoLet (replaced_by r x) → HasNoLet (if t then b.1 else replaced_by r x)
    go true rest = h.0
    go false rest = rest

mutual
  unfolding replaced

  pub replaced-let_free : (t : Term) (r : Replacement) → AreLetFree r → HasNoLet (replaced r t)
  replaced-let_free (numeral n) r h = tt
  replaced-let_free (variable x) r h = term_at-let_free r x h
  replaced-let_free (operation op ts) r h = replaced_all-let_free ts r h
  replaced-let_free (call f ts) r h = replaced_all-let_free ts r h
  replaced-let_free (let_in bs t) r h =
      replaced-let_free t (replaced_bindings r bs ++ r)
      (all_joined (λ b. HasNoLet b.1) (replaced_bindings r bs) r (replaced_bindings-let_free bs r h) h)

  pub replaced_all-let_free : (ts : Terms) (r : Replacement) → AreLetFree r → HaveNoLet (replaced_all r ts)
  replaced_all-let_free no_terms r h = tt
  replaced_all-let_free (term t ts) r h = (replaced-let_free t r h, replaced_all-let_free ts r h)

  pub replaced_bindings-let_free : (bs : Bindings) (r : Replacement) → AreLetFree r → AreLetFree (replaced_bindings r bs)
  replaced_bindings-let_free no_bindings r h = tt
  replaced_bindings-let_free (binding x t bs) r h = (replaced-let_free t r h, replaced_bindings-let_free bs r h)

-- values
pub value_of_put : (I : Interpretation) (v : Valuation) (r : Replacement) (x : Var) → value I v (replaced_by r x) ≡ value_at (values_put I v r ++ v) x
value_of_put I v [] x = refl
value_of_put I v (b ∷ r) x = go (var_eq b.0 x) (value_of_put I v r x)
  where
    go : (t : Bool) → value I v (replaced_by r x) ≡ value_at (values_put I v r ++ v) x → value I v (if t then b.1 else replaced_by r x) ≡ (if t then value I v b.1 else value_at (values_put I v r ++ v) x)
    go true rest = refl
    go false rest = rest

pub values_put-joined : (I : Interpretation) (v : Valuation) (r q : Replacement) → values_put I v (r ++ q) ≡ values_put I v r ++ values_put I v q
values_put-joined I v [] q = refl
values_put-joined I v (b ∷ r) q = ap (λ u. (b.0, value I v b.1) ∷ u) (values_put-joined I v r q)

mutual
  unfolding replaced

  pub value_replaced : (t : Term) (I : Interpretation) (v : Valuation) (r : Replacement) → value I v (replaced r t) ≡ value I (values_put I v r ++ v) t
  value_replaced (numeral n) I v r = refl
  value_replaced (variable x) I v r = value_of_put I v r x
  value_replaced (operation op ts) I v r = ap (meaning op) (values_replaced ts I v r)
  value_replaced (call f ts) I v r = ap (first_row (I.table f).rows (I.table f).default) (values_replaced ts I v r)
  value_replaced (let_in bs t) I v r =
      value_replaced t I v (replaced_bindings r bs ++ r)
      ∙ ap (λ u. value I (u ++ v) t) (values_put-joined I v (replaced_bindings r bs) r)
      ∙ ap (λ u. value I ((u ++ values_put I v r) ++ v) t) (bound_replaced bs I v r)
      ∙ ap (λ u. value I u t) (append_assoc (bound I (values_put I v r ++ v) bs) (values_put I v r) v)

  pub values_replaced : (ts : Terms) (I : Interpretation) (v : Valuation) (r : Replacement) → values I v (replaced_all r ts) ≡ values I (values_put I v r ++ v) ts
  values_replaced no_terms I v r = refl
  values_replaced (term t ts) I v r =
      ap (λ u. u ∷ values I v (replaced_all r ts)) (value_replaced t I v r)
      ∙ ap (λ u. value I (values_put I v r ++ v) t ∷ u) (values_replaced ts I v r)

  pub bound_replaced : (bs : Bindings) (I : Interpretation) (v : Valuation) (r : Replacement) → values_put I v (replaced_bindings r bs) ≡ bound I (values_put I v r ++ v) bs
  bound_replaced no_bindings I v r = refl
  bound_replaced (binding x t bs) I v r =
      ap (λ u. (x, u) ∷ values_put I v (replaced_bindings r bs)) (value_replaced t I v r)
      ∙ ap (λ u. (x, value I (values_put I v r ++ v) t) ∷ u) (bound_replaced bs I v r)

mutual
  unfolding replaced

  -- a term without lets is left as it is where nothing is put in
  pub replaced-none : (t : Term) → HasNoLet t → replaced [] t ≡ t
  replaced-none (numeral n) h = refl
  replaced-none (variable x) h = refl
  replaced-none (operation op ts) h = ap (operation op) (replaced_all-none ts h)
  replaced-none (call f ts) h = ap (call f) (replaced_all-none ts h)
  replaced-none (let_in bs t) h = absurd h

  pub replaced_all-none : (ts : Terms) → HaveNoLet ts → replaced_all [] ts ≡ ts
  replaced_all-none no_terms h = refl
  replaced_all-none (term t ts) h = let e = replaced-none t h.0 in let f = replaced_all-none ts h.1 in cc
