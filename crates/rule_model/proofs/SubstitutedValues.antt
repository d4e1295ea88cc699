-- The value of a term with closed terms put in.
use Rattle.std.proofs.Common.{◌≡◌, [], ◌∷◌, ◌++◌, Bool, true, false, not, ◌⊎◌, cond, if◌then◌else◌, refl, sym, ap, ◌∙◌, inl, inr}
use Rattle.term_model.specs.Terms.{Var, var_eq, Term, numeral, variable, operation, call, let_in, Terms, no_terms, term, Bindings, no_bindings, binding}
use Rattle.term_model.specs.FreeVariables.{Binds}
use Rattle.term_model.specs.Operators.{meaning}
use Rattle.term_model.specs.Interpretations.{Interpretation, first_row}
use Rattle.term_model.specs.Meaning.{Valuation, value_at, value, values, bound}
use Rattle.term_model.proofs.Basics.{else_branch}
use Rattle.term_model.proofs.Coincidence.{value_coincides, value_closed, value_at_bound, value_at_unbound}
use Rattle.term_model.proofs.Tests.{var_eq_decides}
use Rattle.rule_model.specs.Replacement.{Replacement, replaced_by, binds, values_put}
use Rattle.rule_model.specs.Substitution.{unbound, put_in, put_in_all, put_in_bound, Replaces, AreClosed, image_values}
use Rattle.rule_model.proofs.Freedom.{binds-no}
use Rattle.rule_model.proofs.Substituting.{binds-cases, unbound-replaces, unbound-closed}

-- a variable has the value of what is put in for it, and of others the values behind
pub value_of_image : (I : Interpretation) (r : Valuation) (s : Replacement) (x : Var) → AreClosed s → value I r (replaced_by s x) ≡ value_at (image_values I s ++ r) x
value_of_image I r [] x closed = refl
value_of_image I r (b ∷ s) x closed = go (var_eq b.0 x) (value_of_image I r s x closed.1)
  where
    go : (t : Bool) → value I r (replaced_by s x) ≡ value_at (image_values I s ++ r) x → value I r (if t then b.1 else replaced_by s x) ≡ (if t then value I [] b.1 else value_at (image_values I s ++ r) x)
    go true k = value_closed I r [] b.1 closed.0
    go false k = k

pub value_at-others : (I : Interpretation) (v r : Valuation) (s : Replacement) (x : Var) → ¬ Replaces s x → value_at (values_put I v s ++ r) x ≡ value_at r x
value_at-others I v r [] x n = refl
value_at-others I v r (b ∷ s) x n =
    else_branch (var_eq b.0 x) (value I v b.1) (value_at (values_put I v s ++ r) x) (λ e. n (inl ((var_eq_decides b.0 x).0 e)))
    ∙ value_at-others I v r s x (λ h. n (inr h))

value_at-behind : (q r r' : Valuation) (x : Var) → value_at r x ≡ value_at r' x → value_at (q ++ r) x ≡ value_at (q ++ r') x
value_at-behind [] r r' x e = e
value_at-behind (b ∷ q) r r' x e = ap (λ u. if var_eq b.0 x then b.1 else u) (value_at-behind q r r' x e)

value_at-kept : (I : Interpretation) (r : Valuation) (bs : Bindings) (s : Replacement) (x : Var) → ¬ Binds bs x → value_at (image_values I (unbound bs s) ++ r) x ≡ value_at (image_values I s ++ r) x
value_at-kept I r bs [] x n = refl
value_at-kept I r bs (b ∷ s) x n = go (binds bs b.0) refl (value_at-kept I r bs s x n)
  where
    go : (t : Bool) → binds bs b.0 ≡ t → value_at (image_values I (unbound bs s) ++ r) x ≡ value_at (image_values I s ++ r) x → value_at (image_values I (cond (not t) (b ∷ unbound bs s) (unbound bs s)) ++ r) x ≡ (if var_eq b.0 x then value I [] b.1 else value_at (image_values I s ++ r) x)
    go true e k =
        k ∙ sym (else_branch (var_eq b.0 x) (value I [] b.1) (value_at (image_values I s ++ r) x)
        (λ f. n (binds-no bs x (ap (binds bs) (sym ((var_eq_decides b.0 x).0 f)) ∙ e))))
    go false e k = ap (λ u. if var_eq b.0 x then value I [] b.1 else u) k

-- under a let
value_at-under : (I : Interpretation) (r₀ r : Valuation) (bs : Bindings) (s : Replacement) (x : Var) → Binds bs x ⊎ (¬ Binds bs x) → value_at (image_values I (unbound bs s) ++ (bound I r₀ bs ++ r)) x ≡ value_at (bound I r₀ bs ++ (image_values I s ++ r)) x
value_at-under I r₀ r bs s x (inl b) =
    value_at-others I [] (bound I r₀ bs ++ r) (unbound bs s) x (λ h. (unbound-replaces bs s x h).1 b)
    ∙ value_at_bound I r₀ r (image_values I s ++ r) bs x (λ n. absurd (n b))
value_at-under I r₀ r bs s x (inr n) =
    value_at-kept I (bound I r₀ bs ++ r) bs s x n
    ∙ value_at-behind (image_values I s) (bound I r₀ bs ++ r) r x (value_at_unbound I r₀ r bs x n)
    ∙ sym (value_at_unbound I r₀ (image_values I s ++ r) bs x n)

mutual
  pub value_put_in : (I : Interpretation) (r : Valuation) (s : Replacement) (t : Term) → AreClosed s → value I r (put_in s t) ≡ value I (image_values I s ++ r) t
  value_put_in I r s (numeral n) closed = refl
  value_put_in I r s (variable x) closed = value_of_image I r s x closed
  value_put_in I r s (operation op ts) closed = ap (meaning op) (values_put_in I r s ts closed)
  value_put_in I r s (call f ts) closed = ap (first_row (I.table f).rows (I.table f).default) (values_put_in I r s ts closed)
  value_put_in I r s (let_in bs t) closed =
      value_put_in I (bound I r (put_in_bound s bs) ++ r) (unbound bs s) t (unbound-closed bs s closed)
      ∙ ap (λ front. value I (image_values I (unbound bs s) ++ (front ++ r)) t) (bound_put_in I r s bs closed)
      ∙ value_coincides I (image_values I (unbound bs s) ++ (bound I (image_values I s ++ r) bs ++ r)) (bound I (image_values I s ++ r) bs ++ (image_values I s ++ r)) t
      (λ x free. value_at-under I (image_values I s ++ r) r bs s x (binds-cases bs x))

  pub values_put_in : (I : Interpretation) (r : Valuation) (s : Replacement) (ts : Terms) → AreClosed s → values I r (put_in_all s ts) ≡ values I (image_values I s ++ r) ts
  values_put_in I r s no_terms closed = refl
  values_put_in I r s (term t ts) closed =
      ap (λ u. u ∷ values I r (put_in_all s ts)) (value_put_in I r s t closed)
      ∙ ap (λ u. value I (image_values I s ++ r) t ∷ u) (values_put_in I r s ts closed)

  pub bound_put_in : (I : Interpretation) (r : Valuation) (s : Replacement) (bs : Bindings) → AreClosed s → bound I r (put_in_bound s bs) ≡ bound I (image_values I s ++ r) bs
  bound_put_in I r s no_bindings closed = refl
  bound_put_in I r s (binding x t bs) closed =
      ap (λ u. (x, u) ∷ bound I r (put_in_bound s bs)) (value_put_in I r s t closed)
      ∙ ap (λ u. (x, value I (image_values I s ++ r) t) ∷ u) (bound_put_in I r s bs closed)
