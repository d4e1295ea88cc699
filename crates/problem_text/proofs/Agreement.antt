-- Cited by crates above. Two replacements that put in the same for the free variables of a term make the same of it.
use Rattle.std.proofs.Common.{◌≡◌, inl, inr, ◌++◌, Bool, true, false, if◌then◌else◌, refl, ap, ◌∙◌}
use Rattle.term_model.specs.FreeVariables.{Binds, IsFree, IsFreeAmong, IsFreeBound}
use Rattle.term_model.specs.Terms.{Var, var_eq, Term, numeral, variable, operation, call, let_in, Terms, no_terms, term, Bindings, no_bindings, binding}
use Rattle.term_model.proofs.Tests.{var_eq_decides}
use Rattle.rule_model.specs.Replacement.{Replacement, replaced_by, replaced, replaced_all, replaced_bindings}

-- what is put in for a variable that a let binds does not depend on what stands behind the let
behind_let : (bs : Bindings) (p r q : Replacement) (x : Var) → ((¬ Binds bs x) → replaced_by r x ≡ replaced_by q x) → replaced_by (replaced_bindings p bs ++ r) x ≡ replaced_by (replaced_bindings p bs ++ q) x
unfolding replaced_bindings
behind_let no_bindings p r q x h = h (λ b. b)
behind_let (binding y t bs) p r q x h = go (var_eq y x) refl (behind_let bs p r q x)
  where
    go : (b : Bool) → var_eq y x ≡ b → (((¬ Binds bs x) → replaced_by r x ≡ replaced_by q x) → replaced_by (replaced_bindings p bs ++ r) x ≡ replaced_by (replaced_bindings p bs ++ q) x) → (if b then replaced p t else replaced_by (replaced_bindings p bs ++ r) x) ≡ (if b then replaced p t else replaced_by (replaced_bindings p bs ++ q) x)
    go true e rest = refl
    go false e rest =
        rest (λ free. h (λ bound. elim bound [ inl same ↦ absurd (let f = (var_eq_decides y x).1 same in cc) | inr later ↦ free later ]))

mutual
  unfolding replaced

  pub replaced_agrees : (t : Term) (r q : Replacement) → ((x : Var) → IsFree x t → replaced_by r x ≡ replaced_by q x) → replaced r t ≡ replaced q t
  replaced_agrees (numeral n) r q h = refl
  replaced_agrees (variable x) r q h = h x refl
  replaced_agrees (operation op ts) r q h = ap (operation op) (replaced_all_agrees ts r q h)
  replaced_agrees (call f ts) r q h = ap (call f) (replaced_all_agrees ts r q h)
  replaced_agrees (let_in bs t) r q h =
      ap (λ b. replaced (b ++ r) t) (replaced_bindings_agrees bs r q (λ x free. h x (inl free)))
      ∙ replaced_agrees t (replaced_bindings q bs ++ r) (replaced_bindings q bs ++ q)
      (λ x free. behind_let bs q r q x (λ outside. h x (inr (outside, free))))

  replaced_all_agrees : (ts : Terms) (r q : Replacement) → ((x : Var) → IsFreeAmong x ts → replaced_by r x ≡ replaced_by q x) → replaced_all r ts ≡ replaced_all q ts
  replaced_all_agrees no_terms r q h = refl
  replaced_all_agrees (term t ts) r q h =
      let e = replaced_agrees t r q (λ x free. h x (inl free)) in
      let f = replaced_all_agrees ts r q (λ x free. h x (inr free)) in
      cc

  replaced_bindings_agrees : (bs : Bindings) (r q : Replacement) → ((x : Var) → IsFreeBound x bs → replaced_by r x ≡ replaced_by q x) → replaced_bindings r bs ≡ replaced_bindings q bs
  replaced_bindings_agrees no_bindings r q h = refl
  replaced_bindings_agrees (binding y t bs) r q h =
      let e = replaced_agrees t r q (λ x free. h x (inl free)) in
      let f = replaced_bindings_agrees bs r q (λ x free. h x (inr free)) in
      cc
