-- What putting terms in comes to: which variables matter and which stay free, and the sort of the result.
use Rattle.std.proofs.Common.{◌≡◌, List, [], ◌∷◌, Bool, true, false, not, ◌⊎◌, ◌↔◌, cond, if◌then◌else◌, refl, sym, ap, ◌∙◌, subst, inl, inr}
use Rattle.term_model.specs.declared.symbols.Sort.{Sort}
use Rattle.term_model.specs.declared.symbols.Op.{Op}
use Rattle.term_model.specs.Terms.{Var, var_eq, Term, numeral, variable, operation, call, let_in, Terms, no_terms, term, Bindings, no_bindings, binding}
use Rattle.term_model.specs.FreeVariables.{Binds, IsFree, IsFreeAmong, IsFreeBound, IsClosed}
use Rattle.term_model.specs.Sorts.{is_divisor, has_divisor, divides, IsOf, AreOf, AreBound}
use Rattle.term_model.proofs.Basics.{else_branch}
use Rattle.term_model.proofs.Sorting.{operation_again}
use Rattle.term_model.proofs.Tests.{var_eq_decides}
use Rattle.rule_model.specs.Replacement.{Replacement, replaced_by, binds}
use Rattle.rule_model.specs.Substitution.{unbound, put_in, put_in_all, put_in_bound, Replaces, AreClosed, HaveTheirSorts}
use Rattle.rule_model.proofs.Freedom.{binds-yes, binds-no}
use Rattle.rule_model.proofs.ReplacementLists.{all_filtered}
use Rattle.rule_model.proofs.Replacing.{term_at-sort}

pub binds-cases : (bs : Bindings) (x : Var) → Binds bs x ⊎ (¬ Binds bs x)
binds-cases bs x = go (binds bs x) refl
  where
    go : (b : Bool) → binds bs x ≡ b → Binds bs x ⊎ (¬ Binds bs x)
    go true e = inl (binds-no bs x e)
    go false e = inr (λ h. absurd (let f = binds-yes bs x h in cc))

pub replaces-cases : (s : Replacement) (x : Var) → Replaces s x ⊎ (¬ Replaces s x)
replaces-cases [] x = inr (λ h. h)
replaces-cases (b ∷ s) x = go (var_eq b.0 x) refl (replaces-cases s x)
  where
    go : (t : Bool) → var_eq b.0 x ≡ t → Replaces s x ⊎ (¬ Replaces s x) → Replaces (b ∷ s) x ⊎ (¬ Replaces (b ∷ s) x)
    go true e k = inl (inl ((var_eq_decides b.0 x).0 e))
    go false e (inl k) = inl (inr k)
    go false e (inr n) = inr (λ h. elim h [ inl same ↦ absurd (let f = (var_eq_decides b.0 x).1 same in cc) | inr k ↦ n k ])

pub term_at-none : (s : Replacement) (x : Var) → ¬ Replaces s x → replaced_by s x ≡ variable x
term_at-none [] x n = refl
term_at-none (b ∷ s) x n =
    else_branch (var_eq b.0 x) b.1 (replaced_by s x) (λ e. n (inl ((var_eq_decides b.0 x).0 e))) ∙ term_at-none s x (λ h. n (inr h))

-- under a let
pub unbound-replaces : (bs : Bindings) (s : Replacement) (x : Var) → Replaces (unbound bs s) x → Replaces s x × (¬ Binds bs x)
unbound-replaces bs [] x h = absurd h
unbound-replaces bs (b ∷ s) x h = go (binds bs b.0) refl h (unbound-replaces bs s x)
  where
    go : (t : Bool) → binds bs b.0 ≡ t → Replaces (cond (not t) (b ∷ unbound bs s) (unbound bs s)) x → (Replaces (unbound bs s) x → Replaces s x × (¬ Binds bs x)) → Replaces (b ∷ s) x × (¬ Binds bs x)
    go true e h k = let r = k h in (inr r.0, r.1)
    go false e (inl same) k = (inl same, λ n. absurd (let f = binds-yes bs x n in let g = ap (binds bs) same in cc))
    go false e (inr h) k = let r = k h in (inr r.0, r.1)

pub unbound-kept : (bs : Bindings) (s : Replacement) (x : Var) → ¬ Binds bs x → Replaces s x → Replaces (unbound bs s) x
unbound-kept bs [] x n h = absurd h
unbound-kept bs (b ∷ s) x n h = go (binds bs b.0) refl h (unbound-kept bs s x n)
  where
    go : (t : Bool) → binds bs b.0 ≡ t → (b.0 ≡ x) ⊎ Replaces s x → (Replaces s x → Replaces (unbound bs s) x) → Replaces (cond (not t) (b ∷ unbound bs s) (unbound bs s)) x
    go true e (inl same) k = absurd (n (binds-no bs x (ap (binds bs) (sym same) ∙ e)))
    go true e (inr h) k = k h
    go false e (inl same) k = inl same
    go false e (inr h) k = inr (k h)

pub term_at-bound : (bs : Bindings) (s : Replacement) (x : Var) → Binds bs x → replaced_by (unbound bs s) x ≡ variable x
term_at-bound bs s x h = term_at-none (unbound bs s) x (λ r. (unbound-replaces bs s x r).1 h)

pub term_at-unbound : (bs : Bindings) (s : Replacement) (x : Var) → ¬ Binds bs x → replaced_by (unbound bs s) x ≡ replaced_by s x
term_at-unbound bs [] x n = refl
term_at-unbound bs (b ∷ s) x n = go (binds bs b.0) refl (term_at-unbound bs s x n)
  where
    go : (t : Bool) → binds bs b.0 ≡ t → replaced_by (unbound bs s) x ≡ replaced_by s x → replaced_by (cond (not t) (b ∷ unbound bs s) (unbound bs s)) x ≡ (if var_eq b.0 x then b.1 else replaced_by s x)
    go true e k =
        k ∙ sym (else_branch (var_eq b.0 x) b.1 (replaced_by s x)
        (λ f. n (binds-no bs x (ap (binds bs) (sym ((var_eq_decides b.0 x).0 f)) ∙ e))))
    go false e k = ap (λ u. if var_eq b.0 x then b.1 else u) k

-- two that put in the same for the free variables
mutual
  pub put_in_agrees : (t : Term) (s q : Replacement) → ((x : Var) → IsFree x t → replaced_by s x ≡ replaced_by q x) → put_in s t ≡ put_in q t
  put_in_agrees (numeral n) s q h = refl
  put_in_agrees (variable x) s q h = h x refl
  put_in_agrees (operation op ts) s q h = ap (operation op) (put_in_all_agrees ts s q h)
  put_in_agrees (call f ts) s q h = ap (call f) (put_in_all_agrees ts s q h)
  put_in_agrees (let_in bs t) s q h =
      let e = put_in_bound_agrees bs s q (λ x free. h x (inl free)) in
      let f = put_in_agrees t (unbound bs s) (unbound bs q) (λ x free. under x (binds-cases bs x) (λ n. h x (inr (n, free)))) in
      cc
    where
      under : (x : Var) → Binds bs x ⊎ (¬ Binds bs x) → (¬ Binds bs x → replaced_by s x ≡ replaced_by q x) → replaced_by (unbound bs s) x ≡ replaced_by (unbound bs q) x
      under x (inl b) k = term_at-bound bs s x b ∙ sym (term_at-bound bs q x b)
      under x (inr n) k = term_at-unbound bs s x n ∙ k n ∙ sym (term_at-unbound bs q x n)

  pub put_in_all_agrees : (ts : Terms) (s q : Replacement) → ((x : Var) → IsFreeAmong x ts → replaced_by s x ≡ replaced_by q x) → put_in_all s ts ≡ put_in_all q ts
  put_in_all_agrees no_terms s q h = refl
  put_in_all_agrees (term t ts) s q h =
      let e = put_in_agrees t s q (λ x free. h x (inl free)) in
      let f = put_in_all_agrees ts s q (λ x free. h x (inr free)) in
      cc

  pub put_in_bound_agrees : (bs : Bindings) (s q : Replacement) → ((x : Var) → IsFreeBound x bs → replaced_by s x ≡ replaced_by q x) → put_in_bound s bs ≡ put_in_bound q bs
  put_in_bound_agrees no_bindings s q h = refl
  put_in_bound_agrees (binding y t bs) s q h =
      let e = put_in_agrees t s q (λ x free. h x (inl free)) in
      let f = put_in_bound_agrees bs s q (λ x free. h x (inr free)) in
      cc

mutual
  pub put_in_nothing : (t : Term) → put_in [] t ≡ t
  put_in_nothing (numeral n) = refl
  put_in_nothing (variable x) = refl
  put_in_nothing (operation op ts) = ap (operation op) (put_in_all_nothing ts)
  put_in_nothing (call f ts) = ap (call f) (put_in_all_nothing ts)
  put_in_nothing (let_in bs t) = let e = put_in_bound_nothing bs in let f = put_in_nothing t in cc

  pub put_in_all_nothing : (ts : Terms) → put_in_all [] ts ≡ ts
  put_in_all_nothing no_terms = refl
  put_in_all_nothing (term t ts) = let e = put_in_nothing t in let f = put_in_all_nothing ts in cc

  pub put_in_bound_nothing : (bs : Bindings) → put_in_bound [] bs ≡ bs
  put_in_bound_nothing no_bindings = refl
  put_in_bound_nothing (binding x t bs) = let e = put_in_nothing t in let f = put_in_bound_nothing bs in cc

pub put_in_others : (s : Replacement) (t : Term) → ((x : Var) → IsFree x t → ¬ Replaces s x) → put_in s t ≡ t
put_in_others s t h = put_in_agrees t s [] (λ x free. term_at-none s x (h x free)) ∙ put_in_nothing t

pub put_in_closed : (s : Replacement) (t : Term) → IsClosed t → put_in s t ≡ t
put_in_closed s t closed = put_in_others s t (λ x free. absurd (closed x free))

-- a divisor has no variable, so that it stays
divisor_put_in : (s : Replacement) (t : Term) → is_divisor t ≡ true → is_divisor (put_in s t) ≡ true
divisor_put_in s (numeral n) e = e
divisor_put_in s (operation Op.Minus (term (numeral n) no_terms)) e = e
divisor_put_in s _ e = absurd cc

has_divisor_put_in : (s : Replacement) (ts : Terms) → has_divisor ts ≡ true → has_divisor (put_in_all s ts) ≡ true
has_divisor_put_in s no_terms e = absurd cc
has_divisor_put_in s (term t no_terms) e = absurd cc
has_divisor_put_in s (term t (term u ts)) e = divisor_put_in s u e

divides_put_in : (s : Replacement) (op : Op) (ts : Terms) → divides op ts ≡ true → divides op (put_in_all s ts) ≡ true
divides_put_in s Op.Div ts e = has_divisor_put_in s ts e
divides_put_in s Op.Mod ts e = has_divisor_put_in s ts e
divides_put_in s _ ts e = refl

-- sorts
mutual
  pub put_in_sort : (s : Replacement) (t : Term) (sort : Sort) → HaveTheirSorts s → IsOf t sort → IsOf (put_in s t) sort
  put_in_sort s (numeral n) sort h e = e
  put_in_sort s (variable x) sort h e = subst (IsOf (replaced_by s x)) (sym e) (term_at-sort s x h)
  put_in_sort s (operation op ts) sort h e = record {
    sorts = e.sorts;
    arguments = put_in_all_sorts s ts e.sorts h e.arguments;
    is = operation_again op ts (put_in_all s ts) e.sorts sort (divides_put_in s op ts) e.is;
  }
  put_in_sort s (call f ts) sort h e =
      record { sorts = e.sorts; arguments = put_in_all_sorts s ts e.sorts h e.arguments; is = e.is }
  put_in_sort s (let_in bs t) sort h e = (
    put_in_bound_sorts s bs h e.0,
    put_in_sort (unbound bs s) t sort (all_filtered (λ b. IsOf b.1 b.0.sort) (λ b. not (binds bs b.0)) s h) e.1,
  )

  pub put_in_all_sorts : (s : Replacement) (ts : Terms) (ss : List Sort) → HaveTheirSorts s → AreOf ts ss → AreOf (put_in_all s ts) ss
  put_in_all_sorts s no_terms [] h e = tt
  put_in_all_sorts s no_terms (sort ∷ ss) h e = absurd e
  put_in_all_sorts s (term t ts) [] h e = absurd e
  put_in_all_sorts s (term t ts) (sort ∷ ss) h e = (put_in_sort s t sort h e.0, put_in_all_sorts s ts ss h e.1)

  pub put_in_bound_sorts : (s : Replacement) (bs : Bindings) → HaveTheirSorts s → AreBound bs → AreBound (put_in_bound s bs)
  put_in_bound_sorts s no_bindings h e = tt
  put_in_bound_sorts s (binding x t bs) h e = (put_in_sort s t x.sort h e.0, put_in_bound_sorts s bs h e.1)

-- A let binds the variables that it bound.
pub put_in_binds : (s : Replacement) (bs : Bindings) (x : Var) → Binds bs x → Binds (put_in_bound s bs) x
put_in_binds s no_bindings x h = h
put_in_binds s (binding y t bs) x (inl same) = inl same
put_in_binds s (binding y t bs) x (inr h) = inr (put_in_binds s bs x h)

pub binds_put_in : (s : Replacement) (bs : Bindings) (x : Var) → Binds (put_in_bound s bs) x → Binds bs x
binds_put_in s no_bindings x h = h
binds_put_in s (binding y t bs) x (inl same) = inl same
binds_put_in s (binding y t bs) x (inr h) = inr (binds_put_in s bs x h)

-- what stands free
pub unbound-closed : (bs : Bindings) (s : Replacement) → AreClosed s → AreClosed (unbound bs s)
unbound-closed bs s h = all_filtered (λ b. IsClosed b.1) (λ b. not (binds bs b.0)) s h

free_in_image : (s : Replacement) (x y : Var) → AreClosed s → IsFree x (replaced_by s y) → (y ≡ x) × (¬ Replaces s x)
free_in_image [] x y closed free = (free, λ h. h)
free_in_image (b ∷ s) x y closed free = go (var_eq b.0 y) refl free (free_in_image s x y closed.1)
  where
    go : (t : Bool) → var_eq b.0 y ≡ t → IsFree x (if t then b.1 else replaced_by s y) → (IsFree x (replaced_by s y) → (y ≡ x) × (¬ Replaces s x)) → (y ≡ x) × (¬ Replaces (b ∷ s) x)
    go true e free k = absurd (closed.0 x free)
    go false e free k =
        let r = k free in
        (r.0, λ h. elim h [ inl same ↦ absurd (let f = (var_eq_decides b.0 y).1 (same ∙ sym r.0) in cc) | inr later ↦ r.1 later ])

mutual
  pub free_was : (s : Replacement) (t : Term) (x : Var) → AreClosed s → IsFree x (put_in s t) → IsFree x t × (¬ Replaces s x)
  free_was s (numeral n) x closed h = absurd h
  free_was s (variable y) x closed h = free_in_image s x y closed h
  free_was s (operation op ts) x closed h = free_was_among s ts x closed h
  free_was s (call f ts) x closed h = free_was_among s ts x closed h
  free_was s (let_in bs t) x closed (inl h) = let r = free_was_bound s bs x closed h in (inl r.0, r.1)
  free_was s (let_in bs t) x closed (inr h) =
      let r = free_was (unbound bs s) t x (unbound-closed bs s closed) h.1 in
      let n : ¬ Binds bs x = λ b. h.0 (put_in_binds s bs x b) in
      (inr (n, r.0), λ k. r.1 (unbound-kept bs s x n k))

  pub free_was_among : (s : Replacement) (ts : Terms) (x : Var) → AreClosed s → IsFreeAmong x (put_in_all s ts) → IsFreeAmong x ts × (¬ Replaces s x)
  free_was_among s no_terms x closed h = absurd h
  free_was_among s (term t ts) x closed (inl h) = let r = free_was s t x closed h in (inl r.0, r.1)
  free_was_among s (term t ts) x closed (inr h) = let r = free_was_among s ts x closed h in (inr r.0, r.1)

  pub free_was_bound : (s : Replacement) (bs : Bindings) (x : Var) → AreClosed s → IsFreeBound x (put_in_bound s bs) → IsFreeBound x bs × (¬ Replaces s x)
  free_was_bound s no_bindings x closed h = absurd h
  free_was_bound s (binding y t bs) x closed (inl h) = let r = free_was s t x closed h in (inl r.0, r.1)
  free_was_bound s (binding y t bs) x closed (inr h) = let r = free_was_bound s bs x closed h in (inr r.0, r.1)

mutual
  pub stays_free : (s : Replacement) (t : Term) (x : Var) → IsFree x t → ¬ Replaces s x → IsFree x (put_in s t)
  stays_free s (numeral n) x h r = absurd h
  stays_free s (variable y) x h r = subst (IsFree x) (sym (term_at-none s y (λ k. r (subst (Replaces s) h k)))) h
  stays_free s (operation op ts) x h r = stays_free_among s ts x h r
  stays_free s (call f ts) x h r = stays_free_among s ts x h r
  stays_free s (let_in bs t) x (inl h) r = inl (stays_free_bound s bs x h r)
  stays_free s (let_in bs t) x (inr h) r =
      inr (λ b. h.0 (binds_put_in s bs x b), stays_free (unbound bs s) t x h.1 (λ k. r (unbound-replaces bs s x k).0))

  pub stays_free_among : (s : Replacement) (ts : Terms) (x : Var) → IsFreeAmong x ts → ¬ Replaces s x → IsFreeAmong x (put_in_all s ts)
  stays_free_among s no_terms x h r = absurd h
  stays_free_among s (term t ts) x (inl h) r = inl (stays_free s t x h r)
  stays_free_among s (term t ts) x (inr h) r = inr (stays_free_among s ts x h r)

  pub stays_free_bound : (s : Replacement) (bs : Bindings) (x : Var) → IsFreeBound x bs → ¬ Replaces s x → IsFreeBound x (put_in_bound s bs)
  stays_free_bound s no_bindings x h r = absurd h
  stays_free_bound s (binding y t bs) x (inl h) r = inl (stays_free s t x h r)
  stays_free_bound s (binding y t bs) x (inr h) r = inr (stays_free_bound s bs x h r)

pub free_in_result : (s : Replacement) (t : Term) (x : Var) → AreClosed s → IsFree x (put_in s t) ↔ (IsFree x t × (¬ Replaces s x))
free_in_result s t x closed = (free_was s t x closed, λ h. stays_free s t x h.0 h.1)

pub result_closed : (s : Replacement) (t : Term) → AreClosed s → ((x : Var) → IsFree x t → Replaces s x) → IsClosed (put_in s t)
result_closed s t closed h x free = let r = free_was s t x closed free in r.1 (h x r.0)
