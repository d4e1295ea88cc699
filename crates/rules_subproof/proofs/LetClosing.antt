-- The condition of let over terms, by what is read of references.
use Rattle.std.proofs.Common.{◌≡◌, ◌↔◌, ℕ, suc, List, [], ◌∷◌, map, length, Bool, false, Option, Some, IsTrue, Contains, refl, sym, ◌∙◌, ap, subst, arith}
use Rattle.std.specs.List.{AllZip}
use Rattle.std.proofs.lemmas.List.{length-map}
use Rattle.sym_table.specs.Table.{Table}
use Rattle.term_model.specs.Flips.{equality}
use Rattle.term_model.specs.FreeVariables.{variables_of, bound_terms}
use Rattle.term_model.specs.Terms.{Var, Term, let_in, Bindings, no_bindings, binding}
use Rattle.term_pool.specs.Views.{TermsView, RefersTo}
use Rattle.rule_model.specs.declared.rules.Mode.{Mode}
use Rattle.rule_model.specs.Subproof.{IsAssumeIn, AreLinkedTo, IsLetClosing}
use Rattle.rule_model.specs.Proofs.{ProofItems}
use Rattle.rule_model.specs.Reading.{rule_at, premises_at, scope_at, bindings_at, is_assume}
use Rattle.term_pool.specs.Bindings.{IsBindingOf}
use Rattle.term_model.proofs.Zips.{zip_length}
use Rattle.rules_subproof.specs.Lets.{EquatesLet, BindsAs, clauses_at}

module _ (refs : ProofItems ℕ ℕ) (of : ProofItems Var Term) (i k : ℕ) (scope : (j : ℕ) → scope_at refs j ≡ scope_at of j) (rule : (j : ℕ) → rule_at refs j ≡ rule_at of j) where
  pub no_assumes_too : ((j : ℕ) → IsAssumeIn refs i k j → Contains [] j) ↔ ((j : ℕ) → ¬ IsAssumeIn of i k j)
  no_assumes_too = (
    λ all j a. none j (all j (record { before = a.before; scope = scope j ∙ a.scope; assume = ap is_assume (rule j) ∙ a.assume })),
    λ no j a. absurd (no j (record { before = a.before; scope = sym (scope j) ∙ a.scope; assume = ap is_assume (sym (rule j)) ∙ a.assume })),
  )
    where
      none : (j : ℕ) → Contains [] j → ⊥
      none j h = let below = h.1 in omega (arith, below)

-- a let's values and the bindings of an anchor of the same variables are as many
pub one_each : (s : Table) (v : TermsView) (anchor : List (ℕ × ℕ)) (bound : List (Var × Term)) (values : List ℕ) (bs : Bindings) → AllZip (IsBindingOf s v) anchor bound → AllZip (RefersTo s v) values (bound_terms bs) → map (λ (b : Var × Term). b.0) bound ≡ variables_of bs → length values ≡ length anchor
one_each s v anchor bound values bs zip refer same =
    zip_length (RefersTo s v) values (bound_terms bs) refer ∙ (terms_count bs ∙ (sym (ap length same) ∙ (length-map bound (λ (b : Var × Term). b.0) ∙ bound_count anchor bound zip)))
  where
    terms_count : (bs : Bindings) → length (bound_terms bs) ≡ length (variables_of bs)
    terms_count no_bindings = refl
    terms_count (binding x t bs) = ap suc (terms_count bs)

    bound_count : (anchor : List (ℕ × ℕ)) (bound : List (Var × Term)) → AllZip (IsBindingOf s v) anchor bound → length bound ≡ length anchor
    bound_count [] [] h = refl
    bound_count [] (b ∷ bound) h = absurd h
    bound_count (a ∷ anchor) [] h = absurd h
    bound_count (a ∷ anchor) (b ∷ bound) h = ap suc (bound_count anchor bound h.1)

module _ (mode : Mode) (of : ProofItems Var Term) (i : ℕ) where
  not_true : IsTrue false → ⊥
  not_true e = cc

  -- the scope is the one that the step closes
  pub at_scope : (o : Option ℕ) (a k : ℕ) (met : Bool) → o ≡ Some a → o ≡ Some k → IsTrue met ↔ IsLetClosing mode of i a → IsTrue met ↔ IsLetClosing mode of i k
  at_scope o a k met e f h =
      subst (λ n. IsTrue met ↔ IsLetClosing mode of i n) (some_same (sym e ∙ f)) h
    where
      some_same : {m n : ℕ} → Some m ≡ Some n → m ≡ n
      some_same g = cc

  pub never_met : (k : ℕ) → ¬ IsLetClosing mode of i k → IsTrue false ↔ IsLetClosing mode of i k
  never_met k none = (λ e. absurd (not_true e), λ h. absurd (none h))

module _ (mode : Mode) (of : ProofItems Var Term) (i k : ℕ) where
  pub closing_equates : (h : IsLetClosing mode of i k) → EquatesLet of i k h.bindings h.body h.result
  closing_equates h = record { clause = h.clause; ends = h.ends }

  let_parts : {a x : Bindings} {b c y z : Term} → equality (let_in a b) c ∷ [] ≡ equality (let_in x y) z ∷ [] → (a ≡ x) × (c ≡ z)
  let_parts e = (cc, cc)

  module _ (bs : Bindings) (t u : Term) (equates : EquatesLet of i k bs t u) where
    pub closing_binds : IsLetClosing mode of i k → BindsAs (bindings_at of k) bs u
    closing_binds h =
        let same = let_parts (sym h.clause ∙ equates.clause) in
        subst (λ b. BindsAs (bindings_at of k) b u) same.0
        (subst (λ x. BindsAs (bindings_at of k) h.bindings x) same.1 (record { variables = h.variables; hidden = h.hidden }))

    pub let_met : ((j : ℕ) → ¬ IsAssumeIn of i k j) → BindsAs (bindings_at of k) bs u → (met : Bool) → IsTrue met ↔ AreLinkedTo mode (clauses_at of (premises_at of i)) (bound_terms bs) (map (λ (b : Var × Term). b.1) (bindings_at of k)) → IsTrue met ↔ IsLetClosing mode of i k
    let_met none binds met linked = (
      λ e. record {
        bindings = bs;
        body = t;
        result = u;
        clause = equates.clause;
        no_assumes = none;
        ends = equates.ends;
        variables = binds.variables;
        hidden = binds.hidden;
        linked = linked.0 e;
      },
      λ h. linked.1 (subst (λ b. AreLinkedTo mode (clauses_at of (premises_at of i)) (bound_terms b) (map (λ (b : Var × Term). b.1) (bindings_at of k))) (let_parts (sym h.clause ∙ equates.clause)).0 h.linked),
    )
