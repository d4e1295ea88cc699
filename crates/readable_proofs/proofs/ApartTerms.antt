-- A name that no function and no variable of a vocabulary has stands nowhere in a term over it, and is bound nowhere in it.
use Rattle.std.proofs.Common.{◌≡◌, ℕ, Bool, true, false, List, bytes_eq, refl, sym, subst, ◌⊎◌, inl, inr}
use Rattle.std.specs.Prelude.{Contains}
use Rattle.term_model.specs.FreeVariables.{Binds, IsFree, IsFreeAmong, IsFreeBound}
use Rattle.term_model.specs.Terms.{Var, Fun, Term, numeral, variable, operation, call, let_in, Terms, no_terms, term, Bindings, no_bindings, binding}
use Rattle.sym_table.specs.Words.{operator_symbol}
use Rattle.rule_model.specs.Replacement.{binds}
use Rattle.rule_model.proofs.Freedom.{binds-yes, binds-no}
use Rattle.problem_text.specs.PrintedTerms.{HasNotName, HaveNotName, AreBoundWithoutName}
use Rattle.problem_text.specs.Words.{is_built_in}
use Rattle.printed_proofs.specs.Naming.{BindsNot, BindNot, AreOtherNames}
use Rattle.readable_proofs.specs.Names.{Vocabulary}
use Rattle.readable_proofs.specs.TermsOver.{IsTermOver, AreTermsOver, AreBoundOver}
use Rattle.readable_proofs.proofs.Names.{other_name, no_word, operator_built_in}

-- In the body of a let each free variable is one that the let binds, or is free in the let.
pub either_bound : (bs : Bindings) (t : Term) (x : Var) → IsFree x t → Binds bs x ⊎ IsFree x (let_in bs t)
either_bound bs t x free = go (binds bs x) refl
  where
    go : (b : Bool) → binds bs x ≡ b → Binds bs x ⊎ IsFree x (let_in bs t)
    go true e = inl (binds-no bs x e)
    go false e = inr (inr (λ bound. absurd (let f = binds-yes bs x bound in cc), free))

pub bound_named : (v : Vocabulary) (bs : Bindings) (x : Var) → AreBoundOver v bs → Binds bs x → Contains v.variables x.name
bound_named v no_bindings x h bound = absurd bound
bound_named v (binding y t bs) x h (inl same) = subst (λ z. Contains v.variables z.name) same h.0
bound_named v (binding y t bs) x h (inr later) = bound_named v bs x h.2 later

module _ (v : Vocabulary) (name : List ℕ) (no_variable : Contains v.variables name → ⊥)
    (no_function : (f : Fun) → Contains v.functions f → bytes_eq name f.name ≡ false) (free_word : is_built_in name ≡ false) where
  differs : (other : List ℕ) → Contains v.variables other → bytes_eq name other ≡ false
  differs other named = other_name name other (λ same. no_variable (subst (Contains v.variables) (sym same) named))

  differs_back : (other : List ℕ) → Contains v.variables other → bytes_eq other name ≡ false
  differs_back other named = other_name other name (λ same. no_variable (subst (Contains v.variables) same named))

  mutual
    pub has_not : (t : Term) → ((x : Var) → IsFree x t → Contains v.variables x.name) → IsTermOver v t → HasNotName name t
    has_not (numeral n) free h = tt
    has_not (variable x) free h = differs x.name (free x refl)
    has_not (operation op ts) free h = (no_word name (operator_symbol op) (operator_built_in op) free_word, have_not ts free h)
    has_not (call f ts) free h = (no_function f h.0, have_not ts free h.1)
    has_not (let_in bs t) free h = (
      without bs (λ x f. free x (inl f)) h.1,
      has_not t (λ x f. elim (either_bound bs t x f) [ inl bound ↦ bound_named v bs x h.1 bound | inr outer ↦ free x outer ]) h.2,
    )

    have_not : (ts : Terms) → ((x : Var) → IsFreeAmong x ts → Contains v.variables x.name) → AreTermsOver v ts → HaveNotName name ts
    have_not no_terms free h = tt
    have_not (term t ts) free h = (has_not t (λ x f. free x (inl f)) h.0, have_not ts (λ x f. free x (inr f)) h.1)

    without : (bs : Bindings) → ((x : Var) → IsFreeBound x bs → Contains v.variables x.name) → AreBoundOver v bs → AreBoundWithoutName name bs
    without no_bindings free h = tt
    without (binding x t bs) free h = (has_not t (λ y f. free y (inl f)) h.1, without bs (λ y f. free y (inr f)) h.2)

  mutual
    pub binds_not : (t : Term) → IsTermOver v t → BindsNot name t
    binds_not (numeral n) h = tt
    binds_not (variable x) h = tt
    binds_not (operation op ts) h = bind_not ts h
    binds_not (call f ts) h = bind_not ts h.1
    binds_not (let_in bs t) h = (others bs h.1, binds_not t h.2)

    bind_not : (ts : Terms) → AreTermsOver v ts → BindNot name ts
    bind_not no_terms h = tt
    bind_not (term t ts) h = (binds_not t h.0, bind_not ts h.1)

    others : (bs : Bindings) → AreBoundOver v bs → AreOtherNames name bs
    others no_bindings h = tt
    others (binding x t bs) h = (differs_back x.name h.0, binds_not t h.1, others bs h.2)
