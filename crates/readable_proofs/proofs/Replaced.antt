-- Terms over a vocabulary stay so over a larger one, and where terms over it are put in for variables.
use Rattle.std.proofs.Common.{Bool, true, false, [], ◌∷◌, ◌++◌, if◌then◌else◌}
use Rattle.std.specs.List.{AllByRecursion}
use Rattle.term_model.specs.Terms.{Var, var_eq, Term, numeral, variable, operation, call, let_in, Terms, no_terms, term, Bindings, no_bindings, binding}
use Rattle.term_model.proofs.Lists.{all_joined}
use Rattle.rule_model.specs.Replacement.{Replacement, replaced_by, replaced, replaced_all, replaced_bindings}
use Rattle.readable_proofs.specs.Names.{Vocabulary, IsVocabularyWithin}
use Rattle.readable_proofs.specs.TermsOver.{IsTermOver, AreTermsOver, AreBoundOver}

module _ (v w : Vocabulary) (more : IsVocabularyWithin v w) where
  mutual
    pub still_of : (t : Term) → IsTermOver v t → IsTermOver w t
    still_of (numeral n) h = h
    still_of (variable x) h = tt
    still_of (operation op ts) h = all_still_of ts h
    still_of (call f ts) h = (more.functions f h.0, all_still_of ts h.1)
    still_of (let_in bs t) h = (h.0, bound_still_of bs h.1, still_of t h.2)

    all_still_of : (ts : Terms) → AreTermsOver v ts → AreTermsOver w ts
    all_still_of no_terms h = tt
    all_still_of (term t ts) h = (still_of t h.0, all_still_of ts h.1)

    pub bound_still_of : (bs : Bindings) → AreBoundOver v bs → AreBoundOver w bs
    bound_still_of no_bindings h = tt
    bound_still_of (binding x t bs) h = (more.variables x.name h.0, still_of t h.1, bound_still_of bs h.2)

module _ (v : Vocabulary) where
  abbrev pub ArePutOf : Replacement → Type 0
  ArePutOf r = AllByRecursion (λ b. IsTermOver v b.1) r

  pub put_of : (r : Replacement) (x : Var) → ArePutOf r → IsTermOver v (replaced_by r x)
  put_of [] x h = tt
  put_of (b ∷ r) x h = go (var_eq b.0 x) (put_of r x h.1)
    where
      go : (t : Bool) → IsTermOver v (replaced_by r x) → IsTermOver v (if t then b.1 else replaced_by r x)
      go true rest = h.0
      go false rest = rest

  mutual
    unfolding replaced

    pub replaced_of : (t : Term) (r : Replacement) → ArePutOf r → IsTermOver v t → IsTermOver v (replaced r t)
    replaced_of (numeral n) r h k = k
    replaced_of (variable x) r h k = put_of r x h
    replaced_of (operation op ts) r h k = all_replaced_of ts r h k
    replaced_of (call f ts) r h k = (k.0, all_replaced_of ts r h k.1)
    replaced_of (let_in bs t) r h k =
        replaced_of t (replaced_bindings r bs ++ r) (all_joined (λ b. IsTermOver v b.1) (replaced_bindings r bs) r (bound_replaced_of bs r h k.1) h) k.2

    all_replaced_of : (ts : Terms) (r : Replacement) → ArePutOf r → AreTermsOver v ts → AreTermsOver v (replaced_all r ts)
    all_replaced_of no_terms r h k = tt
    all_replaced_of (term t ts) r h k = (replaced_of t r h k.0, all_replaced_of ts r h k.1)

    bound_replaced_of : (bs : Bindings) (r : Replacement) → ArePutOf r → AreBoundOver v bs → ArePutOf (replaced_bindings r bs)
    bound_replaced_of no_bindings r h k = tt
    bound_replaced_of (binding x t bs) r h k = (replaced_of t r h k.1, bound_replaced_of bs r h k.2)
