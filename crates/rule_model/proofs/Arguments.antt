-- The sorts of the arguments of a term of Bool.
use Rattle.std.proofs.Common.{◌≡◌, List, [], ◌∷◌, Bool, true, false, Some, length, nat_le, refl, sym, subst}
use Rattle.std.specs.List.{AllByRecursion, list_all}
use Rattle.term_model.specs.declared.symbols.Sort.{Sort}
use Rattle.term_model.specs.declared.symbols.Op.{Op}
use Rattle.term_model.specs.Terms.{Term, Terms, no_terms, term, operation, list_of, terms_of, sort_eq}
use Rattle.term_model.specs.Sorts.{sorts_eq, choice_sort, application_sort, IsOf, AreOf}
use Rattle.term_model.proofs.Basics.{and-left, and-right}
use Rattle.term_model.proofs.Sorting.{when-true, choice_sort-branches, operation_application}
use Rattle.term_model.proofs.Tests.{sort_eq_decides, sorts_eq_decides}

-- the operators whose arguments are all of Bool
abbrev pub are_truths : Op → Bool
are_truths Op.Not = true
are_truths Op.Implies = true
are_truths Op.And = true
are_truths Op.Or = true
are_truths Op.Xor = true
are_truths _ = false

one_truth : (ss : List Sort) → sorts_eq (Sort.Bool ∷ []) ss ≡ true → list_all (sort_eq Sort.Bool) ss ≡ true
one_truth ss e = subst (λ us. list_all (sort_eq Sort.Bool) us ≡ true) ((sorts_eq_decides (Sort.Bool ∷ []) ss).0 e) refl

sorts_are_truths : (op : Op) (ss : List Sort) (u : Sort) → are_truths op ≡ true → application_sort op ss ≡ Some u → list_all (sort_eq Sort.Bool) ss ≡ true
sorts_are_truths Op.Not ss u e f = one_truth ss (when-true _ _ u f)
sorts_are_truths Op.Implies ss u e f = and-right (nat_le 2 (length ss)) (list_all (sort_eq Sort.Bool) ss) (when-true _ _ u f)
sorts_are_truths Op.And ss u e f = and-right (nat_le 1 (length ss)) (list_all (sort_eq Sort.Bool) ss) (when-true _ _ u f)
sorts_are_truths Op.Or ss u e f = and-right (nat_le 1 (length ss)) (list_all (sort_eq Sort.Bool) ss) (when-true _ _ u f)
sorts_are_truths Op.Xor ss u e f = and-right (nat_le 2 (length ss)) (list_all (sort_eq Sort.Bool) ss) (when-true _ _ u f)
sorts_are_truths _ ss u e f = absurd cc

terms_are_truths : (ts : Terms) (ss : List Sort) → AreOf ts ss → list_all (sort_eq Sort.Bool) ss ≡ true → AllByRecursion (λ t. IsOf t Sort.Bool) (list_of ts)
terms_are_truths no_terms ss h e = tt
terms_are_truths (term t ts) [] h e = absurd h
terms_are_truths (term t ts) (s ∷ ss) h e = (
  subst (IsOf t) (sym ((sort_eq_decides Sort.Bool s).0 (and-left (sort_eq Sort.Bool s) (list_all (sort_eq Sort.Bool) ss) e))) h.0,
  terms_are_truths ts ss h.1 (and-right (sort_eq Sort.Bool s) (list_all (sort_eq Sort.Bool) ss) e),
)

pub all_arguments_are_truths : (op : Op) (ts : Terms) → are_truths op ≡ true → IsOf (operation op ts) Sort.Bool → AllByRecursion (λ t. IsOf t Sort.Bool) (list_of ts)
all_arguments_are_truths op ts e h = terms_are_truths ts h.sorts h.arguments
    (sorts_are_truths op h.sorts Sort.Bool e (operation_application op ts h.sorts Sort.Bool h.is))

choices : (c s t : Term) (ss : List Sort) → AreOf (terms_of (c ∷ s ∷ t ∷ [])) ss → choice_sort ss ≡ Some Sort.Bool → IsOf c Sort.Bool × IsOf s Sort.Bool × IsOf t Sort.Bool
choices c s t [] h e = absurd h
choices c s t (x ∷ []) h e = absurd h.1
choices c s t (x ∷ y ∷ []) h e = absurd h.1.1
choices c s t (x ∷ y ∷ z ∷ w ∷ rest) h e = absurd h.1.1.1
choices c s t (x ∷ y ∷ z ∷ []) h e =
    let is = choice_sort-branches x y z Sort.Bool e in (
      subst (IsOf c) is.2 h.0,
      subst (IsOf s) (sym is.0) h.1.0,
      subst (IsOf t) (sym is.0) (subst (IsOf t) (sym is.1) h.1.1.0),
    )

-- the parts of an `ite` of Bool
pub choices_are_truths : (c s t : Term) → IsOf (operation Op.Ite (terms_of (c ∷ s ∷ t ∷ []))) Sort.Bool → IsOf c Sort.Bool × IsOf s Sort.Bool × IsOf t Sort.Bool
choices_are_truths c s t h = choices c s t h.sorts h.arguments h.is
