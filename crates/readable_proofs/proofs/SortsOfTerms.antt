-- The sorts of terms over a script's functions are read from what is printed, where those of their free variables are.
use Rattle.std.proofs.Common.{◌≡◌, ℕ, Bool, true, false, Some, List, [], ◌∷◌, codes, refl, sym, subst, inl, inr, arith, ◌&&◌}
use Rattle.std.specs.Prelude.{length, nat_le}
use Rattle.std.specs.List.{AllByRecursion}
use Rattle.std.proofs.lemmas.List.Sums.{AllPass-from_list_all}
use Rattle.sexpr.specs.Characters.{is_word_byte, is_mark}
use Rattle.sexpr.specs.Grammar.{IsWord}
use Rattle.term_model.specs.declared.symbols.Sort.{Sort}
use Rattle.term_model.specs.declared.symbols.Op.{Op}
use Rattle.term_model.specs.FreeVariables.{Binds, IsFree, IsFreeAmong, IsFreeBound}
use Rattle.term_model.specs.Sorts.{when, sorts_eq, at_least, of_one_sort, choice_sort, application_sort, IsOf, AreOf, AreBound}
use Rattle.term_model.specs.Terms.{Var, sort_eq, Term, numeral, variable, operation, call, let_in, Terms, no_terms, term, Bindings, no_bindings, binding}
use Rattle.term_model.proofs.Sorting.{operation_application}
use Rattle.problem_text.specs.Scripts.{Script}
use Rattle.problem_text.specs.Sorts.{sort_from}
use Rattle.printed_proofs.specs.Readable.{IsSortReadable}
use Rattle.readable_proofs.specs.Names.{IsWellNamed, vocabulary_of}
use Rattle.readable_proofs.specs.TermsOver.{IsTermOver, AreTermsOver, AreBoundOver}
use Rattle.readable_proofs.proofs.ApartTerms.{either_bound}

bool_word : IsWord (codes "Bool")
unfolding is_word_byte is_mark
bool_word = record {
  some = omega arith;
  bytes = AllPass-from_list_all is_word_byte (codes "Bool") refl;
  number = λ digit. absurd (let f : false ≡ true = digit in cc);
}

int_word : IsWord (codes "Int")
unfolding is_word_byte is_mark
int_word = record {
  some = omega arith;
  bytes = AllPass-from_list_all is_word_byte (codes "Int") refl;
  number = λ digit. absurd (let f : false ≡ true = digit in cc);
}

pub bool_readable : (s : Script) → IsSortReadable s Sort.Bool
unfolding sort_from
bool_readable s = record { spelled = bool_word; read = λ at. refl }

pub int_readable : (s : Script) → IsSortReadable s Sort.Int
unfolding sort_from
int_readable s = record { spelled = int_word; read = λ at. refl }

when_is : (b : Bool) (s t : Sort) → when b s ≡ Some t → s ≡ t
when_is true s t e = cc
when_is false s t e = absurd (cc)

module _ (s : Script) where
  known_when : (b : Bool) (have sort : Sort) → IsSortReadable s have → when b have ≡ Some sort → IsSortReadable s sort
  known_when b have sort known e = subst (IsSortReadable s) (when_is b have sort e) known

  choice_known : (sorts : List Sort) (sort : Sort) → AllByRecursion (IsSortReadable s) sorts → choice_sort sorts ≡ Some sort → IsSortReadable s sort
  choice_known [] sort known e = absurd (cc)
  choice_known (c ∷ []) sort known e = absurd (cc)
  choice_known (c ∷ a ∷ []) sort known e = absurd (cc)
  choice_known (c ∷ a ∷ b ∷ []) sort known e = known_when (sort_eq Sort.Bool c && sort_eq a b) a sort known.1.0 e
  choice_known (c ∷ a ∷ b ∷ d ∷ rest) sort known e = absurd (cc)

  application_known : (op : Op) (sorts : List Sort) (sort : Sort) → AllByRecursion (IsSortReadable s) sorts → application_sort op sorts ≡ Some sort
      → IsSortReadable s sort
  application_known Op.True sorts sort known e = known_when (sorts_eq [] sorts) Sort.Bool sort (bool_readable s) e
  application_known Op.False sorts sort known e = known_when (sorts_eq [] sorts) Sort.Bool sort (bool_readable s) e
  application_known Op.Not sorts sort known e = known_when (sorts_eq (Sort.Bool ∷ []) sorts) Sort.Bool sort (bool_readable s) e
  application_known Op.Implies sorts sort known e = known_when (at_least 2 Sort.Bool sorts) Sort.Bool sort (bool_readable s) e
  application_known Op.And sorts sort known e = known_when (at_least 1 Sort.Bool sorts) Sort.Bool sort (bool_readable s) e
  application_known Op.Or sorts sort known e = known_when (at_least 1 Sort.Bool sorts) Sort.Bool sort (bool_readable s) e
  application_known Op.Xor sorts sort known e = known_when (at_least 2 Sort.Bool sorts) Sort.Bool sort (bool_readable s) e
  application_known Op.Equal sorts sort known e = known_when (nat_le 2 (length sorts) && of_one_sort sorts) Sort.Bool sort (bool_readable s) e
  application_known Op.Distinct sorts sort known e = known_when (nat_le 2 (length sorts) && of_one_sort sorts) Sort.Bool sort (bool_readable s) e
  application_known Op.Ite sorts sort known e = choice_known sorts sort known e
  application_known Op.Minus sorts sort known e = known_when (at_least 1 Sort.Int sorts) Sort.Int sort (int_readable s) e
  application_known Op.Plus sorts sort known e = known_when (at_least 1 Sort.Int sorts) Sort.Int sort (int_readable s) e
  application_known Op.Times sorts sort known e = known_when (at_least 1 Sort.Int sorts) Sort.Int sort (int_readable s) e
  application_known Op.Div sorts sort known e = known_when (sorts_eq (Sort.Int ∷ Sort.Int ∷ []) sorts) Sort.Int sort (int_readable s) e
  application_known Op.Mod sorts sort known e = known_when (sorts_eq (Sort.Int ∷ Sort.Int ∷ []) sorts) Sort.Int sort (int_readable s) e
  application_known Op.LessEq sorts sort known e = known_when (at_least 2 Sort.Int sorts) Sort.Bool sort (bool_readable s) e
  application_known Op.Less sorts sort known e = known_when (at_least 2 Sort.Int sorts) Sort.Bool sort (bool_readable s) e
  application_known Op.GreaterEq sorts sort known e = known_when (at_least 2 Sort.Int sorts) Sort.Bool sort (bool_readable s) e
  application_known Op.Greater sorts sort known e = known_when (at_least 2 Sort.Int sorts) Sort.Bool sort (bool_readable s) e

  module _ (names : List (List ℕ)) (well : IsWellNamed s) where
    mutual
      pub sort_known : (t : Term) (sort : Sort) → ((x : Var) → IsFree x t → IsSortReadable s x.sort) → IsTermOver (vocabulary_of s names) t → IsOf t sort
          → IsSortReadable s sort
      sort_known (numeral n) sort free h is = subst (IsSortReadable s) (sym is) (int_readable s)
      sort_known (variable x) sort free h is = subst (IsSortReadable s) (sym is) (free x refl)
      sort_known (operation op ts) sort free h is =
          application_known op is.sorts sort (sorts_known ts is.sorts free h is.arguments) (operation_application op ts is.sorts sort is.is)
      sort_known (call f ts) sort free h is = known_when (sorts_eq f.arguments is.sorts) f.target sort (well.sorts f h.0) is.is
      sort_known (let_in bs t) sort free h is =
          sort_known t sort
          (λ x f. elim (either_bound bs t x f) [ inl bound ↦ bound_known bs x (λ y g. free y (inl g)) h.1 is.0 bound | inr outer ↦ free x outer ]) h.2 is.1

      sorts_known : (ts : Terms) (sorts : List Sort) → ((x : Var) → IsFreeAmong x ts → IsSortReadable s x.sort) → AreTermsOver (vocabulary_of s names) ts
          → AreOf ts sorts → AllByRecursion (IsSortReadable s) sorts
      sorts_known no_terms [] free h is = tt
      sorts_known no_terms (sort ∷ sorts) free h is = absurd is
      sorts_known (term t ts) [] free h is = absurd is
      sorts_known (term t ts) (sort ∷ sorts) free h is =
          (sort_known t sort (λ x f. free x (inl f)) h.0 is.0, sorts_known ts sorts (λ x f. free x (inr f)) h.1 is.1)

      bound_known : (bs : Bindings) (x : Var) → ((y : Var) → IsFreeBound y bs → IsSortReadable s y.sort) → AreBoundOver (vocabulary_of s names) bs → AreBound bs
          → Binds bs x → IsSortReadable s x.sort
      bound_known no_bindings x free h is bound = absurd bound
      bound_known (binding y t bs) x free h is (inl same) =
          subst (λ z. IsSortReadable s z.sort) same (sort_known t y.sort (λ z f. free z (inl f)) h.1 is.0)
      bound_known (binding y t bs) x free h is (inr later) = bound_known bs x (λ z f. free z (inr f)) h.2 is.1 later
