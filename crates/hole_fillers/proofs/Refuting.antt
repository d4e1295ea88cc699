-- Private. Where a question is refuted, the clause that it asks about follows.
use Rattle.std.proofs.Common.{◌≡◌, refl, sym, ap, subst, ◌∙◌, ◌<◌, ◌^◌, Bool, true, false, ◌⊎◌, inl, inr, List, [], ◌∷◌, ◌++◌, length, map, All, Any, flat_map}
use Rattle.std.specs.List.{AllByRecursion}
use Rattle.std.proofs.lemmas.List.Elements.{All-head, All-tail}
use Rattle.term_model.specs.Interpretations.{Interpretation, FunctionTable, TableFits}
use Rattle.term_model.specs.Meaning.{Valuation, ValuationFits, value_at, value}
use Rattle.term_model.specs.Terms.{Var, var_eq, Fun, Term, terms_of, not_of}
use Rattle.term_model.specs.Unsatisfiable.{MakesTrue, MakesAllTrue, Unsatisfiable}
use Rattle.term_model.specs.Values.{truth, some_value, value_eq}
use Rattle.term_model.proofs.Lists.{list_of-terms_of}
use Rattle.term_model.proofs.Meanings.{disjunction_is, negation_is}
use Rattle.term_model.proofs.Sorting.{some_value_fits, value_at_fits}
use Rattle.term_model.proofs.Basics.{any_here, any_later, any_cases, any_none}
use Rattle.term_model.proofs.Tests.{value_eq_decides}
use Rattle.rule_model.specs.Clauses.{MakesClauseTrue}
use Rattle.rule_model.specs.TermTests.{fun_eq}
use Rattle.hole_fillers.specs.Questions.{Naming, clause_term, asserted_by, naming_of, functions_in, variables_in, asked_function, constant_for, asked_term}
use Rattle.hole_fillers.specs.Questions.{question_terms, HasFewNames}
use Rattle.hole_fillers.proofs.Places.{Has, all_left, all_right, each_there, each_in_itself}
use Rattle.hole_fillers.proofs.Lookup.{functions_tell, variables_tell, one_function, one_variable, other_letter, looked_up, passed, found, looked_up_fits}
use Rattle.hole_fillers.proofs.Lookup.{same_sort, same_table}
use Rattle.hole_fillers.proofs.AskedValues.{Interprets, AreNamed, HaveNames, asked_value}

-- THE INTERPRETATION OF THE QUESTION

abbrev constant_table : Valuation → Var → FunctionTable
constant_table r x = record { rows = []; default = value_at r x }

abbrev other_table : Fun → FunctionTable
other_table g = record { rows = []; default = some_value g.target }

abbrev table_of : Interpretation → Valuation → Naming → Fun → FunctionTable
table_of I r n g =
    looked_up (asked_function n) (λ f. I.table f) g n.functions (looked_up (constant_for n) (constant_table r) g n.variables (other_table g))

constant_fits : (r : Valuation) (n : Naming) → ValuationFits r → (x : Var) → TableFits (constant_for n x) (constant_table r x)
constant_fits r n fits x = record { rows = tt; default = same_sort n x.sort (value_at r x) (value_at_fits r x fits) }

abbrev asked_interpretation : (I : Interpretation) (r : Valuation) (n : Naming) → ValuationFits r → Interpretation
asked_interpretation I r n fits = record {
  table = table_of I r n;
  fits = λ g. looked_up_fits (asked_function n) (λ f. I.table f) g n.functions _ (λ f. same_table n f (I.table f) (I.fits f))
      (looked_up_fits (constant_for n) (constant_table r) g n.variables (other_table g) (constant_fits r n fits)
      (record { rows = tt; default = some_value_fits g.target }));
}

interprets :
    (I : Interpretation) (r : Valuation) (n : Naming) (fits : ValuationFits r) → length n.functions < 2 ^ 32 → length n.variables < 2 ^ 32 →
    Interprets I (asked_interpretation I r n fits) r n
interprets I r n fits few few_variables = record {
  few = few_variables;
  functions = λ f has. found fun_eq functions_tell (asked_function n) (λ g. I.table g) f n.functions _ (Has fun_eq n.functions)
      (λ g there e. one_function n few g f there has e) (each_in_itself fun_eq functions_tell n.functions) has;
  constants = λ x has.
      passed (asked_function n) (λ g. I.table g) (constant_for n x) n.functions _ (λ f e. other_letter n f x e)
      ∙ found var_eq variables_tell (constant_for n) (constant_table r) x n.variables (other_table (constant_for n x)) (Has var_eq n.variables)
      (λ y there e. one_variable n few_variables y x there has (ap (λ q. q.name) e)) (each_in_itself var_eq variables_tell n.variables) has;
}

-- WHAT THE QUESTION ASSERTS

clause_holds : (I : Interpretation) (r : Valuation) (clause : List Term) → MakesClauseTrue I r clause → MakesTrue I r (clause_term clause)
clause_holds I r [] h = absurd (any_none (MakesTrue I r) h)
clause_holds I r (l ∷ []) h = elim (any_cases (MakesTrue I r) l [] h) [ inl e ↦ e | inr e ↦ absurd (any_none (MakesTrue I r) e) ]
clause_holds I r (l ∷ m ∷ rest) h =
    (disjunction_is I r (terms_of (l ∷ m ∷ rest))).1 (subst (λ ts. Any (MakesTrue I r) ts) (sym (list_of-terms_of (l ∷ m ∷ rest))) h)

premises_hold :
    (I : Interpretation) (r : Valuation) (premises : List (List Term)) → All (MakesClauseTrue I r) premises →
    AllByRecursion (MakesTrue I r) (map clause_term premises)
premises_hold I r [] h = tt
premises_hold I r (p ∷ premises) h =
    (clause_holds I r p (All-head (MakesClauseTrue I r) p premises h), premises_hold I r premises (All-tail (MakesClauseTrue I r) p premises h))

-- some literal is true, or the opposite of each
true_or_not :
    (I : Interpretation) (r : Valuation) (clause : List Term) →
    MakesClauseTrue I r clause ⊎ AllByRecursion (MakesTrue I r) (map not_of clause)
true_or_not I r [] = inr tt
true_or_not I r (l ∷ clause) = go (value_eq (value I r l) (truth true)) refl (true_or_not I r clause)
  where
    go : (b : Bool) → value_eq (value I r l) (truth true) ≡ b → MakesClauseTrue I r clause ⊎ AllByRecursion (MakesTrue I r) (map not_of clause) →
        MakesClauseTrue I r (l ∷ clause) ⊎ AllByRecursion (MakesTrue I r) (map not_of (l ∷ clause))
    go true e rest = inl (any_here (MakesTrue I r) l clause ((value_eq_decides (value I r l) (truth true)).0 e))
    go false e rest = elim rest [
      | inl h ↦ inl (any_later (MakesTrue I r) l clause h)
      | inr h ↦ inr ((negation_is I r l).1 (λ k. let same = (value_eq_decides (value I r l) (truth true)).1 k in absurd cc), h)
    ]

joined_all : (P : Term → Type 0) (xs ys : List Term) → AllByRecursion P xs → AllByRecursion P ys → AllByRecursion P (xs ++ ys)
joined_all P [] ys h k = k
joined_all P (x ∷ xs) ys h k = (h.0, joined_all P xs ys h.1 k)

-- each term that is asserted is true where the term that it stands for is
all_asked :
    (I J : Interpretation) (r : Valuation) (n : Naming) → Interprets I J r n → (ts : List Term) → HaveNames n (flat_map functions_in ts) →
    AreNamed n (flat_map variables_in ts) → AllByRecursion (MakesTrue I r) ts → MakesAllTrue J (map (asked_term n []) ts)
all_asked I J r n all [] fs xs h = tt
all_asked I J r n all (t ∷ ts) fs xs h = (
  asked_value I J r n all [] tt t (all_left (Has fun_eq n.functions) (functions_in t) (flat_map functions_in ts) fs)
      (all_left (Has var_eq n.variables) (variables_in t) (flat_map variables_in ts) xs) ∙ h.0,
  all_asked I J r n all ts (all_right (Has fun_eq n.functions) (functions_in t) (flat_map functions_in ts) fs)
      (all_right (Has var_eq n.variables) (variables_in t) (flat_map variables_in ts) xs) h.1,
)

pub refuted :
    (premises : List (List Term)) (clause : List Term) (I : Interpretation) (r : Valuation) → ValuationFits r →
    HasFewNames (asserted_by premises clause) → Unsatisfiable (question_terms (asserted_by premises clause)) →
    All (MakesClauseTrue I r) premises → MakesClauseTrue I r clause
refuted premises clause I r fits few none h =
    let asserted = asserted_by premises clause in
    let n = naming_of asserted in
    elim (true_or_not I r clause) [
      | inl there ↦ there
      | inr others ↦ absurd (none (asked_interpretation I r n fits)
          (all_asked I (asked_interpretation I r n fits) r n (interprets I r n fits few.functions few.variables) asserted
          (each_there fun_eq functions_tell [] (flat_map functions_in asserted)) (each_there var_eq variables_tell [] (flat_map variables_in asserted))
          (joined_all (MakesTrue I r) (map clause_term premises) (map not_of clause) (premises_hold I r premises h) others)))
    ]
