-- Private. A term of a question has the sort of the term that it stands for, by its new name.
use Rattle.std.proofs.Common.{◌≡◌, refl, sym, ap, ◌∙◌, ℕ, nat_le, Bool, true, false, ◌&&◌, List, [], ◌∷◌, ◌++◌, map, length, Some}
use Rattle.std.proofs.Common.{if◌then◌else◌}
use Rattle.std.proofs.lemmas.Bool.{and_parts}
use Rattle.std.proofs.lemmas.List.{length-map}
use Rattle.std.specs.List.{list_any, list_all}
use Rattle.term_model.specs.declared.symbols.Op.{Op}
use Rattle.term_model.specs.declared.symbols.Sort.{Sort}
use Rattle.term_model.specs.FreeVariables.{variables_of}
use Rattle.term_model.specs.Sorts.{when, sorts_eq, at_least, of_one_sort, choice_sort, application_sort, IsOf, AreOf, AreBound}
use Rattle.term_model.specs.Sorts.{is_divisor, has_divisor, divides, operation_sort}
use Rattle.term_model.specs.Terms.{sort_eq, Var, var_eq, Term, numeral, variable, operation, call, let_in, Terms, no_terms, term, Bindings, no_bindings, binding}
use Rattle.term_model.proofs.Sorting.{operation_divides, operation_application, application_operation}
use Rattle.term_model.proofs.Tests.{sort_eq_decides}
use Rattle.hole_fillers.specs.Questions.{Naming, asked_sort, asked_variable, constant_for, asked_term, asked_terms, asked_bindings}

and_true : (a b : Bool) → a ≡ true → b ≡ true → (a && b) ≡ true
and_true true b e f = f
and_true false b e f = absurd cc

module _ (n : Naming) where
  abbrev news : List Sort → List Sort
  news ss = map (asked_sort n) ss

  one_asked : (s t : Sort) → sort_eq s t ≡ true → sort_eq (asked_sort n s) (asked_sort n t) ≡ true
  one_asked s t e = (sort_eq_decides (asked_sort n s) (asked_sort n t)).1 (ap (asked_sort n) ((sort_eq_decides s t).0 e))

  eq_asked : (ss ts : List Sort) → sorts_eq ss ts ≡ true → sorts_eq (news ss) (news ts) ≡ true
  eq_asked [] [] e = refl
  eq_asked [] (t ∷ ts) e = absurd cc
  eq_asked (s ∷ ss) [] e = absurd cc
  eq_asked (s ∷ ss) (t ∷ ts) e =
      let both = and_parts (sort_eq s t) (sorts_eq ss ts) e in
      and_true (sort_eq (asked_sort n s) (asked_sort n t)) (sorts_eq (news ss) (news ts)) (one_asked s t both.0) (eq_asked ss ts both.1)

  all_asked : (s : Sort) (ss : List Sort) → list_all (sort_eq s) ss ≡ true → list_all (sort_eq (asked_sort n s)) (news ss) ≡ true
  all_asked s [] e = refl
  all_asked s (t ∷ ts) e =
      let both = and_parts (sort_eq s t) (list_all (sort_eq s) ts) e in
      and_true (sort_eq (asked_sort n s) (asked_sort n t)) (list_all (sort_eq (asked_sort n s)) (news ts)) (one_asked s t both.0) (all_asked s ts both.1)

  many_asked : (k : ℕ) (ss : List Sort) → nat_le k (length ss) ≡ true → nat_le k (length (news ss)) ≡ true
  many_asked k ss e = ap (nat_le k) (length-map ss (asked_sort n)) ∙ e

  least_asked : (k : ℕ) (s : Sort) (ss : List Sort) → at_least k s ss ≡ true → at_least k (asked_sort n s) (news ss) ≡ true
  least_asked k s ss e =
      let both = and_parts (nat_le k (length ss)) (list_all (sort_eq s) ss) e in
      and_true (nat_le k (length (news ss))) (list_all (sort_eq (asked_sort n s)) (news ss)) (many_asked k ss both.0) (all_asked s ss both.1)

  one_sort_asked : (ss : List Sort) → of_one_sort ss ≡ true → of_one_sort (news ss) ≡ true
  one_sort_asked [] e = refl
  one_sort_asked (s ∷ ss) e = all_asked s ss e

  alike_asked : (ss : List Sort) → (nat_le 2 (length ss) && of_one_sort ss) ≡ true → (nat_le 2 (length (news ss)) && of_one_sort (news ss)) ≡ true
  alike_asked ss e =
      let both = and_parts (nat_le 2 (length ss)) (of_one_sort ss) e in
      and_true (nat_le 2 (length (news ss))) (of_one_sort (news ss)) (many_asked 2 ss both.0) (one_sort_asked ss both.1)

  -- a sort where a test passes, and one where another one does
  when_asked : (a b : Bool) (s u : Sort) → (a ≡ true → b ≡ true) → when a s ≡ Some u → when b (asked_sort n s) ≡ Some (asked_sort n u)
  when_asked true b s u h e = let f = h refl in let same : s ≡ u = cc in rw f (ap (λ t. Some (asked_sort n t)) same)
  when_asked false b s u h e = absurd cc

  choice_asked : (ss : List Sort) (u : Sort) → choice_sort ss ≡ Some u → choice_sort (news ss) ≡ Some (asked_sort n u)
  choice_asked [] u e = absurd cc
  choice_asked (c ∷ []) u e = absurd cc
  choice_asked (c ∷ s ∷ []) u e = absurd cc
  choice_asked (c ∷ s ∷ t ∷ []) u e =
      when_asked (sort_eq Sort.Bool c && sort_eq s t) (sort_eq Sort.Bool (asked_sort n c) && sort_eq (asked_sort n s) (asked_sort n t)) s u
      (λ h. let both = and_parts (sort_eq Sort.Bool c) (sort_eq s t) h in
      and_true (sort_eq Sort.Bool (asked_sort n c)) (sort_eq (asked_sort n s) (asked_sort n t)) (one_asked Sort.Bool c both.0) (one_asked s t both.1)) e
  choice_asked (c ∷ s ∷ t ∷ v ∷ ss) u e = absurd cc

  application_asked : (op : Op) (ss : List Sort) (u : Sort) → application_sort op ss ≡ Some u →
      application_sort op (news ss) ≡ Some (asked_sort n u)
  application_asked Op.True ss u e = when_asked _ _ Sort.Bool u (eq_asked [] ss) e
  application_asked Op.False ss u e = when_asked _ _ Sort.Bool u (eq_asked [] ss) e
  application_asked Op.Not ss u e = when_asked _ _ Sort.Bool u (eq_asked (Sort.Bool ∷ []) ss) e
  application_asked Op.Implies ss u e = when_asked _ _ Sort.Bool u (least_asked 2 Sort.Bool ss) e
  application_asked Op.And ss u e = when_asked _ _ Sort.Bool u (least_asked 1 Sort.Bool ss) e
  application_asked Op.Or ss u e = when_asked _ _ Sort.Bool u (least_asked 1 Sort.Bool ss) e
  application_asked Op.Xor ss u e = when_asked _ _ Sort.Bool u (least_asked 2 Sort.Bool ss) e
  application_asked Op.Equal ss u e = when_asked _ _ Sort.Bool u (alike_asked ss) e
  application_asked Op.Distinct ss u e = when_asked _ _ Sort.Bool u (alike_asked ss) e
  application_asked Op.Ite ss u e = choice_asked ss u e
  application_asked Op.Minus ss u e = when_asked _ _ Sort.Int u (least_asked 1 Sort.Int ss) e
  application_asked Op.Plus ss u e = when_asked _ _ Sort.Int u (least_asked 1 Sort.Int ss) e
  application_asked Op.Times ss u e = when_asked _ _ Sort.Int u (least_asked 1 Sort.Int ss) e
  application_asked Op.Div ss u e = when_asked _ _ Sort.Int u (eq_asked (Sort.Int ∷ Sort.Int ∷ []) ss) e
  application_asked Op.Mod ss u e = when_asked _ _ Sort.Int u (eq_asked (Sort.Int ∷ Sort.Int ∷ []) ss) e
  application_asked Op.LessEq ss u e = when_asked _ _ Sort.Bool u (least_asked 2 Sort.Int ss) e
  application_asked Op.Less ss u e = when_asked _ _ Sort.Bool u (least_asked 2 Sort.Int ss) e
  application_asked Op.GreaterEq ss u e = when_asked _ _ Sort.Bool u (least_asked 2 Sort.Int ss) e
  application_asked Op.Greater ss u e = when_asked _ _ Sort.Bool u (least_asked 2 Sort.Int ss) e

  -- a divisor has no name, so that it stays
  divisor_asked : (bound : List Var) (t : Term) → is_divisor t ≡ true → is_divisor (asked_term n bound t) ≡ true
  divisor_asked bound (numeral k) e = e
  divisor_asked bound (operation Op.Minus (term (numeral k) no_terms)) e = e
  divisor_asked bound _ e = absurd cc

  has_divisor_asked : (bound : List Var) (ts : Terms) → has_divisor ts ≡ true → has_divisor (asked_terms n bound ts) ≡ true
  has_divisor_asked bound no_terms e = absurd cc
  has_divisor_asked bound (term t no_terms) e = absurd cc
  has_divisor_asked bound (term t (term u ts)) e = divisor_asked bound u e

  divides_asked : (bound : List Var) (op : Op) (ts : Terms) → divides op ts ≡ true → divides op (asked_terms n bound ts) ≡ true
  divides_asked bound Op.Div ts e = has_divisor_asked bound ts e
  divides_asked bound Op.Mod ts e = has_divisor_asked bound ts e
  divides_asked bound _ ts e = refl

  operation_asked : (bound : List Var) (op : Op) (ts : Terms) (ss : List Sort) (u : Sort) → operation_sort op ts ss ≡ Some u →
      operation_sort op (asked_terms n bound ts) (news ss) ≡ Some (asked_sort n u)
  operation_asked bound op ts ss u e =
      application_operation op (asked_terms n bound ts) (news ss) (asked_sort n u) (divides_asked bound op ts (operation_divides op ts ss u e))
      (application_asked op ss u (operation_application op ts ss u e))

  variable_of : (x : Var) (s : Sort) (b : Bool) → s ≡ x.sort →
      IsOf (if b then variable (asked_variable n x) else call (constant_for n x) no_terms) (asked_sort n s)
  variable_of x s true e = ap (asked_sort n) e
  variable_of x s false e = record { sorts = []; arguments = tt; is = ap (λ t. Some (asked_sort n t)) (sym e) }

  mutual
    pub asked_of : (bound : List Var) (t : Term) (s : Sort) → IsOf t s → IsOf (asked_term n bound t) (asked_sort n s)
    asked_of bound (numeral k) s h = ap (asked_sort n) h
    asked_of bound (variable x) s h = variable_of x s (list_any (var_eq x) bound) h
    asked_of bound (operation op ts) s h =
        record { sorts = news h.sorts; arguments = all_of bound ts h.sorts h.arguments; is = operation_asked bound op ts h.sorts s h.is }
    asked_of bound (call f ts) s h = record {
      sorts = news h.sorts;
      arguments = all_of bound ts h.sorts h.arguments;
      is = when_asked _ _ f.target s (eq_asked f.arguments h.sorts) h.is;
    }
    asked_of bound (let_in bs t) s h = (bound_of bound bs h.0, asked_of (variables_of bs ++ bound) t s h.1)

    all_of : (bound : List Var) (ts : Terms) (ss : List Sort) → AreOf ts ss → AreOf (asked_terms n bound ts) (news ss)
    all_of bound no_terms [] h = tt
    all_of bound no_terms (s ∷ ss) h = absurd h
    all_of bound (term t ts) [] h = absurd h
    all_of bound (term t ts) (s ∷ ss) h = (asked_of bound t s h.0, all_of bound ts ss h.1)

    bound_of : (bound : List Var) (bs : Bindings) → AreBound bs → AreBound (asked_bindings n bound bs)
    bound_of bound no_bindings h = tt
    bound_of bound (binding x t bs) h = (asked_of bound t x.sort h.0, bound_of bound bs h.1)
