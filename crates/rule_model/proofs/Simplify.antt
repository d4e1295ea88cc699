-- The tables of simplification keep values and sorts, and so the rules keep truth.
use Rattle.std.proofs.Common.{◌≡◌, inl, inr, List, [], ◌∷◌, Bool, true, false, not, ◌&&◌, Some, if◌then◌else◌, ℤ, ◌≤ℤ◌, ◌<ℤ◌, refl, sym, ap, ◌∙◌, subst, arith, Any}
use Rattle.std.specs.List.{AllByRecursion}
use Rattle.term_model.specs.declared.symbols.Op.{Op}
use Rattle.term_model.specs.declared.symbols.Sort.{Sort}
use Rattle.term_model.specs.Flips.{equality}
use Rattle.term_model.specs.Interpretations.{Interpretation}
use Rattle.term_model.specs.Meaning.{Valuation, ValuationFits, value}
use Rattle.term_model.specs.Sorts.{IsOf, AreOf, application_sort, operation_sort, at_least, IsWellSorted}
use Rattle.term_model.specs.Terms.{sort_eq, Term, numeral, variable, call, let_in, operation, term, no_terms, not_of}
use Rattle.term_model.specs.Values.{Value, truth, whole, as_truth, as_whole}
use Rattle.term_model.specs.Unsatisfiable.{MakesTrue}
use Rattle.term_model.proofs.Basics.{and-left, and-right, any_here, any_cases}
use Rattle.term_model.proofs.Meanings.{equality_is, negation_is}
use Rattle.term_model.proofs.Sorting.{when-true, when-same, operation_parts}
use Rattle.term_model.proofs.Chains.{less_eq_is, less_is}
use Rattle.term_model.proofs.Tests.{sort_eq_decides}
use Rattle.std.proofs.lemmas.Int.{ints}
use Rattle.std.proofs.lemmas.List.Elements.{All-head}
use Rattle.rule_model.specs.declared.letter.Letter.{Letter}
use Rattle.rule_model.specs.Clauses.{MakesClauseTrue}
use Rattle.rule_model.specs.Conditions.{IsClauseOfTruths}
use Rattle.rule_model.specs.Constants.{constant_of}
use Rattle.rule_model.specs.Patterns.{a, b, c, d, yes, never, no, equal, ite, less, less_eq, greater, greater_eq}
use Rattle.rule_model.specs.Rewriting.{RewriteRow, ◌⇝◌, one_number, two_numbers, below, at_most, where_constants, Rewrites, IsFirstFit, IsReached, once, again, Simplifies}
use Rattle.rule_model.specs.Schemas.{fill}
use Rattle.rule_model.specs.Simplify.{not_simplify, implies_simplify, equiv_simplify, bool_simplify, ite_simplify, eq_simplify, comp_simplify, MeetsSimplification}
use Rattle.rule_model.proofs.Rewriting.{IsKept, row_kept, choice_parts, choice_of}

abbrev pub AreKept : List RewriteRow → Type 0
AreKept rows = AllByRecursion IsKept rows

pub not_kept : AreKept not_simplify
not_kept = (row_kept _ refl, (row_kept _ refl, (row_kept _ refl, tt)))

pub implies_kept : AreKept implies_simplify
implies_kept = (
  row_kept _ refl,
  (
    row_kept _ refl,
    (
      row_kept _ refl,
      (
        row_kept _ refl,
        (
          row_kept _ refl,
          (
            row_kept _ refl,
            (
              row_kept _ refl,
              (row_kept _ refl, (row_kept _ refl, tt)),
            ),
          ),
        ),
      ),
    ),
  ),
)

pub equiv_kept : AreKept equiv_simplify
equiv_kept = (
  row_kept _ refl,
  (
    row_kept _ refl,
    (
      row_kept _ refl,
      (
        row_kept _ refl,
        (
          row_kept _ refl,
          (
            row_kept _ refl,
            (
              row_kept _ refl,
              (row_kept _ refl, tt),
            ),
          ),
        ),
      ),
    ),
  ),
)

pub bool_kept : AreKept bool_simplify
bool_kept = (
  row_kept _ refl,
  (
    row_kept _ refl,
    (
      row_kept _ refl,
      (
        row_kept _ refl,
        (
          row_kept _ refl,
          (
            row_kept _ refl,
            (row_kept _ refl, tt),
          ),
        ),
      ),
    ),
  ),
)

-- a choice by a truth value, and by its negation; with the same branches; with a choice by the same one in a branch
same_branches : (x : Bool) (v : Value) → (if x then v else v) ≡ v
same_branches true v = refl
same_branches false v = refl

turned_choice : (x : Bool) (v w : Value) → (if not x then v else w) ≡ (if x then w else v)
turned_choice true v w = refl
turned_choice false v w = refl

inner_then : (x : Bool) (v w u : Value) → (if x then (if x then v else w) else u) ≡ (if x then v else u)
inner_then true v w u = refl
inner_then false v w u = refl

inner_else : (x : Bool) (v w u : Value) → (if x then v else (if x then w else u)) ≡ (if x then v else u)
inner_else true v w u = refl
inner_else false v w u = refl

negated_parts : (t : Term) → IsOf (not_of t) Sort.Bool → IsOf t Sort.Bool
negated_parts t h = go h.sorts h.arguments h.is
  where
    go : (ss : List Sort) → AreOf (term t no_terms) ss → application_sort Op.Not ss ≡ Some Sort.Bool → IsOf t Sort.Bool
    go [] k e = absurd k
    go (Sort.Bool ∷ []) k e = k.0
    go (Sort.Int ∷ []) k e = absurd cc
    go (Sort.Declared n ∷ []) k e = absurd cc
    go (s ∷ u ∷ rest) k e = absurd k.1

then_kept : IsKept (ite yes a b ⇝ a)
then_kept I r terms s fits h passes =
    record { value_is = refl; sort_is = (choice_parts (fill terms yes) (terms Letter.A) (terms Letter.B) s h).1 }

else_kept : IsKept (ite never a b ⇝ b)
else_kept I r terms s fits h passes =
    record { value_is = refl; sort_is = (choice_parts (fill terms never) (terms Letter.A) (terms Letter.B) s h).2 }

branches_kept : IsKept (ite c a a ⇝ a)
branches_kept I r terms s fits h passes = record {
  value_is = same_branches (as_truth (value I r (terms Letter.C))) (value I r (terms Letter.A));
  sort_is = (choice_parts (terms Letter.C) (terms Letter.A) (terms Letter.A) s h).1;
}

turned_kept : IsKept (ite (no c) a b ⇝ ite c b a)
turned_kept I r terms s fits h passes =
    let parts = choice_parts (not_of (terms Letter.C)) (terms Letter.A) (terms Letter.B) s h in
    record {
      value_is = turned_choice (as_truth (value I r (terms Letter.C))) (value I r (terms Letter.A)) (value I r (terms Letter.B));
      sort_is = choice_of _ _ _ s (negated_parts (terms Letter.C) parts.0) parts.2 parts.1;
    }

first_inner_kept : IsKept (ite c (ite c a b) d ⇝ ite c a d)
first_inner_kept I r terms s fits h passes =
    let parts = choice_parts (terms Letter.C) (fill terms (ite c a b)) (terms Letter.D) s h in
    let inner = choice_parts (terms Letter.C) (terms Letter.A) (terms Letter.B) s parts.1 in
    record {
      value_is = inner_then (as_truth (value I r (terms Letter.C))) (value I r (terms Letter.A)) (value I r (terms Letter.B)) (value I r (terms Letter.D));
      sort_is = choice_of _ _ _ s parts.0 inner.1 parts.2;
    }

last_inner_kept : IsKept (ite c a (ite c b d) ⇝ ite c a d)
last_inner_kept I r terms s fits h passes =
    let parts = choice_parts (terms Letter.C) (terms Letter.A) (fill terms (ite c b d)) s h in
    let inner = choice_parts (terms Letter.C) (terms Letter.B) (terms Letter.D) s parts.2 in
    record {
      value_is = inner_else (as_truth (value I r (terms Letter.C))) (value I r (terms Letter.A)) (value I r (terms Letter.B)) (value I r (terms Letter.D));
      sort_is = choice_of _ _ _ s parts.0 parts.1 inner.2;
    }

pub ite_kept : AreKept ite_simplify
ite_kept = (
  then_kept,
  (
    else_kept,
    (
      branches_kept,
      (
        turned_kept,
        (
          first_inner_kept,
          (
            last_inner_kept,
            (
              row_kept _ refl,
              (row_kept _ refl, (row_kept _ refl, (row_kept _ refl, (row_kept _ refl, (row_kept _ refl, tt))))),
            ),
          ),
        ),
      ),
    ),
  ),
)

-- equalities of constants
number_value : (I : Interpretation) (r : Valuation) (t : Term) (z : ℤ) → constant_of t ≡ Some z → value I r t ≡ whole z
number_value I r (numeral n) z e = cc
number_value I r (variable x) z e = absurd cc
number_value I r (operation Op.Minus (term (numeral n) no_terms)) z e = cc
number_value I r (operation op ts) z e = absurd cc
number_value I r (call f ts) z e = absurd cc
number_value I r (let_in bs t) z e = absurd cc

equality_bool : (t u : Term) (s : Sort) → IsOf (equality t u) s → s ≡ Sort.Bool
equality_bool t u s h = when-same _ _ s h.is

constant_bool : (op : Op) → operation_sort op no_terms [] ≡ Some Sort.Bool → IsOf (operation op no_terms) Sort.Bool
constant_bool op e = record { sorts = []; arguments = tt; is = e }

truth_false : (x : Bool) → ¬ (truth x ≡ truth true) → truth x ≡ truth false
truth_false true fails = absurd (fails refl)
truth_false false fails = refl

wholes_apart : (x y : ℤ) → whole x ≡ whole y → x ≡ y
wholes_apart x y e = cc

same_side_kept : IsKept (equal a a ⇝ yes)
same_side_kept I r terms s fits h passes = record {
  value_is = (equality_is I r (terms Letter.A) (terms Letter.A)).1 refl;
  sort_is = rw (equality_bool _ _ s h) (constant_bool Op.True refl);
}

apart_kept : IsKept (where_constants (two_numbers a b) (equal a b) never)
apart_kept I r terms s fits h passes = record {
  value_is = truth_false _ (λ yes. passes.are (wholes_apart _ _
      (sym (number_value I r (terms Letter.A) passes.number passes.first)
      ∙ (equality_is I r (terms Letter.A) (terms Letter.B)).0 yes
      ∙ number_value I r (terms Letter.B) passes.other passes.second)));
  sort_is = rw (equality_bool _ _ s h) (constant_bool Op.False refl);
}

unequal_kept : IsKept (where_constants (one_number a b) (no (equal a b)) never)
unequal_kept I r terms s fits h passes = record {
  value_is = truth_false _ (λ yes. (negation_is I r (equality (terms Letter.A) (terms Letter.B))).0 yes
      ((equality_is I r (terms Letter.A) (terms Letter.B)).1
      (number_value I r (terms Letter.A) passes.number passes.first
      ∙ ap whole passes.are ∙ sym (number_value I r (terms Letter.B) passes.other passes.second))));
  sort_is = rw (when-same _ _ s h.is) (constant_bool Op.False refl);
}

pub eq_kept : AreKept eq_simplify
eq_kept = (same_side_kept, (apart_kept, (unequal_kept, tt)))

-- comparisons of terms of Int
abbrev compares : Op → Bool
compares Op.LessEq = true
compares Op.Less = true
compares Op.GreaterEq = true
compares Op.Greater = true
compares _ = false

abbrev pair_of : Op → Term → Term → Term
pair_of op t u = operation op (term t (term u no_terms))

pub record ComparesNumbers (t u : Term) (s : Sort) : Type 0 where
  pub bool : s ≡ Sort.Bool
  pub first : IsOf t Sort.Int
  pub second : IsOf u Sort.Int

both_numbers : (t u : Term) (ss : List Sort) → AreOf (term t (term u no_terms)) ss → at_least 2 Sort.Int ss ≡ true → IsOf t Sort.Int × IsOf u Sort.Int
both_numbers t u [] h e = absurd h
both_numbers t u (x ∷ []) h e = absurd h.1
both_numbers t u (x ∷ y ∷ z ∷ rest) h e = absurd h.1.1
both_numbers t u (x ∷ y ∷ []) h e =
    let first = (sort_eq_decides Sort.Int x).0 (and-left (sort_eq Sort.Int x) (sort_eq Sort.Int y && true) e) in
    let second = (sort_eq_decides Sort.Int y).0 (and-left (sort_eq Sort.Int y) true (and-right (sort_eq Sort.Int x) (sort_eq Sort.Int y && true) e)) in
    (subst (IsOf t) (sym first) h.0, subst (IsOf u) (sym second) h.1.0)

pub comparison_parts : (op : Op) (t u : Term) (s : Sort) → compares op ≡ true → IsOf (pair_of op t u) s → ComparesNumbers t u s
comparison_parts Op.LessEq t u s e h =
    let numbers = both_numbers t u h.sorts h.arguments (when-true _ _ s h.is) in
    record { bool = when-same _ _ s h.is; first = numbers.0; second = numbers.1 }
comparison_parts Op.Less t u s e h =
    let numbers = both_numbers t u h.sorts h.arguments (when-true _ _ s h.is) in
    record { bool = when-same _ _ s h.is; first = numbers.0; second = numbers.1 }
comparison_parts Op.GreaterEq t u s e h =
    let numbers = both_numbers t u h.sorts h.arguments (when-true _ _ s h.is) in
    record { bool = when-same _ _ s h.is; first = numbers.0; second = numbers.1 }
comparison_parts Op.Greater t u s e h =
    let numbers = both_numbers t u h.sorts h.arguments (when-true _ _ s h.is) in
    record { bool = when-same _ _ s h.is; first = numbers.0; second = numbers.1 }
comparison_parts _ t u s e h = absurd cc

less_eq_of : (t u : Term) → IsOf t Sort.Int → IsOf u Sort.Int → IsOf (pair_of Op.LessEq t u) Sort.Bool
less_eq_of t u h k = record { sorts = Sort.Int ∷ Sort.Int ∷ []; arguments = (h, (k, tt)); is = refl }

negation_of : (t : Term) → IsOf t Sort.Bool → IsOf (not_of t) Sort.Bool
negation_of t h = record { sorts = Sort.Bool ∷ []; arguments = (h, tt); is = refl }

-- two truth values that are true together
truths_equal : (x y : Bool) → (truth x ≡ truth true → truth y ≡ truth true) → (truth y ≡ truth true → truth x ≡ truth true) → truth x ≡ truth y
truths_equal true y f g = sym (f refl)
truths_equal false true f g = g refl
truths_equal false false f g = refl

number_is : (I : Interpretation) (r : Valuation) (t : Term) (z : ℤ) → constant_of t ≡ Some z → as_whole (value I r t) ≡ z
number_is I r t z e = ap as_whole (number_value I r t z e)

below_kept : IsKept (where_constants (below a b) (less a b) yes)
below_kept I r terms s fits h passes = record {
  value_is = (less_is I r (terms Letter.A) (terms Letter.B)).1 (omega (
    arith,
    ints,
    number_is I r (terms Letter.A) passes.number passes.first,
    number_is I r (terms Letter.B) passes.other passes.second,
    passes.are,
  ));
  sort_is = rw ((comparison_parts Op.Less _ _ s refl h).bool) (constant_bool Op.True refl);
}

not_below_kept : IsKept (where_constants (at_most b a) (less a b) never)
not_below_kept I r terms s fits h passes = record {
  value_is = truth_false _ (λ yes. absurd (omega (
    arith,
    ints,
    (less_is I r (terms Letter.A) (terms Letter.B)).0 yes,
    number_is I r (terms Letter.B) passes.number passes.first,
    number_is I r (terms Letter.A) passes.other passes.second,
    passes.are,
  )));
  sort_is = rw ((comparison_parts Op.Less _ _ s refl h).bool) (constant_bool Op.False refl);
}

at_most_kept : IsKept (where_constants (at_most a b) (less_eq a b) yes)
at_most_kept I r terms s fits h passes = record {
  value_is = (less_eq_is I r (terms Letter.A) (terms Letter.B)).1 (omega (
    arith,
    ints,
    number_is I r (terms Letter.A) passes.number passes.first,
    number_is I r (terms Letter.B) passes.other passes.second,
    passes.are,
  ));
  sort_is = rw ((comparison_parts Op.LessEq _ _ s refl h).bool) (constant_bool Op.True refl);
}

not_at_most_kept : IsKept (where_constants (below b a) (less_eq a b) never)
not_at_most_kept I r terms s fits h passes = record {
  value_is = truth_false _ (λ yes. absurd (omega (
    arith,
    ints,
    (less_eq_is I r (terms Letter.A) (terms Letter.B)).0 yes,
    number_is I r (terms Letter.B) passes.number passes.first,
    number_is I r (terms Letter.A) passes.other passes.second,
    passes.are,
  )));
  sort_is = rw ((comparison_parts Op.LessEq _ _ s refl h).bool) (constant_bool Op.False refl);
}

not_less_kept : IsKept (less a a ⇝ never)
not_less_kept I r terms s fits h passes = record {
  value_is = truth_false _ (λ yes. absurd (omega (arith, ints, (less_is I r (terms Letter.A) (terms Letter.A)).0 yes)));
  sort_is = rw ((comparison_parts Op.Less _ _ s refl h).bool) (constant_bool Op.False refl);
}

itself_kept : IsKept (less_eq a a ⇝ yes)
itself_kept I r terms s fits h passes = record {
  value_is = (less_eq_is I r (terms Letter.A) (terms Letter.A)).1 (omega (arith, ints));
  sort_is = rw ((comparison_parts Op.LessEq _ _ s refl h).bool) (constant_bool Op.True refl);
}

swapped_kept : IsKept (greater_eq a b ⇝ less_eq b a)
swapped_kept I r terms s fits h passes =
    let numbers = comparison_parts Op.GreaterEq (terms Letter.A) (terms Letter.B) s refl h in
    record { value_is = refl; sort_is = rw (numbers.bool) (less_eq_of _ _ numbers.second numbers.first) }

less_kept : IsKept (less a b ⇝ no (less_eq b a))
less_kept I r terms s fits h passes =
    let numbers = comparison_parts Op.Less (terms Letter.A) (terms Letter.B) s refl h in
    let less = less_is I r (terms Letter.A) (terms Letter.B) in
    let other = less_eq_is I r (terms Letter.B) (terms Letter.A) in
    let denied = negation_is I r (fill terms (less_eq b a)) in
    record {
      value_is = truths_equal _ _
          (λ yes. denied.1 (λ k. absurd (omega (arith, ints, less.0 yes, other.0 k))))
          (λ no. less.1 (decided _ _ (λ k. denied.0 no (other.1 k))));
      sort_is = rw (numbers.bool) (negation_of (fill terms (less_eq b a)) (less_eq_of _ _ numbers.second numbers.first));
    }
  where
    decided : (x y : ℤ) → ¬ (y ≤ℤ x) → x <ℤ y
    decided x y n = grind (arith, ints)

greater_kept : IsKept (greater a b ⇝ no (less_eq a b))
greater_kept I r terms s fits h passes =
    let numbers = comparison_parts Op.Greater (terms Letter.A) (terms Letter.B) s refl h in
    let greater = less_is I r (terms Letter.B) (terms Letter.A) in
    let other = less_eq_is I r (terms Letter.A) (terms Letter.B) in
    let denied = negation_is I r (fill terms (less_eq a b)) in
    record {
      value_is = truths_equal _ _
          (λ yes. denied.1 (λ k. absurd (omega (arith, ints, greater.0 yes, other.0 k))))
          (λ no. greater.1 (decided _ _ (λ k. denied.0 no (other.1 k))));
      sort_is = rw (numbers.bool) (negation_of (fill terms (less_eq a b)) (less_eq_of _ _ numbers.first numbers.second));
    }
  where
    decided : (x y : ℤ) → ¬ (y ≤ℤ x) → x <ℤ y
    decided x y n = grind (arith, ints)

pub comp_kept : AreKept comp_simplify
comp_kept = (
  below_kept,
  (
    not_below_kept,
    (
      at_most_kept,
      (
        not_at_most_kept,
        (
          not_less_kept,
          (
            itself_kept,
            (
              swapped_kept,
              (
                less_kept,
                (greater_kept, tt),
              ),
            ),
          ),
        ),
      ),
    ),
  ),
)

-- what rows make of a term has its value and its sort
record IsAlike (I : Interpretation) (r : Valuation) (t u : Term) (s : Sort) : Type 0 where
  value_is : value I r t ≡ value I r u
  sort_is : IsOf u s

module _ (I : Interpretation) (r : Valuation) (fits : ValuationFits r) where
  rewritten_alike : (row : RewriteRow) → IsKept row → (t u : Term) (s : Sort) → Rewrites row t u → IsOf t s → IsAlike I r t u s
  rewritten_alike row kept t u s w h =
      let k = kept I r w.terms s fits (subst (λ x. IsOf x s) w.from h) w.passes in
      record {
        value_is = ap (value I r) w.from ∙ k.value_is ∙ sym (ap (value I r) w.to);
        sort_is = subst (λ x. IsOf x s) (sym w.to) k.sort_is;
      }

  first_alike : (rows : List RewriteRow) → AreKept rows → (t u : Term) (s : Sort) → IsFirstFit rows t u → IsOf t s → IsAlike I r t u s
  first_alike [] kept t u s f h = absurd f
  first_alike (row ∷ rows) kept t u s (inl w) h = rewritten_alike row kept.0 t u s w h
  first_alike (row ∷ rows) kept t u s (inr later) h = first_alike rows kept.1 t u s later.1 h

  reached_alike : (rows : List RewriteRow) → AreKept rows → (t u : Term) (s : Sort) → IsReached rows t u → IsOf t s → IsAlike I r t u s
  reached_alike rows kept _ _ s (once t u f) h = first_alike rows kept t u s f h
  reached_alike rows kept _ _ s (again t u w f more) h =
      let now = first_alike rows kept t u s f h in
      let later = reached_alike rows kept u w s more now.sort_is in
      record { value_is = now.value_is ∙ later.value_is; sort_is = later.sort_is }

  any_alike : (rows : List RewriteRow) → AreKept rows → (t u : Term) (s : Sort) → Any (λ row. Rewrites row t u) rows → IsOf t s → IsAlike I r t u s
  any_alike [] kept t u s some h = absurd (omega (arith, some.2))
  any_alike (row ∷ rows) kept t u s some h =
      elim (any_cases (λ row. Rewrites row t u) row rows some) [
        | inl w ↦ rewritten_alike row kept.0 t u s w h
        | inr later ↦ any_alike rows kept.1 t u s later h
      ]

  simplified_alike : (rows : List RewriteRow) → AreKept rows → (t u : Term) (s : Sort) → Simplifies rows t u → IsOf t s → IsAlike I r t u s
  simplified_alike rows kept t u s (inl some) h = any_alike rows kept t u s some h
  simplified_alike rows kept t u s (inr reached) h = reached_alike rows kept t u s reached h

  pub simplification_keeps : (rows : List RewriteRow) → AreKept rows → (premises : List (List Term)) (clause : List Term) → MeetsSimplification rows premises clause → IsClauseOfTruths clause → MakesClauseTrue I r clause
  simplification_keeps rows kept premises clause met sorted =
      let whole = All-head (λ t. IsOf t Sort.Bool) (equality met.left met.right) [] (subst IsClauseOfTruths met.literal sorted) in
      let left = All-head IsWellSorted met.left (met.right ∷ []) (operation_parts Op.Equal (term met.left (term met.right no_terms)) Sort.Bool whole) in
      let alike = simplified_alike rows kept met.left met.right left.sort met.simplifies left.of in
      rw met.literal (any_here (MakesTrue I r) (equality met.left met.right) []
      ((equality_is I r met.left met.right).1 alike.value_is))
