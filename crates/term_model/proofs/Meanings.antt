-- What the operators' meanings come to, for the terms that they are applied to.
use Rattle.std.proofs.Common.{◌≡◌, ◌≢◌, suc, List, [], ◌∷◌, map, Bool, true, false, not, ◌&&◌, ◌||◌, ◌⊎◌, ◌↔◌, All, Any, AllPairs, inl, inr, refl, sym, ap, ◌∙◌, arith}
use Rattle.std.specs.List.{AllByRecursion, list_all, list_any}
use Rattle.std.proofs.lemmas.List.Elements.{All-from_recursion, recursion_from_All}
use Rattle.std.proofs.lemmas.List.Kept.{AllPairs-cons}
use Rattle.std.proofs.lemmas.Bool.{not-true}
use Rattle.term_model.specs.declared.symbols.Sort.{Sort}
use Rattle.term_model.specs.declared.symbols.Op.{Op}
use Rattle.term_model.specs.Terms.{Term, operation, Terms, no_terms, term, list_of, terms_of, not_of}
use Rattle.term_model.specs.Values.{Value, truth, whole, as_truth, value_eq}
use Rattle.term_model.specs.Operators.{pairwise_distinct, exclusive_or}
use Rattle.term_model.specs.Interpretations.{Interpretation}
use Rattle.term_model.specs.Meaning.{Valuation, ValuationFits, value, values}
use Rattle.term_model.specs.Sorts.{IsOf}
use Rattle.term_model.specs.Unsatisfiable.{MakesTrue}
use Rattle.term_model.proofs.Tests.{value_eq_decides}
use Rattle.term_model.proofs.Sorting.{value_has_sort, bool_value}
use Rattle.term_model.proofs.Basics.{and-left, and-right, and-true, then_branch, else_branch, any_here, any_later, any_cases}

-- the values of arguments, as a list
pub values_of_list : (I : Interpretation) (r : Valuation) (ts : Terms) → values I r ts ≡ map (value I r) (list_of ts)
values_of_list I r no_terms = refl
values_of_list I r (term t ts) = ap (λ vs. value I r t ∷ vs) (values_of_list I r ts)

-- a value is true exactly where its truth value is
pub is_true : (v : Value) → as_truth v ≡ true → v ≡ truth true
is_true (truth b) e = ap truth e
is_true (whole z) e = absurd cc

pub true_is : (v : Value) → v ≡ truth true → as_truth v ≡ true
true_is v e = ap as_truth e

pub truth_is : (b : Bool) → truth b ≡ truth true → b ≡ true
truth_is b e = cc

pub not_true : (b : Bool) → ¬ (b ≡ true) → b ≡ false
not_true true n = absurd (n refl)
not_true false n = refl

pub not_not : (b : Bool) → not (not b) ≡ b
not_not true = refl
not_not false = refl

pub double_negation_truth : (I : Interpretation) (r : Valuation) (t : Term) → as_truth (value I r (not_of (not_of t))) ≡ as_truth (value I r t)
double_negation_truth I r t = not_not (as_truth (value I r t))

pub double_negation_value : (I : Interpretation) (r : Valuation) (t : Term) → ValuationFits r → IsOf t Sort.Bool → value I r (not_of (not_of t)) ≡ value I r t
double_negation_value I r t fits h = go (bool_value (value I r t) (value_has_sort I r fits t Sort.Bool h))
  where
    go : ((b : Bool) × (value I r t ≡ truth b)) → truth (not (not (as_truth (value I r t)))) ≡ value I r t
    go (b, e) = ap truth (not_not (as_truth (value I r t)) ∙ ap as_truth e) ∙ sym e

pub negation_is : (I : Interpretation) (r : Valuation) (t : Term) → MakesTrue I r (not_of t) ↔ ¬ MakesTrue I r t
negation_is I r t = (λ e h. absurd (fails (as_truth (value I r t)) (truth_is (not (as_truth (value I r t))) e) (true_is (value I r t) h)), λ n. ap truth (holds (as_truth (value I r t)) (λ e. n (is_true (value I r t) e))))
  where
    fails : (b : Bool) → not b ≡ true → b ≡ true → ⊥
    fails true e f = absurd cc
    fails false e f = absurd cc

    holds : (b : Bool) → ¬ (b ≡ true) → not b ≡ true
    holds true n = absurd (n refl)
    holds false n = refl

all_true : (I : Interpretation) (r : Valuation) (ts : Terms) → list_all as_truth (values I r ts) ≡ true → AllByRecursion (MakesTrue I r) (list_of ts)
all_true I r no_terms e = tt
all_true I r (term t ts) e = (
  is_true (value I r t) (and-left (as_truth (value I r t)) (list_all as_truth (values I r ts)) e),
  all_true I r ts (and-right (as_truth (value I r t)) (list_all as_truth (values I r ts)) e),
)

true_all : (I : Interpretation) (r : Valuation) (ts : Terms) → AllByRecursion (MakesTrue I r) (list_of ts) → list_all as_truth (values I r ts) ≡ true
true_all I r no_terms h = refl
true_all I r (term t ts) h =
    ap (λ b. b && list_all as_truth (values I r ts)) (true_is (value I r t) h.0) ∙ true_all I r ts h.1

pub conjunction_is : (I : Interpretation) (r : Valuation) (ts : Terms) → MakesTrue I r (operation Op.And ts) ↔ All (MakesTrue I r) (list_of ts)
conjunction_is I r ts = (
  λ e. All-from_recursion (MakesTrue I r) (list_of ts) (all_true I r ts (truth_is (list_all as_truth (values I r ts)) e)),
  λ h. ap truth (true_all I r ts (recursion_from_All (MakesTrue I r) (list_of ts) h)),
)

any_true : (I : Interpretation) (r : Valuation) (ts : Terms) → list_any as_truth (values I r ts) ≡ true → Any (MakesTrue I r) (list_of ts)
any_true I r no_terms e = absurd cc
any_true I r (term t ts) e = go (as_truth (value I r t)) refl e (any_true I r ts)
  where
    go : (b : Bool) → as_truth (value I r t) ≡ b → (b || list_any as_truth (values I r ts)) ≡ true → (list_any as_truth (values I r ts) ≡ true → Any (MakesTrue I r) (list_of ts)) → Any (MakesTrue I r) (t ∷ list_of ts)
    go true h e rest = any_here (MakesTrue I r) t (list_of ts) (is_true (value I r t) h)
    go false h e rest = any_later (MakesTrue I r) t (list_of ts) (rest e)

true_any : (I : Interpretation) (r : Valuation) (ts : Terms) → Any (MakesTrue I r) (list_of ts) → list_any as_truth (values I r ts) ≡ true
true_any I r no_terms (k, x, below, same, p) = absurd (omega arith)
true_any I r (term t ts) h = go (true_any I r ts) (any_cases (MakesTrue I r) t (list_of ts) h)
  where
    or-true : (b : Bool) → (b || true) ≡ true
    or-true true = refl
    or-true false = refl

    go : (Any (MakesTrue I r) (list_of ts) → list_any as_truth (values I r ts) ≡ true) → (MakesTrue I r t ⊎ Any (MakesTrue I r) (list_of ts)) → (as_truth (value I r t) || list_any as_truth (values I r ts)) ≡ true
    go rest = elim [ inl e ↦ ap (λ b. b || list_any as_truth (values I r ts)) (true_is (value I r t) e) | inr later ↦ ap (λ b. as_truth (value I r t) || b) (rest later) ∙ or-true (as_truth (value I r t)) ]

pub disjunction_is : (I : Interpretation) (r : Valuation) (ts : Terms) → MakesTrue I r (operation Op.Or ts) ↔ Any (MakesTrue I r) (list_of ts)
disjunction_is I r ts = (
  λ e. any_true I r ts (truth_is (list_any as_truth (values I r ts)) e),
  λ h. ap truth (true_any I r ts h),
)

pub implication_is : (I : Interpretation) (r : Valuation) (s t : Term) → MakesTrue I r (operation Op.Implies (terms_of (s ∷ t ∷ []))) ↔ (MakesTrue I r s → MakesTrue I r t)
implication_is I r s t = (
  λ e h. is_true (value I r t) (forth (as_truth (value I r s)) (as_truth (value I r t)) (truth_is _ e) (true_is (value I r s) h)),
  λ h. ap truth (back (as_truth (value I r s)) (as_truth (value I r t)) (λ e. true_is (value I r t) (h (is_true (value I r s) e)))),
)
  where
    forth : (a b : Bool) → (not a || b) ≡ true → a ≡ true → b ≡ true
    forth true b e f = e
    forth false b e f = absurd cc

    back : (a b : Bool) → (a ≡ true → b ≡ true) → (not a || b) ≡ true
    back true b h = h refl
    back false b h = refl

pub exclusive_is : (I : Interpretation) (r : Valuation) (s t : Term) → MakesTrue I r (operation Op.Xor (terms_of (s ∷ t ∷ []))) ↔ ¬ (MakesTrue I r s ↔ MakesTrue I r t)
exclusive_is I r s t = (
  λ e h. forth (as_truth (value I r s)) (as_truth (value I r t)) (truth_is _ e)
      (λ f. true_is (value I r t) (h.0 (is_true (value I r s) f))) (λ f. true_is (value I r s) (h.1 (is_true (value I r t) f))),
  λ n. ap truth (back (as_truth (value I r s)) (as_truth (value I r t))
      (λ h. n (λ e. is_true (value I r t) (h.0 (true_is (value I r s) e)), λ e. is_true (value I r s) (h.1 (true_is (value I r t) e))))),
)
  where
    forth : (a b : Bool) → exclusive_or a b ≡ true → (a ≡ true → b ≡ true) → (b ≡ true → a ≡ true) → ⊥
    forth true true e h k = absurd cc
    forth true false e h k = absurd (let f = h refl in cc)
    forth false true e h k = absurd (let f = k refl in cc)
    forth false false e h k = absurd cc

    back : (a b : Bool) → ¬ ((a ≡ true) ↔ (b ≡ true)) → exclusive_or a b ≡ true
    back true true n = absurd (n (λ e. refl, λ e. refl))
    back true false n = refl
    back false true n = refl
    back false false n = absurd (n (λ e. e, λ e. e))

pub equality_is : (I : Interpretation) (r : Valuation) (s t : Term) → MakesTrue I r (operation Op.Equal (terms_of (s ∷ t ∷ []))) ↔ (value I r s ≡ value I r t)
equality_is I r s t = (
  λ e. (value_eq_decides (value I r s) (value I r t)).0 (and-left (value_eq (value I r s) (value I r t)) true (truth_is _ e)),
  λ h. ap truth (and-true (value_eq (value I r s) (value I r t)) ∙ (value_eq_decides (value I r s) (value I r t)).1 h),
)

-- the test by which a value differs from all others of a list
none_equal : (v : Value) (vs : List Value) → list_any (value_eq v) vs ≡ false → AllByRecursion (λ w. v ≢ w) vs
none_equal v [] e = tt
none_equal v (w ∷ vs) e = go (value_eq v w) refl e (none_equal v vs)
  where
    go : (b : Bool) → value_eq v w ≡ b → (b || list_any (value_eq v) vs) ≡ false → (list_any (value_eq v) vs ≡ false → AllByRecursion (λ w. v ≢ w) vs) → (v ≢ w) × AllByRecursion (λ w. v ≢ w) vs
    go true h e rest = absurd cc
    go false h e rest = (λ same. let f = (value_eq_decides v w).1 same in absurd cc, rest e)

equal_none : (v : Value) (vs : List Value) → AllByRecursion (λ w. v ≢ w) vs → list_any (value_eq v) vs ≡ false
equal_none v [] h = refl
equal_none v (w ∷ vs) h =
    ap (λ b. b || list_any (value_eq v) vs) (not_true (value_eq v w) (λ e. h.0 ((value_eq_decides v w).0 e)))
    ∙ equal_none v vs h.1

pairs : (vs : List Value) → pairwise_distinct vs ≡ true → AllPairs (λ v w. v ≢ w) vs
pairs [] e = λ i j d below within. absurd (omega arith)
pairs (v ∷ vs) e =
    AllPairs-cons (λ v w. v ≢ w) v vs
    (All-from_recursion (λ w. v ≢ w) vs
    (none_equal v vs (not-true (list_any (value_eq v) vs) (and-left (not (list_any (value_eq v) vs)) (pairwise_distinct vs) e))))
    (pairs vs (and-right (not (list_any (value_eq v) vs)) (pairwise_distinct vs) e))

paired : (vs : List Value) → AllPairs (λ v w. v ≢ w) vs → pairwise_distinct vs ≡ true
paired [] h = refl
paired (v ∷ vs) h =
    ap (λ b. not b && pairwise_distinct vs) (equal_none v vs (recursion_from_All (λ w. v ≢ w) vs (λ j d within. h 0 (suc j) d (omega arith) (omega arith))))
    ∙ paired vs (λ i j d below within. h (suc i) (suc j) d (omega arith) (omega arith))

pub distinct_is : (I : Interpretation) (r : Valuation) (ts : Terms) → MakesTrue I r (operation Op.Distinct ts) ↔ AllPairs (λ v w. v ≢ w) (values I r ts)
distinct_is I r ts = (λ e. pairs (values I r ts) (truth_is _ e), λ h. ap truth (paired (values I r ts) h))

pub choice_then : (I : Interpretation) (r : Valuation) (c s t : Term) → MakesTrue I r c → value I r (operation Op.Ite (terms_of (c ∷ s ∷ t ∷ []))) ≡ value I r s
choice_then I r c s t h = then_branch (as_truth (value I r c)) (value I r s) (value I r t) (true_is (value I r c) h)

pub choice_else : (I : Interpretation) (r : Valuation) (c s t : Term) → ¬ MakesTrue I r c → value I r (operation Op.Ite (terms_of (c ∷ s ∷ t ∷ []))) ≡ value I r t
choice_else I r c s t n = else_branch (as_truth (value I r c)) (value I r s) (value I r t) (λ e. n (is_true (value I r c) e))
