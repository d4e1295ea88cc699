-- The rules over `ite` and the rules that say what a connective stands for keep truth.
use Rattle.std.proofs.Common.{◌≡◌, ◌≢◌, ◌≤◌, ◌⊎◌, ◌↔◌, inl, inr, suc, List, [], ◌∷◌, ◌++◌, length, Bool, true, false, ◌&&◌, Option, Some, None, refl, sym, ap, ◌∙◌, subst, arith, All, Any, AllPairs}
use Rattle.std.specs.List.{AllZip, AllByRecursion}
use Rattle.std.proofs.lemmas.List.Elements.{All-nil, All-cons, All-head, All-tail, All-from_recursion, recursion_from_All}
use Rattle.std.proofs.lemmas.List.Kept.{AllPairs-cons}
use Rattle.term_model.specs.declared.symbols.Op.{Op}
use Rattle.term_model.specs.declared.symbols.Sort.{Sort}
use Rattle.term_model.specs.Flips.{equality}
use Rattle.term_model.specs.Interpretations.{Interpretation}
use Rattle.term_model.specs.Meaning.{Valuation, ValuationFits, value, values}
use Rattle.term_model.specs.Sorts.{IsOf}
use Rattle.term_model.specs.Terms.{Term, operation, terms_of}
use Rattle.term_model.specs.Unsatisfiable.{MakesTrue}
use Rattle.term_model.specs.Values.{Value, truth}
use Rattle.term_model.proofs.Basics.{and-left, and-right, any_here, any_cases}
use Rattle.term_model.proofs.Flips.{flips_value}
use Rattle.term_model.proofs.Meanings.{equality_is, negation_is, distinct_is, choice_then, choice_else}
use Rattle.term_model.proofs.Sorting.{value_has_sort, bool_value, when-same}
use Rattle.rule_model.specs.declared.rules.Rule.{Rule}
use Rattle.rule_model.specs.Clauses.{MakesClauseTrue}
use Rattle.rule_model.specs.Conditions.{IsClauseOfTruths}
use Rattle.rule_model.specs.RuleSchemas.{choice_schema_of}
use Rattle.rule_model.specs.Ite.{connective_definitions, MeetsConnectiveDef, choice, IsFactOfChoice, MeetsIteIntro, IsInequality, AreInequalities, IsOfTwo, IsOfTruths, IsOfOthers, MeetsDistinctElim}
use Rattle.rule_model.specs.Rewriting.{RewriteRow, Rewrites}
use Rattle.rule_model.specs.Schemas.{Schema, fill, IsInstanceOf}
use Rattle.rule_model.proofs.ArgumentLists.{true_or_not, all_of_and, and_of_all}
use Rattle.rule_model.proofs.ClausalTables.{IsSound}
use Rattle.rule_model.proofs.Instances.{instance_keeps_truth}
use Rattle.rule_model.proofs.Joining.{HaveOneSort, same_value, equal_sorts}
use Rattle.rule_model.proofs.Rewriting.{is_of_truths, of_truths, is_boolean, all_known_in, has_one_value, bool_kept}

-- the truth tables
pub choice_tables : (rule : Rule) → IsSound (choice_schema_of rule)
choice_tables Rule.ItePos1 = refl  -- ite_pos1
choice_tables Rule.ItePos2 = refl  -- ite_pos2
choice_tables Rule.IteNeg1 = refl  -- ite_neg1
choice_tables Rule.IteNeg2 = refl  -- ite_neg2
choice_tables Rule.Ite1 = refl  -- ite1
choice_tables Rule.Ite2 = refl  -- ite2
choice_tables Rule.NotIte1 = refl  -- not_ite1
choice_tables Rule.NotIte2 = refl  -- not_ite2
choice_tables _ = tt

-- what makes a row a definition over terms of Bool
abbrev is_definition : RewriteRow → Bool
is_definition row =
    is_of_truths row.right && (is_boolean row.right && (all_known_in row && has_one_value row))

abbrev AreDefinitions : List RewriteRow → Type 0
AreDefinitions rows = AllByRecursion (λ row. is_definition row ≡ true) rows

definitions_sound : AreDefinitions connective_definitions
definitions_sound = (refl, (refl, (refl, tt)))

module _ (I : Interpretation) (r : Valuation) (fits : ValuationFits r) where
  abbrev Holds : Term → Type 0
  Holds t = MakesTrue I r t

  pub instance_keeps : (schema : Option Schema) → IsSound schema → (premises : List (List Term)) (clause : List Term) → IsInstanceOf schema premises clause → All IsClauseOfTruths premises → IsClauseOfTruths clause → All (MakesClauseTrue I r) premises → MakesClauseTrue I r clause
  instance_keeps (Some schema) sound premises clause i units literals all =
      instance_keeps_truth schema premises clause I r sound i fits units literals all
  instance_keeps None sound premises clause i units literals all = absurd i

  defined_alike : (row : RewriteRow) → is_definition row ≡ true → (left right : Term) → Rewrites row left right → HaveOneSort left right → value I r left ≡ value I r right
  defined_alike row e left right w sides =
      let more = and-right (is_of_truths row.right) _ e in
      let last = and-right (is_boolean row.right) _ more in
      let bool = of_truths w.terms row.right sides.sort (and-left (is_of_truths row.right) _ e) (subst (λ t. IsOf t sides.sort) w.to sides.second) in
      let kept = bool_kept I r fits w.terms row (and-left (is_boolean row.right) _ more) (and-left (all_known_in row) _ last) (and-right (all_known_in row) _ last) (subst (IsOf (fill w.terms row.left)) bool (subst (λ t. IsOf t sides.sort) w.from sides.first)) w.passes in
      ap (value I r) w.from ∙ kept.value_is ∙ sym (ap (value I r) w.to)

  some_defined : (rows : List RewriteRow) → AreDefinitions rows → (left right : Term) → Any (λ row. Rewrites row left right) rows → HaveOneSort left right → value I r left ≡ value I r right
  some_defined [] sound left right some sides = absurd (omega (arith, some.2))
  some_defined (row ∷ rows) sound left right some sides =
      elim (any_cases (λ row. Rewrites row left right) row rows some) [
        | inl w ↦ defined_alike row sound.0 left right w sides
        | inr later ↦ some_defined rows sound.1 left right later sides
      ]

  pub connective_def_keeps : (premises : List (List Term)) (clause : List Term) → MeetsConnectiveDef premises clause → IsClauseOfTruths clause → MakesClauseTrue I r clause
  connective_def_keeps premises clause met sorted =
      let whole = All-head (λ t. IsOf t Sort.Bool) (equality met.left met.right) [] (subst IsClauseOfTruths met.literal sorted) in
      rw met.literal (any_here Holds (equality met.left met.right) []
      ((equality_is I r met.left met.right).1
      (some_defined connective_definitions definitions_sound met.left met.right met.defined (equal_sorts met.left met.right whole))))

  -- an equality of two terms of Bool that are true together
  equated : (left right : Term) → ((s : Sort) → IsOf left s → s ≡ Sort.Bool) ⊎ ((s : Sort) → IsOf right s → s ≡ Sort.Bool) → Holds left ↔ Holds right → IsClauseOfTruths (equality left right ∷ []) → MakesClauseTrue I r (equality left right ∷ [])
  equated left right bool same sorted =
      let sides = equal_sorts left right (All-head (λ t. IsOf t Sort.Bool) (equality left right) [] sorted) in
      let is_bool : sides.sort ≡ Sort.Bool = elim bool [ inl f ↦ f sides.sort sides.first | inr f ↦ f sides.sort sides.second ] in
      any_here Holds (equality left right) []
      ((equality_is I r left right).1
      (same_value I r fits left right (subst (IsOf left) is_bool sides.first) (subst (IsOf right) is_bool sides.second) same))

  -- facts of choices
  choice_fact : (condition t u : Term) → Holds (choice condition (equality (choice condition t u) t) (equality (choice condition t u) u))
  choice_fact condition t u =
      elim (true_or_not I r condition) [
        | inl h ↦
            choice_then I r condition (equality (choice condition t u) t) (equality (choice condition t u) u) h
            ∙ (equality_is I r (choice condition t u) t).1 (choice_then I r condition t u h)
        | inr n ↦
            choice_else I r condition (equality (choice condition t u) t) (equality (choice condition t u) u) n
            ∙ (equality_is I r (choice condition t u) u).1 (choice_else I r condition t u n)
      ]

  facts_hold : (facts : List Term) → All IsFactOfChoice facts → All Holds facts
  facts_hold [] all = All-nil Holds
  facts_hold (fact ∷ facts) all =
      let f = All-head IsFactOfChoice fact facts all in
      All-cons Holds fact facts (flips_value I r _ _ f.says ∙ choice_fact f.condition f.t f.u) (facts_hold facts (All-tail IsFactOfChoice fact facts all))

  pub ite_intro_keeps : (premises : List (List Term)) (clause : List Term) → MeetsIteIntro premises clause → IsClauseOfTruths clause → MakesClauseTrue I r clause
  ite_intro_keeps premises clause met sorted =
      let one = flips_value I r met.left met.first met.same in
      let facts = facts_hold met.facts met.say in
      let all = met.first ∷ met.facts in
      rw met.literal (equated met.left (operation Op.And (terms_of all)) (inr (λ s h. when-same _ _ s h.is)) (
        (λ h. and_of_all I r all (All-cons Holds met.first met.facts (sym one ∙ h) facts)),
        (λ h. one ∙ All-head Holds met.first met.facts (all_of_and I r all h)),
      )
      (subst IsClauseOfTruths met.literal sorted))

  -- pairwise distinct values
  abbrev Differ : Term → Term → Type 0
  Differ t u = value I r t ≢ value I r u

  abbrev Apart : List Term → Type 0
  Apart [] = Unit {0}
  Apart (t ∷ ts) = AllByRecursion (Differ t) ts × Apart ts

  to_values : (P : Value → Type 0) (ts : List Term) → AllByRecursion (λ t. P (value I r t)) ts → AllByRecursion P (values I r (terms_of ts))
  to_values P [] h = tt
  to_values P (t ∷ ts) h = (h.0, to_values P ts h.1)

  of_values : (P : Value → Type 0) (ts : List Term) → AllByRecursion P (values I r (terms_of ts)) → AllByRecursion (λ t. P (value I r t)) ts
  of_values P [] h = tt
  of_values P (t ∷ ts) h = (h.0, of_values P ts h.1)

  apart_of : (ts : List Term) → AllPairs (λ v w. v ≢ w) (values I r (terms_of ts)) → Apart ts
  apart_of [] h = tt
  apart_of (t ∷ ts) h = (
    of_values (λ w. value I r t ≢ w) ts
        (recursion_from_All (λ w. value I r t ≢ w) (values I r (terms_of ts)) (λ j d within. h 0 (suc j) d (omega arith) (omega arith))),
    apart_of ts (λ i j d below within. h (suc i) (suc j) d (omega arith) (omega arith)),
  )

  of_apart : (ts : List Term) → Apart ts → AllPairs (λ v w. v ≢ w) (values I r (terms_of ts))
  of_apart [] h = λ i j d below within. absurd (omega arith)
  of_apart (t ∷ ts) h =
      AllPairs-cons (λ v w. v ≢ w) (value I r t) (values I r (terms_of ts))
      (All-from_recursion (λ w. value I r t ≢ w) (values I r (terms_of ts)) (to_values (λ w. value I r t ≢ w) ts h.0))
      (of_apart ts h.1)

  distinct_apart : (ts : List Term) → Holds (operation Op.Distinct (terms_of ts)) ↔ Apart ts
  distinct_apart ts =
      (λ h. apart_of ts ((distinct_is I r (terms_of ts)).0 h), λ h. (distinct_is I r (terms_of ts)).1 (of_apart ts h))

  inequality_is : (t u literal : Term) → IsInequality t u literal → Holds literal ↔ Differ t u
  inequality_is t u literal (inl e) = (
    (λ h same. (negation_is I r (equality t u)).0 (subst Holds e h) ((equality_is I r t u).1 same)),
    (λ apart. rw e ((negation_is I r (equality t u)).1 (λ h. apart ((equality_is I r t u).0 h)))),
  )
  inequality_is t u literal (inr e) = (
    (λ h same. (negation_is I r (equality u t)).0 (subst Holds e h) ((equality_is I r u t).1 (sym same))),
    (λ apart. rw e ((negation_is I r (equality u t)).1 (λ h. apart (sym ((equality_is I r u t).0 h))))),
  )

  row_is : (t : Term) (ts literals : List Term) → AllZip (IsInequality t) ts literals → AllByRecursion Holds literals ↔ AllByRecursion (Differ t) ts
  row_is t [] [] h = (λ k. tt, λ k. tt)
  row_is t [] (l ∷ ls) h = absurd h
  row_is t (u ∷ us) [] h = absurd h
  row_is t (u ∷ us) (l ∷ ls) h =
      let here = inequality_is t u l h.0 in
      let rest = row_is t us ls h.1 in
      (λ k. (here.0 k.0, rest.0 k.1), λ k. (here.1 k.0, rest.1 k.1))

  both_lists : (xs ys : List Term) → AllByRecursion Holds (xs ++ ys) ↔ (AllByRecursion Holds xs × AllByRecursion Holds ys)
  both_lists [] ys = (λ h. (tt, h), λ h. h.1)
  both_lists (x ∷ xs) ys =
      let rest = both_lists xs ys in
      (λ h. let k = rest.0 h.1 in ((h.0, k.0), k.1), λ h. (h.0.0, rest.1 (h.0.1, h.1)))

  inequalities_are : (ts literals : List Term) → AreInequalities ts literals → AllByRecursion Holds literals ↔ Apart ts
  inequalities_are [] literals e = (λ h. tt, λ h. rw e tt)
  inequalities_are (t ∷ ts) literals (here, later, is, zip, more) =
      let first = row_is t ts here zip in
      let rest = inequalities_are ts later more in
      let parts = both_lists here later in (
        (λ h. let k = parts.0 (subst (AllByRecursion Holds) is h) in (first.0 k.0, rest.0 k.1)),
        (λ h. rw is (parts.1 (first.1 h.0, rest.1 h.1))),
      )

  truth_of : (t : Term) → IsOf t Sort.Bool → (b : Bool) × (value I r t ≡ truth b)
  truth_of t h = bool_value (value I r t) (value_has_sort I r fits t Sort.Bool h)

  three : (x y z : Bool) → x ≢ y → x ≢ z → y ≢ z → ⊥
  three true true z f g h = f refl
  three true false true f g h = g refl
  three true false false f g h = h refl
  three false false z f g h = f refl
  three false true false f g h = g refl
  three false true true f g h = h refl

  differ_truths : (t u : Term) (x y : Bool) → value I r t ≡ truth x → value I r u ≡ truth y → Differ t u → x ≢ y
  differ_truths t u x y e f apart same = apart (e ∙ ap truth same ∙ sym f)

  -- no three truth values are pairwise distinct
  truths_not_apart : (ts : List Term) → 3 ≤ length ts → All (λ t. IsOf t Sort.Bool) ts → ¬ Apart ts
  truths_not_apart [] many all = absurd (omega (arith, many))
  truths_not_apart (t ∷ []) many all = absurd (omega (arith, many))
  truths_not_apart (t ∷ u ∷ []) many all = absurd (omega (arith, many))
  truths_not_apart (t ∷ u ∷ w ∷ rest) many all = λ apart.
      let sorts = recursion_from_All (λ t. IsOf t Sort.Bool) (t ∷ u ∷ w ∷ rest) all in
      let (x, is_x) = truth_of t sorts.0 in
      let (y, is_y) = truth_of u sorts.1.0 in
      let (z, is_z) = truth_of w sorts.1.1.0 in
      three x y z (differ_truths t u x y is_x is_y apart.0.0) (differ_truths t w x z is_x is_z apart.0.1.0) (differ_truths u w y z is_y is_z apart.1.0.0)

  distinct_same : (ts : List Term) (result : Term) → IsOfTwo ts result ⊎ (IsOfTruths ts result ⊎ IsOfOthers ts result) → Holds (operation Op.Distinct (terms_of ts)) ↔ Holds result
  distinct_same ts result (inl (t, u, is, two)) =
      let one = inequality_is t u result two in
      let apart = distinct_apart (t ∷ u ∷ []) in
      rw is ((λ h. one.1 (apart.0 h).0.0), (λ h. apart.1 ((one.0 h, tt), (tt, tt))))
  distinct_same ts result (inr (inl h)) = (
    (λ k. absurd (truths_not_apart ts h.many h.truths ((distinct_apart ts).0 k))),
    (λ k. absurd (let e = subst Holds h.is k in cc)),
  )
  distinct_same ts result (inr (inr h)) =
      let each = inequalities_are ts h.literals h.each in (
        (λ k. rw h.is (and_of_all I r h.literals (All-from_recursion Holds h.literals (each.1 ((distinct_apart ts).0 k))))),
        (λ k. (distinct_apart ts).1 (each.0 (recursion_from_All Holds h.literals (all_of_and I r h.literals (subst Holds h.is k))))),
      )

  pub distinct_elim_keeps : (premises : List (List Term)) (clause : List Term) → MeetsDistinctElim premises clause → IsClauseOfTruths clause → MakesClauseTrue I r clause
  distinct_elim_keeps premises clause met sorted =
      rw met.literal (equated (operation Op.Distinct (terms_of met.ts)) met.result (inl (λ s h. when-same _ _ s h.is))
      (distinct_same met.ts met.result met.stands_for) (subst IsClauseOfTruths met.literal sorted))
