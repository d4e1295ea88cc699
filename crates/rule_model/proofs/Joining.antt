-- and_simplify and or_simplify keep truth.
use Rattle.std.proofs.Common.{◌≡◌, ◌↔◌, inl, inr, ℕ, zero, suc, ◌+◌, List, [], ◌∷◌, ◌++◌, Bool, true, false, not, refl, sym, ap, ◌∙◌, subst, arith, Some, All, Any}
use Rattle.std.proofs.lemmas.List.Elements.{All-nil, All-cons, All-head, All-tail, All-contains, All-append}
use Rattle.term_model.specs.declared.symbols.Op.{Op}
use Rattle.term_model.specs.declared.symbols.Sort.{Sort}
use Rattle.term_model.specs.Flips.{equality}
use Rattle.term_model.specs.Interpretations.{Interpretation}
use Rattle.term_model.specs.Meaning.{Valuation, ValuationFits, value}
use Rattle.term_model.specs.Sorts.{IsOf, AreOf, application_sort}
use Rattle.term_model.specs.Terms.{sort_eq, Term, operation, no_terms, terms_of}
use Rattle.term_model.specs.Unsatisfiable.{MakesTrue}
use Rattle.term_model.specs.Values.{truth, as_truth}
use Rattle.term_model.proofs.Tests.{sort_eq_decides}
use Rattle.term_model.proofs.Basics.{and-left, any_here, any_later, any_cases, same_tests}
use Rattle.term_model.proofs.Meanings.{is_true, true_is, not_not, equality_is}
use Rattle.term_model.proofs.Sorting.{value_has_sort, bool_value, when-same, when-true}
use Rattle.rule_model.specs.Resolution.{LeavesWithout, IsFirstsOf}
use Rattle.rule_model.specs.Simplify.{negated, AreOpposed, IsShortened, StandsAs, JoinsTo, MeetsJoining}
use Rattle.rule_model.specs.Clauses.{MakesClauseTrue}
use Rattle.rule_model.specs.Conditions.{IsClauseOfTruths}
use Rattle.rule_model.proofs.ArgumentLists.{true_or_not, all_of_and, and_of_all, some_of_or, or_of_some}

-- the two sides of an equality have one sort
pub record HaveOneSort (t u : Term) : Type 0 where
  pub sort : Sort
  pub first : IsOf t sort
  pub second : IsOf u sort

sides_listed : (t u : Term) (ss : List Sort) → AreOf (terms_of (t ∷ u ∷ [])) ss → application_sort Op.Equal ss ≡ Some Sort.Bool → HaveOneSort t u
sides_listed t u [] h e = absurd h
sides_listed t u (x ∷ []) h e = absurd h.1
sides_listed t u (x ∷ y ∷ z ∷ rest) h e = absurd h.1.1
sides_listed t u (x ∷ y ∷ []) h e =
    let same = (sort_eq_decides x y).0 (and-left (sort_eq x y) true (when-true _ _ Sort.Bool e)) in
    record { sort = x; first = h.0; second = subst (IsOf u) (sym same) h.1.0 }

pub equal_sorts : (t u : Term) → IsOf (equality t u) Sort.Bool → HaveOneSort t u
equal_sorts t u h = sides_listed t u h.sorts h.arguments h.is

-- A shortened list has a property of all its items where the whole list has, as far as the neutral term has it.
module _ (P : Term → Type 0) where
  without_keeps : (t : Term) (ts us : List Term) → LeavesWithout t ts us → All P ts → All P us
  without_keeps t [] us h all = rw h (All-nil P)
  without_keeps t (u ∷ ts) us (inl (e, more)) all = without_keeps t ts us more (All-tail P u ts all)
  without_keeps t (u ∷ ts) us (inr (apart, (ws, e, more))) all =
      rw e (All-cons P u ws (All-head P u ts all) (without_keeps t ts ws more (All-tail P u ts all)))

  within_keeps : (t : Term) → P t → (ts us : List Term) → LeavesWithout t ts us → All P us → All P ts
  within_keeps t p [] us h all = All-nil P
  within_keeps t p (u ∷ ts) us (inl (e, more)) all = All-cons P u ts (rw e p) (within_keeps t p ts us more all)
  within_keeps t p (u ∷ ts) us (inr (apart, (ws, e, more))) all =
      let kept : All P (u ∷ ws) = subst (All P) e all in
      All-cons P u ts (All-head P u ws kept) (within_keeps t p ts ws more (All-tail P u ws kept))

  once_keeps : (seen ts us : List Term) → IsFirstsOf seen ts us → All P ts → All P us
  once_keeps seen [] us h all = rw h (All-nil P)
  once_keeps seen (t ∷ ts) us (inl (there, more)) all = once_keeps seen ts us more (All-tail P t ts all)
  once_keeps seen (t ∷ ts) us (inr (new, (ws, e, more))) all =
      rw e (All-cons P t ws (All-head P t ts all) (once_keeps (seen ++ t ∷ []) ts ws more (All-tail P t ts all)))

  again_keeps : (seen ts us : List Term) → IsFirstsOf seen ts us → All P seen → All P us → All P ts
  again_keeps seen [] us h earlier all = All-nil P
  again_keeps seen (t ∷ ts) us (inl (there, more)) earlier all =
      All-cons P t ts (All-contains P seen t earlier there) (again_keeps seen ts us more earlier all)
  again_keeps seen (t ∷ ts) us (inr (new, (ws, e, more))) earlier all =
      let kept : All P (t ∷ ws) = subst (All P) e all in
      let here = All-head P t ws kept in
      All-cons P t ts here (again_keeps (seen ++ t ∷ []) ts ws more (All-append P seen (t ∷ []) earlier (All-cons P t [] here (All-nil P))) (All-tail P t ws kept))

  shortened_is : (neutral : Term) → P neutral → (ts us : List Term) → IsShortened neutral ts us → All P ts ↔ All P us
  shortened_is neutral p ts us (inl h) = (without_keeps neutral ts us h, within_keeps neutral p ts us h)
  shortened_is neutral p ts us (inr (inl h)) = (once_keeps [] ts us h, again_keeps [] ts us h (All-nil P))
  shortened_is neutral p ts us (inr (inr (vs, h, k))) = (
    (λ all. once_keeps [] vs us k (without_keeps neutral ts vs h all)),
    (λ all. within_keeps neutral p ts vs h (again_keeps [] vs us k (All-nil P) all)),
  )

  -- an application has the property where all its arguments have
  abbrev Joins : Op → Type 0
  Joins op = (ts : List Term) → P (operation op (terms_of ts)) ↔ All P ts

  stands_is : (op : Op) (neutral : Term) → Joins op → P neutral → (us : List Term) (t : Term) → StandsAs op neutral us t → All P us ↔ P t
  stands_is op neutral joins p [] t e = (λ all. rw e p, λ h. All-nil P)
  stands_is op neutral joins p (u ∷ []) t (inl e) = (λ all. rw e (All-head P u [] all), λ h. All-cons P u [] (subst P e h) (All-nil P))
  stands_is op neutral joins p (u ∷ []) t (inr e) = (λ all. rw e ((joins (u ∷ [])).1 all), λ h. (joins (u ∷ [])).0 (subst P e h))
  stands_is op neutral joins p (u ∷ w ∷ us) t e = (λ all. rw e ((joins (u ∷ w ∷ us)).1 all), λ h. (joins (u ∷ w ∷ us)).0 (subst P e h))

  joined_is : (op : Op) (neutral absorbing : Term) → Joins op → P neutral → (¬ P absorbing) → ((ts : List Term) → AreOpposed ts → ¬ All P ts) → (ts : List Term) (t : Term) → JoinsTo op neutral absorbing ts t → P (operation op (terms_of ts)) ↔ P t
  joined_is op neutral absorbing joins p fails opposed ts t (inl (e, inl there)) = (
    (λ h. absurd (fails (All-contains P ts absorbing ((joins ts).0 h) there))),
    (λ h. absurd (fails (subst P e h))),
  )
  joined_is op neutral absorbing joins p fails opposed ts t (inl (e, inr both)) = (
    (λ h. absurd (opposed ts both ((joins ts).0 h))),
    (λ h. absurd (fails (subst P e h))),
  )
  joined_is op neutral absorbing joins p fails opposed ts t (inr (us, short, stands)) =
      let first = shortened_is neutral p ts us short in
      let second = stands_is op neutral joins p us t stands in
      (λ h. second.0 (first.0 ((joins ts).0 h)), λ h. (joins ts).1 (first.1 (second.1 h)))

module _ (I : Interpretation) (r : Valuation) where
  abbrev Holds : Term → Type 0
  Holds t = MakesTrue I r t

  abbrev FailsAt : Term → Type 0
  FailsAt t = ¬ MakesTrue I r t

  abbrev truth_at : Term → Bool
  truth_at t = as_truth (value I r t)

  -- behind an even number of `not`s a truth value is itself
  even_truth : (n : ℕ) (t : Term) → truth_at (negated (n + n) t) ≡ truth_at t
  even_truth zero t = refl
  even_truth (suc n) t =
      let e : ◌≡◌ {A = ℕ} (suc n + suc n) (suc (suc (n + n))) = omega arith in
      rw e (not_not (truth_at (negated (n + n) t)) ∙ even_truth n t)

  odd_truth : (n : ℕ) (t : Term) → truth_at (negated (suc (n + n)) t) ≡ not (truth_at t)
  odd_truth n t = ap not (even_truth n t)

  differ : (x : Bool) → x ≡ not x → ⊥
  differ true e = cc
  differ false e = cc

  not_opposed : (ts : List Term) → AreOpposed ts → ¬ All Holds ts
  not_opposed ts both all =
      let even = true_is _ (All-contains Holds ts _ all both.even) in
      let odd = true_is _ (All-contains Holds ts _ all both.odd) in
      differ (truth_at both.same) (sym (even_truth both.m both.same) ∙ even ∙ sym odd ∙ odd_truth both.n both.same)

  some_fails : (x : Bool) → (x ≡ true → ⊥) → (not x ≡ true → ⊥) → ⊥
  some_fails true f g = f refl
  some_fails false f g = g refl

  not_both_fail : (ts : List Term) → AreOpposed ts → ¬ All FailsAt ts
  not_both_fail ts both all =
      let even = All-contains FailsAt ts _ all both.even in
      let odd = All-contains FailsAt ts _ all both.odd in
      some_fails (truth_at both.same)
      (λ e. even (is_true _ (even_truth both.m both.same ∙ e)))
      (λ e. odd (is_true _ (odd_truth both.n both.same ∙ e)))

  and_joins : Joins Holds Op.And
  and_joins ts = (all_of_and I r ts, and_of_all I r ts)

  none_of_any : (ts : List Term) → ¬ Any Holds ts → All FailsAt ts
  none_of_any [] n = All-nil FailsAt
  none_of_any (t ∷ ts) n =
      All-cons FailsAt t ts (λ h. n (any_here Holds t ts h)) (none_of_any ts (λ some. n (any_later Holds t ts some)))

  any_of_none : (ts : List Term) → All FailsAt ts → ¬ Any Holds ts
  any_of_none [] all some = absurd (omega (arith, some.2))
  any_of_none (t ∷ ts) all some =
      elim (any_cases Holds t ts some) [
        | inl here ↦ absurd (All-head FailsAt t ts all here)
        | inr later ↦ any_of_none ts (All-tail FailsAt t ts all) later
      ]

  or_joins : Joins FailsAt Op.Or
  or_joins ts = (
    (λ fails. none_of_any ts (λ some. fails (or_of_some I r ts some))),
    (λ all h. any_of_none ts all (some_of_or I r ts h)),
  )

  true_holds : Holds (operation Op.True no_terms)
  true_holds = refl

  false_fails : FailsAt (operation Op.False no_terms)
  false_fails h = cc

  -- the same truth from the same failure
  same_from_failure : (t u : Term) → FailsAt t ↔ FailsAt u → Holds t ↔ Holds u
  same_from_failure t u (f, g) = (
    (λ h. elim (true_or_not I r u) [ inl now ↦ now | inr fails ↦ absurd (g fails h) ]),
    (λ h. elim (true_or_not I r t) [ inl now ↦ now | inr fails ↦ absurd (f fails h) ]),
  )

  and_same : (ts : List Term) (t : Term) → JoinsTo Op.And (operation Op.True no_terms) (operation Op.False no_terms) ts t → Holds (operation Op.And (terms_of ts)) ↔ Holds t
  and_same ts t h =
      joined_is Holds Op.And (operation Op.True no_terms) (operation Op.False no_terms) and_joins true_holds false_fails not_opposed ts t h

  or_same : (ts : List Term) (t : Term) → JoinsTo Op.Or (operation Op.False no_terms) (operation Op.True no_terms) ts t → Holds (operation Op.Or (terms_of ts)) ↔ Holds t
  or_same ts t h =
      same_from_failure (operation Op.Or (terms_of ts)) t
      (joined_is FailsAt Op.Or (operation Op.False no_terms) (operation Op.True no_terms) or_joins false_fails (λ fails. fails true_holds) not_both_fail ts t h)

  truth_of : ValuationFits r → (t : Term) → IsOf t Sort.Bool → value I r t ≡ truth (truth_at t)
  truth_of fits t h = go (bool_value (value I r t) (value_has_sort I r fits t Sort.Bool h))
    where
      go : ((b : Bool) × (value I r t ≡ truth b)) → value I r t ≡ truth (truth_at t)
      go (b, e) = e ∙ sym (ap (λ v. truth (as_truth v)) e)

  pub same_value : ValuationFits r → (t u : Term) → IsOf t Sort.Bool → IsOf u Sort.Bool → Holds t ↔ Holds u → value I r t ≡ value I r u
  same_value fits t u h k (f, g) =
      truth_of fits t h
      ∙ ap truth (same_tests (truth_at t) (truth_at u)
      (λ e. true_is (value I r u) (f (is_true (value I r t) e)))
      (λ e. true_is (value I r t) (g (is_true (value I r u) e))))
      ∙ sym (truth_of fits u k)

  joining_keeps : (op : Op) (neutral absorbing : Term) → ((ts : List Term) (s : Sort) → IsOf (operation op (terms_of ts)) s → s ≡ Sort.Bool) → ((ts : List Term) (t : Term) → JoinsTo op neutral absorbing ts t → Holds (operation op (terms_of ts)) ↔ Holds t) → ValuationFits r → (premises : List (List Term)) (clause : List Term) → MeetsJoining op neutral absorbing premises clause → IsClauseOfTruths clause → MakesClauseTrue I r clause
  joining_keeps op neutral absorbing bool same fits premises clause met sorted =
      let left = operation op (terms_of met.arguments) in
      let whole = All-head (λ t. IsOf t Sort.Bool) (equality left met.right) [] (subst IsClauseOfTruths met.literal sorted) in
      let sides = equal_sorts left met.right whole in
      let is_bool = bool met.arguments sides.sort sides.first in
      rw met.literal (any_here Holds (equality left met.right) []
      ((equality_is I r left met.right).1
      (same_value fits left met.right (subst (IsOf left) is_bool sides.first) (subst (IsOf met.right) is_bool sides.second)
      (same met.arguments met.right met.joins))))

  pub and_simplify_keeps : ValuationFits r → (premises : List (List Term)) (clause : List Term) → MeetsJoining Op.And (operation Op.True no_terms) (operation Op.False no_terms) premises clause → IsClauseOfTruths clause → MakesClauseTrue I r clause
  and_simplify_keeps fits premises clause met sorted =
      joining_keeps Op.And (operation Op.True no_terms) (operation Op.False no_terms) (λ ts s h. when-same _ _ s h.is) and_same fits premises clause met sorted

  pub or_simplify_keeps : ValuationFits r → (premises : List (List Term)) (clause : List Term) → MeetsJoining Op.Or (operation Op.False no_terms) (operation Op.True no_terms) premises clause → IsClauseOfTruths clause → MakesClauseTrue I r clause
  or_simplify_keeps fits premises clause met sorted =
      joining_keeps Op.Or (operation Op.False no_terms) (operation Op.True no_terms) (λ ts s h. when-same _ _ s h.is) or_same fits premises clause met sorted
