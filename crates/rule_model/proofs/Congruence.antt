-- The rules of equality keep truth.
use Rattle.std.proofs.Common.{◌≡◌, ◌⊎◌, inl, inr, List, [], ◌∷◌, ◌++◌, map, Bool, ◌&&◌, true, refl, sym, ap, ◌∙◌, subst, arith, All}
use Rattle.std.specs.List.{AllZip}
use Rattle.std.proofs.lemmas.List.Elements.{All-nil, All-cons, All-head, All-tail, All-contains}
use Rattle.term_model.specs.Flips.{equality}
use Rattle.term_model.specs.Terms.{Term, terms_of, not_of}
use Rattle.term_model.specs.Values.{truth}
use Rattle.term_model.specs.Operators.{meaning}
use Rattle.term_model.specs.Interpretations.{Interpretation, first_row}
use Rattle.term_model.specs.Meaning.{Valuation, value, values}
use Rattle.term_model.specs.Unsatisfiable.{MakesTrue}
use Rattle.term_model.proofs.Basics.{any_here, any_later, any_cases}
use Rattle.term_model.proofs.Flips.{flips_value, value_turned}
use Rattle.term_model.proofs.Meanings.{negation_is, equality_is}
use Rattle.rule_model.specs.declared.rules.Mode.{Mode}
use Rattle.rule_model.specs.Clauses.{MakesClauseTrue}
use Rattle.rule_model.specs.Congruence.{Equates, Implies, IsImplied, units, denials, Denies, AreSides, IsConnected, here, further, IsChain, IsWay, Head, operator, function, applied, IsLinked, AreLinked, AreDifferences, ArePlaces, HangTogether, HangTogetherDenied, AreCongruent, AreCongruentTruths, GivesPredicates, TurnsRound, IsReflexive, IsSymmetric}
use Rattle.rule_model.specs.Clausal.{as_it_stands}
use Rattle.rule_model.proofs.ArgumentLists.{true_or_not}

module _ (I : Interpretation) (r : Valuation) where
  abbrev AreTrue : List (List Term) → Type 0
  AreTrue premises = All (MakesClauseTrue I r) premises

  abbrev AreEqual : Term → Term → Type 0
  AreEqual t u = value I r t ≡ value I r u

  unit_true : (t : Term) → MakesClauseTrue I r (t ∷ []) → MakesTrue I r t
  unit_true t some =
      elim (any_cases (MakesTrue I r) t [] some) [ inl now ↦ now | inr later ↦ absurd (omega (arith, later.2)) ]

  true_unit : (t : Term) → MakesTrue I r t → MakesClauseTrue I r (t ∷ [])
  true_unit t h = any_here (MakesTrue I r) t [] h

  unit_equal : (t u : Term) → MakesClauseTrue I r (equality t u ∷ []) → AreEqual t u
  unit_equal t u some = (equality_is I r t u).0 (unit_true (equality t u) some)

  equal_unit : (t u : Term) → AreEqual t u → MakesClauseTrue I r (equality t u ∷ [])
  equal_unit t u e = true_unit (equality t u) ((equality_is I r t u).1 e)

  -- symm, not_symm, eq_reflexive, eq_symmetric
  turned : (t u : Term) → MakesTrue I r (equality t u) → MakesTrue I r (equality u t)
  turned t u h = (equality_is I r u t).1 (sym ((equality_is I r t u).0 h))

  pub symm_keeps : (mode : Mode) (premises : List (List Term)) (clause : List Term) → TurnsRound as_it_stands premises clause → AreTrue premises → MakesClauseTrue I r clause
  symm_keeps mode premises clause met all =
      let unit = All-head (MakesClauseTrue I r) _ [] (subst AreTrue met.premise all) in
      rw met.turned (true_unit _ (turned met.left met.right (unit_true _ unit)))

  pub not_symm_keeps : (mode : Mode) (premises : List (List Term)) (clause : List Term) → TurnsRound not_of premises clause → AreTrue premises → MakesClauseTrue I r clause
  not_symm_keeps mode premises clause met all =
      let unit = All-head (MakesClauseTrue I r) _ [] (subst AreTrue met.premise all) in
      let fails = (negation_is I r (equality met.left met.right)).0 (unit_true _ unit) in
      rw met.turned (true_unit _ ((negation_is I r (equality met.right met.left)).1 (λ h. fails (turned met.right met.left h))))

  pub eq_reflexive_keeps : (mode : Mode) (premises : List (List Term)) (clause : List Term) → IsReflexive premises clause → MakesClauseTrue I r clause
  eq_reflexive_keeps mode premises clause met = rw met.literal (equal_unit met.side met.side refl)

  pub eq_symmetric_keeps : (mode : Mode) (premises : List (List Term)) (clause : List Term) → IsSymmetric premises clause → MakesClauseTrue I r clause
  eq_symmetric_keeps mode premises clause met =
      rw met.literal (equal_unit (equality met.left met.right) (equality met.right met.left)
      (ap (λ (x : Bool). truth (x && true)) (value_turned (value I r met.left) (value I r met.right))))

  -- sides of premises that are true have one value
  sides_equal : (premises : List (List Term)) → AreTrue premises → (t u : Term) → AreSides premises t u → AreEqual t u
  sides_equal premises all t u (inl there) = unit_equal t u (All-contains (MakesClauseTrue I r) premises _ all there)
  sides_equal premises all t u (inr there) = sym (unit_equal u t (All-contains (MakesClauseTrue I r) premises _ all there))

  connected_equal : (near : Term → Term → Type 0) → ((t u : Term) → near t u → AreEqual t u) → (t u : Term) → IsConnected near t u → AreEqual t u
  connected_equal near each _ _ (here t) = refl
  connected_equal near each _ _ (further t next u step way) = each t next step ∙ connected_equal near each next u way

  chain_equal : (premises : List (List Term)) → AreTrue premises → (t u : Term) → IsChain premises t u → AreEqual t u
  chain_equal [] all t u e = ap (value I r) e
  chain_equal (premise ∷ premises) all t u (next, is, more) =
      unit_equal t next (subst (MakesClauseTrue I r) is (All-head (MakesClauseTrue I r) premise premises all))
      ∙ chain_equal premises (All-tail (MakesClauseTrue I r) premise premises all) next u more

  way_equal : (mode : Mode) (premises : List (List Term)) → AreTrue premises → (t u : Term) → IsWay mode premises t u → AreEqual t u
  way_equal Mode.Check premises all t u way = connected_equal (AreSides premises) (sides_equal premises all) t u way
  way_equal Mode.Strict premises all t u way = chain_equal premises all t u way.1

  -- arguments with one value each
  abbrev HaveOne : List Term → List Term → Type 0
  HaveOne ts us = map (value I r) ts ≡ map (value I r) us

  listed_values : (ts : List Term) → values I r (terms_of ts) ≡ map (value I r) ts
  listed_values [] = refl
  listed_values (t ∷ ts) = ap (λ vs. value I r t ∷ vs) (listed_values ts)

  applied_equal : (head : Head) (ts us : List Term) → HaveOne ts us → AreEqual (applied head ts) (applied head us)
  applied_equal (operator op) ts us e = ap (meaning op) (listed_values ts ∙ e ∙ sym (listed_values us))
  applied_equal (function f) ts us e =
      ap (first_row (I.table f).rows (I.table f).default) (listed_values ts ∙ e ∙ sym (listed_values us))

  one_more : (t u : Term) (ts us : List Term) → AreEqual t u → HaveOne ts us → HaveOne (t ∷ ts) (u ∷ us)
  one_more t u ts us e f = rw (e, f) refl

  linked_equal : (premises : List (List Term)) → AreTrue premises → (t u : Term) → IsLinked premises t u → AreEqual t u
  linked_equal premises all t u (inl flips) = flips_value I r t u flips
  linked_equal premises all t u (inr sides) = sides_equal premises all t u sides

  zip_equal : (premises : List (List Term)) → AreTrue premises → (ts us : List Term) → AllZip (IsLinked premises) ts us → HaveOne ts us
  zip_equal premises all [] [] h = refl
  zip_equal premises all [] (u ∷ us) h = absurd h
  zip_equal premises all (t ∷ ts) [] h = absurd h
  zip_equal premises all (t ∷ ts) (u ∷ us) h =
      one_more t u ts us (linked_equal premises all t u h.0) (zip_equal premises all ts us h.1)

  crossed_equal : (a b c d : Term) → AreEqual a d → AreEqual b c → AreEqual (equality a b) (equality c d)
  crossed_equal a b c d e f =
      rw (e, f) (ap (λ (x : Bool). truth (x && true)) (value_turned (value I r d) (value I r c)))

  links_equal : (head : Head) (premises : List (List Term)) → AreTrue premises → (ts us : List Term) → AreLinked head premises ts us → AreEqual (applied head ts) (applied head us)
  links_equal head premises all ts us (inl zip) = applied_equal head ts us (zip_equal premises all ts us zip)
  links_equal head premises all ts us (inr cross) =
      rw (cross.equal, cross.one, cross.other) (crossed_equal cross.a cross.b cross.c cross.d
      (linked_equal premises all _ _ cross.outer) (linked_equal premises all _ _ cross.inner))

  differences_equal : (premises : List (List Term)) → AreTrue premises → (ts us : List Term) → AreDifferences premises ts us → HaveOne ts us
  differences_equal premises all [] [] h = refl
  differences_equal premises all [] (u ∷ us) h = absurd h
  differences_equal premises all (t ∷ ts) [] h = absurd h
  differences_equal premises all (t ∷ ts) (u ∷ us) (inl (e, more)) =
      one_more t u ts us (ap (value I r) e) (differences_equal premises all ts us more)
  differences_equal premises all (t ∷ ts) (u ∷ us) (inr (apart, (rest, is, more))) =
      let true_now = subst AreTrue is all in
      one_more t u ts us (unit_equal t u (All-head (MakesClauseTrue I r) _ rest true_now))
      (differences_equal rest (All-tail (MakesClauseTrue I r) _ rest true_now) ts us more)

  places_equal : (premises : List (List Term)) → AreTrue premises → (ts us : List Term) → ArePlaces premises ts us → HaveOne ts us
  places_equal premises all [] [] h = refl
  places_equal premises all [] (u ∷ us) h = absurd h
  places_equal premises all (t ∷ ts) [] h = absurd h
  places_equal premises all (t ∷ ts) (u ∷ us) (rest, is, more) =
      let true_now = subst AreTrue is all in
      one_more t u ts us (unit_equal t u (All-head (MakesClauseTrue I r) _ rest true_now))
      (places_equal rest (All-tail (MakesClauseTrue I r) _ rest true_now) ts us more)

  -- a way in which arguments hang together gives applications one value
  abbrev GivesOneValue : (Head → List (List Term) → List Term → List Term → Type 0) → Type 0
  GivesOneValue together =
      (head : Head) (premises : List (List Term)) → AreTrue premises → (ts us : List Term) → together head premises ts us → AreEqual (applied head ts) (applied head us)

  together_equal : (mode : Mode) → GivesOneValue (HangTogether mode)
  together_equal Mode.Check head premises all ts us h = links_equal head premises all ts us h
  together_equal Mode.Strict head premises all ts us h =
      applied_equal head ts us (differences_equal premises all ts us h)

  denied_equal : (mode : Mode) → GivesOneValue (HangTogetherDenied mode)
  denied_equal Mode.Check head premises all ts us h = links_equal head premises all ts us h
  denied_equal Mode.Strict head premises all ts us h = applied_equal head ts us (places_equal premises all ts us h)

  congruent_equal : (together : Head → List (List Term) → List Term → List Term → Type 0) → GivesOneValue together → (premises : List (List Term)) → AreTrue premises → (t u : Term) → AreCongruent together premises t u → AreEqual t u
  congruent_equal together gives premises all t u h =
      rw (h.left_is, h.right_is) (gives h.head premises all h.ts h.us h.arguments)

  -- what a clause says of two terms that the premises make equal
  abbrev MakesEqual : (List (List Term) → Term → Term → Type 0) → Type 0
  MakesEqual related = (premises : List (List Term)) → AreTrue premises → (t u : Term) → related premises t u → AreEqual t u

  equates_keeps : (related : List (List Term) → Term → Term → Type 0) → MakesEqual related → (premises : List (List Term)) (clause : List Term) → Equates related premises clause → AreTrue premises → MakesClauseTrue I r clause
  equates_keeps related equal premises clause h all =
      rw h.literal (equal_unit h.left h.right (equal premises all h.left h.right h.given))

  one_of_both : (t u : Term) → AreEqual t u → MakesTrue I r (not_of t) ⊎ MakesTrue I r u
  one_of_both t u e =
      elim (true_or_not I r t) [
        | inl now ↦ inr (sym e ∙ now)
        | inr fails ↦ inl ((negation_is I r t).1 fails)
      ]

  implies_keeps : (related : List (List Term) → Term → Term → Type 0) → MakesEqual related → (premises : List (List Term)) (clause : List Term) → Implies related premises clause → AreTrue premises → MakesClauseTrue I r clause
  implies_keeps related equal premises clause h all =
      rw h.literals (elim (one_of_both h.left h.right (equal premises all h.left h.right h.given)) [
        | inl now ↦ any_here (MakesTrue I r) (not_of h.left) (h.right ∷ []) now
        | inr later ↦ any_later (MakesTrue I r) (not_of h.left) (h.right ∷ []) (true_unit h.right later)
      ])

  implied_keeps : (related : List (List Term) → Term → Term → Type 0) → MakesEqual related → (premises : List (List Term)) (clause : List Term) → IsImplied related premises clause → AreTrue premises → MakesClauseTrue I r clause
  implied_keeps related equal premises clause h all =
      rw h.literals (elim (one_of_both h.left h.right (equal premises all h.left h.right h.given)) [
        | inl now ↦ any_later (MakesTrue I r) h.right (not_of h.left ∷ []) (true_unit (not_of h.left) now)
        | inr later ↦ any_here (MakesTrue I r) h.right (not_of h.left ∷ []) later
      ])

  -- equalities that stand denied are premises
  denied_keeps : (sides : List (Term × Term)) (rest : List Term) → (AreTrue (units sides) → MakesClauseTrue I r rest) → MakesClauseTrue I r (denials sides ++ rest)
  denied_keeps [] rest keeps = keeps (All-nil (MakesClauseTrue I r))
  denied_keeps (p ∷ sides) rest keeps =
      elim (true_or_not I r (equality p.0 p.1)) [
        | inl now ↦ any_later (MakesTrue I r) _ (denials sides ++ rest)
            (denied_keeps sides rest (λ all. keeps (All-cons (MakesClauseTrue I r) _ (units sides) (true_unit _ now) all)))
        | inr fails ↦ any_here (MakesTrue I r) _ (denials sides ++ rest) ((negation_is I r (equality p.0 p.1)).1 fails)
      ]

  denies_keeps : (condition : List (List Term) → List Term → Type 0) → ((premises : List (List Term)) (clause : List Term) → condition premises clause → AreTrue premises → MakesClauseTrue I r clause) → (premises : List (List Term)) (clause : List Term) → Denies condition premises clause → MakesClauseTrue I r clause
  denies_keeps condition keeps premises clause h =
      rw h.literals (denied_keeps h.sides h.rest (keeps (units h.sides) h.rest h.given))

  -- trans, cong, eq_transitive, eq_congruent, eq_congruent_pred
  pub trans_keeps : (mode : Mode) (premises : List (List Term)) (clause : List Term) → Equates (IsWay mode) premises clause → AreTrue premises → MakesClauseTrue I r clause
  trans_keeps mode = equates_keeps (IsWay mode) (way_equal mode)

  pub cong_keeps : (mode : Mode) (premises : List (List Term)) (clause : List Term) → Equates (AreCongruent (HangTogether mode)) premises clause → AreTrue premises → MakesClauseTrue I r clause
  cong_keeps mode =
      equates_keeps (AreCongruent (HangTogether mode)) (congruent_equal (HangTogether mode) (together_equal mode))

  pub eq_transitive_keeps : (mode : Mode) (premises : List (List Term)) (clause : List Term) → Denies (Equates (IsWay mode)) premises clause → MakesClauseTrue I r clause
  eq_transitive_keeps mode = denies_keeps (Equates (IsWay mode)) (equates_keeps (IsWay mode) (way_equal mode))

  denied_congruent : (mode : Mode) → MakesEqual (AreCongruent (HangTogetherDenied mode))
  denied_congruent mode = congruent_equal (HangTogetherDenied mode) (denied_equal mode)

  pub eq_congruent_keeps : (mode : Mode) (premises : List (List Term)) (clause : List Term) → Denies (Equates (AreCongruent (HangTogetherDenied mode))) premises clause → MakesClauseTrue I r clause
  eq_congruent_keeps mode =
      denies_keeps (Equates (AreCongruent (HangTogetherDenied mode)))
      (equates_keeps (AreCongruent (HangTogetherDenied mode)) (denied_congruent mode))

  truths_keep : (mode : Mode) (premises : List (List Term)) (clause : List Term) → Equates (AreCongruentTruths (HangTogetherDenied mode)) premises clause → AreTrue premises → MakesClauseTrue I r clause
  truths_keep mode =
      equates_keeps (AreCongruentTruths (HangTogetherDenied mode)) (λ premises all t u h. denied_congruent mode premises all t u h.congruent)

  predicates_keep : (mode : Mode) (premises : List (List Term)) (clause : List Term) → GivesPredicates mode premises clause → AreTrue premises → MakesClauseTrue I r clause
  predicates_keep Mode.Check premises clause (inl h) = truths_keep Mode.Check premises clause h
  predicates_keep Mode.Check premises clause (inr (inl h)) =
      implies_keeps (AreCongruent (HangTogetherDenied Mode.Check)) (denied_congruent Mode.Check) premises clause h
  predicates_keep Mode.Check premises clause (inr (inr h)) =
      implied_keeps (AreCongruent (HangTogetherDenied Mode.Check)) (denied_congruent Mode.Check) premises clause h
  predicates_keep Mode.Strict premises clause (inl h) = truths_keep Mode.Strict premises clause h
  predicates_keep Mode.Strict premises clause (inr h) =
      implies_keeps (AreCongruent (HangTogetherDenied Mode.Strict)) (denied_congruent Mode.Strict) premises clause h

  pub eq_congruent_pred_keeps : (mode : Mode) (premises : List (List Term)) (clause : List Term) → Denies (GivesPredicates mode) premises clause → MakesClauseTrue I r clause
  eq_congruent_pred_keeps mode = denies_keeps (GivesPredicates mode) (predicates_keep mode)
