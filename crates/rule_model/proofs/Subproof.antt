-- The conditions of the steps that close a scope keep truth.
use Rattle.std.proofs.Common.{◌≡◌, ◌⊎◌, inl, inr, suc, true, false, List, [], ◌∷◌, ◌++◌, map, All, Any, Contains, refl, sym, ◌∙◌, ap, subst, arith}
use Rattle.std.specs.List.{AllByRecursion, AllZip}
use Rattle.std.proofs.lemmas.List.Elements.{All-contains, All-head, All-tail}
use Rattle.term_model.specs.Flips.{equality}
use Rattle.term_model.specs.FreeVariables.{IsFree, variables_of, bound_terms}
use Rattle.term_model.specs.Interpretations.{Interpretation}
use Rattle.term_model.specs.Meaning.{Valuation, value, bound}
use Rattle.term_model.specs.Terms.{Var, Term, let_in, Bindings, no_bindings, binding, not_of}
use Rattle.term_model.specs.Unsatisfiable.{MakesTrue}
use Rattle.term_model.specs.Values.{Value, truth, whole}
use Rattle.term_model.proofs.Basics.{any_here, any_later, any_cases, any_none}
use Rattle.term_model.proofs.Meanings.{negation_is, equality_is}
use Rattle.rule_model.specs.declared.rules.Mode.{Mode}
use Rattle.rule_model.specs.Clauses.{MakesClauseTrue}
use Rattle.rule_model.specs.Subproof.{IsEnding, AreLinkedTo}
use Rattle.rule_model.specs.Congruence.{AreSides, AreDifferences}
use Rattle.rule_model.specs.Replacement.{Replacement, values_put}
use Rattle.rule_model.specs.Substitution.{Replaces}

pub any_front : {X : Type 0} (P : X → Type 0) (xs ys : List X) → Any P xs → Any P (xs ++ ys)
any_front P [] ys (k, x, below, same, p) = absurd (omega (arith, below))
any_front P (x ∷ xs) ys h =
    elim (any_cases P x xs h) [ inl p ↦ any_here P x (xs ++ ys) p | inr k ↦ any_later P x (xs ++ ys) (any_front P xs ys k) ]

pub any_back : {X : Type 0} (P : X → Type 0) (xs ys : List X) → Any P ys → Any P (xs ++ ys)
any_back P [] ys h = h
any_back P (x ∷ xs) ys h = any_later P x (xs ++ ys) (any_back P xs ys h)

module _ (I : Interpretation) (r : Valuation) where
  pub unit_true : (t : Term) → MakesClauseTrue I r (t ∷ []) → MakesTrue I r t
  unit_true t some = elim (any_cases (MakesTrue I r) t [] some) [ inl here ↦ here | inr later ↦ absurd (any_none (MakesTrue I r) later) ]

  -- a term is true, or its negation is
  true_or_denied : (t : Term) → MakesTrue I r t ⊎ MakesTrue I r (not_of t)
  true_or_denied t = go (value I r t) refl
    where
      go : (v : Value) → value I r t ≡ v → MakesTrue I r t ⊎ MakesTrue I r (not_of t)
      go (truth true) e = inl e
      go (truth false) e = inr ((negation_is I r t).1 (λ f. other (sym e ∙ f)))
        where
          other : truth false ≡ truth true → ⊥
          other f = cc
      go (whole z) e = inr ((negation_is I r t).1 (λ f. other (sym e ∙ f)))
        where
          other : whole z ≡ truth true → ⊥
          other f = cc

  all_or_denied : (ts : List Term) → AllByRecursion (MakesTrue I r) ts ⊎ MakesClauseTrue I r (map not_of ts)
  all_or_denied [] = inl tt
  all_or_denied (t ∷ ts) = go (true_or_denied t) (all_or_denied ts)
    where
      go : MakesTrue I r t ⊎ MakesTrue I r (not_of t) → AllByRecursion (MakesTrue I r) ts ⊎ MakesClauseTrue I r (map not_of ts) → AllByRecursion (MakesTrue I r) (t ∷ ts) ⊎ MakesClauseTrue I r (not_of t ∷ map not_of ts)
      go (inr denied) rest = inr (any_here (MakesTrue I r) (not_of t) (map not_of ts) denied)
      go (inl here) (inr denied) = inr (any_later (MakesTrue I r) (not_of t) (map not_of ts) denied)
      go (inl here) (inl all) = inl (here, all)

  ending_true : (inner end : List Term) → IsEnding inner end → MakesClauseTrue I r inner → MakesClauseTrue I r end
  ending_true [] end h some = absurd (any_none (MakesTrue I r) some)
  ending_true (t ∷ ts) end h some = rw h some

  -- subproof: where what it discharges is true, the clause is in which the scope ends
  pub subproof_keeps : (terms inner end : List Term) → IsEnding inner end → (AllByRecursion (MakesTrue I r) terms → MakesClauseTrue I r inner) → MakesClauseTrue I r (map not_of terms ++ end)
  subproof_keeps terms inner end ending ends =
      elim (all_or_denied terms) [
        | inl all ↦ any_back (MakesTrue I r) (map not_of terms) end (ending_true inner end ending (ends all))
        | inr denied ↦ any_front (MakesTrue I r) (map not_of terms) end denied
      ]

  -- terms that premises link have the same value
  abbrev HaveSameValue : Term → Term → Type 0
  HaveSameValue t s = value I r t ≡ value I r s

  sides_same : (premises : List (List Term)) (t s : Term) → All (MakesClauseTrue I r) premises → AreSides premises t s → HaveSameValue t s
  sides_same premises t s all (inl has) =
      (equality_is I r t s).0 (unit_true (equality t s) (All-contains (MakesClauseTrue I r) premises (equality t s ∷ []) all has))
  sides_same premises t s all (inr has) =
      sym ((equality_is I r s t).0 (unit_true (equality s t) (All-contains (MakesClauseTrue I r) premises (equality s t ∷ []) all has)))

  each_same : (premises : List (List Term)) (ts ss : List Term) → All (MakesClauseTrue I r) premises → AllZip (λ t s. (t ≡ s) ⊎ AreSides premises t s) ts ss → AllZip HaveSameValue ts ss
  each_same premises [] [] all h = tt
  each_same premises [] (s ∷ ss) all h = absurd h
  each_same premises (t ∷ ts) [] all h = absurd h
  each_same premises (t ∷ ts) (s ∷ ss) all h =
      (elim h.0 [ inl same ↦ ap (value I r) same | inr sides ↦ sides_same premises t s all sides ], each_same premises ts ss all h.1)

  differences_same : (premises : List (List Term)) (ts ss : List Term) → All (MakesClauseTrue I r) premises → AreDifferences premises ts ss → AllZip HaveSameValue ts ss
  differences_same premises [] [] all h = tt
  differences_same premises [] (s ∷ ss) all h = absurd h
  differences_same premises (t ∷ ts) [] all h = absurd h
  differences_same premises (t ∷ ts) (s ∷ ss) all (inl (same, h)) = (ap (value I r) same, differences_same premises ts ss all h)
  differences_same premises (t ∷ ts) (s ∷ ss) all (inr (differ, (rest, e, h))) =
      let all' = subst (All (MakesClauseTrue I r)) e all in
      ((equality_is I r t s).0 (unit_true (equality t s) (All-head (MakesClauseTrue I r) (equality t s ∷ []) rest all')), differences_same rest ts ss (All-tail (MakesClauseTrue I r) (equality t s ∷ []) rest all') h)

  linked_same : (mode : Mode) (premises : List (List Term)) (ts ss : List Term) → All (MakesClauseTrue I r) premises → AreLinkedTo mode premises ts ss → AllZip HaveSameValue ts ss
  linked_same Mode.Check premises ts ss all h = each_same premises ts ss all h
  linked_same Mode.Strict premises ts ss all h = differences_same premises ts ss all h

  -- a let and an anchor that bind the same variables to terms of the same values give them the same values
  bound_same : (bs : Bindings) (anchor : Replacement) → map (λ (b : Var × Term). b.0) anchor ≡ variables_of bs → AllZip HaveSameValue (bound_terms bs) (map (λ (b : Var × Term). b.1) anchor) → bound I r bs ≡ values_put I r anchor
  bound_same no_bindings [] names h = refl
  bound_same no_bindings (b ∷ anchor) names h = absurd cc
  bound_same (binding x t bs) [] names h = absurd cc
  bound_same (binding x t bs) (b ∷ anchor) names h =
      let first : b.0 ≡ x = heads names in
      let ih = bound_same bs anchor (tails names) h.1 in
      ap (λ v. (x, v) ∷ bound I r bs) h.0 ∙ (ap (λ y. (y, value I r b.1) ∷ bound I r bs) (sym first) ∙ ap (λ vs. (b.0, value I r b.1) ∷ vs) ih)
    where
      heads : {X : Type 0} {x y : X} {xs ys : List X} → x ∷ xs ≡ y ∷ ys → x ≡ y
      heads e = cc

      tails : {X : Type 0} {x y : X} {xs ys : List X} → x ∷ xs ≡ y ∷ ys → xs ≡ ys
      tails e = cc

  -- let: with the anchor's values its body has the value of the let
  pub let_value : (mode : Mode) (premises : List (List Term)) (bs : Bindings) (body : Term) (anchor : Replacement) → map (λ (b : Var × Term). b.0) anchor ≡ variables_of bs → All (MakesClauseTrue I r) premises → AreLinkedTo mode premises (bound_terms bs) (map (λ (b : Var × Term). b.1) anchor) → value I r (let_in bs body) ≡ value I (values_put I r anchor ++ r) body
  let_value mode premises bs body anchor names all linked =
      ap (λ front. value I (front ++ r) body) (bound_same bs anchor names (linked_same mode premises (bound_terms bs) (map (λ (b : Var × Term). b.1) anchor) all linked))

-- a variable that stands free in the result is none of those that the anchor binds
pub not_replaced : (anchor : Replacement) (variables : List Var) (result : Term) (x : Var) → map (λ (b : Var × Term). b.0) anchor ≡ variables → All (λ y. ¬ IsFree y result) variables → IsFree x result → ¬ Replaces anchor x
not_replaced anchor variables result x names hidden free h =
    All-contains (λ y. ¬ IsFree y result) (map (λ (b : Var × Term). b.0) anchor) x (subst (All (λ y. ¬ IsFree y result)) (sym names) hidden) (named anchor x h) free
  where
    named : (s : Replacement) (x : Var) → Replaces s x → Contains (map (λ (b : Var × Term). b.0) s) x
    named [] x h = absurd h
    named (b ∷ s) x (inl e) = (0, omega arith, e)
    named (b ∷ s) x (inr h) = let k = named s x h in (suc k.0, let w = k.1 in omega arith, k.2)
