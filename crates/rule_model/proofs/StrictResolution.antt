-- What a chain of resolutions concludes is true where its premises are.
use Rattle.std.proofs.Common.{◌≡◌, ◌⊎◌, inl, inr, Bool, true, false, not, List, [], ◌∷◌, ◌++◌, sym, ◌∙◌, subst, All, Contains}
use Rattle.std.proofs.lemmas.List.Elements.{All-head, All-tail, Contains-append_left, Contains-append_right, Contains-push_cases}
use Rattle.term_model.specs.Terms.{Term}
use Rattle.term_model.specs.Interpretations.{Interpretation}
use Rattle.term_model.specs.Meaning.{Valuation}
use Rattle.term_model.specs.Unsatisfiable.{MakesTrue}
use Rattle.term_model.proofs.Meanings.{negation_is}
use Rattle.term_model.proofs.Lists.{contains_none, contains_cases, contains_head, contains_later}
use Rattle.rule_model.specs.Clauses.{MakesClauseTrue}
use Rattle.rule_model.specs.Resolution.{LeavesWithout, IsFirstsOf, with_sign, IsResolvent, Chains, ResolvesStrictly}

-- what is not removed is left
pub kept_without : (p : Term) (ts rest : List Term) (u : Term) → LeavesWithout p ts rest → Contains ts u → (u ≡ p) ⊎ Contains rest u
kept_without p [] rest u w c = absurd (contains_none u c)
kept_without p (t ∷ ts) rest u (inl (same, w)) c =
    elim (contains_cases t u ts c) [ inl here ↦ inl (sym here ∙ same) | inr later ↦ kept_without p ts rest u w later ]
kept_without p (t ∷ ts) rest u (inr (other, (us, e, w))) c =
    elim (contains_cases t u ts c) [
      | inl here ↦ inr (rw (e, ← here) (contains_head t us))
      | inr later ↦ elim (kept_without p ts us u w later) [ inl same ↦ inl same | inr left ↦ inr (rw e (contains_later t u us left)) ]
    ]

pub kept_firsts : (seen ts rest : List Term) (u : Term) → IsFirstsOf seen ts rest → Contains ts u → Contains seen u ⊎ Contains rest u
kept_firsts seen [] rest u f c = absurd (contains_none u c)
kept_firsts seen (t ∷ ts) rest u (inl (before, f)) c =
    elim (contains_cases t u ts c) [ inl here ↦ inl (rw (← here) before) | inr later ↦ kept_firsts seen ts rest u f later ]
kept_firsts seen (t ∷ ts) rest u (inr (new, (us, e, f))) c =
    elim (contains_cases t u ts c) [
      | inl here ↦ inr (rw (e, ← here) (contains_head t us))
      | inr later ↦
          elim (kept_firsts (seen ++ t ∷ []) ts us u f later) [
            | inl before ↦ seen_or_here before
            | inr left ↦ inr (rw e (contains_later t u us left))
          ]
    ]
  where
    seen_or_here : Contains (seen ++ t ∷ []) u → Contains seen u ⊎ Contains rest u
    seen_or_here before =
        elim (Contains-push_cases seen t u before) [ inl in_seen ↦ inl in_seen | inr here ↦ inr (rw (e, ← here) (contains_head t us)) ]

module _ (I : Interpretation) (r : Valuation) where
  -- a true clause has a true literal
  true_literal : (clause : List Term) → MakesClauseTrue I r clause → (t : Term) × Contains clause t × MakesTrue I r t
  true_literal clause (k, t, h, e, true_here) = (t, (k, h, e), true_here)

  clause_with : (clause : List Term) (t : Term) → Contains clause t → MakesTrue I r t → MakesClauseTrue I r clause
  clause_with clause t (k, h, e) true_here = (k, t, h, e, true_here)

  -- a pivot is not true with both signs
  one_sign : (p : Term) (b : Bool) → MakesTrue I r (with_sign p b) → MakesTrue I r (with_sign p (not b)) → ⊥
  one_sign p true holds fails = (negation_is I r p).0 fails holds
  one_sign p false fails holds = (negation_is I r p).0 fails holds

  resolvent_true : (left right : List Term) (p : Term) (b : Bool) (result : List Term) → IsResolvent left right p b result → MakesClauseTrue I r left → MakesClauseTrue I r right → MakesClauseTrue I r result
  resolvent_true left right p b result step on_left on_right =
      elim (kept_without (with_sign p b) left step.left_rest l.0 step.left_is l.1) [
        | inl pivot ↦
            elim (kept_without (with_sign p (not b)) right step.right_rest m.0 step.right_is m.1) [
              | inl other ↦ absurd (one_sign p b (rw pivot at l.2) (rw other at m.2))
              | inr stays ↦ joined m.0 m.2 (Contains-append_right step.left_rest step.right_rest m.0 stays)
            ]
        | inr stays ↦ joined l.0 l.2 (Contains-append_left step.left_rest step.right_rest l.0 stays)
      ]
    where
      l : (t : Term) × Contains left t × MakesTrue I r t
      l = true_literal left on_left

      m : (t : Term) × Contains right t × MakesTrue I r t
      m = true_literal right on_right

      joined : (t : Term) → MakesTrue I r t → Contains (step.left_rest ++ step.right_rest) t → MakesClauseTrue I r result
      joined t true_here c =
          elim (kept_firsts [] (step.left_rest ++ step.right_rest) result t step.firsts c) [
            | inl none ↦ absurd (contains_none t none)
            | inr there ↦ clause_with result t there true_here
          ]

  chain_true : (left : List Term) (premises : List (List Term)) (pivots : List (Term × Bool)) (result : List Term) → Chains left premises pivots result → MakesClauseTrue I r left → All (MakesClauseTrue I r) premises → MakesClauseTrue I r result
  chain_true left [] [] result same on_left all = subst (MakesClauseTrue I r) same on_left
  chain_true left [] (pivot ∷ pivots) result none on_left all = absurd none
  chain_true left (right ∷ premises) [] result none on_left all = absurd none
  chain_true left (right ∷ premises) (pivot ∷ pivots) result (next, step, rest) on_left all =
      chain_true next premises pivots result rest
      (resolvent_true left right pivot.0 pivot.1 next step on_left (All-head (MakesClauseTrue I r) right premises all))
      (All-tail (MakesClauseTrue I r) right premises all)

  pub strict_sound : (pivots : List (Term × Bool)) (premises : List (List Term)) (clause : List Term) → ResolvesStrictly pivots premises clause → All (MakesClauseTrue I r) premises → MakesClauseTrue I r clause
  strict_sound pivots [] clause none all = absurd none
  strict_sound pivots (first ∷ premises) clause chain all =
      chain_true first premises pivots clause chain (All-head (MakesClauseTrue I r) first premises all) (All-tail (MakesClauseTrue I r) first premises all)
