-- Behind the printed text of what is left of a proof no term that was read is higher than a limit, where none was before and no term and
-- no image of the proof is.
use Rattle.std.proofs.Common.{◌≡◌, ℕ, ◌+◌, ◌≤◌, max, Bool, true, Option, Some, None, IfSome, List, [], ◌∷◌, refl, arith}
use Rattle.std.specs.List.{AllByRecursion}
use Rattle.std.proofs.Math.Nat.{le-max_left, le-max_right}
use Rattle.std.proofs.lemmas.Bool.Decides.{nat_tests}
use Rattle.term_model.specs.Heights.{height, highest, highest_bound}
use Rattle.term_model.specs.Terms.{Var, Term, Terms, no_terms, term, Bindings, no_bindings, binding}
use Rattle.term_model.proofs.Lists.{all_at_end}
use Rattle.rule_model.specs.Proofs.{Step, ProofItems, no_items, with_assume, with_step, with_subproof}
use Rattle.rule_model.specs.Scopes.{Nesting, outermost, inner}
use Rattle.problem_text.specs.Limits.{is_low, AreLow}
use Rattle.problem_text.specs.Scripts.{Script}
use Rattle.alethe_text.specs.Anchors.{image_of}
use Rattle.alethe_text.specs.Soundness.{IsFormula, HasSomeSort, HasTerms, IsBinding, AreSorted}
use Rattle.alethe_text.proofs.KeptReadings.{HasTermsOf}
use Rattle.printed_proofs.specs.PrintedProof.{behind_items}
use Rattle.printed_proofs.specs.Shared.{Plan}
use Rattle.pruned_proofs.specs.Pruned.{pruned}
use Rattle.reread_laws.proofs.BehindPrinted.{AreAll, AreAllBound, IsDeep, StaysGood, HasImageTo, HoldsIn, items_good}
use Rattle.reread_laws.proofs.KeptTerms.{terms_kept}

is_lower : (limit : Option ℕ) (h k : ℕ) → h ≤ k → is_low limit k ≡ true → is_low limit h ≡ true
is_lower None h k low e = refl
is_lower (Some most) h k low e = grind (arith, nat_tests, low, e)

within_low : (limit : Option ℕ) (h : ℕ) → IfSome limit (λ most. h ≤ most) → is_low limit h ≡ true
within_low None h low = refl
within_low (Some most) h low = grind (arith, nat_tests, low)

module _ (limit : Option ℕ) where
  abbrev pub IsLow : Term → Type 0
  IsLow t = is_low limit (height t) ≡ true

  abbrev IsUnder : ℕ → Type 0
  IsUnder h = is_low limit h ≡ true

  all_low : (ts : Terms) → IsUnder (highest ts) → AreAll IsLow ts
  unfolding height
  all_low no_terms low = tt
  all_low (term t ts) low = (
    is_lower limit (height t) (max (height t) (highest ts)) (le-max_left (height t) (highest ts)) low,
    all_low ts (is_lower limit (highest ts) (max (height t) (highest ts)) (le-max_right (height t) (highest ts)) low),
  )

  bound_low : (bs : Bindings) → IsUnder (highest_bound bs) → AreAllBound IsLow bs
  unfolding height
  bound_low no_bindings low = tt
  bound_low (binding x t bs) low = (
    is_lower limit (height t) (max (height t) (highest_bound bs)) (le-max_left (height t) (highest_bound bs)) low,
    bound_low bs (is_lower limit (highest_bound bs) (max (height t) (highest_bound bs)) (le-max_right (height t) (highest_bound bs)) low),
  )

  pub deep : IsDeep IsLow
  unfolding height
  deep = record {
    operation = λ op ts low. all_low ts (is_lower limit (highest ts) (1 + highest ts) (omega arith) low);
    call = λ f ts low. all_low ts (is_lower limit (highest ts) (1 + highest ts) (omega arith) low);
    let_in = λ bs t low.
        let both : ℕ = max (highest_bound bs) (height t) in
        let inside = is_lower limit both (1 + both) (omega arith) low in (
          bound_low bs (is_lower limit (highest_bound bs) both (le-max_left (highest_bound bs) (height t)) inside),
          is_lower limit (height t) both (le-max_right (highest_bound bs) (height t)) inside,
        );
  }

  pub stays : StaysGood IsLow (λ s. AreLow limit s.terms)
  stays = record {
    term = λ t s low h. all_at_end IsLow s.terms t h low;
    named = λ n s h. h;
    let_name = λ name s h. h;
  }

  -- a sorted proof
  formulas_low : (ts : List Term) → AllByRecursion (IsFormula limit) ts → AllByRecursion IsLow ts
  formulas_low [] h = tt
  formulas_low (t ∷ ts) h = (within_low limit (height t) h.0.low, formulas_low ts h.1)

  pivots_low : (ps : List (Term × Bool)) → AllByRecursion (λ p. HasSomeSort limit p.0) ps → AllByRecursion (λ p. IsLow p.0) ps
  pivots_low [] h = tt
  pivots_low (p ∷ ps) h = (within_low limit (height p.0) h.0.read.low, pivots_low ps h.1)

  step_low : (step : Step Term) → HasTerms limit step → HasTermsOf IsLow IsLow step
  step_low step h = record { clause = formulas_low step.clause h.clause; pivots = pivots_low step.pivots h.pivots }

  bindings_low : (nesting : Nesting Var Term) (bs : List (Var × Term)) → AllByRecursion (IsBinding limit nesting) bs
      → AllByRecursion (HasImageTo IsLow nesting) bs
  bindings_low nesting [] h = tt
  bindings_low nesting (b ∷ bs) h = (
    (within_low limit (height b.1) h.0.term.low, within_low limit (height (image_of nesting b.1)) h.0.image),
    bindings_low nesting bs h.1,
  )

  sorted_low : (nesting : Nesting Var Term) (items : ProofItems Var Term) → AreSorted limit nesting items → HoldsIn IsLow nesting items
  sorted_low nesting no_items h = tt
  sorted_low nesting (with_assume items id t) h = (sorted_low nesting items h.0, within_low limit (height t) h.1.low)
  sorted_low nesting (with_step items step) h = (sorted_low nesting items h.0, step_low step h.1)
  sorted_low nesting (with_subproof items bindings proof step) h = (
    sorted_low nesting items h.0,
    bindings_low nesting bindings h.1,
    sorted_low (inner nesting items bindings step) proof h.2,
    step_low step h.3,
  )

  -- what is left of it
  pub pruned_low : (plan : Plan) (marks : List Bool) (items : ProofItems Var Term) (s : Script) → AreSorted limit outermost items
      → AreLow limit s.terms → AreLow limit (behind_items plan s outermost (pruned marks items)).terms
  pruned_low plan marks items s sorted low =
      items_good plan IsLow deep (λ s. AreLow limit s.terms) stays outermost (pruned marks items) s
      (terms_kept IsLow marks outermost items (sorted_low outermost items sorted)) low
