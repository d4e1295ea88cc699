-- Behind the printed text of a proof no term that was read is higher than a number, where none was before and no line of the proof has a
-- higher one.
use Rattle.std.proofs.Common.{◌≡◌, ℕ, ◌≤◌, max, Bool, true, Some, List, [], ◌∷◌, ◌++◌, All, arith}
use Rattle.std.specs.List.{AllByRecursion}
use Rattle.std.proofs.Math.Nat.{le-max_left, le-max_right}
use Rattle.std.proofs.lemmas.Bool.Decides.{nat_tests}
use Rattle.std.proofs.lemmas.List.Elements.{recursion_from_All}
use Rattle.term_model.specs.Heights.{height, highest, highest_bound}
use Rattle.term_model.specs.Terms.{Var, Term, numeral, variable, operation, call, let_in, Terms, no_terms, term, Bindings, no_bindings, binding}
use Rattle.rule_model.specs.Commands.{lines_in}
use Rattle.rule_model.specs.Contexts.{put_in_each, images}
use Rattle.rule_model.specs.Elaboration.{IsLowLine, IsLowProof}
use Rattle.rule_model.specs.Judged.{open_anchors}
use Rattle.rule_model.specs.Proofs.{Step, ProofItems, no_items, with_assume, with_step, with_subproof}
use Rattle.rule_model.specs.Replacement.{Replacement, replaced_by}
use Rattle.rule_model.specs.Scopes.{Nesting, outermost, inner}
use Rattle.rule_model.specs.Substitution.{unbound, put_in, put_in_all, put_in_bound}
use Rattle.rule_model.proofs.HeightLaws.{least_height}
use Rattle.rule_model.proofs.LinearForms.{all_split}
use Rattle.problem_text.specs.Limits.{is_low, AreLow}
use Rattle.problem_text.specs.Scripts.{Script}
use Rattle.alethe_text.proofs.KeptReadings.{HasTermsOf}
use Rattle.printed_proofs.specs.PrintedProof.{behind_items}
use Rattle.printed_proofs.specs.Shared.{Plan}
use Rattle.reread_laws.proofs.BehindPrinted.{HasImageTo, HoldsIn, items_good}
use Rattle.reread_laws.proofs.LowTerms.{IsLow, deep, stays}

max_still : (a b c d : ℕ) → a ≤ c → b ≤ d → max a b ≤ max c d
max_still a b c d h k =
    let first = le-max_left c d in
    let second = le-max_right c d in
    omega (arith, h, k, first, second)

-- a term is no higher than with terms put in
mutual
  unfolding height

  no_lower : (t : Term) (r : Replacement) → height t ≤ height (put_in r t)
  no_lower (numeral n) r = omega arith
  no_lower (variable x) r = least_height (replaced_by r x)
  no_lower (operation op ts) r = let e = all_no_lower ts r in omega (arith, e)
  no_lower (call f ts) r = let e = all_no_lower ts r in omega (arith, e)
  no_lower (let_in bs t) r =
      let e = max_still (highest_bound bs) (height t) (highest_bound (put_in_bound r bs)) (height (put_in (unbound bs r) t)) (bound_no_lower bs r)
      (no_lower t (unbound bs r)) in
      omega (arith, e)

  all_no_lower : (ts : Terms) (r : Replacement) → highest ts ≤ highest (put_in_all r ts)
  all_no_lower no_terms r = omega arith
  all_no_lower (term t ts) r = max_still (height t) (highest ts) (height (put_in r t)) (highest (put_in_all r ts)) (no_lower t r) (all_no_lower ts r)

  bound_no_lower : (bs : Bindings) (r : Replacement) → highest_bound bs ≤ highest_bound (put_in_bound r bs)
  bound_no_lower no_bindings r = omega arith
  bound_no_lower (binding x t bs) r =
      max_still (height t) (highest_bound bs) (height (put_in r t)) (highest_bound (put_in_bound r bs)) (no_lower t r) (bound_no_lower bs r)

module _ (most : ℕ) where
  low_within : (h : ℕ) → h ≤ most → is_low (Some most) h ≡ true
  low_within h low = grind (arith, nat_tests, low)

  each_low : (ts : List Term) → AllByRecursion (λ t. height t ≤ most) ts → AllByRecursion (IsLow (Some most)) ts
  each_low [] h = tt
  each_low (t ∷ ts) h = (low_within (height t) h.0, each_low ts h.1)

  each_pivot_low : (ps : List (Term × Bool)) → AllByRecursion (λ (p : Term × Bool). height p.0 ≤ most) ps
      → AllByRecursion (λ p. IsLow (Some most) p.0) ps
  each_pivot_low [] h = tt
  each_pivot_low (p ∷ ps) h = (low_within (height p.0) h.0, each_pivot_low ps h.1)

  step_terms : (step : Step Term) → All (λ t. height t ≤ most) step.clause → All (λ (p : Term × Bool). height p.0 ≤ most) step.pivots
      → HasTermsOf (IsLow (Some most)) (IsLow (Some most)) step
  step_terms step clause pivots = record {
    clause = each_low step.clause (recursion_from_All (λ t. height t ≤ most) step.clause clause);
    pivots = each_pivot_low step.pivots (recursion_from_All (λ (p : Term × Bool). height p.0 ≤ most) step.pivots pivots);
  }

  -- what an anchor binds, by its images
  by_images : (nesting : Nesting Var Term) (bs : List (Var × Term))
      → AllByRecursion (λ (b : Var × Term). height b.1 ≤ most) (put_in_each (images (open_anchors nesting)) bs)
      → AllByRecursion (HasImageTo (IsLow (Some most)) nesting) bs
  by_images nesting [] h = tt
  by_images nesting (b ∷ bs) h =
      let own = no_lower b.1 (images (open_anchors nesting)) in
      let image : height (put_in (images (open_anchors nesting)) b.1) ≤ most = h.0 in (
        (low_within (height b.1) (omega (arith, own, image)), low_within (height (put_in (images (open_anchors nesting)) b.1)) image),
        by_images nesting bs h.1,
      )

  bound_low : (nesting : Nesting Var Term) (bs : List (Var × Term))
      → All (λ (b : Var × Term). height b.1 ≤ most) (images (bs ∷ open_anchors nesting)) → AllByRecursion (HasImageTo (IsLow (Some most)) nesting) bs
  bound_low nesting bs h =
      by_images nesting bs (all_split (λ (b : Var × Term). height b.1 ≤ most) (put_in_each (images (open_anchors nesting)) bs)
      (images (open_anchors nesting)) (recursion_from_All (λ (b : Var × Term). height b.1 ≤ most) (images (bs ∷ open_anchors nesting)) h)).0

  lines_low : (nesting : Nesting Var Term) (items : ProofItems Var Term) → AllByRecursion (IsLowLine most) (lines_in nesting items)
      → HoldsIn (IsLow (Some most)) nesting items
  lines_low nesting no_items h = tt
  lines_low nesting (with_assume items id t) h =
      let parts = all_split (IsLowLine most) (lines_in nesting items) _ h in
      let own = recursion_from_All (λ t. height t ≤ most) (t ∷ []) parts.1.0.clause in
      (lines_low nesting items parts.0, low_within (height t) own.0)
  lines_low nesting (with_step items step) h =
      let parts = all_split (IsLowLine most) (lines_in nesting items) _ h in
      (lines_low nesting items parts.0, step_terms step parts.1.0.clause parts.1.0.pivots)
  lines_low nesting (with_subproof items bindings proof step) h =
      let deeper : Nesting Var Term = inner nesting items bindings step in
      let parts = all_split (IsLowLine most) (lines_in nesting items ++ lines_in deeper proof) _ h in
      let both = all_split (IsLowLine most) (lines_in nesting items) (lines_in deeper proof) parts.0 in (
        lines_low nesting items both.0,
        bound_low nesting bindings parts.1.0.images,
        lines_low deeper proof both.1,
        step_terms step parts.1.0.clause parts.1.0.pivots,
      )

  pub printed_low : (plan : Plan) (s : Script) (proof : ProofItems Var Term) → IsLowProof most proof → AreLow (Some most) s.terms
      → AreLow (Some most) (behind_items plan s outermost proof).terms
  printed_low plan s proof low =
      items_good plan (IsLow (Some most)) (deep (Some most)) (λ s. AreLow (Some most) s.terms) (stays (Some most)) outermost proof s
      (lines_low outermost proof (recursion_from_All (IsLowLine most) (lines_in outermost proof) low))
