-- What is true in a scope is true in the scopes inside it: outer terms have there the values that they have outside.
use Rattle.std.proofs.Common.{◌≡◌, ◌<◌, inl, inr, ℕ, zero, suc, List, [], ◌∷◌, ◌++◌, map, length, slice_index_or, All, Any, Contains, sym, ◌∙◌, subst, arith}
use Rattle.std.specs.List.{AllByRecursion}
use Rattle.std.proofs.lemmas.List.Elements.{All-contains}
use Rattle.term_model.specs.Interpretations.{Interpretation}
use Rattle.term_model.specs.Meaning.{Valuation, ValuationFits, value}
use Rattle.term_model.specs.Terms.{Var, Term}
use Rattle.term_model.specs.Unsatisfiable.{MakesTrue, MakesAllTrue}
use Rattle.term_model.proofs.Sorting.{value_has_sort}
use Rattle.term_model.proofs.Lists.{all_joined}
use Rattle.rule_model.specs.Clauses.{MakesClauseTrue}
use Rattle.rule_model.specs.Contexts.{AreAnchorsNested, IsBoundBy, IsClosedUnder, context_values, images}
use Rattle.rule_model.specs.Judged.{open_anchors}
use Rattle.rule_model.specs.Proofs.{ProofItems, no_items, with_assume, with_step, with_subproof}
use Rattle.rule_model.specs.Replacement.{Replacement}
use Rattle.rule_model.specs.Scopes.{Anchor, Nesting, outermost, inside, Scope}
use Rattle.rule_model.specs.Substitution.{Replaces, HaveTheirSorts, image_values}
use Rattle.rule_model.specs.Truth.{assumed_in, open_assumes, IsTrueWhere, IsLiteralIn, IsBindingIn, AreWellSorted}
use Rattle.rule_model.specs.Visibility.{open_bindings}
use Rattle.rule_model.specs.WellFormed.{MayOpen}
use Rattle.rule_model.proofs.ContextLaws.{anchor_keeps_others, images_sorted}
use Rattle.rule_model.proofs.Sights.{IsFront, whole, assume_more, step_more, subproof_more, IsOpenAt, own, outside}

-- lists
all_front : {X : Type 0} (P : X → Type 0) (xs ys : List X) → AllByRecursion P (xs ++ ys) → AllByRecursion P xs
all_front P [] ys h = tt
all_front P (x ∷ xs) ys h = (h.0, all_front P xs ys h.1)

pub all_back : {X : Type 0} (P : X → Type 0) (xs ys : List X) → AllByRecursion P (xs ++ ys) → AllByRecursion P ys
all_back P [] ys h = h
all_back P (x ∷ xs) ys h = all_back P xs ys h.1

pub all_both : {X : Type 0} (P Q R : X → Type 0) → ((x : X) → P x → Q x → R x) → (xs : List X) → AllByRecursion P xs → AllByRecursion Q xs → AllByRecursion R xs
all_both P Q R f [] h k = tt
all_both P Q R f (x ∷ xs) h k = (f x h.0 k.0, all_both P Q R f xs h.1 k.1)

pub all_changed : {X : Type 0} (P Q : X → Type 0) → ((x : X) → P x → Q x) → (xs : List X) → AllByRecursion P xs → AllByRecursion Q xs
all_changed P Q f [] h = tt
all_changed P Q f (x ∷ xs) h = (f x h.0, all_changed P Q f xs h.1)

pub any_changed : {X : Type 0} (P C Q : X → Type 0) → ((x : X) → C x → P x → Q x) → (xs : List X) → AllByRecursion C xs → Any P xs → Any Q xs
any_changed {X} P C Q f xs h (k, x, below, same, p) = (k, x, below, same, f x (at xs k x h below same) p)
  where
    at : (xs : List X) (k : ℕ) (x : X) → AllByRecursion C xs → k < length xs → slice_index_or xs k x ≡ x → C x
    at [] k x h b e = absurd (omega arith)
    at (y ∷ xs) zero x h b e = subst C e h.0
    at (y ∷ xs) (suc k) x h b e = at xs k x h.1 (omega arith) e

-- what stands around a scope is well sorted, and its anchors may stand where they do
abbrev pub IsGood : Nesting Var Term → Type 0
IsGood outermost = Unit {0}
IsGood (inside around before anchor) =
    IsGood around × AreWellSorted around before × AllByRecursion (IsBindingIn around) anchor.bindings × MayOpen around before anchor

-- the anchors that are open are nested, and bind terms of their variables' sorts
pub good_nested : (nesting : Nesting Var Term) → IsGood nesting → AreAnchorsNested (open_anchors nesting)
good_nested outermost good = tt
good_nested (inside around before anchor) good =
    (all_changed (IsBindingIn around) (λ b. IsClosedUnder (open_anchors around) b.1) (λ b h. h.closed) anchor.bindings good.2, good_nested around good.0)

good_sorted : (nesting : Nesting Var Term) → IsGood nesting → AllByRecursion HaveTheirSorts (open_anchors nesting)
good_sorted outermost good = tt
good_sorted (inside around before anchor) good =
    (all_changed (IsBindingIn around) _ (λ b h. h.sort) anchor.bindings good.2, good_sorted around good.0)

values_fit : (I : Interpretation) (s : Replacement) → HaveTheirSorts s → ValuationFits (image_values I s)
values_fit I [] h = tt
values_fit I (b ∷ s) h = (value_has_sort I [] tt b.1 b.0.sort h.0, values_fit I s h.1)

pub context_fits : (I : Interpretation) (nesting : Nesting Var Term) → IsGood nesting → ValuationFits (context_values I (open_anchors nesting))
context_fits I nesting good = values_fit I (images (open_anchors nesting)) (images_sorted (open_anchors nesting) (good_sorted nesting good))

-- the values of the variables that open anchors bind
abbrev pub values_in : Interpretation → Nesting Var Term → Valuation
values_in I nesting = context_values I (open_anchors nesting)

-- an anchor binds none of the variables that are bound outside it
bound_names : (nesting : Nesting Var Term) (x : Var) → IsBoundBy (open_anchors nesting) x → Contains (map (λ (b : Var × Term). b.0) (open_bindings nesting)) x
bound_names outermost x h = absurd h
bound_names (inside around before anchor) x (inl h) =
    in_back (open_bindings around) anchor.bindings x (named anchor.bindings x h)
  where
    named : (s : Replacement) (x : Var) → Replaces s x → Contains (map (λ (b : Var × Term). b.0) s) x
    named [] x h = absurd h
    named (b ∷ s) x (inl e) = (0, omega arith, e)
    named (b ∷ s) x (inr h) = let k = named s x h in (suc k.0, let w = k.1 in omega arith, k.2)

    in_back : (s q : Replacement) (x : Var) → Contains (map (λ (b : Var × Term). b.0) q) x → Contains (map (λ (b : Var × Term). b.0) (s ++ q)) x
    in_back [] q x h = h
    in_back (b ∷ s) q x h = let k = in_back s q x h in (suc k.0, let w = k.1 in omega arith, k.2)
bound_names (inside around before anchor) x (inr h) =
    in_front (open_bindings around) anchor.bindings x (bound_names around x h)
  where
    in_front : (s q : Replacement) (x : Var) → Contains (map (λ (b : Var × Term). b.0) s) x → Contains (map (λ (b : Var × Term). b.0) (s ++ q)) x
    in_front [] q x (k, w, e) = absurd (omega arith)
    in_front (b ∷ s) q x (zero, w, e) = (0, omega arith, e)
    in_front (b ∷ s) q x (suc k, w, e) = let j = in_front s q x (k, omega arith, e) in (suc j.0, let v = j.1 in omega arith, j.2)

replaced_name : (s : Replacement) (x : Var) (P : Var → Type 0) → All P (map (λ (b : Var × Term). b.0) s) → Replaces s x → P x
replaced_name s x P all h = All-contains P (map (λ (b : Var × Term). b.0) s) x all (named s x h)
  where
    named : (s : Replacement) (x : Var) → Replaces s x → Contains (map (λ (b : Var × Term). b.0) s) x
    named [] x h = absurd h
    named (b ∷ s) x (inl e) = (0, omega arith, e)
    named (b ∷ s) x (inr h) = let k = named s x h in (suc k.0, let w = k.1 in omega arith, k.2)

pub same_inside : (I : Interpretation) (around : Nesting Var Term) (before : ProofItems Var Term) (anchor : Anchor Var Term) (t : Term) → MayOpen around before anchor → IsClosedUnder (open_anchors around) t → value I (values_in I (inside around before anchor)) t ≡ value I (values_in I around) t
same_inside I around before anchor t may closed =
    anchor_keeps_others I anchor.bindings (open_anchors around) t
    (λ x free r. replaced_name anchor.bindings x (λ y. ¬ Contains (map (λ (b : Var × Term). b.0) (open_bindings around)) y) may.unbound r (bound_names around x (closed x free)))

-- what is assumed in open scopes is closed there
assumed_closed : (nesting : Nesting Var Term) (items : ProofItems Var Term) → AreWellSorted nesting items → AllByRecursion (IsClosedUnder (open_anchors nesting)) (assumed_in items)
assumed_closed nesting no_items h = tt
assumed_closed nesting (with_assume items id t) h = all_joined _ (assumed_in items) _ (assumed_closed nesting items h.0) (h.1.closed, tt)
assumed_closed nesting (with_step items s) h = assumed_closed nesting items h.0
assumed_closed nesting (with_subproof items bindings proof s) h = assumed_closed nesting items h.0

assumes_closed : (nesting : Nesting Var Term) (items : ProofItems Var Term) → IsGood nesting → AreWellSorted nesting items → AllByRecursion (IsClosedUnder (open_anchors nesting)) (open_assumes nesting items)
assumes_closed outermost items good h = tt
assumes_closed (inside around before anchor) items good h =
    all_joined _ (open_assumes around before) _
    (all_changed (IsClosedUnder (open_anchors around)) _ (λ t closed x free. inr (closed x free)) (open_assumes around before) (assumes_closed around before good.0 good.1))
    (assumed_closed (inside around before anchor) items h)

-- the interpretation makes true what is assumed in open scopes
abbrev pub Holds : Interpretation → Nesting Var Term → ProofItems Var Term → Type 0
Holds I nesting items = AllByRecursion (MakesTrue I (values_in I nesting)) (open_assumes nesting items)

pub holds_inside : (I : Interpretation) (around : Nesting Var Term) (before : ProofItems Var Term) (anchor : Anchor Var Term) (items : ProofItems Var Term) → IsGood (inside around before anchor) → Holds I around before → AllByRecursion (MakesTrue I (values_in I (inside around before anchor))) (assumed_in items) → Holds I (inside around before anchor) items
holds_inside I around before anchor items good h inner =
    all_joined _ (open_assumes around before) _
    (all_both (IsClosedUnder (open_anchors around)) (MakesTrue I (values_in I around)) (MakesTrue I (values_in I (inside around before anchor)))
    (λ t closed true_out. same_inside I around before anchor t good.3 closed ∙ true_out)
    (open_assumes around before) (assumes_closed around before good.0 good.1) h)
    inner

pub holds_outside : (I : Interpretation) (around : Nesting Var Term) (before : ProofItems Var Term) (anchor : Anchor Var Term) (items : ProofItems Var Term) → IsGood (inside around before anchor) → Holds I (inside around before anchor) items → Holds I around before
holds_outside I around before anchor items good h =
    all_both (IsClosedUnder (open_anchors around)) (MakesTrue I (values_in I (inside around before anchor))) (MakesTrue I (values_in I around))
    (λ t closed true_in. sym (same_inside I around before anchor t good.3 closed) ∙ true_in)
    (open_assumes around before) (assumes_closed around before good.0 good.1) (all_front _ (open_assumes around before) _ h)

assumed_front : (P : Term → Type 0) (front more : ProofItems Var Term) → IsFront front more → AllByRecursion P (assumed_in more) → AllByRecursion P (assumed_in front)
assumed_front P _ _ (whole items) h = h
assumed_front P _ _ (assume_more front items id t f) h = assumed_front P front items f (all_front P (assumed_in items) _ h)
assumed_front P _ _ (step_more front items s f) h = assumed_front P front items f h
assumed_front P _ _ (subproof_more front items bindings proof s f) h = assumed_front P front items f h

pub holds_front : (I : Interpretation) (nesting : Nesting Var Term) (front more : ProofItems Var Term) → IsFront front more → Holds I nesting more → Holds I nesting front
holds_front I outermost front more f h = tt
holds_front I (inside around before anchor) front more f h =
    all_joined _ (open_assumes around before) _ (all_front _ (open_assumes around before) _ h)
    (assumed_front _ front more f (all_back _ (open_assumes around before) _ h))

closed_inside : (scope : Scope Var Term) (nesting : Nesting Var Term) (items : ProofItems Var Term) (t : Term) → IsOpenAt scope nesting items → IsClosedUnder (open_anchors scope.nesting) t → IsClosedUnder (open_anchors nesting) t
closed_inside _ _ _ t (own nesting items more f) closed = closed
closed_inside _ _ _ t (outside scope around before anchor items o) closed =
    λ x free. inr (closed_inside scope around before t o closed x free)

-- a clause that is true in a scope is true where this is open
pub true_inside : (assertions : List Term) (I : Interpretation) (scope : Scope Var Term) (nesting : Nesting Var Term) (items : ProofItems Var Term) (clause : List Term) → IsOpenAt scope nesting items → IsGood nesting → MakesAllTrue I assertions → Holds I nesting items → AllByRecursion (IsLiteralIn scope.nesting) clause → IsTrueWhere assertions scope clause → MakesClauseTrue I (values_in I nesting) clause
true_inside assertions I _ _ _ clause (own nesting items more f) good asserted holds literals is =
    is I asserted (holds_front I nesting items more f holds)
true_inside assertions I _ _ _ clause (outside scope around before anchor items o) good asserted holds literals is =
    any_changed (MakesTrue I (values_in I around)) (IsLiteralIn scope.nesting) (MakesTrue I (values_in I (inside around before anchor)))
    (λ t literal true_out. same_inside I around before anchor t good.3 (closed_inside scope around before t o literal.closed) ∙ true_out)
    clause literals
    (true_inside assertions I scope around before clause o good.0 asserted (holds_outside I around before anchor items good holds) literals is)
