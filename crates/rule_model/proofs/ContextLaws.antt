-- Images of open anchors, and truth in a scope.
use Rattle.std.proofs.Common.{◌≡◌, List, [], ◌∷◌, ◌++◌, ◌⊎◌, ◌↔◌, refl, sym, ap, ◌∙◌, inl, inr, arith}
use Rattle.std.specs.List.{AllByRecursion}
use Rattle.term_model.specs.Terms.{Var, Term}
use Rattle.term_model.specs.FreeVariables.{IsFree, IsClosed}
use Rattle.term_model.specs.Interpretations.{Interpretation}
use Rattle.term_model.specs.Meaning.{Valuation, value}
use Rattle.term_model.specs.Sorts.{IsOf}
use Rattle.term_model.specs.Unsatisfiable.{MakesAllTrue, Unsatisfiable}
use Rattle.term_model.proofs.Coincidence.{value_coincides}
use Rattle.term_model.proofs.Lists.{all_joined}
use Rattle.rule_model.specs.Clauses.{MakesClauseTrue}
use Rattle.rule_model.specs.Replacement.{Replacement, values_put}
use Rattle.rule_model.specs.Substitution.{put_in, Replaces, AreClosed, HaveTheirSorts}
use Rattle.rule_model.specs.Contexts.{put_in_each, images, IsBoundBy, IsClosedUnder, AreAnchorsNested, context_values, IsTrueInScope}
use Rattle.rule_model.proofs.Replacing.{values_put-joined}
use Rattle.rule_model.proofs.Substituting.{put_in_sort, result_closed}
use Rattle.rule_model.proofs.SubstitutedValues.{value_put_in, value_at-others}

-- which variables are replaced
replaces-joined : (s q : Replacement) (x : Var) → Replaces (s ++ q) x → Replaces s x ⊎ Replaces q x
replaces-joined [] q x h = inr h
replaces-joined (b ∷ s) q x (inl same) = inl (inl same)
replaces-joined (b ∷ s) q x (inr h) = elim (replaces-joined s q x h) [ inl a ↦ inl (inr a) | inr c ↦ inr c ]

replaces-front : (s q : Replacement) (x : Var) → Replaces s x → Replaces (s ++ q) x
replaces-front [] q x h = absurd h
replaces-front (b ∷ s) q x (inl same) = inl same
replaces-front (b ∷ s) q x (inr h) = inr (replaces-front s q x h)

replaces-back : (s q : Replacement) (x : Var) → Replaces q x → Replaces (s ++ q) x
replaces-back [] q x h = h
replaces-back (b ∷ s) q x h = inr (replaces-back s q x h)

each_replaces : (s anchor : Replacement) (x : Var) → Replaces (put_in_each s anchor) x → Replaces anchor x
each_replaces s [] x h = h
each_replaces s (b ∷ anchor) x (inl same) = inl same
each_replaces s (b ∷ anchor) x (inr h) = inr (each_replaces s anchor x h)

replaces_each : (s anchor : Replacement) (x : Var) → Replaces anchor x → Replaces (put_in_each s anchor) x
replaces_each s [] x h = h
replaces_each s (b ∷ anchor) x (inl same) = inl same
replaces_each s (b ∷ anchor) x (inr h) = inr (replaces_each s anchor x h)

images-bound : (anchors : List Replacement) (x : Var) → Replaces (images anchors) x → IsBoundBy anchors x
images-bound [] x h = h
images-bound (anchor ∷ outer) x h =
    elim (replaces-joined (put_in_each (images outer) anchor) (images outer) x h)
    [ inl a ↦ inl (each_replaces (images outer) anchor x a) | inr c ↦ inr (images-bound outer x c) ]

bound-images : (anchors : List Replacement) (x : Var) → IsBoundBy anchors x → Replaces (images anchors) x
bound-images [] x h = h
bound-images (anchor ∷ outer) x (inl h) =
    replaces-front (put_in_each (images outer) anchor) (images outer) x (replaces_each (images outer) anchor x h)
bound-images (anchor ∷ outer) x (inr h) =
    replaces-back (put_in_each (images outer) anchor) (images outer) x (bound-images outer x h)

pub images_bind : (anchors : List Replacement) (x : Var) → Replaces (images anchors) x ↔ IsBoundBy anchors x
images_bind anchors x = (images-bound anchors x, bound-images anchors x)

-- images are closed, and have the sorts of their variables
each_closed : (outer : List Replacement) (anchor : Replacement) → AreClosed (images outer) → AllByRecursion (λ b. IsClosedUnder outer b.1) anchor → AreClosed (put_in_each (images outer) anchor)
each_closed outer [] closed h = tt
each_closed outer (b ∷ anchor) closed h =
    (result_closed (images outer) b.1 closed (λ x free. bound-images outer x (h.0 x free)), each_closed outer anchor closed h.1)

pub images_closed : (anchors : List Replacement) → AreAnchorsNested anchors → AreClosed (images anchors)
images_closed [] h = tt
images_closed (anchor ∷ outer) h =
    let closed = images_closed outer h.1 in
    all_joined (λ b. IsClosed b.1) (put_in_each (images outer) anchor) (images outer) (each_closed outer anchor closed h.0) closed

each_sorted : (s anchor : Replacement) → HaveTheirSorts s → HaveTheirSorts anchor → HaveTheirSorts (put_in_each s anchor)
each_sorted s [] h k = tt
each_sorted s (b ∷ anchor) h k = (put_in_sort s b.1 b.0.sort h k.0, each_sorted s anchor h k.1)

pub images_sorted : (anchors : List Replacement) → AllByRecursion HaveTheirSorts anchors → HaveTheirSorts (images anchors)
images_sorted [] h = tt
images_sorted (anchor ∷ outer) h =
    let sorted = images_sorted outer h.1 in
    all_joined (λ b. IsOf b.1 b.0.sort) (put_in_each (images outer) anchor) (images outer) (each_sorted (images outer) anchor sorted h.0) sorted

-- values in a scope
nothing_behind : (r : Valuation) → r ++ [] ≡ r
nothing_behind [] = refl
nothing_behind (b ∷ r) = ap (λ u. b ∷ u) (nothing_behind r)

pub means_what_it_becomes : (I : Interpretation) (anchors : List Replacement) (t : Term) → AreAnchorsNested anchors → value I (context_values I anchors) t ≡ value I [] (put_in (images anchors) t)
means_what_it_becomes I anchors t h =
    ap (λ r. value I r t) (sym (nothing_behind (context_values I anchors))) ∙ sym (value_put_in I [] (images anchors) t (images_closed anchors h))

values_of_each : (I : Interpretation) (outer : List Replacement) (anchor : Replacement) → AreAnchorsNested outer → values_put I [] (put_in_each (images outer) anchor) ≡ values_put I (context_values I outer) anchor
values_of_each I outer [] h = refl
values_of_each I outer (b ∷ anchor) h =
    ap (λ u. (b.0, u) ∷ values_put I [] (put_in_each (images outer) anchor)) (sym (means_what_it_becomes I outer b.1 h))
    ∙ ap (λ u. (b.0, value I (context_values I outer) b.1) ∷ u) (values_of_each I outer anchor h)

pub anchor_binds : (I : Interpretation) (anchor : Replacement) (outer : List Replacement) → AreAnchorsNested (anchor ∷ outer) → context_values I (anchor ∷ outer) ≡ values_put I (context_values I outer) anchor ++ context_values I outer
anchor_binds I anchor outer h =
    values_put-joined I [] (put_in_each (images outer) anchor) (images outer)
    ∙ ap (λ u. u ++ context_values I outer) (values_of_each I outer anchor h.1)

pub anchor_keeps_others : (I : Interpretation) (anchor : Replacement) (outer : List Replacement) (t : Term) → ((x : Var) → IsFree x t → ¬ Replaces anchor x) → value I (context_values I (anchor ∷ outer)) t ≡ value I (context_values I outer) t
anchor_keeps_others I anchor outer t h =
    ap (λ r. value I r t) (values_put-joined I [] (put_in_each (images outer) anchor) (images outer))
    ∙ value_coincides I (values_put I [] (put_in_each (images outer) anchor) ++ context_values I outer) (context_values I outer) t
    (λ x free. value_at-others I [] (context_values I outer) (put_in_each (images outer) anchor) x (λ k. h x free (each_replaces (images outer) anchor x k)))

-- the outermost scope
pub outermost_clause : (assertions clause : List Term) → IsTrueInScope assertions [] [] clause ↔ ((I : Interpretation) → MakesAllTrue I assertions → MakesClauseTrue I [] clause)
outermost_clause assertions clause = (λ h I m. h I m tt, λ h I m none. h I m)

pub outermost_empty : (assertions : List Term) → IsTrueInScope assertions [] [] [] → Unsatisfiable assertions
outermost_empty assertions h I m = let some = h I m tt in absurd (omega (arith, some.2))
