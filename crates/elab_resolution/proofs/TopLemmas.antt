-- The highest literals, with one literal more.
use Rattle.std.proofs.Common.{◌≡◌, ◌≤◌, ◌⊎◌, inl, inr, ◌∷◌, ◌++◌, [], ℕ, List, Option, ◌∙◌, subst, arith, Contains}
use Rattle.std.proofs.lemmas.List.Elements.{Contains-append_left, Contains-push, Contains-push_cases}
use Rattle.elab_resolution.specs.Counted.{AreTops, top_in}
use Rattle.elab_resolution.specs.declared.counting.Counted.{Counted}

pub tops_more : (xs : List Counted) (x : Counted) (old new : ℕ → Option ℕ) → AreTops xs old → x.nots ≤ top_in new x.bare
    → ((q : ℕ) → top_in old q ≤ top_in new q)
    → ((q : ℕ) → (top_in new q ≡ top_in old q) ⊎ ((q ≡ x.bare) × (top_in new q ≡ x.nots)))
    → AreTops (xs ++ x ∷ []) new
tops_more xs x old new before here most some = record { most = most_of; some = some_of }
  where
    most_of : (y : Counted) → Contains (xs ++ x ∷ []) y → y.nots ≤ top_in new y.bare
    most_of y there = elim (Contains-push_cases xs x y there) [
      | inl earlier ↦ let a = before.most y earlier in let b = most y.bare in omega arith
      | inr same ↦ subst (λ (z : Counted). z.nots ≤ top_in new z.bare) same here
    ]

    some_of : (q : ℕ) → (top_in new q ≡ 0) ⊎ Contains (xs ++ x ∷ []) (record { bare = q; nots = top_in new q })
    some_of q = elim (some q) [
      | inl same ↦ elim (before.some q) [
        | inl none ↦ inl (same ∙ none)
        | inr there ↦ inr (rw same (Contains-append_left xs (x ∷ []) (record { bare = q; nots = top_in old q }) there))
      ]
      | inr is ↦ inr (rw (is.1, is.0) (Contains-push xs x))
    ]
