-- Sets of numbers by the lists of what they have.
use Rattle.std.proofs.Common.{◌≡◌, inl, inr, ℕ, List, [], ◌∷◌, ◌++◌, Bool, true, false, nat_eq, cond, refl, sym, subst, Contains}
use Rattle.std.specs.List.{list_any}
use Rattle.std.proofs.lemmas.List.Elements.{Contains-push, Contains-push_cases, Contains-append_left}
use Rattle.indexmap.specs.IndexSet.{insert_key}
use Rattle.term_model.proofs.Lists.{has_number}
use Rattle.rules_simplify.specs.Joins.{AddsNumber}

pub added_is : (old new : List ℕ) (k r : ℕ) → k ≡ r → new ≡ insert_key nat_eq old k → AddsNumber old new r
added_is old new k r e g = subst (AddsNumber old new) e (go (list_any (nat_eq k) old) refl g)
  where
    go : (t : Bool) → list_any (nat_eq k) old ≡ t → new ≡ cond t old (old ++ k ∷ []) → AddsNumber old new k
    go true h g j = (
      λ c. inl (subst (λ (ks : List ℕ). Contains ks j) g c),
      λ c.
          subst (λ (ks : List ℕ). Contains ks j) (sym g)
          (elim c [ inl there ↦ there | inr same ↦ subst (Contains old) (sym same) ((has_number old k).0 h) ]),
    )
    go false h g j = (
      λ c. elim (Contains-push_cases old k j (subst (λ (ks : List ℕ). Contains ks j) g c)) [ inl there ↦ inl there | inr same ↦ inr (sym same) ],
      λ c.
          subst (λ (ks : List ℕ). Contains ks j) (sym g)
          (elim c [
            | inl there ↦ Contains-append_left old (k ∷ []) j there
            | inr same ↦ subst (Contains (old ++ k ∷ [])) (sym same) (Contains-push old k)
          ]),
    )
